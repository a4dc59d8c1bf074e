-- What each step of a gate makes, and what its answer stands for.
use Rattle.std.specs.Prelude.{◌≡◌, ℕ, ◌<◌, List, [], ◌∷◌, Some, Result}
use Rattle.exact.specs.Indices.{Below}
use Rattle.functions.specs.declared.faults.StoreFault.{StoreFault}
use Rattle.functions.specs.Tables.{Table, literal}
use Rattle.functions.specs.Meanings.{Meaning, qubits_of, under}
use Rattle.functions.specs.Growth.{Built}
use Rattle.slicing.specs.Columns.{Columns as Four}
use Rattle.slicing.specs.Operations.{for_each}
use Rattle.recipes.specs.declared.terms.Operand.{Operand}
use Rattle.recipes.specs.declared.terms.FirstCarry.{FirstCarry}
use Rattle.recipes.specs.declared.terms.Term.{Term}
use Rattle.recipes.specs.declared.Recipe.{Recipe}
use Rattle.recipes.specs.Recipes.{term_of, target, controls, product_of_literals, operand_column, first_carry, term_column}
use Rattle.recipes.specs.Plans.{literals_plan, operand_plan, term_plan}
use Rattle.columns.specs.declared.four.Columns.{Columns}
use Rattle.columns.specs.Columns.{AllStand, ColumnBuilt}
use Rattle.gate_columns.specs.declared.qubits.GateQubits.{GateQubits}
use Rattle.gate_columns.specs.declared.qubits.GateQubits.TheVariants.{One, Two, Three}
use Rattle.gate_columns.specs.declared.qubits.Literals.{Literals}

-- the qubits that a gate is named with
abbrev pub listed : GateQubits → List ℕ
listed (One q) = q.0 ∷ []
listed (Two p q) = p.0 ∷ (q.0 ∷ [])
listed (Three o p q) = o.0 ∷ (p.0 ∷ (q.0 ∷ []))

-- The handles of a gate's literals stand for the literal of its target, a qubit of the store, and the function c.
pub record LiteralsStand (v : Meaning) (l : Literals) (c : Table) : Type 0 where
  pub inside : l.target.0 < qubits_of v
  pub of_target : under v l.literal ≡ Some (literal (qubits_of v) l.target.0)
  pub of_controls : under v l.controls ≡ Some c

-- What the product of the controls' literals answers, for qubits of the store.
unfoldable pub ControlsMade : Meaning → Meaning → GateQubits → Result ℕ StoreFault → Type 0
ControlsMade v w qs r =
    Below (qubits_of v) (listed qs)
    → Built v w (literals_plan (qubits_of v) (controls (listed qs))) r (λ h. under w h ≡ Some (product_of_literals (qubits_of v) (controls (listed qs))))

-- What the literals of a gate answer.
pub record LiteralsOf (w : Meaning) (n : ℕ) (qs : GateQubits) (l : Literals) : Type 0 where
  pub of_qubits : l.target.0 ≡ target (listed qs)
  pub stand : LiteralsStand w l (product_of_literals n (controls (listed qs)))

unfoldable pub LiteralsMade : Meaning → Meaning → GateQubits → Result Literals StoreFault → Type 0
LiteralsMade v w qs r =
    Below (qubits_of v) (listed qs)
    → Built v w (literal (qubits_of v) (target (listed qs)) ∷ literals_plan (qubits_of v) (controls (listed qs))) r (LiteralsOf w (qubits_of v) qs)

-- What the first carry of an addition answers.
unfoldable pub FirstCarryMade : Meaning → Meaning → Literals → FirstCarry → Result ℕ StoreFault → Type 0
FirstCarryMade v w l e r =
    (c : Table) → LiteralsStand v l c
    → Built v w (first_carry (qubits_of v) l.target.0 c e ∷ []) r (λ h. under w h ≡ Some (first_carry (qubits_of v) l.target.0 c e))

-- What an operand, a term and all four terms of a recipe answer, for handles of the columns x.
unfoldable pub OperandMade : Meaning → Meaning → Columns 24 → Literals → Operand → Result (List ℕ) StoreFault → Type 0
OperandMade v w hs l o r =
    (x : Four) (c : Table) → AllStand v hs x → LiteralsStand v l c
    → ColumnBuilt v w (operand_plan (qubits_of v) l.target.0 c x o) (operand_column (qubits_of v) l.target.0 c x o) r

unfoldable pub TermMade : Meaning → Meaning → Columns 24 → Literals → Term → Result (List ℕ) StoreFault → Type 0
TermMade v w hs l t r =
    (x : Four) (c : Table) → AllStand v hs x → LiteralsStand v l c
    → ColumnBuilt v w (term_plan (qubits_of v) l.target.0 c x t) (term_column (qubits_of v) l.target.0 c x t) r

unfoldable pub NewColumnsMade : Meaning → Meaning → Columns 24 → Literals → Recipe → Result (Columns 24) StoreFault → Type 0
NewColumnsMade v w hs l recipe r =
    (x : Four) (c : Table) → AllStand v hs x → LiteralsStand v l c
    → Built v w (for_each (λ k. term_plan (qubits_of v) l.target.0 c x (term_of recipe k)) []) r
    (λ y. AllStand w y (λ k. term_column (qubits_of v) l.target.0 c x (term_of recipe k)))
