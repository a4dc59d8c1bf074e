-- The loop that fixes a column.
use Rattle.std.proofs.Common.{◌≡◌, ℕ, ◌+◌, ◌<◌, Bool, List, [], ◌∷◌, ◌++◌, length, get_or, Some, Ok, Err, Result, sym, ◌∙◌, subst, arith}
use Rattle.std.proofs.lemmas.List.{get_or-map}
use Rattle.exact.specs.declared.Qubit.{Qubit}
use Rattle.functions.specs.declared.faults.StoreFault.{StoreFault}
use Rattle.functions.specs.Tables.{Table, fixed}
use Rattle.functions.specs.Meanings.{Meaning, qubits_of, under}
use Rattle.functions.specs.Growth.{Built, StandFor}
use Rattle.functions.specs.Answers.{Made, fixed_asked}
use Rattle.functions.proofs.Handles.{stand_for_length, stand_for_at}
use Rattle.slicing.specs.Columns.{Column}
use Rattle.slicing.specs.Operations.{fixed_column}
use Rattle.slicing.proofs.Operations.{length_fixed_column}
use Rattle.columns.specs.Columns.{ColumnFixed}
use Rattle.columns.proofs.Making.{fixed_made}
use Rattle.columns.proofs.Filling.{Filling, fill_none, fill_more, fill_stopped, fill_done}

fixed_slice : (n q : ℕ) (b : Bool) (ss : Column) (i : ℕ) → i < length ss → get_or (fixed_column n q b ss) i [] ≡ fixed n (get_or ss i []) q b
unfolding fixed_column
fixed_slice n q b ss i l = get_or-map (λ (f : Table). fixed n f q b) ss i [] [] l

unfoldable pub Fixing : Meaning → Meaning → List ℕ → Qubit → Bool → List ℕ → ℕ → Type 0
Fixing v w hs q b out i = (ss : Column) → StandFor v hs ss → q.0 < qubits_of v → Filling v w (fixed_column (qubits_of v) q.0 b ss) out i

pub fixing_none : (v : Meaning) (hs : List ℕ) (q : Qubit) (b : Bool) → Fixing v v hs q b [] 0
unfolding Fixing
fixing_none v hs q b ss h l = fill_none v (fixed_column (qubits_of v) q.0 b ss)

module _ (v w x : Meaning) (hs : List ℕ) (q : Qubit) (b : Bool) (out : List ℕ) (i : ℕ) (here : i < length hs) (a : Fixing v w hs q b out i) where
  -- the call for slice i
  one : (r : Result ℕ StoreFault) → Made w x (fixed_asked w (get_or hs i 0) q b) r → (ss : Column) → StandFor v hs ss → q.0 < qubits_of v
      → Built w x (get_or (fixed_column (qubits_of v) q.0 b ss) i [] ∷ []) r (λ k. under x k ≡ Some (get_or (fixed_column (qubits_of v) q.0 b ss) i []))
  unfolding Fixing
  one r m ss h l =
      let g = (a ss h l).grew in
      let k : length ss ≡ length hs = stand_for_length v hs ss h in
      subst (λ (y : Table). Built w x (y ∷ []) r (λ k. under x k ≡ Some y)) (sym (fixed_slice (qubits_of v) q.0 b ss i (omega arith)))
      (fixed_made v w x (get_or hs i 0) q b (get_or ss i []) r g.setting l (g.keeps _ _ (stand_for_at v hs ss i h here)) m)

  inside : (ss : Column) → StandFor v hs ss → i < length (fixed_column (qubits_of v) q.0 b ss)
  inside ss h =
      let k : length ss ≡ length hs = stand_for_length v hs ss h in
      omega (arith, length_fixed_column (qubits_of v) q.0 b ss)

  pub fixing_more : (k : ℕ) → Made w x (fixed_asked w (get_or hs i 0) q b) (Ok k) → Fixing v x hs q b (out ++ (k ∷ [])) (i + 1)
  unfolding Fixing
  fixing_more k m ss h l = fill_more v w x (fixed_column (qubits_of v) q.0 b ss) out i (inside ss h) (a ss h l) k (one (Ok k) m ss h l)

  pub fixing_stopped : (e : StoreFault) → Made w x (fixed_asked w (get_or hs i 0) q b) (Err e) → ColumnFixed v x hs q b (Err e)
  unfolding Fixing ColumnFixed Built
  fixing_stopped e m ss h l = fill_stopped v w x (fixed_column (qubits_of v) q.0 b ss) out i (inside ss h) (a ss h l) e (one (Err e) m ss h l)

pub fixing_done : (v w : Meaning) (hs : List ℕ) (q : Qubit) (b : Bool) (out : List ℕ) (i : ℕ) → i ≡ length hs → Fixing v w hs q b out i → ColumnFixed v w hs q b (Ok out)
unfolding Fixing ColumnFixed Built
fixing_done v w hs q b out i e a ss h l =
    fill_done v w (fixed_column (qubits_of v) q.0 b ss) out i (length_fixed_column (qubits_of v) q.0 b ss ∙ stand_for_length v hs ss h ∙ sym e) (a ss h l)
