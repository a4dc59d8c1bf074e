-- The literals of a gate, from what their calls answered.
use Rattle.std.proofs.Common.{◌≡◌, ℕ, ◌<◌, true, List, [], ◌∷◌, Some, Ok, Err, Result, sym, refl, ap, ◌∙◌, subst}
use Rattle.exact.specs.declared.Qubit.{Qubit}
use Rattle.exact.specs.Indices.{Below}
use Rattle.functions.specs.declared.faults.StoreFault.{StoreFault}
use Rattle.functions.specs.Tables.{Table, constant, literal}
use Rattle.functions.specs.Meanings.{Setting, Meaning, qubits_of, under}
use Rattle.functions.specs.Growth.{Grew, Built}
use Rattle.functions.specs.Answers.{Made, literal_asked, combine_asked}
use Rattle.functions.proofs.Growth.{grew_none, grew_then, built_after, built_stopped}
use Rattle.functions.proofs.Handles.{under_1}
use Rattle.functions.proofs.Asked.{combination}
use Rattle.recipes.specs.Recipes.{target, controls, product_of_literals}
use Rattle.recipes.specs.Plans.{literals_plan}
use Rattle.slicing.specs.Operations.{both}
use Rattle.columns.proofs.Making.{inside_too, literal_made}
use Rattle.slicing.proofs.Operations.{both_rule}
use Rattle.gate_columns.specs.declared.qubits.GateQubits.{GateQubits}
use Rattle.gate_columns.specs.declared.qubits.GateQubits.TheVariants.{One, Two, Three}
use Rattle.gate_columns.specs.declared.qubits.Literals.{Literals}
use Rattle.gate_columns.specs.Gates.{listed, LiteralsStand, ControlsMade, LiteralsOf, LiteralsMade}

pub literals_keep : (v w : Meaning) (fs : List Table) → Grew v w fs → (l : Literals) (c : Table) → LiteralsStand v l c → LiteralsStand w l c
literals_keep v w fs g l c h = record {
  inside = inside_too v w l.target.0 g.setting h.inside;
  of_target = g.keeps l.literal _ h.of_target ∙ ap (λ (s : Setting). Some (literal s.qubits l.target.0)) (sym g.setting);
  of_controls = g.keeps l.controls c h.of_controls;
}

-- ---- the product of the controls' literals
pub no_controls : (v : Meaning) (t : Qubit) → ControlsMade v v (One t) (Ok 1)
unfolding ControlsMade Built controls literals_plan product_of_literals
no_controls v t h = (grew_none v, under_1 v)

pub one_control : (v w : Meaning) (q t : Qubit) (r : Result ℕ StoreFault) → Made v w (literal_asked v q) r → ControlsMade v w (Two q t) r
unfolding ControlsMade controls literals_plan product_of_literals
one_control v w q t r m h = literal_made v v w q r refl h.0 m

module _ (v w₁ w₂ w₃ : Meaning) (p q t : Qubit) where
  pub two_stopped_first : (e : StoreFault) → Made v w₁ (literal_asked v p) (Err e) → ControlsMade v w₁ (Three p q t) (Err e)
  unfolding ControlsMade controls literals_plan
  two_stopped_first e m h = built_stopped _ _ v w₁ (literal (qubits_of v) p.0 ∷ []) _ e (literal_made v v w₁ p (Err e) refl h.0 m)

  module _ (hp : ℕ) (m₁ : Made v w₁ (literal_asked v p) (Ok hp)) where
    first : Below (qubits_of v) (p.0 ∷ (q.0 ∷ (t.0 ∷ []))) → Grew v w₁ (literal (qubits_of v) p.0 ∷ []) × (under w₁ hp ≡ Some (literal (qubits_of v) p.0))
    unfolding Built
    first h = literal_made v v w₁ p (Ok hp) refl h.0 m₁

    second : (r : Result ℕ StoreFault) → Made w₁ w₂ (literal_asked w₁ q) r → Below (qubits_of v) (p.0 ∷ (q.0 ∷ (t.0 ∷ []))) → Built w₁ w₂ (literal (qubits_of v) q.0 ∷ []) r (λ k. under w₂ k ≡ Some (literal (qubits_of v) q.0))
    second r m h = literal_made v w₁ w₂ q r (first h).0.setting h.1.0 m

    pub two_stopped_second : (e : StoreFault) → Made w₁ w₂ (literal_asked w₁ q) (Err e) → ControlsMade v w₂ (Three p q t) (Err e)
    unfolding ControlsMade controls literals_plan
    two_stopped_second e m h =
        built_after _ v w₁ w₂ (literal (qubits_of v) p.0 ∷ []) _ (Err e) (first h).0
        (built_stopped _ _ w₁ w₂ (literal (qubits_of v) q.0 ∷ []) _ e (second (Err e) m h))

    pub two_controls : (hq : ℕ) → Made w₁ w₂ (literal_asked w₁ q) (Ok hq) → (r : Result ℕ StoreFault) → Made w₂ w₃ (combine_asked w₂ 128 hp hq 1) r → ControlsMade v w₃ (Three p q t) r
    unfolding ControlsMade controls literals_plan product_of_literals Built
    two_controls hq m₂ r m h =
        let n = qubits_of v in
        let a : Grew v w₁ (literal n p.0 ∷ []) × (under w₁ hp ≡ Some (literal n p.0)) = first h in
        let b : Grew w₁ w₂ (literal n q.0 ∷ []) × (under w₂ hq ≡ Some (literal n q.0)) = second (Ok hq) m₂ h in
        let g : Grew v w₂ (literal n p.0 ∷ (literal n q.0 ∷ [])) = grew_then (literal n p.0 ∷ []) (literal n q.0 ∷ []) a.0 b.0 in
        built_after _ v w₂ w₃ (literal n p.0 ∷ (literal n q.0 ∷ [])) (both n (literal n p.0) (literal n q.0) ∷ []) r g
        (combination v w₂ w₃ 128 hp hq 1 (literal n p.0) (literal n q.0) (constant n true) (both n (literal n p.0) (literal n q.0)) r g.setting
        (b.0.keeps hp _ a.1) b.1 (under_1 w₂ ∙ ap (λ (s : Setting). Some (constant s.qubits true)) g.setting) (both_rule n (literal n p.0) (literal n q.0)) m)

-- ---- the target's literal, then the controls'
target_below : (n : ℕ) (qs : GateQubits) → Below n (listed qs) → target (listed qs) < n
unfolding target
target_below n (One q) h = h.0
target_below n (Two p q) h = h.1.0
target_below n (Three o p q) h = h.1.1.0

module _ (v w₁ w₂ : Meaning) (qs : GateQubits) (t : Qubit) (named : t.0 ≡ target (listed qs)) where
  of_target : (r : Result ℕ StoreFault) → Made v w₁ (literal_asked v t) r → Below (qubits_of v) (listed qs) → Built v w₁ (literal (qubits_of v) (target (listed qs)) ∷ []) r (λ k. under w₁ k ≡ Some (literal (qubits_of v) (target (listed qs))))
  of_target r m h =
      subst (λ (q : ℕ). Built v w₁ (literal (qubits_of v) q ∷ []) r (λ k. under w₁ k ≡ Some (literal (qubits_of v) q))) named
      (literal_made v v w₁ t r refl (subst (λ (q : ℕ). q < qubits_of v) (sym named) (target_below (qubits_of v) qs h)) m)

  pub literals_stopped_target : (e : StoreFault) → Made v w₁ (literal_asked v t) (Err e) → LiteralsMade v w₁ qs (Err e)
  unfolding LiteralsMade
  literals_stopped_target e m h = built_stopped _ _ v w₁ (literal (qubits_of v) (target (listed qs)) ∷ []) _ e (of_target (Err e) m h)

  module _ (hv : ℕ) (m₁ : Made v w₁ (literal_asked v t) (Ok hv)) where
    -- the controls' literals, in the store that has the target's
    after_target : (r : Result ℕ StoreFault) → ControlsMade w₁ w₂ qs r → Below (qubits_of v) (listed qs)
        → Grew v w₁ (literal (qubits_of v) (target (listed qs)) ∷ []) × (under w₁ hv ≡ Some (literal (qubits_of v) (target (listed qs))))
        × Built w₁ w₂ (literals_plan (qubits_of v) (controls (listed qs))) r (λ k. under w₂ k ≡ Some (product_of_literals (qubits_of v) (controls (listed qs))))
    unfolding ControlsMade Built
    after_target r m h =
        let a : Grew v w₁ (literal (qubits_of v) (target (listed qs)) ∷ []) × (under w₁ hv ≡ Some (literal (qubits_of v) (target (listed qs)))) = of_target (Ok hv) m₁ h in (
          a.0,
          a.1,
          subst (λ (s : Setting). Built w₁ w₂ (literals_plan s.qubits (controls (listed qs))) r (λ k. under w₂ k ≡ Some (product_of_literals s.qubits (controls (listed qs))))) a.0.setting
              (m (subst (λ (s : Setting). Below s.qubits (listed qs)) (sym a.0.setting) h)),
        )

    pub literals_stopped_controls : (e : StoreFault) → ControlsMade w₁ w₂ qs (Err e) → LiteralsMade v w₂ qs (Err e)
    unfolding LiteralsMade Built
    literals_stopped_controls e m h =
        let a = after_target (Err e) m h in
        built_after {X = Literals} (LiteralsOf w₂ (qubits_of v) qs) v w₁ w₂ (literal (qubits_of v) (target (listed qs)) ∷ []) (literals_plan (qubits_of v) (controls (listed qs))) (Err e) a.0 a.2

    pub literals_done : (hc : ℕ) → ControlsMade w₁ w₂ qs (Ok hc) → LiteralsMade v w₂ qs (Ok (record { target = t; literal = hv; controls = hc }))
    unfolding LiteralsMade Built
    literals_done hc m h =
        let n = qubits_of v in
        let a = after_target (Ok hc) m h in
        let g : Grew v w₂ (literal n (target (listed qs)) ∷ literals_plan n (controls (listed qs))) = grew_then (literal n (target (listed qs)) ∷ []) (literals_plan n (controls (listed qs))) a.0 a.2.0 in (
          g,
          record {
            of_qubits = named;
            stand = record {
              inside = inside_too v w₂ t.0 g.setting (subst (λ (q : ℕ). q < n) (sym named) (target_below n qs h));
              of_target = a.2.0.keeps hv _ a.1 ∙ ap (λ (s : Setting). Some (literal s.qubits (target (listed qs)))) (sym g.setting) ∙ ap (λ (q : ℕ). Some (literal (qubits_of w₂) q)) (sym named);
              of_controls = a.2.1;
            };
          },
        )
