-- A combination in its simplest form, and one that is answered outright.
use Rattle.std.proofs.Common.{◌≡◌, ℕ, ◌<◌, ◌≤◌, Bool, true, false, ◌⊎◌, sym, refl, ap, ◌∙◌, inl, inr, ⊎_elim, arith}
use Rattle.std.proofs.lemmas.Bool.{cases_Bool, cases_lt}
use Rattle.functions.specs.Tables.{ruled}
use Rattle.functions.specs.declared.combination.Combination.{Combination}
use Rattle.node_rules.specs.declared.operands.Operand.TheVariants.{First, Second, Third}
use Rattle.node_rules.specs.Rules.{weight, Ignores}
use Rattle.node_rules.specs.Combinations.{given, Taken, Simplified, Plain, Mixed}
use Rattle.node_rules.specs.Settling.{SetIfConstant, MergedIfEqual}
use Rattle.node_rules.proofs.AllRules.{same_rule, rule_0, rule_255, rule_240, rule_204, rule_170}

-- the value of a handle that is ignored does not matter
module _ (v : ℕ → Bool) (rule : ℕ) where
  same_first : (f f' g h : ℕ) → (f' ≡ f) ⊎ Ignores rule First → given v rule f' g h ≡ given v rule f g h
  same_first f f' g h (inl e) = ap (λ (z : ℕ). given v rule z g h) e
  same_first f f' g h (inr i) = i (v f') (v g) (v h) ∙ sym (i (v f) (v g) (v h))

  same_second : (f g g' h : ℕ) → (g' ≡ g) ⊎ Ignores rule Second → given v rule f g' h ≡ given v rule f g h
  same_second f g g' h (inl e) = ap (λ (z : ℕ). given v rule f z h) e
  same_second f g g' h (inr i) = i (v f) (v g') (v h) ∙ sym (i (v f) (v g) (v h))

  same_third : (f g h h' : ℕ) → (h' ≡ h) ⊎ Ignores rule Third → given v rule f g h' ≡ given v rule f g h
  same_third f g h h' (inl e) = ap (λ (z : ℕ). given v rule f g z) e
  same_third f g h h' (inr i) = i (v f) (v g) (v h') ∙ sym (i (v f) (v g) (v h))

either : (ignored : Type 0) (given taken : ℕ) → Taken ignored given taken → (taken ≡ given) ⊎ ignored
either ignored given taken (inl x) = inr x.0
either ignored given taken (inr x) = inl x.1

-- the third operand settled by the second and the first, the second by the first, and each by its constant
module _ (c : Combination) (r₁ r₂ r₃ r₄ r₅ r₆ : ℕ)
    (m₁ : MergedIfEqual c.rule Third c.h Second c.g r₁) (m₂ : MergedIfEqual r₁ Third c.h First c.f r₂) (m₃ : MergedIfEqual r₂ Second c.g First c.f r₃)
    (s₁ : SetIfConstant r₃ First c.f r₄) (s₂ : SetIfConstant r₄ Second c.g r₅) (s₃ : SetIfConstant r₅ Third c.h r₆) where
  equal_second : c.g ≡ c.f → Ignores r₆ Second
  equal_second e = ⊎_elim (λ (l : c.g < 2). s₃.still Second (s₂.constant l))
      (λ (l : 2 ≤ c.g). s₃.still Second (s₂.still Second (s₁.still Second (m₃.equal (λ q. omega (arith, ap weight q)) l e))))
      (cases_lt c.g 2)

  merged_third : 2 ≤ c.h → (c.h ≡ c.f) ⊎ (c.h ≡ c.g) → Ignores r₃ Third
  merged_third l (inl e) = m₃.still Third (λ q. omega (arith, ap weight q)) (m₂.equal (λ q. omega (arith, ap weight q)) l e)
  merged_third l (inr e) = m₃.still Third (λ q. omega (arith, ap weight q)) (m₂.still Third (λ q. omega (arith, ap weight q)) (m₁.equal (λ q. omega (arith, ap weight q)) l e))

  equal_third : (c.h ≡ c.f) ⊎ (c.h ≡ c.g) → Ignores r₆ Third
  equal_third e = ⊎_elim (λ (l : c.h < 2). s₃.constant l)
      (λ (l : 2 ≤ c.h). s₃.still Third (s₂.still Third (s₁.still Third (merged_third l e))))
      (cases_lt c.h 2)

  pub simplified : (f g h : ℕ) → Taken (Ignores r₆ First) c.f f → Taken (Ignores r₆ Second) c.g g → Taken (Ignores r₆ Third) c.h h → Simplified c (record { rule = r₆; f = f; g = g; h = h })
  simplified f g h tf tg th = record {
    same = λ v w.
        same_first v r₆ c.f f g h (either _ c.f f tf)
        ∙ same_second v r₆ c.f c.g g h (either _ c.g g tg)
        ∙ same_third v r₆ c.f c.g c.h h (either _ c.h h th)
        ∙ s₃.same v w (v c.f) (v c.g) (v c.h) refl ∙ s₂.same v w (v c.f) (v c.g) (v c.h) refl ∙ s₁.same v w (v c.f) (v c.g) (v c.h) refl
        ∙ m₃.same (v c.f) (v c.g) (v c.h) (ap v) ∙ m₂.same (v c.f) (v c.g) (v c.h) (ap v) ∙ m₁.same (v c.f) (v c.g) (v c.h) (ap v);
    first = tf;
    second = tg;
    third = th;
    first_constant = λ l. s₃.still First (s₂.still First (s₁.constant l));
    second_constant = λ l. s₃.still Second (s₂.constant l);
    second_equal = equal_second;
    third_constant = s₃.constant;
    third_equal = equal_third;
  }

-- a rule that is constant or copies an operand
pub plain_zero : (c : Combination) → c.rule ≡ 0 → Plain c 0
plain_zero c e = record {
  same = λ v w. w.zero ∙ sym (ap (λ (z : ℕ). given v z c.f c.g c.h) e ∙ rule_0 (v c.f) (v c.g) (v c.h));
  one_of = inl (omega arith);
}

pub plain_one : (c : Combination) → c.rule ≡ 255 → Plain c 1
plain_one c e = record {
  same = λ v w. w.one ∙ sym (ap (λ (z : ℕ). given v z c.f c.g c.h) e ∙ rule_255 (v c.f) (v c.g) (v c.h));
  one_of = inl (omega arith);
}

pub plain_first : (c : Combination) → c.rule ≡ 240 → Plain c c.f
plain_first c e = record {
  same = λ v w. sym (ap (λ (z : ℕ). given v z c.f c.g c.h) e ∙ rule_240 (v c.f) (v c.g) (v c.h));
  one_of = inr (inl refl);
}

pub plain_second : (c : Combination) → c.rule ≡ 204 → Plain c c.g
plain_second c e = record {
  same = λ v w. sym (ap (λ (z : ℕ). given v z c.f c.g c.h) e ∙ rule_204 (v c.f) (v c.g) (v c.h));
  one_of = inr (inr (inl refl));
}

pub plain_third : (c : Combination) → c.rule ≡ 170 → Plain c c.h
plain_third c e = record {
  same = λ v w. sym (ap (λ (z : ℕ). given v z c.f c.g c.h) e ∙ rule_170 (v c.f) (v c.g) (v c.h));
  one_of = inr (inr (inr refl));
}

-- any other rule
pub mixed : (rule : ℕ) → rule < 256 → (rule ≡ 0 → ⊥) → (rule ≡ 255 → ⊥) → (rule ≡ 240 → ⊥) → (rule ≡ 204 → ⊥) → (rule ≡ 170 → ⊥) → Mixed rule
mixed rule l n₀ n₁ nf ng nh = record {
  not_zero = λ e. n₀ (same_rule rule 0 l (omega arith) (λ a b c. e a b c ∙ sym (rule_0 a b c)));
  not_one = λ e. n₁ (same_rule rule 255 l (omega arith) (λ a b c. e a b c ∙ sym (rule_255 a b c)));
  not_first = λ e. nf (same_rule rule 240 l (omega arith) (λ a b c. e a b c ∙ sym (rule_240 a b c)));
  not_second = λ e. ng (same_rule rule 204 l (omega arith) (λ a b c. e a b c ∙ sym (rule_204 a b c)));
  not_third = λ e. nh (same_rule rule 170 l (omega arith) (λ a b c. e a b c ∙ sym (rule_170 a b c)));
}

-- a handle below 2 is ignored, if constants are
ignored_below : (ignored : Type 0) (given taken : ℕ) → Taken ignored given taken → (given < 2 → ignored) → taken < 2 → ignored
ignored_below ignored given taken (inl x) constant l = x.0
ignored_below ignored given taken (inr x) constant l = constant (omega arith)

-- a rule that ignores all three operands is constant
not_all_ignored : (rule : ℕ) → Mixed rule → Ignores rule First → Ignores rule Second → Ignores rule Third → ⊥
not_all_ignored rule m i j k =
    let same : (a b c : Bool) → ruled rule a b c ≡ ruled rule false false false = λ a b c. i a b c ∙ j false b c ∙ k false false c in
    ⊎_elim (λ (e : ruled rule false false false ≡ true). m.not_one (λ a b c. same a b c ∙ e))
    (λ (e : ruled rule false false false ≡ false). m.not_zero (λ a b c. same a b c ∙ e))
    (cases_Bool (ruled rule false false false))

-- a combination that has no answer by its rule alone looks at a node
pub some_node : (c r : Combination) → Simplified c r → Mixed r.rule → r.f < 2 → r.g < 2 → r.h < 2 → ⊥
some_node c r s m a b d =
    not_all_ignored r.rule m (ignored_below _ _ _ s.first s.first_constant a) (ignored_below _ _ _ s.second s.second_constant b) (ignored_below _ _ _ s.third s.third_constant d)
