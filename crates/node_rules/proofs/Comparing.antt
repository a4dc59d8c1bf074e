-- Comparing rules.
use Rattle.std.proofs.Common.{◌≡◌, ℕ, ◌<◌, Bool, true, eqb, sym, ap, ◌∙◌}
use Rattle.std.proofs.lemmas.Bool.{eqb-true, eq-eqb}
use Rattle.functions.specs.Tables.{ruled}
use Rattle.node_rules.proofs.AllRules.{same_rule}

-- a rule has the answers of another exactly if they are equal
pub equal_decides : (rule other : ℕ) (answers : Bool → Bool → Bool → Bool) → rule < 256 → other < 256 → ((a b c : Bool) → ruled other a b c ≡ answers a b c) → (eqb rule other ≡ true → (a b c : Bool) → ruled rule a b c ≡ answers a b c) × (((a b c : Bool) → ruled rule a b c ≡ answers a b c) → eqb rule other ≡ true)
equal_decides rule other answers h k e = (
  λ t a b c. ap (λ (z : ℕ). ruled z a b c) (eqb-true rule other t) ∙ e a b c,
  λ same. eq-eqb rule other (same_rule rule other h k (λ a b c. same a b c ∙ sym (e a b c))),
)
