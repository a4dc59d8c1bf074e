-- The target and the controls of a gate, in an index and in a setting of its qubits.
use Rattle.std.proofs.Common.{◌≡◌, ℕ, suc, ◌<◌, Bool, true, false, ◌&&◌, List, [], ◌∷◌, length, sym, refl, ap, ◌∙◌, ap₂, arith}
use lib.Seq.{set-get_or}
use Rattle.exact.specs.Indices.{Index, bit, with_bit, bits_at, with_setting}
use Rattle.functions.specs.Tables.{value_at, literal}
use Rattle.functions.proofs.Values.{constant_at, literal_at}
use Rattle.slicing.proofs.Operations.{both_at}
use Rattle.recipes.specs.Recipes.{target, controls, product_of_literals}

-- the last bit of a setting, whether all the others are 1, and the setting with another last bit
unfoldable pub last_bit : List Bool → Bool
last_bit [] = false
last_bit (b ∷ []) = b
last_bit (b ∷ c ∷ s) = last_bit (c ∷ s)

unfoldable pub others_on : List Bool → Bool
others_on [] = true
others_on (b ∷ []) = true
others_on (b ∷ c ∷ []) = b
others_on (b ∷ c ∷ d ∷ s) = b && others_on (c ∷ d ∷ s)

unfoldable pub with_last : List Bool → Bool → List Bool
with_last [] a = []
with_last (b ∷ []) a = a ∷ []
with_last (b ∷ c ∷ s) a = b ∷ with_last (c ∷ s) a

pub length_with_last : (s : List Bool) (a : Bool) → length (with_last s a) ≡ length s
unfolding with_last
length_with_last [] a = refl
length_with_last (b ∷ []) a = refl
length_with_last (b ∷ c ∷ s) a = ap suc (length_with_last (c ∷ s) a)

-- an index with its own bit, and with its own setting
own_bit : (y : Index) (q : ℕ) → with_bit y q (bit y q) ≡ y
own_bit y q = set-get_or y q false

pub own_setting : (y : Index) (qs : List ℕ) → with_setting y qs (bits_at y qs) ≡ y
unfolding with_setting bits_at
own_setting y [] = refl
own_setting y (q ∷ qs) = ap (λ (z : Index). with_setting z qs (bits_at y qs)) (own_bit y q) ∙ own_setting y qs

-- the target's bit, and the index with the target set
pub target_bit : (y : Index) (qs : List ℕ) → 0 < length qs → bit y (target qs) ≡ last_bit (bits_at y qs)
unfolding target last_bit bits_at
target_bit y [] h = absurd (let b : ⊥ = omega arith in b)
target_bit y (q ∷ []) h = refl
target_bit y (q ∷ p ∷ qs) h = target_bit y (p ∷ qs) (omega arith)

pub target_set : (y : Index) (qs : List ℕ) (a : Bool) → 0 < length qs → with_bit y (target qs) a ≡ with_setting y qs (with_last (bits_at y qs) a)
unfolding target with_last bits_at with_setting
target_set y [] a h = absurd (let b : ⊥ = omega arith in b)
target_set y (q ∷ []) a h = refl
target_set y (q ∷ p ∷ qs) a h =
    target_set y (p ∷ qs) a (omega arith)
    ∙ ap (λ (z : Index). with_setting z (p ∷ qs) (with_last (bits_at y (p ∷ qs)) a)) (sym (own_bit y q))

-- the product of the controls' literals
pub controls_at : (n : ℕ) (y : Index) → length y ≡ n → (qs : List ℕ) → value_at (product_of_literals n (controls qs)) y ≡ others_on (bits_at y qs)
unfolding product_of_literals controls others_on bits_at
controls_at n y e [] = constant_at n true y e
controls_at n y e (q ∷ []) = constant_at n true y e
controls_at n y e (q ∷ p ∷ []) = literal_at n q y e
controls_at n y e (q ∷ p ∷ r ∷ qs) =
    both_at n (literal n q) (product_of_literals n (controls (p ∷ r ∷ qs))) y e
    ∙ ap₂ (λ (a b : Bool). a && b) (literal_at n q y e) (controls_at n y e (p ∷ r ∷ qs))
