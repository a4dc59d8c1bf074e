-- The sum of two integers in two's complement, bit by bit.
use Rattle.std.proofs.Common.{◌≡◌, suc, ◌<◌, Bool, true, false, cond, ◌&&◌, ◌||◌, List, [], ◌∷◌, map, length, ℤ, pos, negsuc, ◌+ℤ◌, ◌-ℤ◌, ◌*ℤ◌, neg_ℤ, refl, ap, ◌∙◌, arith}
use Rattle.std.proofs.lemmas.Int.{ints}
use Rattle.functions.specs.Tables.{differ}
use Rattle.slicing.specs.TwosComplement.{signed_sum, bit_number, signed_number, repeated}
use Rattle.slicing.proofs.SignedNumbers.{sum_more, length_repeated}

-- the sum and the carry of three bits
abbrev pub sum_bit : Bool → Bool → Bool → Bool
sum_bit p d c = differ p (differ d c)

abbrev pub carry_bit : Bool → Bool → Bool → Bool
carry_bit p d c = cond p (d || c) (d && c)

-- the bits of p and q, or of p and the negation of q where e is 1, added from the carry c on
unfoldable pub added_bits : Bool → Bool → List Bool → List Bool → List Bool
added_bits e c [] qs = []
added_bits e c (p ∷ ps) [] = []
added_bits e c (p ∷ ps) (q ∷ qs) = sum_bit p (differ q e) c ∷ added_bits e (carry_bit p (differ q e) c) ps qs

-- x − y where e is 1, else x + y
abbrev pub joined : Bool → ℤ → ℤ → ℤ
joined e x y = cond e (x -ℤ y) (x +ℤ y)

full_adder : (p d c : Bool) → bit_number (sum_bit p d c) +ℤ pos 2 *ℤ bit_number (carry_bit p d c) ≡ bit_number p +ℤ bit_number d +ℤ bit_number c
full_adder true true true = refl
full_adder true true false = refl
full_adder true false true = refl
full_adder true false false = refl
full_adder false true true = refl
full_adder false true false = refl
full_adder false false true = refl
full_adder false false false = refl

-- the last two places: the top repeated
last_adder : (p d c : Bool) → bit_number (sum_bit p d c) +ℤ pos 2 *ℤ neg_ℤ (bit_number (sum_bit p d (carry_bit p d c))) ≡ neg_ℤ (bit_number p) +ℤ neg_ℤ (bit_number d) +ℤ bit_number c
last_adder true true true = refl
last_adder true true false = refl
last_adder true false true = refl
last_adder true false false = refl
last_adder false true true = refl
last_adder false true false = refl
last_adder false false true = refl
last_adder false false false = refl

-- one step of the induction, in numbers
step : (s k p d c x y z : ℤ) → s +ℤ pos 2 *ℤ k ≡ p +ℤ d +ℤ c → z ≡ x +ℤ y +ℤ k → s +ℤ pos 2 *ℤ z ≡ (p +ℤ pos 2 *ℤ x) +ℤ (d +ℤ pos 2 *ℤ y) +ℤ c
step s k p d c x y z e f = omega (arith, ints)

length_added : (e c : Bool) (ps qs : List Bool) → length ps ≡ length qs → length (added_bits e c ps qs) ≡ length ps
unfolding added_bits
length_added e c [] qs l = refl
length_added e c (p ∷ ps) [] l = absurd (let b : ⊥ = omega arith in b)
length_added e c (p ∷ ps) (q ∷ qs) l = ap suc (length_added e (carry_bit p (differ q e) c) ps qs (omega arith))

-- the sum with each top bit repeated: nothing overflows, and the induction needs no range
adds_repeated : (e c p q : Bool) (ps qs : List Bool) → length ps ≡ length qs
    → signed_number (added_bits e c (repeated (p ∷ ps)) (repeated (q ∷ qs))) ≡ signed_number (p ∷ ps) +ℤ signed_number (map (λ b. differ b e) (q ∷ qs)) +ℤ bit_number c
unfolding signed_number signed_sum added_bits repeated
adds_repeated e c p q [] [] l = last_adder p (differ q e) c
adds_repeated e c p q [] (r ∷ qs) l = absurd (let b : ⊥ = omega arith in b)
adds_repeated e c p q (r ∷ ps) [] l = absurd (let b : ⊥ = omega arith in b)
adds_repeated e c p q (r ∷ ps) (t ∷ qs) l =
    let k : Bool = carry_bit p (differ q e) c in
    let rest : List Bool = added_bits e k (repeated (r ∷ ps)) (repeated (t ∷ qs)) in
    let a : length (repeated (r ∷ ps)) ≡ suc (suc (length ps)) = length_repeated (r ∷ ps) (omega arith) in
    let b : length (repeated (t ∷ qs)) ≡ suc (suc (length qs)) = length_repeated (t ∷ qs) (omega arith) in
    let n : 0 < length rest = omega (arith, length_added e k (repeated (r ∷ ps)) (repeated (t ∷ qs)) (omega arith)) in
    sum_more bit_number (sum_bit p (differ q e) c) rest n
    ∙ step (bit_number (sum_bit p (differ q e) c)) (bit_number k) (bit_number p) (bit_number (differ q e)) (bit_number c) (signed_number (r ∷ ps)) (signed_number (map (λ b. differ b e) (t ∷ qs))) (signed_number rest)
    (full_adder p (differ q e) c) (adds_repeated e k r t ps qs (omega arith))

-- all bits turned: minus the number, less one
turned_number : Bool → ℤ → ℤ
turned_number true z = neg_ℤ z +ℤ negsuc 0
turned_number false z = z

turned_top : (q e : Bool) → neg_ℤ (bit_number (differ q e)) ≡ turned_number e (neg_ℤ (bit_number q))
unfolding turned_number
turned_top true true = refl
turned_top true false = refl
turned_top false true = refl
turned_top false false = refl

turned_more : (q e : Bool) (x y : ℤ) → y ≡ turned_number e x → bit_number (differ q e) +ℤ pos 2 *ℤ y ≡ turned_number e (bit_number q +ℤ pos 2 *ℤ x)
unfolding turned_number
turned_more true true x y h = omega (arith, ints)
turned_more true false x y h = omega (arith, ints)
turned_more false true x y h = omega (arith, ints)
turned_more false false x y h = omega (arith, ints)

turned_bits : (e q : Bool) (qs : List Bool) → signed_number (map (λ b. differ b e) (q ∷ qs)) ≡ turned_number e (signed_number (q ∷ qs))
unfolding signed_number signed_sum
turned_bits e q [] = turned_top q e
turned_bits e q (r ∷ qs) = turned_more q e _ _ (turned_bits e r qs)

turned_sum : (e : Bool) (x y z : ℤ) → y ≡ turned_number e z → x +ℤ y +ℤ bit_number e ≡ joined e x z
unfolding turned_number
turned_sum true x y z h = omega (arith, ints)
turned_sum false x y z h = omega (arith, ints)

pub added_exactly : (e : Bool) (ps qs : List Bool) → 0 < length ps → length ps ≡ length qs → signed_number (added_bits e e (repeated ps) (repeated qs)) ≡ joined e (signed_number ps) (signed_number qs)
added_exactly e [] qs h l = absurd (let b : ⊥ = omega arith in b)
added_exactly e (p ∷ ps) [] h l = absurd (let b : ⊥ = omega arith in b)
added_exactly e (p ∷ ps) (q ∷ qs) h l =
    adds_repeated e e p q ps qs (omega arith)
    ∙ turned_sum e (signed_number (p ∷ ps)) (signed_number (map (λ b. differ b e) (q ∷ qs))) (signed_number (q ∷ qs)) (turned_bits e q qs)
