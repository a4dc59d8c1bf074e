-- A word that reads as a number is its decimal, and each decimal of at most five digits reads as its number.
use Rattle.std.proofs.Common.{◌≡◌, ℕ, ◌+◌, ◌-◌, ◌*◌, ◌^◌, ◌<◌, ◌≤◌, Bool, true, false, ◌&&◌, List, [], ◌∷◌, length, get_or, drop, Some, None, decimal, Option, sym, refl, ap, ◌∙◌, ⊎_elim, add-one, arith, rules}
use native.Mathlib.Nat.{pow-succ'}
use Rattle.std.proofs.lemmas.List.{at_drop_more, at_drop_all}
use Rattle.std.proofs.lemmas.Str.Parse.{IsNumeralModel, numerals_by_fold, digits_value_short}
use Rattle.std.proofs.lemmas.Fmt.{decimal-digits_value, digits_decimal, digits_value-decimal, length-decimal-le, decimal_nonempty, first_decimal, decimal_digit}
use Rattle.std.proofs.lemmas.Bool.{and_parts, and_from, cond-true, cond-false, cases_Bool, cases_lt}
use Rattle.std.proofs.lemmas.Bool.Decides.{nat_tests}
use Rattle.text_numbers.specs.Numbers.{Small, ReadsNumber, digit, digits_value, well_formed, number_of}
use Rattle.std.proofs.lemmas.Option.{none-some}

-- the loop over the digits: a digit more, another byte, and the end
pub digits_more : (w : List ℕ) (i v : ℕ) → i < length w → digit (get_or w i 0) ≡ true → digits_value v (drop i w) ≡ digits_value (10 * v + (get_or w i 0 - 48)) (drop (i + 1) w)
unfolding digits_value
digits_more w i v h d = at_drop_more (digits_value v) w i 0 h ∙ cond-true _ _ _ d

pub digits_stop : (w : List ℕ) (i v : ℕ) → i < length w → digit (get_or w i 0) ≡ false → digits_value v (drop i w) ≡ None
unfolding digits_value
digits_stop w i v h d = at_drop_more (digits_value v) w i 0 h ∙ cond-false _ _ _ d

pub digits_all : (w : List ℕ) (i v : ℕ) → length w ≤ i → digits_value v (drop i w) ≡ Some v
unfolding digits_value
digits_all w i v h = at_drop_all (digits_value v) w i h

-- the value has at most as many digits as were read
pub value_more : (i v d : ℕ) → v < 10 ^ i → d ≤ 9 → 10 * v + d < 10 ^ (i + 1)
value_more i v d h s = rw (add-one i, pow-succ' 10 i) (omega arith)

-- digits, and the number that they write
abbrev pub all_digits : List ℕ → Bool
all_digits [] = true
all_digits (c ∷ cs) = digit c && all_digits cs

abbrev read_on : ℕ → List ℕ → ℕ
read_on n [] = n
read_on n (c ∷ cs) = read_on (10 * n + (c - 48)) cs

own : IsNumeralModel (λ ds. all_digits ds ≡ true) (read_on 0)
own = numerals_by_fold _ (search rules) read_on (search rules)

digits_say : (n : ℕ) (w : List ℕ) (m : ℕ) → digits_value n w ≡ Some m → (all_digits w ≡ true) × (read_on n w ≡ m)
unfolding digits_value
digits_say n [] m e = (refl, let q : n ≡ m = cc in q)
digits_say n (b ∷ bs) m e =
    ⊎_elim
    (λ h. let r = digits_say (10 * n + (b - 48)) bs m (sym (cond-true _ _ _ h) ∙ e) in (and_from _ _ h r.0, r.1))
    (λ h. absurd (none-some m (sym (cond-false _ _ _ h) ∙ e)))
    (cases_Bool (digit b))

digits_read : (n : ℕ) (w : List ℕ) → all_digits w ≡ true → digits_value n w ≡ Some (read_on n w)
unfolding digits_value
digits_read n [] h = refl
digits_read n (b ∷ bs) h = let q = and_parts (digit b) (all_digits bs) h in cond-true _ _ _ q.0 ∙ digits_read (10 * n + (b - 48)) bs q.1

pub number_says : (w : List ℕ) (n : ℕ) → number_of w ≡ Some n → Small n × (w ≡ decimal n)
number_says w n e =
    ⊎_elim
    (λ h.
    let r = digits_say 0 w n (sym (cond-true _ _ _ h) ∙ e) in
    let some : 0 < length w = grind (arith, nat_tests) in
    let few : length w ≤ 5 = grind (arith, nat_tests) in
    let zero_alone : get_or w 0 0 ≡ 48 → length w ≡ 1 = (λ z. grind (arith, nat_tests)) in
    let small : read_on 0 w < 10 ^ 5 = digits_value_short own w 5 r.0 few in
    (omega (arith, r.1, small), sym (sym (ap decimal r.1) ∙ decimal-digits_value own w r.0 some zero_alone (omega arith))))
    (λ h. absurd (none-some n (sym (cond-false _ _ _ h) ∙ e)))
    (cases_Bool (well_formed w))

decimal_formed : (n : ℕ) → Small n → well_formed (decimal n) ≡ true
decimal_formed n s =
    let some = decimal_nonempty n (omega arith) in
    let few = length-decimal-le 5 n (omega arith) (omega arith) (omega arith) in
    ⊎_elim
    (λ h. let f = first_decimal n h (omega arith) in grind (arith, nat_tests))
    (λ h. let z : n ≡ 0 = omega arith in ap (λ x. well_formed (decimal x)) z ∙ ap well_formed (decimal_digit 0 (omega arith)))
    (cases_lt 0 n)

pub decimal_digits : (n : ℕ) → Small n → all_digits (decimal n) ≡ true
decimal_digits n s = digits_decimal own n (omega arith)

pub number_decimal : (n : ℕ) → Small n → number_of (decimal n) ≡ Some n
number_decimal n s = cond-true _ _ _ (decimal_formed n s) ∙ digits_read 0 (decimal n) (decimal_digits n s) ∙ ap Some (digits_value-decimal own n (omega arith))

-- the definition by digits says what a number is
pub reads_number : (w : List ℕ) (r : Option ℕ) → r ≡ number_of w → ReadsNumber w r
reads_number w (Some n) e = number_says w n (sym e)
reads_number w None e = λ n s d. none-some n (e ∙ ap number_of d ∙ number_decimal n s)
