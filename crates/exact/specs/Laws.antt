-- The laws of the numbers.
use Rattle.std.specs.Prelude.{◌≡◌, ℕ, ◌+◌, ◌-◌, ◌*◌, ◌/◌, ◌%◌, ◌^◌, ◌<◌, ◌≤◌, Bool, true, false, List, map, length, ◌==◌}
use Rattle.std.specs.List.{range_with_len}
use Rattle.exact.specs.declared.Amplitude.{Amplitude}
use Rattle.exact.specs.declared.Quadruple.{Quadruple}
use Rattle.exact.specs.Indices.{Index, number, bits, bit, listing, at_index}
use Rattle.exact.specs.Quadruples.{zero_quadruple, one_quadruple, add, multiply, conjugate, times_ω, times-√2, odd_sum, over-√2}
use Rattle.exact.specs.States.{SameAmplitude, State, SameAmplitudes, some_odd_sum, InNormalForm, normal_form, AllFit, width}
use Rattle.exact.specs.Shares.{nearest}
use Rattle.exact.specs.Squares.{square, square_quadruple, add_squares, sum_of_squares, everywhere, elsewhere, outcome}

-- a list in index order is made of its elements, and is a table over the numbers below 2^n
pub record ListingLaws {A : Type 0} (none : A) : Type 0 where
  pub element : (n : ℕ) (f : Index → A) (x : Index) → length x ≡ n → at_index none (listing n f) x ≡ f x
  pub made_of_elements : (n : ℕ) (v : List A) → length v ≡ 2 ^ n → listing n (at_index none v) ≡ v
  pub table : (n : ℕ) (f : Index → A) → listing n f ≡ map (λ (i : ℕ). f (bits n i)) (range_with_len 0 (2 ^ n))

-- indices as numbers; truth tables and lists of quadruples in index order
pub record IndexLaws : Type 0 where
  pub below : (x : Index) → number x < 2 ^ length x
  pub number_of_bits : (n i : ℕ) → i < 2 ^ n → number (bits n i) ≡ i
  pub bits_of_number : (x : Index) → bits (length x) (number x) ≡ x
  pub highest_first : (n q i : ℕ) → q < n → bit (bits n i) q ≡ (i / 2 ^ (n - 1 - q) % 2 == 1)
  pub truth_tables : ListingLaws false
  pub quadruples : ListingLaws zero_quadruple

-- multiplication, and ω and √2 in it
pub record RingLaws : Type 0 where
  pub commutes : (p q : Quadruple) → multiply p q ≡ multiply q p
  pub associates : (p q r : Quadruple) → multiply (multiply p q) r ≡ multiply p (multiply q r)
  pub distributes : (p q r : Quadruple) → multiply p (add q r) ≡ add (multiply p q) (multiply p r)
  pub one : (q : Quadruple) → multiply one_quadruple q ≡ q
  pub by_ω : (q : Quadruple) → times_ω q ≡ multiply (times_ω one_quadruple) q
  pub by-√2 : (q : Quadruple) → times-√2 q ≡ multiply (times-√2 one_quadruple) q

pub record RootTwoLaws : Type 0 where
  pub twice_doubles : (q : Quadruple) → times-√2 (times-√2 q) ≡ add q q
  pub injective : (p q : Quadruple) → times-√2 p ≡ times-√2 q → p ≡ q
  pub doubles_square : (q : Quadruple) → square (times-√2 q) ≡ add_squares (square q) (square q)
  -- a quadruple is √2 times another exactly if it has no odd sum, and then it is √2 times its division
  pub no_odd_sum : (q : Quadruple) → odd_sum (times-√2 q) ≡ false
  pub divided : (q : Quadruple) → odd_sum q ≡ false → times-√2 (over-√2 q) ≡ q

-- being the same amplitude is an equivalence
pub record AmplitudeLaws : Type 0 where
  pub reflexive : (x : Amplitude) → SameAmplitude x x
  pub symmetric : (x y : Amplitude) → SameAmplitude x y → SameAmplitude y x
  pub transitive : (x y z : Amplitude) → SameAmplitude x y → SameAmplitude y z → SameAmplitude x z

pub record NormalFormLaws : Type 0 where
  pub reached : (s : State) → InNormalForm (normal_form s)
  pub lower : (s : State) → (normal_form s).power.0 ≤ s.power.0
  pub same : (s : State) → SameAmplitudes (normal_form s) s
  pub unique : (s t : State) → InNormalForm s → InNormalForm t → SameAmplitudes s t → s ≡ t
  -- so states have the same amplitudes exactly if their normal forms are equal
  pub equal_then_same : (s t : State) → normal_form s ≡ normal_form t → SameAmplitudes s t
  pub same_then_equal : (s t : State) → SameAmplitudes s t → normal_form s ≡ normal_form t

-- the width is the least number, at least 1, of bits that hold every entry
pub record WidthLaws : Type 0 where
  pub at_least_one : (v : List Quadruple) → 1 ≤ width v
  pub holds : (v : List Quadruple) → AllFit (width v) v
  pub least : (v : List Quadruple) (w : ℕ) → 1 ≤ w → AllFit w v → width v ≤ w

-- squares, and their sums over sets of indices
pub record SquareLaws : Type 0 where
  -- the square is that of the modulus: a number times its conjugate
  pub of_modulus : (q : Quadruple) → multiply q (conjugate q) ≡ square_quadruple (square q)
  -- division by √2 halves
  pub halved : (n : ℕ) (p : Index → Bool) (v : List Quadruple) → some_odd_sum v ≡ false
      → sum_of_squares n p v ≡ add_squares (sum_of_squares n p (map over-√2 v)) (sum_of_squares n p (map over-√2 v))
  -- the indices of a set and those outside it, and the two outcomes of a qubit, add up to all of them
  pub parted : (n : ℕ) (p : Index → Bool) (v : List Quadruple)
      → add_squares (sum_of_squares n p v) (sum_of_squares n (elsewhere p) v) ≡ sum_of_squares n everywhere v
  pub outcomes : (n q : ℕ) (v : List Quadruple)
      → add_squares (sum_of_squares n (outcome q false) v) (sum_of_squares n (outcome q true) v) ≡ sum_of_squares n everywhere v

-- s is n / m to the nearest whole number, halves up: n / m is at least s − 1/2 and less than s + 1/2
pub record Nearest (n m s : ℕ) : Type 0 where
  pub not_above : 2 * (s * m) ≤ 2 * n + m
  pub not_below : 2 * n < 2 * (s * m) + m

pub record ShareLaws : Type 0 where
  pub rounded : (n m : ℕ) → 0 < m → Nearest n m (nearest n m)
  pub only : (n m s : ℕ) → Nearest n m s → s ≡ nearest n m
