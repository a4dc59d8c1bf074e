-- Amplitudes, and states: a list of quadruples with one power of √2, which divides them all.
use Rattle.std.specs.Prelude.{◌≡◌, ℕ, zero, suc, ◌+◌, ◌-◌, ◌/◌, ◌^◌, ◌<◌, max, Bool, true, false, cond, ◌||◌, ◌⊎◌, List, [], ◌∷◌, map, length, ℤ, pos, neg_ℤ, ◌≤ℤ◌, ◌<ℤ◌, ◌==◌, slice_index_or}
use Rattle.std.specs.Int.Signed.{mag}
use Rattle.exact.specs.declared.Amplitude.{Amplitude}
use Rattle.exact.specs.declared.Quadruple.{Quadruple}
use Rattle.exact.specs.declared.RootTwoPower.{RootTwoPower}
use Rattle.exact.specs.Quadruples.{zero_quadruple, times_power_of_√2, odd_sum, over-√2}

abbrev pub root_two_power : ℕ → RootTwoPower
root_two_power k = record { 0 = k }

-- powers of the factors of a product
abbrev pub add_powers : RootTwoPower → RootTwoPower → RootTwoPower
add_powers j k = root_two_power (j.0 + k.0)

-- q divided k times by √2
abbrev pub amplitude : Quadruple → ℕ → Amplitude
amplitude q k = record { quadruple = q; power = root_two_power k }

-- Two amplitudes are the same number: the one of lower power, times √2 as often as the powers differ, has the other's
-- quadruple. (The difference of two powers is 0 where the first is the lower one.)
unfoldable pub SameAmplitude : Amplitude → Amplitude → Type 0
SameAmplitude x y = times_power_of_√2 (y.power.0 - x.power.0) x.quadruple ≡ times_power_of_√2 (x.power.0 - y.power.0) y.quadruple

pub record State : Type 0 where
  pub power : RootTwoPower
  pub quadruples : List Quadruple

abbrev pub state : ℕ → List Quadruple → State
state k v = record { power = root_two_power k; quadruples = v }

-- the amplitude at the index with the number i
abbrev pub amplitude_at : State → ℕ → Amplitude
amplitude_at s i = record { quadruple = slice_index_or s.quadruples i zero_quadruple; power = s.power }

pub record SameAmplitudes (s t : State) : Type 0 where
  pub as_long : length s.quadruples ≡ length t.quadruples
  pub at_each : (i : ℕ) → i < length s.quadruples → SameAmplitude (amplitude_at s i) (amplitude_at t i)

-- some index has a+c odd or b+d odd
unfoldable pub some_odd_sum : List Quadruple → Bool
some_odd_sum [] = false
some_odd_sum (q ∷ v) = odd_sum q || some_odd_sum v

unfoldable pub InNormalForm : State → Type 0
InNormalForm s = (s.power.0 ≡ 0) ⊎ (some_odd_sum s.quadruples ≡ true)

-- while no sum is odd and the power is not 0, divide by √2 and lower the power by 1
unfoldable pub reduced : ℕ → List Quadruple → State
reduced zero v = state zero v
reduced (suc k) v = let lower = reduced k (map over-√2 v) in cond (some_odd_sum v) (state (suc k) v) lower

abbrev pub normal_form : State → State
normal_form s = reduced s.power.0 s.quadruples

-- z is one of −2^(w−1) to 2^(w−1)−1
pub record EntryFits (w : ℕ) (z : ℤ) : Type 0 where
  pub not_below : neg_ℤ (pos (2 ^ (w - 1))) ≤ℤ z
  pub below : z <ℤ pos (2 ^ (w - 1))

pub record AllFourFit (w : ℕ) (q : Quadruple) : Type 0 where
  pub a : EntryFits w q.a
  pub b : EntryFits w q.b
  pub c : EntryFits w q.c
  pub d : EntryFits w q.d

-- every entry fits w bits
abbrev pub AllFit : ℕ → List Quadruple → Type 0
AllFit w [] = Unit {0}
AllFit w (q ∷ v) = AllFourFit w q × AllFit w v

-- the least k with n below 2^k; the first argument bounds the recursion, and n itself is enough
unfoldable pub bits_within : ℕ → ℕ → ℕ
bits_within zero n = zero
bits_within (suc f) n = let rest = bits_within f (n / 2) in cond (n == 0) zero (suc rest)

-- one bit for the sign; `mag` is n both for n and for −(n+1)
abbrev pub width_of : ℤ → ℕ
width_of z = suc (bits_within (mag z) (mag z))

-- the least w, at least 1, with every entry from −2^(w−1) to 2^(w−1)−1
unfoldable pub width : List Quadruple → ℕ
width [] = 1
width (q ∷ v) = max (max (max (width_of q.a) (width_of q.b)) (max (width_of q.c) (width_of q.d))) (width v)
