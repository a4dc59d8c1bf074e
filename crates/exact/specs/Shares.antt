-- The share of a weight.
use Rattle.std.specs.Prelude.{ℕ, ◌+◌, ◌*◌, ◌/◌, ◌^◌, Bool, cond, ℤ, Some, None, Option, ◌==◌, unsigned_abs}
use Rattle.exact.specs.declared.Weight.{Weight}

-- n / m to the nearest whole number, halves up: n / m and a half, rounded down
unfoldable pub nearest : ℕ → ℕ → ℕ
nearest n m = (2 * n + m) / (2 * m)

abbrev pub is_zero : ℤ → Bool
is_zero z = unsigned_abs z == 0

-- 1000 times the whole part over 2^k, or none where the root part is not 0
unfoldable pub share : Weight → Option ℕ
share w = cond (is_zero w.root) (Some (nearest (1000 * w.whole) (2 ^ w.power.0))) None
