-- Columns of the words of a line.
use Rattle.std.specs.Prelude.{ℕ, zero, suc, cond, List, [], ◌∷◌, ◌==◌}

-- how many bytes there are up to the end of the n-th space
unfoldable pub after_spaces : ℕ → List ℕ → ℕ
after_spaces zero bs = 0
after_spaces (suc n) [] = 0
after_spaces (suc n) (b ∷ bs) = suc (cond (b == 32) (after_spaces n bs) (after_spaces (suc n) bs))
