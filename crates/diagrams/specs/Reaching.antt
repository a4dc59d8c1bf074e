-- What a handle reaches in a diagram, and what is left after a keep.
use Rattle.std.specs.Prelude.{ℕ, ◌<◌, List, length, slice_index}
use Rattle.diagrams.specs.Diagrams.{Diagram, Held}
use Rattle.diagrams.specs.Forming.{Keeps}

-- k is h, or a half of it reaches k
pub data Reaches (s : Diagram) : ℕ → ℕ → Type 0 where
  itself : {h : ℕ} → Reaches s h h
  by_low : {h k : ℕ} → 0 < s.height h → Reaches s (s.low h) k → Reaches s h k
  by_high : {h k : ℕ} → 0 < s.height h → Reaches s (s.high h) k → Reaches s h k

-- From s to t, what the listed handles reach stays as it was, and nothing else is left.
pub record Swept (s t : Diagram) (list : List ℕ) : Type 0 where
  pub same : Keeps t s
  pub reached : (k : ℕ) → 0 < t.height k → (i : ℕ) × (i < length list) × Reaches s (slice_index list i) k
  pub stays : (i : ℕ) → i < length list → (k : ℕ) → Reaches s (slice_index list i) k → Held t k
