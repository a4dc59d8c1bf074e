-- Places in order.
use Rattle.std.specs.Prelude.{◌≡◌, ℕ, Bool, List, length, Some, ◌≢◌}
use Rattle.std.specs.List.{slice_get}
use Rattle.functions.specs.Tables.{constant}
use Rattle.table_words.specs.Words.{unpacked, Clean}
use Rattle.table_places.specs.Handles.{Content}

-- the function that some words are is not constant
unfoldable pub Varies : ℕ → List ℕ → Type 0
Varies n ws = (b : Bool) → unpacked n ws ≢ constant n b

-- Places in order: as many as the limit, each function without bits that are no index's, none of them constant, and no
-- two the same.
pub record PlacesInOrder (n limit : ℕ) (ps : List Content) : Type 0 where
  pub many : length ps ≡ limit
  pub long : (p : ℕ) (ws : List ℕ) → slice_get ps p ≡ Some (Some ws) → length ws ≡ 4
  pub clean : (p : ℕ) (ws : List ℕ) → slice_get ps p ≡ Some (Some ws) → Clean n ws
  pub varies : (p : ℕ) (ws : List ℕ) → slice_get ps p ≡ Some (Some ws) → Varies n ws
  pub apart : (p q : ℕ) (ws : List ℕ) → slice_get ps p ≡ Some (Some ws) → slice_get ps q ≡ Some (Some ws) → p ≡ q
