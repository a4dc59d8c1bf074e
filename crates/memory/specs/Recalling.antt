-- The combinations remembered last.
use Rattle.std.specs.Prelude.{ℕ, Bool, ◌&&◌, ◌==◌, List, ◌++◌, take, drop, reverse, Option, option_map, find}
use Rattle.functions.specs.declared.combination.Combination.{Combination}
use Rattle.memory.specs.declared.entry.Remembered.{Remembered}
use Rattle.memory.specs.declared.recent.Recent.{Recent}

-- whether it is the combination asked for
abbrev pub is_for : Combination → Remembered → Bool
is_for asked e =
    e.combination.rule == asked.rule
    && (e.combination.f == asked.f && (e.combination.g == asked.g && e.combination.h == asked.h))

-- what is remembered, the newest first: what stands before the oldest, then the rest, each from its end
unfoldable pub newest_first : Recent → List Remembered
newest_first r = reverse (take r.oldest r.entries.items) ++ reverse (drop r.oldest r.entries.items)

-- the answer of the first in a list that is the combination asked for
abbrev pub recalled : List Remembered → Combination → Option ℕ
recalled es asked = option_map (λ e. e.answer) (find (is_for asked) es)
