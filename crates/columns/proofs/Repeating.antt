-- Top slices once more.
use Rattle.std.proofs.Common.{◌≡◌, ℕ, suc, ◌-◌, ◌<◌, ◌≤◌, List, [], length, get_or, ap, ◌∙◌, arith}
use Rattle.functions.specs.Meanings.{Meaning}
use Rattle.functions.specs.Growth.{StandFor}
use Rattle.slicing.specs.TwosComplement.{repeated}
use Rattle.functions.proofs.Handles.{stand_for_length, stand_for_at, stand_for_push}
use Rattle.slicing.proofs.SignedNumbers.{length_repeated}
use Rattle.slicing.specs.declared.Component.{Component}
use Rattle.slicing.specs.declared.Component.TheVariants.{A, B, C, D}
use Rattle.slicing.specs.Columns.{Column}
use Rattle.columns.specs.declared.four.Columns.{Columns}
use Rattle.columns.proofs.Standing.{as_many}
use Rattle.columns.proofs.Places.{repeated_push}
use Rattle.columns.specs.Columns.{handles_of, AllStand, TopsRepeated}

top_repeated : (v : Meaning) (hs : List ℕ) (ss : Column) → 1 ≤ length hs → StandFor v hs ss → StandFor v (repeated hs) (repeated ss)
top_repeated v hs ss some h =
    let k : ℕ = length hs - 1 in
    let e : length hs ≡ suc k = omega arith in
    let l : length ss ≡ suc k = stand_for_length v hs ss h ∙ e in
    rw (repeated_push hs 0 k e, repeated_push ss [] k l) (stand_for_push v hs ss (get_or hs k 0) (get_or ss k []) h (stand_for_at v hs ss k h (omega arith)))

-- the column of a component, in two of four columns, with its top slice once more
abbrev pub Repeats : {N : ℕ} → Columns N → Columns N → Component → Type 0
Repeats hs r k = handles_of r k ≡ repeated (handles_of hs k)

some_slices : {N : ℕ} (hs : Columns N) (k : Component) → 1 ≤ length (handles_of hs k)
some_slices hs k = omega (arith, hs.some, as_many hs k)

pub tops_repeated : {N : ℕ} (hs r : Columns N) → Repeats hs r A → Repeats hs r B → Repeats hs r C → Repeats hs r D → TopsRepeated hs r
unfolding AllStand
tops_repeated hs r a b c d = record {
  slices = ap length a ∙ length_repeated hs.a (omega (arith, hs.some));
  stand = λ v x h k. rw (each k) (top_repeated v (handles_of hs k) (x k) (some_slices hs k) (h k));
}
  where
    each : (k : Component) → Repeats hs r k
    each A = a
    each B = b
    each C = c
    each D = d

-- four columns with their top slices once more are again equally wide
pub level_tops : {N : ℕ} (hs : Columns N) → length hs.a < N
    → (N ≤ 24) × (1 ≤ length (repeated hs.a)) × (length (repeated hs.a) ≤ N) × (length (repeated hs.b) ≡ length (repeated hs.a)) × (length (repeated hs.c) ≡ length (repeated hs.a)) × (length (repeated hs.d) ≡ length (repeated hs.a))
level_tops hs room =
    let a = length_repeated hs.a (some_slices hs A) in
    let b = length_repeated hs.b (some_slices hs B) in
    let c = length_repeated hs.c (some_slices hs C) in
    let d = length_repeated hs.d (some_slices hs D) in
    rw (a, b, c, d) (hs.most, omega arith, omega (arith, room), ap suc hs.level.0, ap suc hs.level.1, ap suc hs.level.2)
