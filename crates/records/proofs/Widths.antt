-- The loop that finds the least width.
use Rattle.std.proofs.Common.{◌≡◌, ℕ, zero, suc, ◌+◌, ◌-◌, ◌<◌, ◌≤◌, Bool, true, false, ◌&&◌, List, [], length, get_or, Some, sym, ap, ◌∙◌, ap₂, add-one, arith}
use Rattle.std.proofs.lemmas.Bool.{cond-true, cond-false}
use Rattle.functions.specs.Meanings.{Meaning, Laws}
use Rattle.functions.specs.Growth.{StandFor}
use Rattle.functions.proofs.Handles.{stand_for_at}
use Rattle.slicing.specs.declared.Component.{Component}
use Rattle.slicing.specs.declared.Component.TheVariants.{A, B, C, D}
use Rattle.slicing.specs.Columns.{Column}
use Rattle.slicing.specs.Columns.{Columns as Four}
use Rattle.slicing.specs.Trimming.{same_next, all_same_next, trimmed_width}
use Rattle.columns.specs.declared.four.Columns.{Columns}
use Rattle.columns.specs.Columns.{handles_of, AllStand}
use Rattle.columns.proofs.Comparing.{same_by_handles}
use Rattle.records.specs.Records.{same_handles, all_same_handles, LeastWidth}
use Rattle.columns.proofs.Standing.{as_many}

-- handles tell whether two slices are equal
same_next_by_handles : (v : Meaning) → Laws v → (hs : List ℕ) (ss : Column) (j : ℕ) → j + 1 < length hs → StandFor v hs ss → same_handles hs j ≡ same_next ss j
unfolding same_next
same_next_by_handles v laws hs ss j l h =
    same_by_handles v laws (get_or hs j 0) (get_or hs (j + 1) 0) (get_or ss j []) (get_or ss (suc j) [])
    (stand_for_at v hs ss j h (omega arith))
    (stand_for_at v hs ss (j + 1) h l ∙ ap (λ (i : ℕ). Some (get_or ss i [])) (add-one j))

all_same_by_handles : (v : Meaning) → Laws v → (hs : Columns 24) (x : Four) (j : ℕ) → j + 1 < length hs.a → AllStand v hs x → all_same_handles hs j ≡ all_same_next x j
unfolding all_same_next AllStand
all_same_by_handles v laws hs x j l h =
    ap₂ ◌&&◌ (at A) (ap₂ ◌&&◌ (at B) (ap₂ ◌&&◌ (at C) (at D)))
  where
    at : (k : Component) → same_handles (handles_of hs k) j ≡ same_next (x k) j
    at k = same_next_by_handles v laws (handles_of hs k) (x k) j (omega (arith, l, as_many hs k)) (h k)

width_falls : (x : Four) (w : ℕ) → 1 < w → all_same_next x (w - 1 - 1) ≡ true → trimmed_width x w ≡ trimmed_width x (w - 1)
unfolding trimmed_width
width_falls x zero l e = absurd (let b : ⊥ = omega arith in b)
width_falls x (suc zero) l e = absurd (let b : ⊥ = omega arith in b)
width_falls x (suc (suc w)) l e =
    let p : suc (suc w) - 1 - 1 ≡ w = omega arith in
    let q : suc w ≡ suc (suc w) - 1 = omega arith in
    cond-true (all_same_next x w) (trimmed_width x (suc w)) (suc (suc w)) (ap (all_same_next x) (sym p) ∙ e) ∙ ap (trimmed_width x) q

width_stays : (x : Four) (w : ℕ) → 1 < w → all_same_next x (w - 1 - 1) ≡ false → trimmed_width x w ≡ w
unfolding trimmed_width
width_stays x zero l e = absurd (let b : ⊥ = omega arith in b)
width_stays x (suc zero) l e = absurd (let b : ⊥ = omega arith in b)
width_stays x (suc (suc w)) l e =
    let p : suc (suc w) - 1 - 1 ≡ w = omega arith in
    cond-false (all_same_next x w) (trimmed_width x (suc w)) (suc (suc w)) (ap (all_same_next x) (sym p) ∙ e)

-- Trimming from w slices on gives what trimming from all gives.
unfoldable pub Trimming : Columns 24 → ℕ → Type 0
Trimming hs w = (v : Meaning) (x : Four) → Laws v → AllStand v hs x → trimmed_width x (length hs.a) ≡ trimmed_width x w

pub trimming_none : (hs : Columns 24) (w : ℕ) → w ≡ length hs.a → Trimming hs w
unfolding Trimming
trimming_none hs w e v x laws h = ap (trimmed_width x) (sym e)

module _ (hs : Columns 24) (w : ℕ) (above : 1 < w) (few : w ≤ length hs.a) (b : Bool) (e : b ≡ all_same_handles hs (w - 1 - 1)) (t : Trimming hs w) where
  told : (v : Meaning) (x : Four) → Laws v → AllStand v hs x → all_same_next x (w - 1 - 1) ≡ b
  told v x laws h = sym (all_same_by_handles v laws hs x (w - 1 - 1) (omega arith) h) ∙ sym e

  pub trimming_more : b ≡ true → Trimming hs (w - 1)
  unfolding Trimming
  trimming_more is v x laws h = t v x laws h ∙ width_falls x w above (told v x laws h ∙ is)

  pub trimming_stays : (width : ℕ) → width ≡ w → b ≡ false → LeastWidth hs width
  unfolding Trimming LeastWidth
  trimming_stays width same is v x laws h = same ∙ sym (t v x laws h ∙ width_stays x w above (told v x laws h ∙ is))

-- where one slice is left, it stays
pub trimming_one : (hs : Columns 24) (w : ℕ) → w ≡ 1 → Trimming hs w → LeastWidth hs 1
unfolding Trimming LeastWidth trimmed_width
trimming_one hs w e t v x laws h = sym (t v x laws h ∙ ap (trimmed_width x) e)
