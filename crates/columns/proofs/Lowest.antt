-- The lowest slices of columns.
use Rattle.std.proofs.Common.{◌≡◌, ℕ, ◌≤◌, List, length, take, Some, sym, ap, ◌∙◌, arith}
use Rattle.std.proofs.lemmas.List.{length-take-le, length-append, length-replicate, take-append-le, take-map}
use Rattle.std.proofs.Math.Seq.{take-append_seam}
use Rattle.functions.specs.Meanings.{Meaning, under}
use Rattle.functions.specs.Growth.{StandFor}
use Rattle.slicing.specs.declared.Component.{Component}
use Rattle.slicing.specs.declared.Component.TheVariants.{A, B, C, D}
use Rattle.slicing.specs.Columns.{Column}
use Rattle.slicing.specs.Columns.{Columns as Four}
use Rattle.columns.specs.declared.four.Columns.{Columns}
use Rattle.columns.specs.Columns.{handles_of, AllStand, places, LowestSlices}
use Rattle.columns.proofs.Standing.{as_many}

-- fewer handles stand for fewer slices
stands_fewer : (v : Meaning) (w : ℕ) (hs : List ℕ) (ss : Column) → StandFor v hs ss → StandFor v (take w hs) (take w ss)
unfolding StandFor
stands_fewer v w hs ss h = sym (take-map (under v) w hs) ∙ ap (take w) h ∙ take-map Some w ss

-- within its slices, the places of a column are its handles
lowest_places : (n w : ℕ) (hs : List ℕ) → w ≤ length hs → take w (places n hs) ≡ take w hs
lowest_places n w hs l = take-append-le w hs _ l

-- a column has n places
width_of_places : (n w : ℕ) (hs : List ℕ) → w ≤ n → length (take w (places n hs)) ≡ w
width_of_places n w hs l = length-take-le w (places n hs) (simp (length-append, length-replicate) (omega (arith, l)))

pub lowest_slices : {N M : ℕ} (hs : Columns N) (width : ℕ) (r : Columns M) → width ≤ N
    → r.a ≡ take width (places N hs.a) → r.b ≡ take width (places N hs.b) → r.c ≡ take width (places N hs.c) → r.d ≡ take width (places N hs.d) → LowestSlices hs width r
lowest_slices {N = N} hs width r l a b c d = record { slices = ap length a ∙ width_of_places N width hs.a l; lowest = lowest }
  where
    lowest : (k : Component) → handles_of r k ≡ take width (places N (handles_of hs k))
    lowest A = a
    lowest B = b
    lowest C = c
    lowest D = d

module _ {N M : ℕ} (hs : Columns N) (width : ℕ) (r : Columns M) (cut : LowestSlices hs width r) where
  -- they stand for the lowest slices
  pub lowest_stand : (v : Meaning) (x : Four) → width ≤ length hs.a → AllStand v hs x → AllStand v r (λ k. take width (x k))
  unfolding AllStand
  lowest_stand v x l h k =
      rw (cut.lowest k, lowest_places N width (handles_of hs k) (omega (arith, l, as_many hs k))) (stands_fewer v width (handles_of hs k) (x k) (h k))

  -- as many as there are, they are all
  pub all_slices : width ≡ length hs.a → (k : Component) → handles_of r k ≡ handles_of hs k
  all_slices e k = cut.lowest k ∙ ap (λ (w : ℕ). take w (places N (handles_of hs k))) (e ∙ sym (as_many hs k)) ∙ take-append_seam (handles_of hs k) _
