-- Records compared: power and handles tell the rest.
use Rattle.std.proofs.Common.{◌≡◌, ℕ, ◌-◌, ◌≤◌, Bool, ◌&&◌, eqb, List, ◌++◌, length, take, replicate, Decides, sym, refl, ap, ap₂, ◌∙◌}
use Rattle.std.specs.Coded.{le_prop}
use Rattle.std.proofs.Math.Nat.{ℕ_set}
use Rattle.std.proofs.Math.Seq.{take-append_seam}
use Rattle.std.proofs.lemmas.Bool.Decides.{Decides-at, Decides-like, Decides-and, Decides-eqb}
use Rattle.std.proofs.lemmas.Slice.Eq.{slice_eq-Decides}
use Rattle.std.specs.Cmp.Lexicographic.{pointwise}
use mathlib.Core.HLevel.{is_prop→PathP}
use Rattle.slicing.specs.declared.Component.{Component}
use Rattle.slicing.specs.declared.Component.TheVariants.{A, B, C, D}
use Rattle.columns.specs.declared.four.Columns.{Columns}
use Rattle.columns.specs.Columns.{handles_of}
use Rattle.records.specs.declared.record.Record.{Record}
use Rattle.records.specs.Records.{recorded}

same_columns : {N : ℕ} (x y : Columns N) → ((k : Component) → handles_of x k ≡ handles_of y k) → x ≡ y
same_columns {N = N} x y h = λ i. record {
  a = h A i;
  b = h B i;
  c = h C i;
  d = h D i;
  most = le_prop x.most y.most i;
  some = is_prop→PathP (λ j. 1 ≤ length (h A j)) (λ j. le_prop) x.some y.some i;
  few = is_prop→PathP (λ j. length (h A j) ≤ N) (λ j. le_prop) x.few y.few i;
  level = is_prop→PathP (λ j. (length (h B j) ≡ length (h A j)) × (length (h C j) ≡ length (h A j)) × (length (h D j) ≡ length (h A j)))
      (λ j u v k. (ℕ_set _ _ u.0 v.0 k, ℕ_set _ _ u.1 v.1 k, ℕ_set _ _ u.2 v.2 k)) x.level y.level i;
}

pub same_value : (x y : Record) → x.power.0 ≡ y.power.0 → ((k : Component) → recorded x k ≡ recorded y k) → x ≡ y
same_value x y p h = λ i. record {
  power = record { 0 = p i };
  handles = same_columns x.handles y.handles h i;
  low = is_prop→PathP (λ j. p j ≤ 40) (λ j. le_prop) x.low y.low i;
}

-- columns are compared by all of their places and their numbers of slices
abbrev pub same_column : List ℕ → List ℕ → Bool
same_column xs ys = pointwise eqb (xs ++ replicate (22 - length xs) 0) (ys ++ replicate (22 - length ys) 0) && eqb (length xs) (length ys)

column_told : (xs ys : List ℕ) → Decides (same_column xs ys) (xs ≡ ys)
column_told xs ys =
    Decides-like _
    (λ e. sym (take-append_seam xs _) ∙ ap₂ (λ (l : List ℕ) (n : ℕ). take n l) e.0 e.1 ∙ take-append_seam ys _)
    (λ e. (ap (λ (l : List ℕ). l ++ replicate (22 - length l) 0) e, ap length e))
    (Decides-and _ _ (slice_eq-Decides Decides-eqb _ _ _ refl) (Decides-eqb _ _))

pub told_same : (x y : Record) (r : Bool) → r ≡ (eqb x.power.0 y.power.0 && (same_column x.handles.a y.handles.a && (same_column x.handles.b y.handles.b && (same_column x.handles.c y.handles.c && same_column x.handles.d y.handles.d)))) → Decides r (x ≡ y)
told_same x y r e =
    Decides-at r _ e
    (Decides-like _ (λ p. same_value x y p.0 (handles p.1)) (λ q. (ap (λ (z : Record). z.power.0) q, (ap (λ (z : Record). z.handles.a) q, (ap (λ (z : Record). z.handles.b) q, (ap (λ (z : Record). z.handles.c) q, ap (λ (z : Record). z.handles.d) q)))))
    (Decides-and _ _ (Decides-eqb _ _) (Decides-and _ _ (column_told x.handles.a y.handles.a) (Decides-and _ _ (column_told x.handles.b y.handles.b) (Decides-and _ _ (column_told x.handles.c y.handles.c) (column_told x.handles.d y.handles.d))))))
  where
    handles : (x.handles.a ≡ y.handles.a) × ((x.handles.b ≡ y.handles.b) × ((x.handles.c ≡ y.handles.c) × (x.handles.d ≡ y.handles.d))) → (k : Component) → recorded x k ≡ recorded y k
    handles h A = h.0
    handles h B = h.1.0
    handles h C = h.1.1.0
    handles h D = h.1.1.1
