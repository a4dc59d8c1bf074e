-- The loop of an opening: what was made, and that what is left gives the whole.
use Rattle.std.proofs.Common.{◌≡◌, ℕ, suc, ◌+◌, ◌-◌, ◌/◌, ◌%◌, ◌^◌, ◌<◌, ◌≤◌, Bool, true, false, eqb, List, [], ◌∷◌, ◌++◌, length, replicate, Some, Ok, Err, Option, Result, sym, refl, ap, ◌∙◌, subst, append_assoc, arith, shr-shr}
use Rattle.std.proofs.lemmas.List.{append-nil}
use Rattle.exact.specs.Indices.{Index, bits, bit}
use Rattle.exact.proofs.Tables.{length_bits, highest_first}
use Rattle.functions.specs.declared.faults.StoreFault.{StoreFault}
use Rattle.functions.specs.Tables.{Table, constant, literal, choice}
use Rattle.functions.specs.Meanings.{Setting, Meaning, qubits_of, under}
use Rattle.functions.specs.Growth.{Grew, Stopped, Built, StandFor}
use Rattle.functions.specs.Answers.{Made, literal_asked, combine_asked}
use Rattle.functions.proofs.NamedRules.{combined_202}
use Rattle.functions.proofs.Growth.{grew_none, grew_then, stopped_after, stopped_before}
use Rattle.functions.proofs.Handles.{under_0, under_1}
use Rattle.functions.proofs.Asked.{combination}
use Rattle.matrices.specs.Registers.{opened}
use Rattle.slicing.specs.declared.Component.{Component}
use Rattle.slicing.specs.declared.Component.TheVariants.{A, B, C, D}
use Rattle.slicing.specs.Operations.{zero_column}
use Rattle.recipes.specs.Plans.{columns_of_state, narrowed, opening_from, product_from, opening_plan, opening_product, opened_columns}
use Rattle.recipes.proofs.Openings.{opened_width, opened_columns_are}
use Rattle.columns.proofs.Making.{literal_made}
use Rattle.columns.specs.Columns.{AllStand}
use Rattle.records.specs.declared.record.Record.{Record}
use Rattle.records.specs.Records.{recorded, RecordStands}
use Rattle.gate_records.specs.Moves.{Narrowed, ProductMade, RegisterOpened}

-- ---- one factor
module _ (v w : Meaning) (hf hl : ℕ) (r : Result ℕ StoreFault) where
  pub narrowed_to_1 : Made v w (combine_asked v 202 hl hf 0) r → Narrowed v w hf hl true r
  unfolding Narrowed narrowed
  narrowed_to_1 m f q kf kl =
      let n = qubits_of v in
      combination v v w 202 hl hf 0 (literal n q) f (constant n false) (choice n (literal n q) f (constant n false)) r refl kl kf (under_0 v) (combined_202 n (literal n q) f (constant n false)) m

  pub narrowed_to_0 : Made v w (combine_asked v 202 hl 0 hf) r → Narrowed v w hf hl false r
  unfolding Narrowed narrowed
  narrowed_to_0 m f q kf kl =
      let n = qubits_of v in
      combination v v w 202 hl 0 hf (literal n q) (constant n false) f (choice n (literal n q) (constant n false) f) r refl kl (under_0 v) kf (combined_202 n (literal n q) (constant n false) f) m

-- ---- the loop
-- So far: what was made, the product f under its handle, and the bits of the number that are left.
pub record Opening (v w : Meaning) (i product rest q : ℕ) : Type 0 where
  pub made : List Table
  pub f : Table
  pub within : q ≤ qubits_of v
  pub grew : Grew v w made
  pub stands : under w product ≡ Some f
  pub left_bits : rest ≡ i / 2 ^ (qubits_of v - q)
  pub left_plan : opening_plan (qubits_of v) (bits (qubits_of v) i) ≡ made ++ opening_from (qubits_of v) (bits (qubits_of v) i) q f
  pub left_product : opening_product (qubits_of v) (bits (qubits_of v) i) ≡ product_from (qubits_of v) (bits (qubits_of v) i) q f

pub opening_none : (v : Meaning) (i q : ℕ) → q ≡ qubits_of v → Opening v v i 1 i q
unfolding opening_plan opening_product
opening_none v i q e =
    let n = qubits_of v in
    let z : 0 ≡ n - q = omega arith in
    let one : i ≡ i / 2 ^ 0 = omega arith in
    record {
      made = [];
      f = constant n true;
      within = omega arith;
      grew = grew_none v;
      stands = under_1 v;
      left_bits = one ∙ ap (λ (k : ℕ). i / 2 ^ k) z;
      left_plan = ap (λ (k : ℕ). opening_from n (bits n i) k (constant n true)) (sym e);
      left_product = ap (λ (k : ℕ). product_from n (bits n i) k (constant n true)) (sym e);
    }

pub opening_done : (v w : Meaning) (i product rest q : ℕ) → q ≡ 0 → Opening v w i product rest q → ProductMade v w i (Ok product)
unfolding ProductMade Built opening_from product_from
opening_done v w i product rest q e a =
    let n = qubits_of v in (
      subst (λ (l : List Table). Grew v w l) (sym (a.left_plan ∙ ap (λ (k : ℕ). a.made ++ opening_from n (bits n i) k a.f) e ∙ append-nil a.made)) a.grew,
      a.stands ∙ ap Some (sym (a.left_product ∙ ap (λ (k : ℕ). product_from n (bits n i) k a.f) e)),
    )

module _ (v u t w : Meaning) (i product rest q : ℕ) (above : 0 < q) (a : Opening v u i product rest q) where
  below : q ≡ suc (q - 1)
  below = omega arith

  inside : q - 1 < qubits_of v
  inside = let l : q ≤ qubits_of v = a.within in omega arith

  -- the bit of qubit q−1 is the lowest that is left
  here : bit (bits (qubits_of v) i) (q - 1) ≡ eqb (rest % 2) 1
  here =
      let l : q ≤ qubits_of v = a.within in
      let e : qubits_of v - 1 - (q - 1) ≡ qubits_of v - q = omega arith in
      highest_first (qubits_of v) (q - 1) i inside ∙ ap (λ (k : ℕ). eqb (i / 2 ^ k % 2) 1) e ∙ ap (λ (k : ℕ). eqb (k % 2) 1) (sym a.left_bits)

  fewer : rest / 2 ≡ i / 2 ^ (qubits_of v - (q - 1))
  fewer =
      let l : q ≤ qubits_of v = a.within in
      let e : qubits_of v - q + 1 ≡ qubits_of v - (q - 1) = omega arith in
      ap (λ (k : ℕ). k / 2) a.left_bits ∙ shr-shr i (qubits_of v - q) 1 ∙ ap (λ (k : ℕ). i / 2 ^ k) e

  plan_below : opening_from (qubits_of v) (bits (qubits_of v) i) q a.f ≡ literal (qubits_of v) (q - 1) ∷ (narrowed (qubits_of v) a.f (q - 1) (eqb (rest % 2) 1) ∷ opening_from (qubits_of v) (bits (qubits_of v) i) (q - 1) (narrowed (qubits_of v) a.f (q - 1) (eqb (rest % 2) 1)))
  unfolding opening_from
  plan_below =
      ap (λ (k : ℕ). opening_from (qubits_of v) (bits (qubits_of v) i) k a.f) below
      ∙ ap (λ (b : Bool). literal (qubits_of v) (q - 1) ∷ (narrowed (qubits_of v) a.f (q - 1) b ∷ opening_from (qubits_of v) (bits (qubits_of v) i) (q - 1) (narrowed (qubits_of v) a.f (q - 1) b))) here

  product_below : product_from (qubits_of v) (bits (qubits_of v) i) q a.f ≡ product_from (qubits_of v) (bits (qubits_of v) i) (q - 1) (narrowed (qubits_of v) a.f (q - 1) (eqb (rest % 2) 1))
  unfolding product_from
  product_below =
      ap (λ (k : ℕ). product_from (qubits_of v) (bits (qubits_of v) i) k a.f) below
      ∙ ap (λ (b : Bool). product_from (qubits_of v) (bits (qubits_of v) i) (q - 1) (narrowed (qubits_of v) a.f (q - 1) b)) here

  literal_here : (r : Result ℕ StoreFault) → Made u t (literal_asked u (record { 0 = q - 1 })) r → Built u t (literal (qubits_of v) (q - 1) ∷ []) r (λ k. under t k ≡ Some (literal (qubits_of v) (q - 1)))
  literal_here r m = literal_made v u t (record { 0 = q - 1 }) r a.grew.setting inside m

  pub opening_stopped_literal : (e : StoreFault) → Made u t (literal_asked u (record { 0 = q - 1 })) (Err e) → ProductMade v t i (Err e)
  unfolding ProductMade Built
  opening_stopped_literal e m =
      subst (λ (l : List Table). Stopped v t l e) (sym (a.left_plan ∙ ap (λ (l : List Table). a.made ++ l) plan_below))
      (stopped_after a.made _ a.grew (stopped_before (literal (qubits_of v) (q - 1) ∷ []) _ (literal_here (Err e) m)))

  module _ (hl : ℕ) (m₁ : Made u t (literal_asked u (record { 0 = q - 1 })) (Ok hl)) where
    lit : Grew u t (literal (qubits_of v) (q - 1) ∷ []) × (under t hl ≡ Some (literal (qubits_of v) (q - 1)))
    unfolding Built
    lit = literal_here (Ok hl) m₁

    factor : (r : Result ℕ StoreFault) (b : Bool) → b ≡ eqb (rest % 2) 1 → Narrowed t w product hl b r
        → Built t w (narrowed (qubits_of v) a.f (q - 1) (eqb (rest % 2) 1) ∷ []) r (λ h. under w h ≡ Some (narrowed (qubits_of v) a.f (q - 1) (eqb (rest % 2) 1)))
    unfolding Narrowed
    factor r b e m =
        let s : t.setting ≡ v.setting = lit.0.setting ∙ a.grew.setting in
        subst (λ (c : Bool). Built t w (narrowed (qubits_of v) a.f (q - 1) c ∷ []) r (λ h. under w h ≡ Some (narrowed (qubits_of v) a.f (q - 1) c))) e
        (subst (λ (z : Setting). Built t w (narrowed z.qubits a.f (q - 1) b ∷ []) r (λ h. under w h ≡ Some (narrowed z.qubits a.f (q - 1) b))) s
        (m a.f (q - 1) (lit.0.keeps product a.f a.stands) (lit.1 ∙ ap (λ (z : Setting). Some (literal z.qubits (q - 1))) (sym s))))

    pub opening_stopped_factor : (e : StoreFault) (b : Bool) → b ≡ eqb (rest % 2) 1 → Narrowed t w product hl b (Err e) → ProductMade v w i (Err e)
    unfolding ProductMade Built
    opening_stopped_factor e b eb m =
        subst (λ (l : List Table). Stopped v w l e) (sym (a.left_plan ∙ ap (λ (l : List Table). a.made ++ l) plan_below))
        (stopped_after a.made _ a.grew (stopped_after (literal (qubits_of v) (q - 1) ∷ []) _ lit.0 (stopped_before (narrowed (qubits_of v) a.f (q - 1) (eqb (rest % 2) 1) ∷ []) _ (factor (Err e) b eb m))))

    pub opening_more : (next : ℕ) (b : Bool) → b ≡ eqb (rest % 2) 1 → Narrowed t w product hl b (Ok next) → Opening v w i next (rest / 2) (q - 1)
    unfolding Built
    opening_more next b eb m =
        let n = qubits_of v in
        let l : q ≤ qubits_of v = a.within in
        let g : Table = narrowed n a.f (q - 1) (eqb (rest % 2) 1) in
        let c : Grew t w (g ∷ []) × (under w next ≡ Some g) = factor (Ok next) b eb m in
        record {
          made = a.made ++ (literal n (q - 1) ∷ (g ∷ []));
          f = g;
          within = omega arith;
          grew = grew_then a.made (literal n (q - 1) ∷ (g ∷ [])) a.grew (grew_then (literal n (q - 1) ∷ []) (g ∷ []) lit.0 c.0);
          stands = c.1;
          left_bits = fewer;
          left_plan = a.left_plan ∙ ap (λ (l : List Table). a.made ++ l) plan_below ∙ sym (append_assoc a.made (literal n (q - 1) ∷ (g ∷ [])) _);
          left_product = a.left_product ∙ product_below;
        }

-- ---- the opened register
pub open_stopped : (v w : Meaning) (i : ℕ) (e : StoreFault) → ProductMade v w i (Err e) → RegisterOpened v w i (Err e)
unfolding ProductMade RegisterOpened Built
open_stopped v w i e m = m

zeros_stand : (v : Meaning) (n : ℕ) → n ≡ qubits_of v → StandFor v (replicate 2 0) (zero_column n 2)
unfolding StandFor zero_column under
zeros_stand v n e = ap (λ (m : ℕ). Some (constant m false) ∷ (Some (constant m false) ∷ [])) (sym e)

product_stands : (v : Meaning) (n h : ℕ) (f : Table) → n ≡ qubits_of v → under v h ≡ Some f → StandFor v (h ∷ (0 ∷ [])) (f ∷ (constant n false ∷ []))
unfolding StandFor
product_stands v n h f e k =
    ap (λ (o : Option Table). o ∷ (under v 0 ∷ [])) k ∙ ap (λ (o : Option Table). Some f ∷ (o ∷ [])) (under_0 v ∙ ap (λ (m : ℕ). Some (constant m false)) (sym e))

opened_power : (n : ℕ) (x : Index) → 0 ≡ (opened n x).power.0
unfolding opened
opened_power n x = refl

module _ (v w : Meaning) (i h : ℕ) (m : ProductMade v w i (Ok h)) (r : Record) (zero_power : r.power.0 ≡ 0)
    (ea : r.handles.a ≡ replicate 2 0) (eb : r.handles.b ≡ replicate 2 0) (ec : r.handles.c ≡ replicate 2 0) (ed : r.handles.d ≡ h ∷ (0 ∷ [])) where
  product : Grew v w (opening_plan (qubits_of v) (bits (qubits_of v) i)) × (under w h ≡ Some (opening_product (qubits_of v) (bits (qubits_of v) i)))
  unfolding ProductMade Built
  product = m

  same : qubits_of v ≡ qubits_of w
  same = ap (λ (s : Setting). s.qubits) (sym product.0.setting)

  two_stand : (k : Component) → StandFor w (recorded r k) (opened_columns (qubits_of v) (bits (qubits_of v) i) k)
  two_stand A = rw ea (zeros_stand w (qubits_of v) same)
  two_stand B = rw eb (zeros_stand w (qubits_of v) same)
  two_stand C = rw ec (zeros_stand w (qubits_of v) same)
  two_stand D = rw ed (product_stands w (qubits_of v) h _ same product.1)

  pub open_done : RegisterOpened v w i (Ok r)
  unfolding RegisterOpened Built RecordStands AllStand
  open_done =
      let n = qubits_of v in
      let x = bits n i in
      let l : length x ≡ n = length_bits n i in (
        product.0,
        record {
          powered = zero_power ∙ opened_power n x;
          wide = ap length ea ∙ sym (opened_width n x l);
          stand = λ k. subst (λ (c : List Table). StandFor w (recorded r k) c) (opened_columns_are n x l k ∙ ap (λ (j : ℕ). columns_of_state j (opened n x) k) same) (two_stand k);
        },
      )
