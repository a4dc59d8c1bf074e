-- A division by √2, from what its sums answered.
use Rattle.std.proofs.Common.{◌≡◌, ℕ, Bool, true, false, List, [], ◌∷◌, ◌++◌, map, drop, Some, Ok, Err, Result, sym, ap, ◌∙◌}
use Rattle.std.proofs.lemmas.List.{drop-map}
use Rattle.functions.specs.declared.faults.StoreFault.{StoreFault}
use Rattle.functions.specs.Tables.{Table, constant}
use Rattle.functions.specs.Meanings.{Setting, Meaning, Laws, qubits_of, under}
use Rattle.functions.specs.Growth.{Grew, Built, StandFor}
use Rattle.functions.proofs.Growth.{grew_none, grew_then, built_after}
use Rattle.functions.proofs.Handles.{under_0, under_1, grew_again}
use Rattle.slicing.specs.declared.Component.{Component}
use Rattle.slicing.specs.declared.Component.TheVariants.{A, B, C, D}
use Rattle.slicing.specs.Columns.{Column}
use Rattle.slicing.specs.Columns.{Columns as Four}
use Rattle.slicing.specs.Operations.{all_repeated, sums_plan, addition_plan}
use Rattle.slicing.specs.Divisions.{root_sum, summed, summed_plan, divided}
use Rattle.columns.specs.declared.four.Columns.{Columns}
use Rattle.columns.specs.Columns.{handles_of, AllStand, ColumnBuilt, ColumnsAdded, TopsRepeated}
use Rattle.columns.proofs.Standing.{all_keep}
use Rattle.columns.proofs.Later.{added_later}
use Rattle.columns.proofs.InTurn.{stopped_in_a, stopped_in_b, stopped_in_c, stopped_in_d, all_four, four_stand}
use Rattle.reductions.specs.Reductions.{division_plan, ColumnsDivided}

-- the handle of a constant
abbrev pub constant_handle : Bool → ℕ
constant_handle false = 0
constant_handle true = 1

under_constant : (m : Meaning) (b : Bool) → under m (constant_handle b) ≡ Some (constant (qubits_of m) b)
under_constant m false = under_0 m
under_constant m true = under_1 m

-- a sum or difference of two columns, in a store with the setting of v
module _ (v u w : Meaning) (fs : List Table) (laws : Laws u) (g : Grew v u fs) (hs : Columns 24) where
  pub summed_later : (k : Component) (r : Result (List ℕ) StoreFault) → ColumnsAdded u w (handles_of hs (root_sum k).first) (handles_of hs (root_sum k).second) (constant_handle (root_sum k).minus) r
      → (x : Four) → AllStand v hs x → ColumnBuilt u w (summed_plan (qubits_of v) x (root_sum k)) (summed (qubits_of v) x (root_sum k)) r
  unfolding summed summed_plan addition_plan AllStand
  summed_later k r m x h =
      let n = qubits_of v in
      let s = root_sum k in
      let e : Table = constant n s.minus in
      let here : under u (constant_handle s.minus) ≡ Some e = under_constant u s.minus ∙ ap (λ (t : Setting). Some (constant t.qubits s.minus)) g.setting in
      let x' : (j : Component) → StandFor u (handles_of hs j) (x j) = all_keep v u fs g hs x h in
      built_after _ u u w (e ∷ []) (sums_plan n e e (x s.first) (x s.second)) r (grew_again u (constant_handle s.minus) e laws here)
      (added_later v u w fs (handles_of hs s.first) (handles_of hs s.second) (constant_handle s.minus) r g m (x s.first) (x s.second) e (x' s.first) (x' s.second) here)

-- what the division of x makes for a component, and the sum before its lowest slice goes
abbrev plan : ℕ → Four → Component → List Table
plan n x k = summed_plan n (all_repeated x) (root_sum k)

abbrev sum : ℕ → Four → Component → Column
sum n x k = summed n (all_repeated x) (root_sum k)

-- a sum without its lowest slice
half : (w : Meaning) (n : ℕ) (x : Four) (k : Component) (h out : List ℕ) → out ≡ drop 1 h → StandFor w h (sum n x k) → StandFor w out (divided n x k)
unfolding divided StandFor
half w n x k h out e st = ap (map (under w)) e ∙ sym (drop-map (under w) 1 h) ∙ ap (drop 1) st ∙ drop-map Some 1 (sum n x k)

module _ (v w₁ w₂ w₃ w₄ : Meaning) (hs rs : Columns 24) (tops : TopsRepeated hs rs) (l₀ : Laws v) where
  pub divide_stopped_a : (e : StoreFault) → ColumnsAdded v w₁ rs.b rs.d 1 (Err e) → ColumnsDivided v w₁ hs (Err e)
  unfolding ColumnsDivided division_plan Built
  divide_stopped_a e m x h = stopped_in_a (plan (qubits_of v) x) [] (summed_later v v w₁ [] l₀ (grew_none v) rs A (Err e) m (all_repeated x) (tops.stand v x h))

  module _ (ha : List ℕ) (ma : ColumnsAdded v w₁ rs.b rs.d 1 (Ok ha)) (l₁ : Laws w₁) where
    made_a : (x : Four) → AllStand v hs x → Grew v w₁ (plan (qubits_of v) x A) × StandFor w₁ ha (sum (qubits_of v) x A)
    unfolding Built
    made_a x h = summed_later v v w₁ [] l₀ (grew_none v) rs A (Ok ha) ma (all_repeated x) (tops.stand v x h)

    pub divide_stopped_b : (e : StoreFault) → ColumnsAdded w₁ w₂ rs.a rs.c 0 (Err e) → ColumnsDivided v w₂ hs (Err e)
    unfolding ColumnsDivided division_plan Built
    divide_stopped_b e m x h =
        let a = (made_a x h).0 in
        stopped_in_b (plan (qubits_of v) x) [] a (summed_later v w₁ w₂ _ l₁ a rs B (Err e) m (all_repeated x) (tops.stand v x h))

    module _ (hb : List ℕ) (mb : ColumnsAdded w₁ w₂ rs.a rs.c 0 (Ok hb)) (l₂ : Laws w₂) where
      made_b : (x : Four) → AllStand v hs x → Grew w₁ w₂ (plan (qubits_of v) x B) × StandFor w₂ hb (sum (qubits_of v) x B)
      unfolding Built
      made_b x h = summed_later v w₁ w₂ _ l₁ (made_a x h).0 rs B (Ok hb) mb (all_repeated x) (tops.stand v x h)

      until_b : (x : Four) → AllStand v hs x → Grew v w₂ (plan (qubits_of v) x A ++ plan (qubits_of v) x B)
      until_b x h = grew_then _ _ (made_a x h).0 (made_b x h).0

      pub divide_stopped_c : (e : StoreFault) → ColumnsAdded w₂ w₃ rs.b rs.d 0 (Err e) → ColumnsDivided v w₃ hs (Err e)
      unfolding ColumnsDivided division_plan Built
      divide_stopped_c e m x h =
          stopped_in_c (plan (qubits_of v) x) [] (made_a x h).0 (made_b x h).0
          (summed_later v w₂ w₃ _ l₂ (until_b x h) rs C (Err e) m (all_repeated x) (tops.stand v x h))

      module _ (hc : List ℕ) (mc : ColumnsAdded w₂ w₃ rs.b rs.d 0 (Ok hc)) (l₃ : Laws w₃) where
        made_c : (x : Four) → AllStand v hs x → Grew w₂ w₃ (plan (qubits_of v) x C) × StandFor w₃ hc (sum (qubits_of v) x C)
        unfolding Built
        made_c x h = summed_later v w₂ w₃ _ l₂ (until_b x h) rs C (Ok hc) mc (all_repeated x) (tops.stand v x h)

        until_c : (x : Four) → AllStand v hs x → Grew v w₃ ((plan (qubits_of v) x A ++ plan (qubits_of v) x B) ++ plan (qubits_of v) x C)
        until_c x h = grew_then _ _ (until_b x h) (made_c x h).0

        pub divide_stopped_d : (e : StoreFault) → ColumnsAdded w₃ w₄ rs.c rs.a 1 (Err e) → ColumnsDivided v w₄ hs (Err e)
        unfolding ColumnsDivided division_plan Built
        divide_stopped_d e m x h =
            stopped_in_d (plan (qubits_of v) x) [] (made_a x h).0 (made_b x h).0 (made_c x h).0
            (summed_later v w₃ w₄ _ l₃ (until_c x h) rs D (Err e) m (all_repeated x) (tops.stand v x h))

        -- y has the handles of all four sums without the lowest
        pub divide_made : (hd : List ℕ) → ColumnsAdded w₃ w₄ rs.c rs.a 1 (Ok hd) → (y : Columns 24)
            → y.a ≡ drop 1 ha → y.b ≡ drop 1 hb → y.c ≡ drop 1 hc → y.d ≡ drop 1 hd → ColumnsDivided v w₄ hs (Ok y)
        unfolding ColumnsDivided division_plan Built
        divide_made hd m y ea eb ec ed x h =
            let n = qubits_of v in
            let a = made_a x h in
            let b = made_b x h in
            let c = made_c x h in
            let d : Grew w₃ w₄ (plan (qubits_of v) x D) × StandFor w₄ hd (sum (qubits_of v) x D) = summed_later v w₃ w₄ _ l₃ (until_c x h) rs D (Ok hd) m (all_repeated x) (tops.stand v x h) in (
              all_four (plan (qubits_of v) x) [] a.0 b.0 c.0 d.0 (grew_none w₄),
              four_stand w₁ w₂ w₃ w₄ _ _ _ b.0 c.0 d.0 y (divided (qubits_of v) x)
                  (half w₁ n x A ha y.a ea a.1) (half w₂ n x B hb y.b eb b.1)
                  (half w₃ n x C hc y.c ec c.1) (half w₄ n x D hd y.d ed d.1),
            )
