-- The loop that adds two columns: what was made, and that what is left gives the whole.
use Rattle.std.proofs.Common.{◌≡◌, ℕ, ◌+◌, ◌<◌, min, List, [], ◌∷◌, ◌++◌, length, get_or, drop, Some, Ok, Err, Result, sym, refl, ap, ◌∙◌, subst, ap₂, append_assoc, arith, length-drop}
use Rattle.std.proofs.lemmas.List.{drop_more, append-nil}
use Rattle.functions.specs.declared.faults.StoreFault.{StoreFault}
use Rattle.functions.specs.Tables.{Table}
use Rattle.functions.specs.Meanings.{Setting, Meaning, qubits_of, under}
use Rattle.functions.specs.Growth.{Grew, Stopped, Built, StandFor}
use Rattle.functions.proofs.Growth.{grew_none, grew_then, stopped_after, stopped_before}
use Rattle.functions.proofs.Handles.{stand_for_none, stand_for_length, stand_for_at, stand_for_keeps, stand_for_push}
use Rattle.adder.specs.declared.SliceSum.{SliceSum}
use Rattle.adder.specs.Slices.{slice_sum, next_carry, slice_plan, SumOf, SliceAdded}
use Rattle.slicing.specs.Columns.{Column}
use Rattle.slicing.specs.Operations.{sums_from, sums_plan, added}
use Rattle.columns.specs.Columns.{ColumnsAdded}

-- Before slice i: what was made, the sums so far, and the carry.
pub record Summing (v w : Meaning) (e : Table) (ps qs : Column) (sums : List ℕ) (carry i : ℕ) : Type 0 where
  pub made : List Table
  pub so_far : Column
  pub c : Table
  pub grew : Grew v w made
  pub carries : under w carry ≡ Some c
  pub stand : StandFor w sums so_far
  pub left_plan : sums_plan (qubits_of v) e e ps qs ≡ made ++ sums_plan (qubits_of v) e c (drop i ps) (drop i qs)
  pub left_sums : sums_from (qubits_of v) e e ps qs ≡ so_far ++ sums_from (qubits_of v) e c (drop i ps) (drop i qs)

unfoldable pub Adding : Meaning → Meaning → List ℕ → List ℕ → ℕ → List ℕ → ℕ → ℕ → Type 0
Adding v w hp hq he sums carry i = (ps qs : Column) (e : Table) → StandFor v hp ps → StandFor v hq qs → under v he ≡ Some e → Summing v w e ps qs sums carry i

pub adding_none : (v : Meaning) (hp hq : List ℕ) (he : ℕ) → Adding v v hp hq he [] he 0
unfolding Adding
adding_none v hp hq he ps qs e kp kq ke = record {
  made = [];
  so_far = [];
  c = e;
  grew = grew_none v;
  carries = ke;
  stand = stand_for_none v;
  left_plan = refl;
  left_sums = refl;
}

module _ (v w x : Meaning) (hp hq : List ℕ) (he : ℕ) (sums : List ℕ) (carry i : ℕ)
    (in_p : i < length hp) (in_q : i < length hq) (sf : Adding v w hp hq he sums carry i) where
  -- the slice at i
  sliced : (r : Result SliceSum StoreFault) → SliceAdded w x (get_or hp i 0) (get_or hq i 0) he carry r → (ps qs : Column) (e : Table) → StandFor v hp ps → StandFor v hq qs → under v he ≡ Some e → (a : Summing v w e ps qs sums carry i)
      → Built w x (slice_plan (qubits_of v) (get_or ps i []) (get_or qs i []) e a.c) r (SumOf x (slice_sum (qubits_of v) (get_or ps i []) (get_or qs i []) e a.c) (next_carry (qubits_of v) (get_or ps i []) (get_or qs i []) e a.c))
  unfolding SliceAdded
  sliced r m ps qs e kp kq ke a =
      let g : Grew v w a.made = a.grew in
      let b = m (get_or ps i []) (get_or qs i []) e a.c (g.keeps _ _ (stand_for_at v hp ps i kp in_p)) (g.keeps _ _ (stand_for_at v hq qs i kq in_q)) (g.keeps _ _ ke) a.carries in
      subst (λ (s : Setting). Built w x (slice_plan s.qubits (get_or ps i []) (get_or qs i []) e a.c) r (SumOf x (slice_sum s.qubits (get_or ps i []) (get_or qs i []) e a.c) (next_carry s.qubits (get_or ps i []) (get_or qs i []) e a.c))) g.setting b

  rest_plan : (ps qs : Column) (e c : Table) → i < length ps → i < length qs → sums_plan (qubits_of v) e c (drop i ps) (drop i qs) ≡ slice_plan (qubits_of v) (get_or ps i []) (get_or qs i []) e c ++ sums_plan (qubits_of v) e (next_carry (qubits_of v) (get_or ps i []) (get_or qs i []) e c) (drop (i + 1) ps) (drop (i + 1) qs)
  unfolding sums_plan
  rest_plan ps qs e c l m = ap₂ (sums_plan (qubits_of v) e c) (drop_more ps i [] l) (drop_more qs i [] m)

  rest_sums : (ps qs : Column) (e c : Table) → i < length ps → i < length qs → sums_from (qubits_of v) e c (drop i ps) (drop i qs) ≡ slice_sum (qubits_of v) (get_or ps i []) (get_or qs i []) e c ∷ sums_from (qubits_of v) e (next_carry (qubits_of v) (get_or ps i []) (get_or qs i []) e c) (drop (i + 1) ps) (drop (i + 1) qs)
  unfolding sums_from
  rest_sums ps qs e c l m = ap₂ (sums_from (qubits_of v) e c) (drop_more ps i [] l) (drop_more qs i [] m)

  -- the plan, cut after slice i
  plan_more : (ps qs : Column) (e : Table) → StandFor v hp ps → StandFor v hq qs → (a : Summing v w e ps qs sums carry i)
      → sums_plan (qubits_of v) e e ps qs ≡ (a.made ++ slice_plan (qubits_of v) (get_or ps i []) (get_or qs i []) e a.c) ++ sums_plan (qubits_of v) e (next_carry (qubits_of v) (get_or ps i []) (get_or qs i []) e a.c) (drop (i + 1) ps) (drop (i + 1) qs)
  plan_more ps qs e kp kq a =
      let lp : length ps ≡ length hp = stand_for_length v hp ps kp in
      let lq : length qs ≡ length hq = stand_for_length v hq qs kq in
      a.left_plan ∙ ap (λ (l : List Table). a.made ++ l) (rest_plan ps qs e a.c (omega arith) (omega arith)) ∙ sym (append_assoc a.made _ _)

  pub adding_more : (y : SliceSum) → SliceAdded w x (get_or hp i 0) (get_or hq i 0) he carry (Ok y) → Adding v x hp hq he (sums ++ (y.sum ∷ [])) y.carry (i + 1)
  unfolding Adding Built
  adding_more y m ps qs e kp kq ke =
      let a = sf ps qs e kp kq ke in
      let b = sliced (Ok y) m ps qs e kp kq ke a in
      let lp : length ps ≡ length hp = stand_for_length v hp ps kp in
      let lq : length qs ≡ length hq = stand_for_length v hq qs kq in
      record {
        made = a.made ++ slice_plan (qubits_of v) (get_or ps i []) (get_or qs i []) e a.c;
        so_far = a.so_far ++ (slice_sum (qubits_of v) (get_or ps i []) (get_or qs i []) e a.c ∷ []);
        c = next_carry (qubits_of v) (get_or ps i []) (get_or qs i []) e a.c;
        grew = grew_then _ _ a.grew b.0;
        carries = b.1.carry;
        stand = stand_for_push x sums a.so_far y.sum _ (stand_for_keeps w x _ b.0 sums a.so_far a.stand) b.1.sum;
        left_plan = plan_more ps qs e kp kq a;
        left_sums = a.left_sums ∙ ap (λ (l : Column). a.so_far ++ l) (rest_sums ps qs e a.c (omega arith) (omega arith)) ∙ sym (append_assoc a.so_far (_ ∷ []) _);
      }

  pub adding_stopped : (d : StoreFault) → SliceAdded w x (get_or hp i 0) (get_or hq i 0) he carry (Err d) → ColumnsAdded v x hp hq he (Err d)
  unfolding Adding ColumnsAdded Built
  adding_stopped d m ps qs e kp kq ke =
      let a = sf ps qs e kp kq ke in
      let b = sliced (Err d) m ps qs e kp kq ke a in
      subst (λ (l : List Table). Stopped v x l d) (sym (plan_more ps qs e kp kq a)) (stopped_before _ _ (stopped_after _ _ a.grew b))

-- where one of two columns has no slices, nothing is made
no_plan : (n : ℕ) (e c : Table) (ps qs : Column) → min (length ps) (length qs) ≡ 0 → sums_plan n e c ps qs ≡ []
unfolding sums_plan
no_plan n e c [] qs l = refl
no_plan n e c (p ∷ ps) [] l = refl
no_plan n e c (p ∷ ps) (q ∷ qs) l = absurd (let b : ⊥ = omega arith in b)

no_sums : (n : ℕ) (e c : Table) (ps qs : Column) → min (length ps) (length qs) ≡ 0 → sums_from n e c ps qs ≡ []
unfolding sums_from
no_sums n e c [] qs l = refl
no_sums n e c (p ∷ ps) [] l = refl
no_sums n e c (p ∷ ps) (q ∷ qs) l = absurd (let b : ⊥ = omega arith in b)

pub adding_done : (v w : Meaning) (hp hq : List ℕ) (he : ℕ) (sums : List ℕ) (carry i : ℕ) → i ≡ min (length hp) (length hq) → Adding v w hp hq he sums carry i → ColumnsAdded v w hp hq he (Ok sums)
unfolding Adding ColumnsAdded Built added
adding_done v w hp hq he sums carry i done sf ps qs e kp kq ke =
    let n = qubits_of v in
    let a = sf ps qs e kp kq ke in
    let lp : length ps ≡ length hp = stand_for_length v hp ps kp in
    let lq : length qs ≡ length hq = stand_for_length v hq qs kq in
    let none : min (length (drop i ps)) (length (drop i qs)) ≡ 0 = omega (arith, length-drop i ps, length-drop i qs) in
    let m : sums_plan n e e ps qs ≡ a.made = a.left_plan ∙ ap (λ (l : List Table). a.made ++ l) (no_plan n e a.c (drop i ps) (drop i qs) none) ∙ append-nil a.made in
    let s : sums_from n e e ps qs ≡ a.so_far = a.left_sums ∙ ap (λ (l : Column). a.so_far ++ l) (no_sums n e a.c (drop i ps) (drop i qs) none) ∙ append-nil a.so_far in
    (subst (λ (l : List Table). Grew v w l) (sym m) a.grew, subst (λ (l : Column). StandFor w sums l) (sym s) a.stand)
