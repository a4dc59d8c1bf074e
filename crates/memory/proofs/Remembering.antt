-- Remembered answers, as the store below changes.
use Rattle.std.proofs.Common.{◌≡◌, ℕ, zero, suc, ◌<◌, Bool, true, false, cond, List, [], ◌∷◌, take, Some, Ok, Err, Result, sym, refl, ap, ◌∙◌, subst, arith}
use Rattle.std.specs.Prelude.{option_map}
use Rattle.std.specs.List.{AllByRecursion as All, find}
use Rattle.std.proofs.ByRecursion.{All-weaker, All-take}
use Rattle.std.proofs.lemmas.Bool.{and_parts, eqb-true}
use Rattle.functions.specs.declared.combination.Combination.{Combination}
use Rattle.functions.specs.declared.faults.StoreFault.{StoreFault}
use Rattle.functions.specs.Tables.{Table, combined}
use Rattle.functions.specs.Meanings.{Setting, Meaning, Laws, qubits_of, under}
use Rattle.functions.specs.Answers.{Made, Kept, combine_asked}
use Rattle.functions.proofs.Asked.{combine_known, combine_inverse, made_again, made_keeps, made_setting}
use Rattle.memory.specs.declared.entry.Remembered.{Remembered}
use Rattle.memory.specs.declared.Memory.{Memory}
use Rattle.memory.specs.Recalling.{is_for, newest_first, recalled}
use Rattle.memory.specs.Remembering.{Right, Remembers, CombinedOver, KeptOver}

-- what a combination asks of a store that means m
abbrev pub asks : Meaning → Combination → Result Table StoreFault
asks m c = combine_asked m c.rule c.f c.g c.h

-- a right answer stays right while handles keep what they stand for
right_keeps : (v w : Meaning) → w.setting ≡ v.setting → ((k : ℕ) (f : Table) → under v k ≡ Some f → under w k ≡ Some f) → (e : Remembered) → Right v e → Right w e
right_keeps v w s keeps e r = record {
  first = r.first;
  second = r.second;
  third = r.third;
  is_first = keeps _ _ r.is_first;
  is_second = keeps _ _ r.is_second;
  is_third = keeps _ _ r.is_third;
  is_answer = keeps _ _ r.is_answer ∙ ap (λ (z : Setting). Some (combined z.qubits e.combination.rule r.first r.second r.third)) (sym s);
}

pub all_right_made : (v w : Meaning) (asked : Result Table StoreFault) (r : Result ℕ StoreFault) (es : List Remembered) → Made v w asked r → All (Right v) es → All (Right w) es
all_right_made v w asked r es m x = All-weaker (Right v) (Right w) (right_keeps v w (made_setting v w asked r m) (made_keeps v w asked r m)) es x

-- a refused keep changes nothing
pub all_right_refused : (v w : Meaning) (ks : List ℕ) (x : StoreFault) (es : List Remembered) → Kept v w ks (Err x) → All (Right v) es → All (Right w) es
unfolding Kept
all_right_refused v w ks x es k a = subst (λ (m : Meaning). All (Right m) es) (sym k.unchanged) a

-- the accepted combination itself
right_new : (v w : Meaning) (c : Combination) (a : ℕ) → Made v w (asks v c) (Ok a) → Right w (record { combination = c; answer = a })
unfolding Made
right_new v w c a m =
    let i = combine_inverse v c.rule c.f c.g c.h m.function m.asked_for in
    let keeps = m.grew.keeps in
    record {
      first = i.0;
      second = i.1;
      third = i.2;
      is_first = keeps _ _ i.3;
      is_second = keeps _ _ i.4;
      is_third = keeps _ _ i.5;
      is_answer = m.handle ∙ ap Some i.6 ∙ ap (λ (z : Setting). Some (combined z.qubits c.rule i.0 i.1 i.2)) (sym m.grew.setting);
    }

pub all_right_new : (v w : Meaning) (c : Combination) (a : ℕ) (es : List Remembered) → Made v w (asks v c) (Ok a) → All (Right w) es → All (Right w) (take 64 (record { combination = c; answer = a } ∷ es))
all_right_new v w c a es m x = All-take (Right w) 64 (record { combination = c; answer = a } ∷ es) (right_new v w c a m, x)

-- an answer that is recalled is right
right_recalled : (m : Meaning) (es : List Remembered) (c : Combination) (a : ℕ) → All (Right m) es → recalled es c ≡ Some a → Right m (record { combination = c; answer = a })
right_recalled m [] c a x e = absurd (cc)
right_recalled m (y ∷ es) c a x e = go (is_for c y) refl e (right_recalled m es c a x.1)
  where
    go : (b : Bool) → is_for c y ≡ b → option_map (λ (r : Remembered). r.answer) (cond b (Some y) (find (is_for c) es)) ≡ Some a → (recalled es c ≡ Some a → Right m (record { combination = c; answer = a })) → Right m (record { combination = c; answer = a })
    go true i e ih =
        let p = and_parts _ _ i in
        let q = and_parts _ _ p.1 in
        let s = and_parts _ _ q.1 in
        let r0 = eqb-true y.combination.rule c.rule p.0 in
        let r1 = eqb-true y.combination.f c.f q.0 in
        let r2 = eqb-true y.combination.g c.g s.0 in
        let r3 = eqb-true y.combination.h c.h s.1 in
        let r4 : y.answer ≡ a = cc in
        subst (Right m) (λ j. record { combination = record { rule = r0 j; f = r1 j; g = r2 j; h = r3 j }; answer = r4 j }) x.0
    go false i e ih = ih e

pub made_recalled : (m : Meaning) (es : List Remembered) (c : Combination) (a : ℕ) → Laws m → All (Right m) es → recalled es c ≡ Some a → Made m m (asks m c) (Ok a)
made_recalled m es c a laws x e =
    let r = right_recalled m es c a x e in
    made_again m (asks m c) (combined (qubits_of m) c.rule r.first r.second r.third) a laws
    (combine_known m c.rule c.f c.g c.h r.first r.second r.third r.is_first r.is_second r.is_third) r.is_answer

-- one more of a history, and its 64 newest
take_again : (e : Remembered) (history : List Remembered) → take 64 (e ∷ take 64 history) ≡ take 64 (e ∷ history)
take_again e history = ap (λ (l : List Remembered). e ∷ l) (take_less 63 64 history (omega arith))
  where
    take_less : (k m : ℕ) (l : List Remembered) → k < m → take k (take m l) ≡ take k l
    take_less zero m l h = refl
    take_less (suc k) zero l h = absurd (omega arith)
    take_less (suc k) (suc m) [] h = refl
    take_less (suc k) (suc m) (x ∷ l) h = ap (λ (t : List Remembered). x ∷ t) (take_less k m l (omega arith))

-- ---- what a memory remembers after a combination
module _ {S : Type 0} (s t : Memory S) (c : Combination) where
  -- what is remembered is the answer, and the store below stays as it is
  abbrev pub Answered : Result ℕ StoreFault → Type 0
  Answered r = (a : ℕ) → recalled (newest_first s.recent) c ≡ Some a → (r ≡ Ok a) × (t.store ≡ s.store)

  -- what is found in the history is remembered
  recalls : (r : Result ℕ StoreFault) → Answered r → (history : List Remembered) (a : ℕ) → Remembers s history → recalled (take 64 history) c ≡ Some a → (r ≡ Ok a) × (t.store ≡ s.store)
  unfolding Remembers
  recalls r hit history a rem found = hit a (ap (λ (l : List Remembered). recalled l c) rem ∙ found)

  pub combined_accepted : (a : ℕ) → Answered (Ok a) → newest_first t.recent ≡ take 64 (record { combination = c; answer = a } ∷ newest_first s.recent) → CombinedOver s t c (Ok a)
  unfolding Remembers
  combined_accepted a hit more = record {
    recalls = recalls (Ok a) hit;
    remembers = λ history rem. more ∙ ap (λ (l : List Remembered). take 64 (record { combination = c; answer = a } ∷ l)) rem ∙ take_again (record { combination = c; answer = a }) history;
  }

  pub combined_refused : (x : StoreFault) → Answered (Err x) → newest_first t.recent ≡ newest_first s.recent → CombinedOver s t c (Err x)
  unfolding Remembers
  combined_refused x hit same = record {
    recalls = recalls (Err x) hit;
    remembers = λ history rem. same ∙ rem;
  }

pub kept_refused : {S : Type 0} (s t : Memory S) (x : StoreFault) → newest_first t.recent ≡ newest_first s.recent → KeptOver s t (Err x)
unfolding KeptOver Remembers
kept_refused s t x same history rem = same ∙ rem
