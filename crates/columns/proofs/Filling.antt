-- A loop that makes the functions of a list one after another, and keeps a handle of each.
use Rattle.std.proofs.Common.{◌≡◌, ℕ, ◌+◌, ◌<◌, List, [], ◌∷◌, ◌++◌, length, get_or, take, drop, Some, Ok, Err, sym, ap, ◌∙◌, subst, arith}
use Rattle.std.proofs.lemmas.List.{take_more, take_all, take-append-drop}
use Rattle.functions.specs.declared.faults.StoreFault.{StoreFault}
use Rattle.functions.specs.Tables.{Table}
use Rattle.functions.specs.Meanings.{Meaning, under}
use Rattle.functions.specs.Growth.{Grew, Stopped, Built, StandFor}
use Rattle.functions.proofs.Growth.{grew_none, grew_then, stopped_after, stopped_before}
use Rattle.functions.proofs.Handles.{stand_for_none, stand_for_keeps, stand_for_push}

-- The first i functions of fs are made, and out are their handles.
pub record Filling (v w : Meaning) (fs : List Table) (out : List ℕ) (i : ℕ) : Type 0 where
  pub grew : Grew v w (take i fs)
  pub stand : StandFor w out (take i fs)

pub fill_none : (v : Meaning) (fs : List Table) → Filling v v fs [] 0
fill_none v fs = record { grew = grew_none v; stand = stand_for_none v }

module _ (v w x : Meaning) (fs : List Table) (out : List ℕ) (i : ℕ) (inside : i < length fs) (a : Filling v w fs out i) where
  pub fill_more : (k : ℕ) → Built w x (get_or fs i [] ∷ []) (Ok k) (λ h. under x h ≡ Some (get_or fs i [])) → Filling v x fs (out ++ (k ∷ [])) (i + 1)
  unfolding Built
  fill_more k b =
      let more : take (i + 1) fs ≡ take i fs ++ (get_or fs i [] ∷ []) = take_more fs i [] inside in
      record {
        grew = subst (λ (l : List Table). Grew v x l) (sym more) (grew_then (take i fs) (get_or fs i [] ∷ []) a.grew b.0);
        stand = subst (λ (l : List Table). StandFor x (out ++ (k ∷ [])) l) (sym more)
            (stand_for_push x out (take i fs) k (get_or fs i []) (stand_for_keeps w x (get_or fs i [] ∷ []) b.0 out (take i fs) a.stand) b.1);
      }

  pub fill_stopped : (e : StoreFault) → Built w x (get_or fs i [] ∷ []) (Err e) (λ h. under x h ≡ Some (get_or fs i [])) → Stopped v x fs e
  unfolding Built
  fill_stopped e s =
      subst (λ (l : List Table). Stopped v x l e)
      (ap (λ (l : List Table). l ++ drop (i + 1) fs) (sym (take_more fs i [] inside)) ∙ take-append-drop (i + 1) fs)
      (stopped_before (take i fs ++ (get_or fs i [] ∷ [])) (drop (i + 1) fs) (stopped_after (take i fs) (get_or fs i [] ∷ []) a.grew s))

pub fill_done : (v w : Meaning) (fs : List Table) (out : List ℕ) (i : ℕ) → length fs ≡ i → Filling v w fs out i → Grew v w fs × StandFor w out fs
fill_done v w fs out i l a =
    let t : take i fs ≡ fs = take_all i fs (omega arith) in
    (subst (λ (x : List Table). Grew v w x) t a.grew, subst (λ (x : List Table). StandFor w out x) t a.stand)
