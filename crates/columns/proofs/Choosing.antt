-- The loop that chooses between two columns.
use Rattle.std.proofs.Common.{◌≡◌, ℕ, zero, suc, ◌+◌, ◌<◌, min, List, [], ◌∷◌, ◌++◌, length, get_or, Some, Ok, Err, Result, sym, refl, ◌∙◌, ap₂, arith}
use Rattle.functions.specs.declared.faults.StoreFault.{StoreFault}
use Rattle.functions.specs.Tables.{Table, choice}
use Rattle.functions.specs.Meanings.{Meaning, qubits_of, under}
use Rattle.functions.specs.Growth.{Built, StandFor}
use Rattle.functions.specs.Answers.{Made, combine_asked}
use Rattle.functions.proofs.NamedRules.{combined_202}
use Rattle.functions.proofs.Asked.{combination}
use Rattle.functions.proofs.Handles.{stand_for_length, stand_for_at}
use Rattle.slicing.specs.Columns.{Column}
use Rattle.slicing.specs.Operations.{chosen_column}
use Rattle.columns.specs.Columns.{ColumnChosen}
use Rattle.columns.proofs.Filling.{Filling, fill_none, fill_more, fill_stopped, fill_done}

chosen_slice : (n : ℕ) (f : Table) (ps qs : Column) (i : ℕ) → i < length ps → i < length qs → get_or (chosen_column n f ps qs) i [] ≡ choice n f (get_or ps i []) (get_or qs i [])
unfolding chosen_column
chosen_slice n f [] qs i l m = absurd (let b : ⊥ = omega arith in b)
chosen_slice n f (p ∷ ps) [] i l m = absurd (let b : ⊥ = omega arith in b)
chosen_slice n f (p ∷ ps) (q ∷ qs) zero l m = refl
chosen_slice n f (p ∷ ps) (q ∷ qs) (suc i) l m = chosen_slice n f ps qs i (omega arith) (omega arith)

-- as many slices as the shorter of two columns has
slices_chosen : (n : ℕ) (f : Table) (ps qs : Column) → length (chosen_column n f ps qs) ≡ min (length ps) (length qs)
unfolding chosen_column
slices_chosen n f [] qs = omega arith
slices_chosen n f (p ∷ ps) [] = omega arith
slices_chosen n f (p ∷ ps) (q ∷ qs) = omega (arith, slices_chosen n f ps qs)

unfoldable pub Choosing : Meaning → Meaning → ℕ → List ℕ → List ℕ → List ℕ → ℕ → Type 0
Choosing v w hf hp hq out i = (f : Table) (ps qs : Column) → under v hf ≡ Some f → StandFor v hp ps → StandFor v hq qs → Filling v w (chosen_column (qubits_of v) f ps qs) out i

pub choosing_none : (v : Meaning) (hf : ℕ) (hp hq : List ℕ) → Choosing v v hf hp hq [] 0
unfolding Choosing
choosing_none v hf hp hq f ps qs kf kp kq = fill_none v (chosen_column (qubits_of v) f ps qs)

module _ (v w x : Meaning) (hf : ℕ) (hp hq out : List ℕ) (i : ℕ) (in_p : i < length hp) (in_q : i < length hq) (a : Choosing v w hf hp hq out i) where
  -- the call for slice i
  one : (r : Result ℕ StoreFault) → Made w x (combine_asked w 202 hf (get_or hp i 0) (get_or hq i 0)) r → (f : Table) (ps qs : Column) → under v hf ≡ Some f → StandFor v hp ps → StandFor v hq qs
      → Built w x (get_or (chosen_column (qubits_of v) f ps qs) i [] ∷ []) r (λ k. under x k ≡ Some (get_or (chosen_column (qubits_of v) f ps qs) i []))
  unfolding Choosing
  one r m f ps qs kf kp kq =
      let g = (a f ps qs kf kp kq).grew in
      let lp : length ps ≡ length hp = stand_for_length v hp ps kp in
      let lq : length qs ≡ length hq = stand_for_length v hq qs kq in
      combination v w x 202 hf (get_or hp i 0) (get_or hq i 0) f (get_or ps i []) (get_or qs i []) (get_or (chosen_column (qubits_of v) f ps qs) i []) r g.setting
      (g.keeps _ _ kf) (g.keeps _ _ (stand_for_at v hp ps i kp in_p)) (g.keeps _ _ (stand_for_at v hq qs i kq in_q))
      (combined_202 (qubits_of v) f (get_or ps i []) (get_or qs i []) ∙ sym (chosen_slice (qubits_of v) f ps qs i (omega arith) (omega arith))) m

  inside : (f : Table) (ps qs : Column) → StandFor v hp ps → StandFor v hq qs → i < length (chosen_column (qubits_of v) f ps qs)
  inside f ps qs kp kq =
      let lp : length ps ≡ length hp = stand_for_length v hp ps kp in
      let lq : length qs ≡ length hq = stand_for_length v hq qs kq in
      omega (arith, slices_chosen (qubits_of v) f ps qs)

  pub choosing_more : (k : ℕ) → Made w x (combine_asked w 202 hf (get_or hp i 0) (get_or hq i 0)) (Ok k) → Choosing v x hf hp hq (out ++ (k ∷ [])) (i + 1)
  unfolding Choosing
  choosing_more k m f ps qs kf kp kq = fill_more v w x (chosen_column (qubits_of v) f ps qs) out i (inside f ps qs kp kq) (a f ps qs kf kp kq) k (one (Ok k) m f ps qs kf kp kq)

  pub choosing_stopped : (e : StoreFault) → Made w x (combine_asked w 202 hf (get_or hp i 0) (get_or hq i 0)) (Err e) → ColumnChosen v x hf hp hq (Err e)
  unfolding Choosing ColumnChosen Built
  choosing_stopped e m f ps qs kf kp kq = fill_stopped v w x (chosen_column (qubits_of v) f ps qs) out i (inside f ps qs kp kq) (a f ps qs kf kp kq) e (one (Err e) m f ps qs kf kp kq)

pub choosing_done : (v w : Meaning) (hf : ℕ) (hp hq out : List ℕ) (i : ℕ) → i ≡ min (length hp) (length hq) → Choosing v w hf hp hq out i → ColumnChosen v w hf hp hq (Ok out)
unfolding Choosing ColumnChosen Built
choosing_done v w hf hp hq out i e a f ps qs kf kp kq =
    fill_done v w (chosen_column (qubits_of v) f ps qs) out i
    (slices_chosen (qubits_of v) f ps qs ∙ ap₂ min (stand_for_length v hp ps kp) (stand_for_length v hq qs kq) ∙ sym e) (a f ps qs kf kp kq)
