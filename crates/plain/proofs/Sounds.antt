-- Every open register of a run is what its opening and its moves make, within bounds.
use Rattle.std.proofs.Common.{◌≡◌, ℕ, zero, suc, ◌≤◌, max, Bool, true, false, cond, ◌⊎◌, List, [], ◌∷◌, ◌++◌, length, set, Some, None, sym, refl, ap, ◌∙◌, subst, inl, inr, arith, lit≤}
use Rattle.std.proofs.lemmas.Option.{none-some, same_Some}
use Rattle.exact.specs.declared.Quadruple.{Quadruple}
use Rattle.exact.specs.Indices.{Index, bits, listing, where_0, where_1, same_index}
use Rattle.exact.specs.Quadruples.{zero_quadruple, one_quadruple}
use Rattle.exact.specs.States.{State, normal_form, bits_within, width_of, width}
use Rattle.exact.proofs.NormalForms.{reached}
use Rattle.exact.proofs.Tables.{length_bits}
use Rattle.gates.specs.Arity.{qubits_of}
use Rattle.functions.specs.Meanings.{Setting}
use Rattle.matrices.specs.Registers.{Move, moved, opened, led, MovePlaced, AllPlaced}
use Rattle.matrices.proofs.Registers.{normal}
use Rattle.calls.specs.declared.Call.{Call}
use Rattle.calls.specs.declared.Call.TheVariants.{Open, Gate, Copy, Close, Amplitude, Weight, Same}
use Rattle.plain.specs.Registers.{Contents, Register, Registers, all_empty, register_of, state_of, opened_at, gated, led_through}
use Rattle.plain.specs.Calls.{move_of}
use Rattle.plain.specs.Refusals.{refusal}
use Rattle.plain.specs.Runs.{Outcome, effect, step, after, answers, registers_of_run}
use Rattle.plain.specs.Laws.{Sound}
use Rattle.plain.proofs.Arrays.{first_qubits_length}
use Rattle.plain.proofs.Refusing.{qubits_placed, state_within}
use Rattle.plain.proofs.Steps.{after_step, set_there, effect_length}

-- ---- an opening
width_append : (v w : List Quadruple) (k : ℕ) → width v ≤ k → width w ≤ k → width (v ++ w) ≤ k
unfolding width
width_append [] w k h l = l
width_append (q ∷ v) w k h l =
    let m : ℕ = max (max (width_of q.a) (width_of q.b)) (max (width_of q.c) (width_of q.d)) in
    let r : width (v ++ w) ≤ k = width_append v w k (part m (width v) k h).1 l in
    both m (width (v ++ w)) k (part m (width v) k h).0 r
  where
    part : (i j k : ℕ) → max i j ≤ k → (i ≤ k) × (j ≤ k)
    part i j k h = (omega arith, omega arith)

    both : (i j k : ℕ) → i ≤ k → j ≤ k → max i j ≤ k
    both i j k h l = omega arith

width_listing : (n : ℕ) (f : Index → Quadruple) (k : ℕ) → ((x : Index) → width (f x ∷ []) ≤ k) → width (listing n f) ≤ k
unfolding listing
width_listing zero f k h = h []
width_listing (suc n) f k h = width_append (listing n (where_0 f)) (listing n (where_1 f)) k (width_listing n (where_0 f) k (λ x. h (false ∷ x))) (width_listing n (where_1 f) k (λ x. h (true ∷ x)))

opened_narrow : (n : ℕ) (x : Index) → width (opened n x).quadruples ≤ 2
unfolding opened width bits_within
opened_narrow n x = width_listing n (λ y. cond (same_index y x) one_quadruple zero_quadruple) 2 (λ y. either (same_index y x))
  where
    either : (b : Bool) → width (cond b one_quadruple zero_quadruple ∷ []) ≤ 2
    either true = omega arith
    either false = omega arith

opened_low : (n : ℕ) (x : Index) → (opened n x).power.0 ≤ 40
unfolding opened
opened_low n x = lit≤ tt

sound_opening : (n : ℕ) (x : Index) → length x ≡ n → Sound n (record { state = opened n x; opening = x; moves = [] })
unfolding led
sound_opening n x e = record { of_qubits = e; placed = tt; led = refl; normal = normal n x []; low_power = opened_low n x; narrow = (let h : width (opened n x).quadruples ≤ 2 = opened_narrow n x in omega arith) }

-- ---- a gate
led_further : (n : ℕ) (s : State) (l : List Move) (m : Move) → led n s (l ++ (m ∷ [])) ≡ normal_form (moved n m (led n s l))
unfolding led
led_further n s [] m = refl
led_further n s (k ∷ l) m = led_further n (normal_form (moved n k s)) l m

placed_further : (n : ℕ) (l : List Move) (m : Move) → AllPlaced n l → MovePlaced n m → AllPlaced n (l ++ (m ∷ []))
placed_further n [] m a p = (p, tt)
placed_further n (k ∷ l) m a p = (a.0, placed_further n l m a.1 p)

sound_move : (n : ℕ) (c : Contents) (m : Move) → Sound n c → MovePlaced n m → (gated n m c.state).power.0 ≤ 40 → width (gated n m c.state).quadruples ≤ 22
    → Sound n (record { state = gated n m c.state; opening = c.opening; moves = c.moves ++ (m ∷ []) })
unfolding gated
sound_move n c m h p k w = record {
  of_qubits = h.of_qubits;
  placed = placed_further n c.moves m h.placed p;
  led = ap (λ (t : State). normal_form (moved n m t)) h.led ∙ sym (led_further n (opened n c.opening) c.moves m);
  normal = reached (moved n m c.state);
  low_power = k;
  narrow = w;
}

-- ---- a call
abbrev AllSound : ℕ → Registers → Type 0
AllSound n rs = (r : ℕ) (c : Contents) → register_of rs r ≡ Some c → Sound n c

-- registers of which one was set
set_sound : (n : ℕ) (rs : Registers) (r : ℕ) (x : Register) → AllSound n rs → ((c : Contents) → x ≡ Some c → Sound n c) → AllSound n (set rs r x)
set_sound n rs r x all new j c h = by (set_there rs r j x c h)
  where
    by : (x ≡ Some c) ⊎ (register_of rs j ≡ Some c) → Sound n c
    by (inl e) = new c e
    by (inr e) = all j c e

sound_effect : (s : Setting) (rs : Registers) (c : Call) → AllSound s.qubits rs → refusal s rs c ≡ None → AllSound s.qubits (effect s.qubits rs c)
unfolding effect opened_at led_through
sound_effect s rs (Open r i) all h =
    set_sound s.qubits rs r (opened_at s.qubits (bits s.qubits i)) all
    (λ c e. subst (Sound s.qubits) (same_Some _ _ e) (sound_opening s.qubits (bits s.qubits i) (length_bits s.qubits i)))
sound_effect s rs (Gate g r qs) all h = set_sound s.qubits rs r (led_through s.qubits (move_of g qs) (register_of rs r)) all (λ c e. by (register_of rs r) refl c e)
  where
    by : (x : Register) → register_of rs r ≡ x → (c : Contents) → led_through s.qubits (move_of g qs) x ≡ Some c → Sound s.qubits c
    by None k c e = absurd (none-some _ e)
    by (Some d) k c e =
        let within = state_within s rs (Gate g r qs) (gated s.qubits (move_of g qs) d.state) h (ap (λ (x : Register). Some (gated s.qubits (move_of g qs) (state_of x))) k) in
        let placed = qubits_placed s rs (Gate g r qs) h in
        subst (Sound s.qubits) (same_Some _ _ e)
        (sound_move s.qubits d (move_of g qs) (all r d k) (record { as_many = first_qubits_length (qubits_of g) qs; below = placed.0; apart = placed.1 }) within.0 within.1)
sound_effect s rs (Copy a b) all h = set_sound s.qubits rs b (register_of rs a) all (λ c e. all a c e)
sound_effect s rs (Close r) all h = set_sound s.qubits rs r None all (λ c e. absurd (none-some _ e))
sound_effect s rs (Amplitude r i) all h = all
sound_effect s rs (Weight r q b) all h = all
sound_effect s rs (Same a b) all h = all

-- ---- a run
pub goes_on : (s : Setting) (rs : Registers) (cs ds : List Call) → after s rs (cs ++ ds) ≡ after s (after s rs cs) ds
unfolding after
goes_on s rs [] ds = refl
goes_on s rs (c ∷ cs) ds = goes_on s (step s rs c).registers cs ds

pub answers_go_on : (s : Setting) (rs : Registers) (cs ds : List Call) → answers s rs (cs ++ ds) ≡ answers s rs cs ++ answers s (after s rs cs) ds
unfolding after answers
answers_go_on s rs [] ds = refl
answers_go_on s rs (c ∷ cs) ds = ap (λ (x : List Outcome). (step s rs c).answer ∷ x) (answers_go_on s (step s rs c).registers cs ds)

sound_after : (s : Setting) (rs : Registers) (cs : List Call) → AllSound s.qubits rs → AllSound s.qubits (after s rs cs)
unfolding after
sound_after s rs [] all = all
sound_after s rs (c ∷ cs) all = sound_after s (step s rs c).registers cs (after_step (AllSound s.qubits) s rs c all (λ h. sound_effect s rs c all h))

pub sound_run : (s : Setting) (cs : List Call) (r : ℕ) (c : Contents) → register_of (registers_of_run s cs) r ≡ Some c → Sound s.qubits c
sound_run s cs = sound_after s all_empty cs none
  where
    none : AllSound s.qubits all_empty
    none r c e = absurd (empty r e)
      where
        empty : (r : ℕ) → register_of all_empty r ≡ Some c → ⊥
        empty zero e = none-some _ e
        empty (suc zero) e = none-some _ e
        empty (suc (suc zero)) e = none-some _ e
        empty (suc (suc (suc zero))) e = none-some _ e
        empty (suc (suc (suc (suc r)))) e = none-some _ e

length_after : (s : Setting) (rs : Registers) (cs : List Call) → length (after s rs cs) ≡ length rs
unfolding after
length_after s rs [] = refl
length_after s rs (c ∷ cs) = length_after s (step s rs c).registers cs ∙ after_step (λ x. length x ≡ length rs) s rs c refl (λ h. effect_length s.qubits rs c)

pub four : (s : Setting) (cs : List Call) → length (registers_of_run s cs) ≡ 4
four s cs = length_after s all_empty cs
