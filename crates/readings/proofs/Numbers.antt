-- Integers, quadruples and amplitudes, from the values that the store answers.
use Rattle.std.proofs.Common.{◌≡◌, ℕ, ◌+◌, ◌^◌, ◌<◌, ◌≤◌, Bool, true, false, cond, ltb, List, [], ◌∷◌, ◌++◌, map, length, get_or, take, ℤ, pos, Some, Ok, Err, Result, sym, refl, ap, ◌∙◌, subst, arith, w64, to_z, of_z}
use mir.Val.{bool_byte}
use Rattle.std.proofs.lemmas.Int.{ints}
use Rattle.std.proofs.lemmas.Bool.{cond-true, lt-ltb, ltb-true}
use Rattle.exact.specs.declared.Quadruple.{Quadruple}
use Rattle.exact.specs.declared.RootTwoPower.{RootTwoPower}
use Rattle.exact.specs.Indices.{Index, bits, at_index}
use Rattle.exact.specs.Quadruples.{quadruple, zero_quadruple}
use Rattle.exact.specs.States.{amplitude_at}
use Rattle.exact.specs.Squares.{quadruple_at}
use Rattle.exact.proofs.Expressions.{quadruple_path}
use Rattle.exact.proofs.Tables.{length_bits, number_of_bits}
use Rattle.functions.specs.declared.faults.StoreFault.{StoreFault}
use Rattle.functions.specs.declared.faults.StoreFault.TheVariants.{IndexOutOfRange}
use Rattle.functions.specs.Tables.{Table, value_at}
use Rattle.functions.specs.Meanings.{Meaning, qubits_of, under}
use Rattle.functions.specs.Growth.{StandFor}
use Rattle.functions.specs.Answers.{checked, function_under, value_answer}
use Rattle.functions.proofs.Handles.{stand_for_length, stand_for_at}
use Rattle.functions.proofs.Asked.{function_at, and_then_ok}
use Rattle.slicing.specs.declared.Component.{Component}
use Rattle.slicing.specs.declared.Component.TheVariants.{A, B, C, D}
use Rattle.slicing.specs.Components.{component}
use Rattle.slicing.specs.TwosComplement.{signed_sum, bit_number, signed_number}
use Rattle.slicing.specs.Columns.{Column, Columns, bits_of, integer_at, Represents}
use Rattle.slicing.proofs.Columns.{components_path}
use Rattle.slicing.proofs.PlaceSums.{signed_map}
use Rattle.readings.specs.declared.handles.Slices.{Slices}
use Rattle.readings.specs.Bounds.{Within, itself}
use Rattle.readings.specs.Columns.{handles, StandForColumns}
use Rattle.readings.specs.Amplitudes.{at_number, IntegerRead, quadruple_of, QuadrupleRead, AmplitudeRead}
use Rattle.readings.proofs.Looping.{found_more, sum_found}

-- ---- questions at the index of a number
pub at_number_ok : {X : Type 0} (m : Meaning) (i : ℕ) (x z : X) → Ok z ≡ at_number m i x → (i < 2 ^ qubits_of m) × (z ≡ x)
unfolding at_number checked
at_number_ok {X = X} m i x z e = go (ltb i (2 ^ qubits_of m)) refl e
  where
    go : (b : Bool) → ltb i (2 ^ qubits_of m) ≡ b → ◌≡◌ {A = Result X StoreFault} (Ok z) (cond b (Ok x) (Err (IndexOutOfRange i))) → (i < 2 ^ qubits_of m) × (z ≡ x)
    go true l e = (ltb-true i (2 ^ qubits_of m) l, (let q : z ≡ x = cc in q))
    go false l e = absurd (let z : ◌≡◌ {A = ℕ} 0 1 = cc in let b : ⊥ = omega arith in b)

-- a refusal is the same, whatever was asked
pub at_number_err : {X Y : Type 0} (m : Meaning) (i : ℕ) (x : X) (y : Y) (d : StoreFault) → Err d ≡ at_number m i x → Err d ≡ at_number m i y
unfolding at_number checked
at_number_err {X = X} {Y = Y} m i x y d e = go (ltb i (2 ^ qubits_of m)) e
  where
    go : (b : Bool) → ◌≡◌ {A = Result X StoreFault} (Err d) (cond b (Ok x) (Err (IndexOutOfRange i))) → ◌≡◌ {A = Result Y StoreFault} (Err d) (cond b (Ok y) (Err (IndexOutOfRange i)))
    go true e = absurd (let z : ◌≡◌ {A = ℕ} 0 1 = cc in let b : ⊥ = omega arith in b)
    go false e = let q : d ≡ IndexOutOfRange i = cc in ap Err q

pub at_number_is : {X : Type 0} (m : Meaning) (i : ℕ) (x : X) → i < 2 ^ qubits_of m → at_number m i x ≡ Ok x
unfolding at_number checked
at_number_is m i x l = cond-true (ltb i (2 ^ qubits_of m)) (Ok x) (Err (IndexOutOfRange i)) (lt-ltb i (2 ^ qubits_of m) l)

-- the value of a function that is held
value_held : (m : Meaning) (k i : ℕ) (f : Table) → under m k ≡ Some f → value_answer m k i ≡ at_number m i (value_at f (bits (qubits_of m) i))
unfolding value_answer at_number
value_held m k i f e = ap (checked (ltb i (2 ^ qubits_of m)) (IndexOutOfRange i)) (and_then_ok (function_under m k) (λ s. Ok (value_at s (bits (qubits_of m) i))) f (function_at m k f e))

-- ---- integers
-- what slice f counts at an index
abbrev bit_at : Index → Table → ℤ
bit_at y f = bit_number (value_at f y)

-- a bit as the code has it
pub byte_is : (b : Bool) (z : ℤ) → z ≡ pos (bool_byte b) → to_z w64 (of_z w64 z) ≡ bit_number b
byte_is true z e = ap (λ (y : ℤ). to_z w64 (of_z w64 y)) e
byte_is false z e = ap (λ (y : ℤ). to_z w64 (of_z w64 y)) e

pub byte_within : (b : Bool) (z : ℤ) → z ≡ pos (bool_byte b) → Within 1 (to_z w64 (of_z w64 z))
byte_within b z e = subst (Within 1) (sym (byte_is b z e)) (bit b)
  where
    bit : (b : Bool) → Within 1 (bit_number b)
    bit true = record { not_below = omega (arith, ints); not_above = omega (arith, ints) }
    bit false = record { not_below = omega (arith, ints); not_above = omega (arith, ints) }

-- the first j bits are read
pub record BitsRead (m : Meaning) (i : ℕ) (ss : Column) (read : List ℤ) (j : ℕ) : Type 0 where
  pub in_range : 1 ≤ j → i < 2 ^ qubits_of m
  pub found : read ≡ map (bit_at (bits (qubits_of m) i)) (take j ss)

unfoldable pub Reading : Meaning → List ℕ → ℕ → List ℤ → ℕ → Type 0
Reading m ks i read j = (ss : Column) → StandFor m ks ss → BitsRead m i ss read j

pub reading_none : (m : Meaning) (ks : List ℕ) (i : ℕ) → Reading m ks i [] 0
unfolding Reading
reading_none m ks i ss h = record { in_range = λ l. absurd (let b : ⊥ = omega arith in b); found = refl }

module _ (m : Meaning) (ks : List ℕ) (i : ℕ) (read : List ℤ) (j : ℕ) (here : j < length ks) where
  slice_value : (ss : Column) → StandFor m ks ss → value_answer m (get_or ks j 0) i ≡ at_number m i (value_at (get_or ss j []) (bits (qubits_of m) i))
  slice_value ss h = value_held m (get_or ks j 0) i (get_or ss j []) (stand_for_at m ks ss j h here)

  pub reading_more : (b : Bool) (z : ℤ) → Reading m ks i read j → Ok b ≡ value_answer m (get_or ks j 0) i → z ≡ bit_number b → Reading m ks i (read ++ (z ∷ [])) (j + 1)
  unfolding Reading
  reading_more b z a e v ss h =
      let p = at_number_ok m i (value_at (get_or ss j []) (bits (qubits_of m) i)) b (e ∙ slice_value ss h) in
      record {
        in_range = λ k. p.0;
        found = found_more [] (bit_at (bits (qubits_of m) i)) ss read j z (omega (arith, stand_for_length m ks ss h)) (a ss h).found (v ∙ ap bit_number p.1);
      }

  pub reading_refused : (d : StoreFault) → Err d ≡ value_answer m (get_or ks j 0) i → IntegerRead m ks i (Err d)
  unfolding IntegerRead
  reading_refused d e ss h = at_number_err m i (value_at (get_or ss j []) (bits (qubits_of m) i)) (integer_at ss (bits (qubits_of m) i)) d (e ∙ slice_value ss h)

pub integer_read : (m : Meaning) (ks : List ℕ) (i : ℕ) (read : List ℤ) (j : ℕ) (z : ℤ) → 1 ≤ length ks → j ≡ length ks → Reading m ks i read j → z ≡ signed_sum itself read → IntegerRead m ks i (Ok z)
unfolding Reading IntegerRead integer_at signed_number bits_of
integer_read m ks i read j z some l a e ss h =
    let b : BitsRead m i ss read j = a ss h in
    let y : Index = bits (qubits_of m) i in
    let k : length ss ≡ j = stand_for_length m ks ss h ∙ sym l in
    sym (at_number_is m i (signed_sum bit_number (map (λ (f : Table). value_at f y) ss)) (b.in_range (omega arith))
    ∙ ap Ok (signed_map bit_number (λ (f : Table). value_at f y) ss ∙ sym (sum_found (bit_at y) ss read j k b.found) ∙ sym e))

-- ---- quadruples
module _ (m : Meaning) (s : Slices) (i : ℕ) where
  component_refused : (k : Component) (d : StoreFault) → IntegerRead m (handles s k) i (Err d) → QuadrupleRead m s i (Err d)
  unfolding QuadrupleRead IntegerRead StandForColumns
  component_refused k d a x h = at_number_err m i (integer_at (x k) (bits (qubits_of m) i)) (quadruple_of x (bits (qubits_of m) i)) d (a (x k) (h k))

  pub a_refused : (d : StoreFault) → IntegerRead m s.a.handles.now i (Err d) → QuadrupleRead m s i (Err d)
  a_refused = component_refused A

  pub b_refused : (d : StoreFault) → IntegerRead m s.b.handles.now i (Err d) → QuadrupleRead m s i (Err d)
  b_refused = component_refused B

  pub c_refused : (d : StoreFault) → IntegerRead m s.c.handles.now i (Err d) → QuadrupleRead m s i (Err d)
  c_refused = component_refused C

  pub d_refused : (d : StoreFault) → IntegerRead m s.d.handles.now i (Err d) → QuadrupleRead m s i (Err d)
  d_refused = component_refused D

  pub quadruple_read : (a b c d a' b' c' d' : ℤ) → a' ≡ a → b' ≡ b → c' ≡ c → d' ≡ d → IntegerRead m (handles s A) i (Ok a) → IntegerRead m (handles s B) i (Ok b) → IntegerRead m (handles s C) i (Ok c) → IntegerRead m (handles s D) i (Ok d) → QuadrupleRead m s i (Ok (quadruple a' b' c' d'))
  unfolding QuadrupleRead IntegerRead StandForColumns
  quadruple_read a b c d a' b' c' d' ea eb ec ed fa fb fc fd x h =
      let pa = at_number_ok m i (integer_at (x A) (bits (qubits_of m) i)) a (fa (x A) (h A)) in
      let pb = at_number_ok m i (integer_at (x B) (bits (qubits_of m) i)) b (fb (x B) (h B)) in
      let pc = at_number_ok m i (integer_at (x C) (bits (qubits_of m) i)) c (fc (x C) (h C)) in
      let pd = at_number_ok m i (integer_at (x D) (bits (qubits_of m) i)) d (fd (x D) (h D)) in
      let e : quadruple a' b' c' d' ≡ quadruple_of x (bits (qubits_of m) i) = quadruple_path (ea ∙ pa.1) (eb ∙ pb.1) (ec ∙ pc.1) (ed ∙ pd.1) in
      sym (at_number_is m i (quadruple_of x (bits (qubits_of m) i)) pa.0 ∙ ap Ok (sym e))

-- ---- amplitudes
represented_at : (n w i : ℕ) (x : Columns) (v : List Quadruple) → Represents n w x v → i < 2 ^ n → quadruple_of x (bits n i) ≡ get_or v i zero_quadruple
unfolding at_index
represented_at n w i x v r l =
    components_path (quadruple_of x (bits n i)) (quadruple_at v (bits n i)) parts
    ∙ ap (λ (j : ℕ). get_or v j zero_quadruple) (number_of_bits n i l)
  where
    parts : (k : Component) → component k (quadruple_of x (bits n i)) ≡ component k (quadruple_at v (bits n i))
    parts A = r.integers A (bits n i) (length_bits n i)
    parts B = r.integers B (bits n i) (length_bits n i)
    parts C = r.integers C (bits n i) (length_bits n i)
    parts D = r.integers D (bits n i) (length_bits n i)

module _ (m : Meaning) (s : Slices) (power : RootTwoPower) (i : ℕ) where
  pub amplitude_refused : (d : StoreFault) → QuadrupleRead m s i (Err d) → AmplitudeRead m s power i (Err d)
  unfolding QuadrupleRead AmplitudeRead
  amplitude_refused d f x w v h r = at_number_err m i (quadruple_of x (bits (qubits_of m) i)) (amplitude_at (record { power = power; quadruples = v }) i) d (f x h)

  pub amplitude_read : (q : Quadruple) → QuadrupleRead m s i (Ok q) → AmplitudeRead m s power i (Ok (record { quadruple = q; power = power }))
  unfolding QuadrupleRead AmplitudeRead
  amplitude_read q f x w v h r =
      let p = at_number_ok m i (quadruple_of x (bits (qubits_of m) i)) q (f x h) in
      sym (at_number_is m i (amplitude_at (record { power = power; quadruples = v }) i) p.0
      ∙ ap (λ (t : Quadruple). Ok (record { quadruple = t; power = power })) (sym (p.1 ∙ represented_at (qubits_of m) w i x v r p.0)))
