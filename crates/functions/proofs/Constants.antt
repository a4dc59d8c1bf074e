-- A store that holds only the constants.
use Rattle.std.proofs.Common.{◌≡◌, ℕ, ◌^◌, ◌<◌, ◌≤◌, Bool, true, false, cond, eqb, ◌⊎◌, [], ◌∷◌, length, Some, None, sym, refl, ap, ◌∙◌, subst, inl, inr, ⊎_elim, arith}
use Rattle.std.proofs.lemmas.Bool.{false≢true, eqb-true, or_left, or_right, or_cases, cond-true, cond-false}
use Rattle.exact.specs.Indices.{bits}
use Rattle.exact.proofs.Indices.{same_self, same_equal}
use Rattle.exact.proofs.Tables.{length_bits}
use Rattle.functions.specs.Tables.{Table, value_at, constant}
use Rattle.functions.specs.Sets.{same, among, is_constant, space, different, without_constants}
use Rattle.functions.specs.Meanings.{Setting, SettingLaws, Laws, entry, under, functions_of, held, Holds, constants_only, only_itself}
use Rattle.functions.proofs.Values.{length_constant, constant_at}

-- the two constants are different
pub constants_apart : (n : ℕ) → constant n false ≡ constant n true → ⊥
constants_apart n e =
    let x = bits n 0 in
    false≢true (sym (constant_at n false x (length_bits n 0)) ∙ ap (λ (f : Table). value_at f x) e ∙ constant_at n true x (length_bits n 0))

-- only 0 and 1 are handles
only : (s : Setting) (k : ℕ) (f : Table) → under (constants_only s) k ≡ Some f → ((k ≡ 0) × (f ≡ constant s.qubits false)) ⊎ ((k ≡ 1) × (f ≡ constant s.qubits true))
unfolding under entry
only s k f e = go (eqb k 0) refl (eqb k 1) refl e
  where
    go : (a : Bool) → eqb k 0 ≡ a → (b : Bool) → eqb k 1 ≡ b → cond a (Some (constant s.qubits false)) (cond b (Some (constant s.qubits true)) None) ≡ Some f → ((k ≡ 0) × (f ≡ constant s.qubits false)) ⊎ ((k ≡ 1) × (f ≡ constant s.qubits true))
    go true p b q e = inl (eqb-true k 0 p, (let r : f ≡ constant s.qubits false = cc in r))
    go false p true q e = inr (eqb-true k 1 q, (let r : f ≡ constant s.qubits true = cc in r))
    go false p false q e = absurd (let z : ◌≡◌ {A = ℕ} 0 1 = cc in let b : ⊥ = omega arith in b)

none_held : (s : Setting) (f : Table) → Holds (constants_only s) f → ⊥
unfolding held functions_of among
none_held s f h = false≢true h

no_space : (s : Setting) → space s.qubits (held (constants_only s)) ≤ s.limit
unfolding space different without_constants held functions_of
no_space s = let z : 0 ≤ s.limit = omega arith in z

pub constants_only_lawful : (s : Setting) → SettingLaws s → Laws (constants_only s)
constants_only_lawful s laws = record {
  setting = laws;
  handle_fits = λ k f e. fits k f (only s k f e);
  of_qubits = λ k f e. sized k f (only s k f e);
  has_handle = λ f h. absurd (none_held s f h);
  one_handle = λ j k f a b. one j k f (only s j f a) (only s k f b);
  parts_held = λ f g h p. absurd (none_held s f h);
  within_limit = no_space s;
}
  where
    fits : (k : ℕ) (f : Table) → ((k ≡ 0) × (f ≡ constant s.qubits false)) ⊎ ((k ≡ 1) × (f ≡ constant s.qubits true)) → k < 2 ^ 32
    fits k f (inl p) = let z : k ≡ 0 = p.0 in omega arith
    fits k f (inr p) = let z : k ≡ 1 = p.0 in omega arith

    sized : (k : ℕ) (f : Table) → ((k ≡ 0) × (f ≡ constant s.qubits false)) ⊎ ((k ≡ 1) × (f ≡ constant s.qubits true)) → length f ≡ 2 ^ s.qubits
    sized k f (inl p) = ap length p.1 ∙ length_constant s.qubits false
    sized k f (inr p) = ap length p.1 ∙ length_constant s.qubits true

    one : (j k : ℕ) (f : Table) → ((j ≡ 0) × (f ≡ constant s.qubits false)) ⊎ ((j ≡ 1) × (f ≡ constant s.qubits true)) → ((k ≡ 0) × (f ≡ constant s.qubits false)) ⊎ ((k ≡ 1) × (f ≡ constant s.qubits true)) → j ≡ k
    one j k f (inl p) (inl q) = p.0 ∙ sym q.0
    one j k f (inl p) (inr q) = absurd (constants_apart s.qubits (sym p.1 ∙ q.1))
    one j k f (inr p) (inl q) = absurd (constants_apart s.qubits (sym q.1 ∙ p.1))
    one j k f (inr p) (inr q) = p.0 ∙ sym q.0

-- ---- the rule by which a function's only part is itself
pub constant_is_constant : (n : ℕ) (b : Bool) → is_constant n (constant n b) ≡ true
unfolding is_constant
constant_is_constant n false = or_left (same (constant n false) (constant n false)) (same (constant n false) (constant n true)) (same_self (constant n false))
constant_is_constant n true = or_right (same (constant n true) (constant n false)) (same (constant n true) (constant n true)) (same_self (constant n true))

pub constant_one_of : (n : ℕ) (f : Table) → is_constant n f ≡ true → (b : Bool) × (f ≡ constant n b)
unfolding is_constant
constant_one_of n f e = ⊎_elim
    (λ (s : same f (constant n false) ≡ true). (false, same_equal f (constant n false) s))
    (λ s. (true, same_equal f (constant n true) s))
    (or_cases (same f (constant n false)) (same f (constant n true)) e)

-- ---- the rule by which a function's only part is itself
-- a part by this rule is the function itself
pub part_itself : (n : ℕ) (f g : Table) → among g (only_itself n f) ≡ true → g ≡ f
unfolding only_itself among
part_itself n f g h = go (is_constant n f) h
  where
    go : (b : Bool) → among g (cond b [] (f ∷ [])) ≡ true → g ≡ f
    go true h = absurd (false≢true h)
    go false h = ⊎_elim (λ (e : same g f ≡ true). same_equal g f e) (λ (e : false ≡ true). absurd (false≢true e)) (or_cases (same g f) false h)

pub itself_part : (n : ℕ) (f : Table) → is_constant n f ≡ false → among f (only_itself n f) ≡ true
unfolding only_itself among
itself_part n f e = ap (among f) (cond-false (is_constant n f) [] (f ∷ []) e) ∙ or_left (same f f) false (same_self f)

pub constant_no_part : (n : ℕ) (b : Bool) → only_itself n (constant n b) ≡ []
unfolding only_itself
constant_no_part n b = cond-true (is_constant n (constant n b)) [] (constant n b ∷ []) (constant_is_constant n b)

pub simplest_lawful : (n limit : ℕ) → 1 ≤ n → n ≤ 16 → SettingLaws (record { qubits = n; limit = limit; parts = only_itself n })
simplest_lawful n limit some few = record {
  some_qubits = some;
  few_qubits = few;
  own_part = λ f l e. itself_part n f e;
  no_part = constant_no_part n;
  part_of_part = λ f g h a b. subst (λ (x : Table). among h (only_itself n x) ≡ true) (part_itself n f g a) b;
}
