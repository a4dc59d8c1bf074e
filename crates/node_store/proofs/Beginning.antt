-- Checking words and making a store of them.
use Rattle.std.proofs.Common.{◌≡◌, ℕ, ◌<◌, ◌≤◌, true, false, ◌||◌, ltb, ◌⊎◌, List, Ok, Err, Result, sym, ◌∙◌, subst, ap₂, inl, inr, arith}
use Rattle.std.proofs.lemmas.Bool.{cases_lt, lt-ltb, le-ltb, or_from, or_left, or_right, cond-true, cond-false}
use Rattle.functions.specs.declared.faults.StoreFault.{StoreFault}
use Rattle.functions.specs.declared.faults.StoreFault.TheVariants.{NoSuchStore}
use Rattle.functions.specs.Meanings.{constants_only}
use Rattle.diagrams.specs.Diagrams.{Diagram, no_nodes}
use Rattle.diagrams.specs.Meanings.{diagram_setting, diagram_meaning}
use Rattle.diagrams.proofs.Meanings.{none_reduced, none_means, alike_meaning}
use Rattle.node_store.specs.New.{store_check, room, checked_setting, new_setting, Untouched}

-- ---- the check
pub checked_qubits : (words qubits : ℕ) → (1 ≤ qubits → qubits ≤ 16 → ⊥) → store_check words qubits ≡ Err (NoSuchStore qubits)
unfolding store_check
checked_qubits words qubits out = cond-true (ltb qubits 1 || ltb 16 qubits) _ _ (go (cases_lt qubits 1) (cases_lt 16 qubits))
  where
    go : (qubits < 1) ⊎ (1 ≤ qubits) → (16 < qubits) ⊎ (qubits ≤ 16) → (ltb qubits 1 || ltb 16 qubits) ≡ true
    go (inl l) m = or_left (ltb qubits 1) (ltb 16 qubits) (lt-ltb qubits 1 l)
    go (inr l) (inl m) = or_right (ltb qubits 1) (ltb 16 qubits) (lt-ltb 16 qubits m)
    go (inr l) (inr m) = absurd (out l m)

in_range : (qubits : ℕ) → 1 ≤ qubits → qubits ≤ 16 → (ltb qubits 1 || ltb 16 qubits) ≡ false
in_range qubits l m = or_from (ltb qubits 1) (ltb 16 qubits) (le-ltb qubits 1 l) (le-ltb 16 qubits m)

pub checked_words : (words qubits : ℕ) → 1 ≤ qubits → qubits ≤ 16 → words < 4 → store_check words qubits ≡ Err (NoSuchStore 0)
unfolding store_check
checked_words words qubits l m k = cond-false (ltb qubits 1 || ltb 16 qubits) _ _ (in_range qubits l m) ∙ cond-true (ltb words 4) _ _ (lt-ltb words 4 k)

pub checked_all : (words qubits : ℕ) → 1 ≤ qubits → qubits ≤ 16 → 4 ≤ words → store_check words qubits ≡ Ok tt
unfolding store_check
checked_all words qubits l m k = cond-false (ltb qubits 1 || ltb 16 qubits) _ _ (in_range qubits l m) ∙ cond-false (ltb words 4) _ _ (le-ltb words 4 k)

-- what passes the check is in range
no_ok : (e : StoreFault) (r : Result (Unit {0}) StoreFault) → r ≡ Err e → r ≡ Ok tt → ⊥
no_ok e r p q = let z : ◌≡◌ {A = ℕ} 0 1 = cc in omega arith

pub passed_range : (words qubits : ℕ) → store_check words qubits ≡ Ok tt → (1 ≤ qubits) × (qubits ≤ 16)
passed_range words qubits e = go (cases_lt qubits 1) (cases_lt 16 qubits)
  where
    go : (qubits < 1) ⊎ (1 ≤ qubits) → (16 < qubits) ⊎ (qubits ≤ 16) → (1 ≤ qubits) × (qubits ≤ 16)
    go (inl l) m = absurd (no_ok _ _ (checked_qubits words qubits (λ x y. omega arith)) e)
    go (inr l) (inl m) = absurd (no_ok _ _ (checked_qubits words qubits (λ x y. omega arith)) e)
    go (inr l) (inr m) = (l, m)

-- ---- a store without nodes holds only the constants
pub empty_means : (n limit : ℕ) (s : Diagram) → ((h : ℕ) → s.height h ≡ 0) → diagram_meaning n limit s ≡ constants_only (diagram_setting n limit)
empty_means n limit s e =
    alike_meaning n limit no_nodes s (none_reduced n) (record { height = e; low = λ h p. absurd (omega arith); high = λ h p. absurd (omega arith) })
    ∙ none_means n limit

pub passed_means : (words qubits n limit : ℕ) (s : Diagram) → store_check words qubits ≡ Ok tt → n ≡ qubits → limit ≡ room words → ((h : ℕ) → s.height h ≡ 0) → diagram_meaning n limit s ≡ constants_only (new_setting words qubits)
unfolding new_setting checked_setting
passed_means words qubits n limit s e p q none =
    rw (e) (empty_means n limit s none ∙ ap₂ (λ (a b : ℕ). constants_only (diagram_setting a b)) p q)

pub failed_means : (words qubits n limit : ℕ) (s : Diagram) (x : StoreFault) → store_check words qubits ≡ Err x → n ≡ 1 → limit ≡ 0 → ((h : ℕ) → s.height h ≡ 0) → diagram_meaning n limit s ≡ constants_only (new_setting words qubits)
unfolding new_setting checked_setting
failed_means words qubits n limit s x e p q none =
    rw (e) (empty_means n limit s none ∙ ap₂ (λ (a b : ℕ). constants_only (diagram_setting a b)) p q)

pub passed_words : (r : Result (Unit {0}) StoreFault) (before after : List ℕ) → r ≡ Ok tt → Untouched r before after
unfolding Untouched
passed_words r before after e = subst (λ (x : Result (Unit {0}) StoreFault). Untouched x before after) (sym e) tt

pub failed_words : (r : Result (Unit {0}) StoreFault) (before after : List ℕ) (x : StoreFault) → r ≡ Err x → after ≡ before → Untouched r before after
unfolding Untouched
failed_words r before after x e q = subst (λ (y : Result (Unit {0}) StoreFault). Untouched y before after) (sym e) q
