-- The rules of the combinations that have names.
use Rattle.std.proofs.Common.{◌≡◌, ℕ, Bool, true, false, cond, ◌&&◌, ◌||◌, refl}
use Rattle.exact.proofs.Listings.{listing_same}
use Rattle.functions.specs.Tables.{Table, value_at, ruled, combined, choice, differ, parity, majority, conjunction}

rule_choice : (a b c : Bool) → ruled 202 a b c ≡ cond a b c
unfolding ruled
rule_choice true true true = refl
rule_choice true true false = refl
rule_choice true false true = refl
rule_choice true false false = refl
rule_choice false true true = refl
rule_choice false true false = refl
rule_choice false false true = refl
rule_choice false false false = refl

rule_parity : (a b c : Bool) → ruled 150 a b c ≡ differ a (differ b c)
unfolding ruled
rule_parity true true true = refl
rule_parity true true false = refl
rule_parity true false true = refl
rule_parity true false false = refl
rule_parity false true true = refl
rule_parity false true false = refl
rule_parity false false true = refl
rule_parity false false false = refl

rule_majority : (a b c : Bool) → ruled 232 a b c ≡ cond a (b || c) (b && c)
unfolding ruled
rule_majority true true true = refl
rule_majority true true false = refl
rule_majority true false true = refl
rule_majority true false false = refl
rule_majority false true true = refl
rule_majority false true false = refl
rule_majority false false true = refl
rule_majority false false false = refl

rule_conjunction : (a b c : Bool) → ruled 128 a b c ≡ (a && (b && c))
unfolding ruled
rule_conjunction true true true = refl
rule_conjunction true true false = refl
rule_conjunction true false true = refl
rule_conjunction true false false = refl
rule_conjunction false true true = refl
rule_conjunction false true false = refl
rule_conjunction false false true = refl
rule_conjunction false false false = refl

pub combined_202 : (n : ℕ) (f g h : Table) → combined n 202 f g h ≡ choice n f g h
unfolding combined choice
combined_202 n f g h = listing_same n _ _ (λ x l. rule_choice (value_at f x) (value_at g x) (value_at h x))

pub combined_150 : (n : ℕ) (f g h : Table) → combined n 150 f g h ≡ parity n f g h
unfolding combined parity
combined_150 n f g h = listing_same n _ _ (λ x l. rule_parity (value_at f x) (value_at g x) (value_at h x))

pub combined_232 : (n : ℕ) (f g h : Table) → combined n 232 f g h ≡ majority n f g h
unfolding combined majority
combined_232 n f g h = listing_same n _ _ (λ x l. rule_majority (value_at f x) (value_at g x) (value_at h x))

pub combined_128 : (n : ℕ) (f g h : Table) → combined n 128 f g h ≡ conjunction n f g h
unfolding combined conjunction
combined_128 n f g h = listing_same n _ _ (λ x l. rule_conjunction (value_at f x) (value_at g x) (value_at h x))
