-- Functions of n + 1 qubits as two halves of n: where qubit 0 is 0, and where it is 1.
use Rattle.std.proofs.Common.{◌≡◌, ℕ, zero, suc, ◌+◌, ◌^◌, ◌<◌, ◌≤◌, Bool, true, false, cond, [], ◌∷◌, ◌++◌, length, get_or, sym, refl, ap, ◌∙◌, subst, ap₂, arith, length-set, get_or-append-add}
use lib.ListN.{get_or-append}
use Rattle.exact.specs.Indices.{Index, number, where_0, where_1, listing, total, at_index, with_bit}
use Rattle.exact.proofs.Indices.{double, number_below}
use Rattle.exact.proofs.Listings.{listing_same, listing_own}
use Rattle.exact.proofs.Sums.{total_same}
use Rattle.functions.specs.Tables.{Table, value_at, constant, literal, fixed, ruled, combined, digit, count_where, ones}

-- the values of the halves
pub value_low : (d : ℕ) (a b : Table) (x : Index) → length a ≡ 2 ^ d → length x ≡ d → value_at (a ++ b) (false ∷ x) ≡ value_at a x
unfolding at_index number
value_low d a b x la lx =
    let z : 0 + number x ≡ number x = omega arith in
    let h : number x < 2 ^ d = subst (λ (m : ℕ). number x < 2 ^ m) lx (number_below x) in
    ap (λ (i : ℕ). get_or (a ++ b) i false) z ∙ get_or-append a b false (number x) (omega arith)

pub value_high : (d : ℕ) (a b : Table) (x : Index) → length a ≡ 2 ^ d → length x ≡ d → value_at (a ++ b) (true ∷ x) ≡ value_at b x
unfolding at_index number
value_high d a b x la lx =
    ap (λ (m : ℕ). get_or (a ++ b) (m + number x) false) (ap (λ (k : ℕ). 2 ^ k) lx ∙ sym la) ∙ get_or-append-add a b (number x) false

-- the functions of qubits 1 and on, in each half
pub constant_halves : (d : ℕ) (b : Bool) → constant (suc d) b ≡ constant d b ++ constant d b
unfolding constant listing
constant_halves d b = refl

pub literal_first : (d : ℕ) → literal (suc d) 0 ≡ constant d false ++ constant d true
unfolding literal constant listing
literal_first d = refl

pub literal_later : (d q : ℕ) → literal (suc d) (suc q) ≡ literal d q ++ literal d q
unfolding literal listing
literal_later d q = refl

pub combined_halves : (d rule : ℕ) (a b c a' b' c' : Table) → length a ≡ 2 ^ d → length b ≡ 2 ^ d → length c ≡ 2 ^ d → combined (suc d) rule (a ++ a') (b ++ b') (c ++ c') ≡ combined d rule a b c ++ combined d rule a' b' c'
unfolding combined listing
combined_halves d rule a b c a' b' c' la lb lc = ap₂ (λ (s t : Table). s ++ t) (listing_same d _ _ low) (listing_same d _ _ high)
  where
    low : (x : Index) → length x ≡ d → ruled rule (value_at (a ++ a') (false ∷ x)) (value_at (b ++ b') (false ∷ x)) (value_at (c ++ c') (false ∷ x)) ≡ ruled rule (value_at a x) (value_at b x) (value_at c x)
    low x l = rw (value_low d a a' x la l, value_low d b b' x lb l, value_low d c c' x lc l)

    high : (x : Index) → length x ≡ d → ruled rule (value_at (a ++ a') (true ∷ x)) (value_at (b ++ b') (true ∷ x)) (value_at (c ++ c') (true ∷ x)) ≡ ruled rule (value_at a' x) (value_at b' x) (value_at c' x)
    high x l = rw (value_high d a a' x la l, value_high d b b' x lb l, value_high d c c' x lc l)

pub fixed_later : (d : ℕ) (a b : Table) (q : ℕ) (v : Bool) → length a ≡ 2 ^ d → fixed (suc d) (a ++ b) (suc q) v ≡ fixed d a q v ++ fixed d b q v
unfolding fixed listing
fixed_later d a b q v la = ap₂ (λ (s t : Table). s ++ t)
    (listing_same d _ _ (λ x l. value_low d a b (with_bit x q v) la (length-set x q v ∙ l)))
    (listing_same d _ _ (λ x l. value_high d a b (with_bit x q v) la (length-set x q v ∙ l)))

-- with qubit 0 set, both halves are the one that it chooses
pub fixed_first : (d : ℕ) (a b : Table) (v : Bool) → length a ≡ 2 ^ d → length b ≡ 2 ^ d → fixed (suc d) (a ++ b) 0 v ≡ cond v (b ++ b) (a ++ a)
unfolding fixed listing
fixed_first d a b false la lb =
    let e : listing d (λ x. value_at (a ++ b) (false ∷ x)) ≡ a = listing_same d _ _ (λ x l. value_low d a b x la l) ∙ listing_own false d a la in
    ap₂ (λ (s t : Table). s ++ t) e e
fixed_first d a b true la lb =
    let e : listing d (λ x. value_at (a ++ b) (true ∷ x)) ≡ b = listing_same d _ _ (λ x l. value_high d a b x la l) ∙ listing_own false d b lb in
    ap₂ (λ (s t : Table). s ++ t) e e

-- ---- the number of ones
pub ones_halves : (d : ℕ) (a b : Table) → length a ≡ 2 ^ d → ones (suc d) (a ++ b) ≡ ones d a + ones d b
unfolding ones count_where total
ones_halves d a b la = ap₂ (λ (i j : ℕ). i + j)
    (total_same ◌+◌ d _ _ (λ x l. ap digit (value_low d a b x la l)))
    (total_same ◌+◌ d _ _ (λ x l. ap digit (value_high d a b x la l)))

count_below : (d : ℕ) (p : Index → Bool) → count_where d p ≤ 2 ^ d
unfolding count_where total
count_below zero p = go (p [])
  where
    go : (b : Bool) → digit b ≤ 1
    go true = omega arith
    go false = omega arith
count_below (suc d) p = let a = count_below d (where_0 p) in let b = count_below d (where_1 p) in let e = double d in omega arith

pub ones_below : (d : ℕ) (f : Table) → ones d f ≤ 2 ^ d
unfolding ones
ones_below d f = count_below d (value_at f)
