-- Arrays made by a closure, number by number.
use Rattle.std.proofs.Common.{◌≡◌, ℕ, zero, suc, ◌+◌, ◌<◌, ◌≤◌, List, get_or, sym, subst, arith, ⊎_elim}
use denote.Param.Members.{Mut, Called}
use Rattle.std.specs.Array.{IsFromFnResult, IsFromFnResultFrom}
use Rattle.std.proofs.lemmas.Bool.{cases_eq}

-- what each call gives, where no call changes the closure
module _ {F B : Type 0} (g : Mut F (ℕ × Unit {0}) B) (R : ℕ → B → Type 0) where
  each_from : (f : F) (ys : List B) (i n : ℕ) → ((k : ℕ) (y : B) (q : F) → Called g f (k, tt) y q → R k y × (q ≡ f)) → IsFromFnResultFrom g f ys i n → (k : ℕ) (d : B) → i ≤ k → k < i + n → R k (get_or ys k d)
  each_from f ys i zero h m k d a b = absurd (omega arith)
  each_from f ys i (suc n) h m k d a b =
      let c = h i m.1 m.0 m.3 in
      ⊎_elim
      (λ (e : k ≡ i). subst (λ (x : ℕ). R x (get_or ys x d)) (sym e) (subst (R i) (sym (m.2.1 d)) c.0))
      (λ (e : k ≡ i → ⊥). each_from f ys (i + 1) n h (subst (λ (q : F). IsFromFnResultFrom g q ys (i + 1) n) c.1 m.4) k d (omega arith) (omega arith))
      (cases_eq k i)

  pub each_made : (f : F) (ys : List B) (n : ℕ) → ((k : ℕ) (y : B) (q : F) → Called g f (k, tt) y q → R k y × (q ≡ f)) → IsFromFnResult g f ys n → (k : ℕ) (d : B) → k < n → R k (get_or ys k d)
  each_made f ys n h m k d l = each_from f ys 0 n h m.each k d (omega arith) (omega arith)
