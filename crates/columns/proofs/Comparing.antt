-- Handles compared in place of functions.
use Rattle.std.proofs.Common.{◌≡◌, ℕ, true, false, eqb, Some, sym, ◌∙◌, subst, ⊎_elim, eq-eqb}
use Rattle.std.proofs.lemmas.Bool.{cases_Bool, both_ways, eqb-true}
use Rattle.exact.proofs.Indices.{same_self, same_equal}
use Rattle.functions.specs.Tables.{Table}
use Rattle.functions.specs.Sets.{same}
use Rattle.functions.specs.Meanings.{Meaning, Laws, under}
use Rattle.functions.proofs.Handles.{same_function, same_handle}

-- two handles are equal exactly if their functions are
pub same_by_handles : (m : Meaning) → Laws m → (j k : ℕ) (f g : Table) → under m j ≡ Some f → under m k ≡ Some g → eqb j k ≡ same f g
same_by_handles m laws j k f g a b = ⊎_elim
    (λ (t : same f g ≡ true). eq-eqb j k (same_handle m laws j k f g a b (same_equal f g t)) ∙ sym t)
    (λ (t : same f g ≡ false). ⊎_elim
    (λ (e : eqb j k ≡ true). absurd (both_ways (same f g) t (subst (λ (y : Table). same f y ≡ true) (same_function m j k f g a b (eqb-true j k e)) (same_self f))))
    (λ (e : eqb j k ≡ false). e ∙ sym t)
    (cases_Bool (eqb j k)))
    (cases_Bool (same f g))
