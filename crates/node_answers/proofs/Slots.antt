-- Slots of a table.
use Rattle.std.proofs.Common.{◌≡◌, ℕ, ◌*◌, ◌<◌, Some, None, Option, get_or, replicate, sym, ◌∙◌, arith}
use Rattle.std.proofs.lemmas.List.{get_or-replicate}
use Rattle.node_answers.specs.declared.question.Question.{Question}
use Rattle.node_answers.specs.Answers.{key, slot_of}

-- no slot of an empty table has anything
pub nothing_in : {A : Type 0} (n i : ℕ) (x : A) → i < n → get_or (replicate n None) i None ≡ Some x → ⊥
nothing_in {A = A} n i x l e = none_some (sym (get_or-replicate n i None None l) ∙ e)
  where
    none_some : ◌≡◌ {A = Option A} None (Some x) → ⊥
    none_some e = let z : ◌≡◌ {A = ℕ} 0 1 = cc in omega arith

pub slot_below : (q : Question) → slot_of q < 4096
unfolding slot_of
slot_below q = let x = key q * 11400714819323198485 in omega arith
