-- Answers that stay right while a diagram grows.
use Rattle.std.proofs.Common.{◌≡◌, ℕ, Some, None, IfSome, Option}
use Rattle.std.proofs.lemmas.List.Elements.{All-weaker}
use Rattle.diagrams.specs.Diagrams.{Diagram, Reduced}
use Rattle.diagrams.specs.Forming.{Keeps, Formed}
use Rattle.diagrams.proofs.Canonical.{keeps_self, held_kept}
use Rattle.diagrams.proofs.Wanted.{SameWanted, same_back, combination_kept, fixing_kept}
use Rattle.diagrams.proofs.Forming.{formed_again, formed_same}
use Rattle.node_answers.specs.declared.question.Question.{Question}
use Rattle.node_answers.specs.declared.question.Question.TheVariants.{Combined, Fixed}
use Rattle.node_answers.specs.declared.answered.Answered.{Answered}
use Rattle.node_answers.specs.declared.remembered.Remembered.{Remembered}
use Rattle.node_answers.specs.Answers.{asked, Given, Right, Sound}

-- what is held stays, and so does what is asked of it
pub given_kept : (s t : Diagram) → Keeps s t → (q : Question) → Given s q → Given t q
given_kept s t k (Combined c) g = (held_kept s t k c.f g.0, held_kept s t k c.g g.1, held_kept s t k c.h g.2)
given_kept s t k (Fixed x) g = held_kept s t k x.f g

pub asked_kept : (n : ℕ) (s t : Diagram) → Reduced n s → Keeps s t → (q : Question) → Given s q → SameWanted (asked t q) (asked s q)
asked_kept n s t o k (Combined c) g = combination_kept n s t o k c.rule c.f c.g c.h g.0 g.1 g.2
asked_kept n s t o k (Fixed x) g = fixing_kept n s t o k x.f x.height x.bit g

-- what was formed from s to t is a right answer from then on
pub right_formed : (n : ℕ) (s t : Diagram) → Reduced n s → Reduced n t → Keeps s t → (q : Question) (r : ℕ) → Given s q → Formed s t (asked s q) r → Right t q r
right_formed n s t o p k q r g x = record {
  given = given_kept s t k q g;
  formed = formed_same t t (asked s q) (asked t q) r (same_back (asked t q) (asked s q) (asked_kept n s t o k q g)) (formed_again n s t t (asked s q) r p (keeps_self t) x);
}

right_kept : (n : ℕ) (s t : Diagram) → Reduced n s → Keeps s t → (q : Question) (r : ℕ) → Right s q r → Right t q r
right_kept n s t o k q r x = record {
  given = given_kept s t k q x.given;
  formed = formed_same t t (asked s q) (asked t q) r (same_back (asked t q) (asked s q) (asked_kept n s t o k q x.given)) (formed_again n s s t (asked s q) r o k x.formed);
}

answer_kept : (n : ℕ) (s t : Diagram) → Reduced n s → Keeps s t → (g : ℕ) (e : Option Answered) → IfSome e (λ x. x.generation ≡ g → Right s x.question x.answer) → IfSome e (λ x. x.generation ≡ g → Right t x.question x.answer)
answer_kept n s t o k g (Some e) x = λ p. right_kept n s t o k e.question e.answer (x p)
answer_kept n s t o k g None x = x

pub sound_kept : (n : ℕ) (s t : Diagram) → Reduced n s → Keeps s t → (m : Remembered) → Sound s m → Sound t m
sound_kept n s t o k m x = All-weaker (λ e. IfSome e (λ x. x.generation ≡ m.generation → Right s x.question x.answer)) (λ e. IfSome e (λ x. x.generation ≡ m.generation → Right t x.question x.answer)) (answer_kept n s t o k m.generation) m.entries x
