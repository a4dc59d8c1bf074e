-- Questions to a diagram, and answers that are right.
use Rattle.std.specs.Prelude.{◌≡◌, ℕ, ◌*◌, ◌/◌, ◌%◌, ◌^◌, cond, Some, None, IfSome, All, slice_index_or, bit_xor}
use Rattle.diagrams.specs.Diagrams.{Diagram, Held}
use Rattle.diagrams.specs.Forming.{Wanted, combination, fixing, Formed}
use Rattle.node_answers.specs.declared.question.Question.{Question}
use Rattle.node_answers.specs.declared.question.Question.TheVariants.{Combined, Fixed}
use Rattle.node_answers.specs.declared.remembered.Remembered.{Remembered}

-- the function that is asked for
abbrev pub asked : Diagram → Question → Wanted
asked s (Combined c) = combination s c.rule c.f c.g c.h
asked s (Fixed x) = fixing s x.f x.height x.bit

-- the handles of a question are held
abbrev pub Given : Diagram → Question → Type 0
Given s (Combined c) = Held s c.f × Held s c.g × Held s c.h
Given s (Fixed x) = Held s x.f

-- The diagram has the answer: it is formed with nothing new.
pub record Right (s : Diagram) (q : Question) (answer : ℕ) : Type 0 where
  pub given : Given s q
  pub formed : Formed s s (asked s q) answer

-- the fields of a question in one number
unfoldable pub key : Question → ℕ
key (Combined c) = bit_xor (bit_xor (bit_xor c.f (c.g * 2 ^ 17 % 2 ^ 64)) (c.h * 2 ^ 34 % 2 ^ 64)) (c.rule * 2 ^ 55 % 2 ^ 64)
key (Fixed x) = bit_xor (bit_xor (bit_xor x.f (x.height * 2 ^ 17 % 2 ^ 64)) (cond x.bit 1 0 * 2 ^ 34 % 2 ^ 64)) (1 * 2 ^ 63 % 2 ^ 64)

-- the slot of a question: twelve bits of its number, mixed
unfoldable pub slot_of : Question → ℕ
slot_of q = key q * 11400714819323198485 % 2 ^ 64 / 2 ^ 52

-- the slot of a question has its answer, of the present generation
abbrev pub Remembers : Remembered → Question → ℕ → Type 0
Remembers m q answer = slice_index_or m.entries (slot_of q) None ≡ Some (record { question = q; answer = answer; generation = m.generation })

-- every answer that is remembered is right: those of the present generation
abbrev pub Sound : Diagram → Remembered → Type 0
Sound s m = All (λ e. IfSome e (λ x. x.generation ≡ m.generation → Right s x.question x.answer)) m.entries
