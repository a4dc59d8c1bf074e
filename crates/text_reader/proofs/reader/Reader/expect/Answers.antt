use Rattle.std.proofs.Common.{◌≡◌, ℕ, ◌+◌, true, eqb, List, [], ◌∷◌, length, drop, Some, Option, refl, ap, ◌∙◌, arith, length-drop}
use Rattle.std.specs.Option.{option_eq}
use Rattle.std.proofs.lemmas.List.{drop-drop}
use Rattle.std.proofs.lemmas.Bool.Decides.{nat_tests}
use Rattle.text_reader.specs.declared.reader.Reader.{Reader}
use Rattle.text_reader.specs.Reading.{text_of, rest, first_byte}
use Rattle.text_reader.proofs.Standing.{stands}
use Rattle.text_reader.proofs.Spots.{Stands, stands_room, stands_byte}
use Rattle.text_reader.proofs.reader.Reader.expect.Goals as goal

-- the byte that stands there is the first of what is left
first_of : (bs : List ℕ) (o : Option ℕ) (b : ℕ) → o ≡ first_byte bs → true ≡ option_eq eqb o (Some b) → bs ≡ b ∷ drop 1 bs
first_of [] o b e q = grind (arith, nat_tests)
first_of (x ∷ xs) o b e q = let h : x ≡ b = grind (arith, nat_tests) in ap (λ y. y ∷ xs) h

there : (s : Reader) (o : Option ℕ) (b : ℕ) → o ≡ first_byte (rest s) → true ≡ option_eq eqb o (Some b) → drop s.pos s.text.now ≡ b ∷ drop (s.pos + 1) s.text.now
unfolding rest
there s o b e q = first_of (drop s.pos s.text.now) o b e q ∙ ap (λ l. b ∷ l) (drop-drop 1 s.pos s.text.now)

pub past-self-requires : goal.past-self-requires
past-self-requires c =
    let s = stands c.args.self.now in
    let h = stands_room s in
    let l = ap length (there c.args.self.now _ _ c.byte.ensures c.if-eq.ensures) in
    (omega (arith, h.0, s.sized), omega (arith, h.1, s.sized, l, length-drop c.args.self.now.pos c.args.self.now.text.now))

pub invariant_of-self : goal.invariant_of-self
invariant_of-self c =
    let s : Stands c.args.self.now.text.now (c.args.self.now.pos + 1) c.past-self.result = rw c.past-self.ensures (stands_byte _ _ _ _ (stands c.args.self.now) (there c.args.self.now _ _ c.byte.ensures c.if-eq.ensures)) in
    record { sized = s.sized; within = s.within; lines = s.lines; columns = s.columns }

pub returns-then-eq : goal.returns-then-eq
unfolding text_of rest
returns-then-eq c = (refl, there c.args.self.now _ _ c.byte.ensures c.if-eq.ensures)
