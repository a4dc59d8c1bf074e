use Rattle.std.proofs.Common.{◌≡◌, ◌+◌, ◌≤◌, length, drop, sym, refl, ap, ◌∙◌, arith, length-drop}
use Rattle.std.proofs.lemmas.List.{drop-drop}
use Rattle.text_reader.specs.Tokens.{first_word, word_byte}
use Rattle.text_reader.specs.Reading.{text_of, rest, standing}
use Rattle.text_reader.proofs.Standing.{stands}
use Rattle.text_reader.proofs.Runs.{drop_run, run_within}
use Rattle.text_reader.proofs.Spots.{Stands, stands_place, stands_room, stands_word}
use Rattle.text_reader.proofs.reader.Reader.word.Goals as goal
use Rattle.text_reader.proofs.reader.Reader.word.Goals.{After-peek-bytes}

long : (c : After-peek-bytes) → length c.peek-bytes.result.now ≡ length (first_word (drop c.args.self.now.pos c.args.self.now.text.now))
unfolding rest
long c = ap length c.peek-bytes.ensures

room : (c : After-peek-bytes) → c.args.self.now.pos + length c.peek-bytes.result.now ≤ length c.args.self.now.text.now
room c =
    let text = c.args.self.now.text.now in
    let pos = c.args.self.now.pos in
    omega (arith, long c, run_within word_byte (drop pos text), length-drop pos text, (stands c.args.self.now).within)

after_word : (c : After-peek-bytes) → Stands c.args.self.now.text.now (c.args.self.now.pos + length c.peek-bytes.result.now) (record { line = c.args.self.now.place.line; column = c.args.self.now.place.column + length c.peek-bytes.result.now })
after_word c = stands_word _ _ _ _ (stands c.args.self.now) (long c)

pub overflow_add-self : goal.overflow_add-self
overflow_add-self c = let s = stands c.args.self.now in let h = stands_room s in omega (arith, room (goal.at.overflow_add-self c).After-peek-bytes, h.1, s.sized)

pub overflow_add-self-2 : goal.overflow_add-self-2
overflow_add-self-2 c = let s = stands c.args.self.now in omega (arith, room (goal.at.overflow_add-self-2 c).After-peek-bytes, s.sized)

pub invariant_of-self : goal.invariant_of-self
invariant_of-self c = let s = after_word (goal.at.invariant_of-self c).After-peek-bytes in record { sized = s.sized; within = s.within; lines = s.lines; columns = s.columns }

pub returns : goal.returns
unfolding text_of rest standing
returns c =
    let text = c.args.self.now.text.now in
    let pos = c.args.self.now.pos in
    record {
      same = refl;
      bytes = c.peek-bytes.ensures;
      left = sym (drop-drop (length c.peek-bytes.result.now) pos text) ∙ ap (λ k. drop k (drop pos text)) (long (goal.at.returns c).After-peek-bytes) ∙ drop_run word_byte (drop pos text);
      byte = c.byte-byte.ensures;
      place = stands_place (stands c.args.self.now);
    }
