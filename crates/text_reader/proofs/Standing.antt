-- What a reader's ghost fields say.
use Rattle.std.proofs.Common.{◌≡◌, ℕ, ◌-◌, ◌≤◌, List, ◌++◌, length, take, drop, sym, refl, ap, ◌∙◌, append_assoc, arith, length-drop}
use Rattle.std.proofs.lemmas.List.{take-append-drop, take_at, length-append}
use Rattle.text_reader.specs.declared.place.Place.{Place}
use Rattle.text_reader.specs.declared.reader.Reader.{Reader}
use Rattle.text_reader.specs.Places.{moved_by, place_after}
use Rattle.text_reader.specs.Reading.{text_of, rest, standing}
use Rattle.text_reader.proofs.Spots.{Stands, moved_append, line_least}

pub stands : (s : Reader) → Stands s.text.now s.pos s.place
stands s = record { sized = s.sized; within = s.within; lines = s.lines; columns = s.columns }

-- a reader stands after the bytes that are no longer left
pub standing_after : (s : Reader) → standing s ≡ place_after (take (length (text_of s) - length (rest s)) (text_of s))
unfolding standing text_of rest
standing_after s =
    let e : s.pos ≡ length s.text.now - length (drop s.pos s.text.now) = omega (arith, length-drop s.pos s.text.now, s.within) in
    ap (λ n. place_after (take n s.text.now)) e

-- a reader that has passed some bytes stands after them
pub standing_moved : (s t : Reader) (passed : List ℕ) → text_of t ≡ text_of s → rest s ≡ passed ++ rest t → standing t ≡ moved_by passed (standing s)
unfolding place_after text_of rest standing
standing_moved s t passed same e =
    let one : Place = record { line = 1; column = 1 } in
    let before = take s.pos s.text.now in
    let whole : text_of s ≡ (before ++ passed) ++ rest t = parted s ∙ ap (λ l. before ++ l) e ∙ sym (append_assoc before passed (rest t)) in
    let long : length (before ++ passed) ≡ length (text_of s) - length (rest t) = omega (arith, ap length whole, length-append (before ++ passed) (rest t)) in
    let cut : take (length (text_of t) - length (rest t)) (text_of t) ≡ before ++ passed =
    ap (λ l. take (length l - length (rest t)) l) same ∙ ap (take (length (text_of s) - length (rest t))) whole ∙ take_at (before ++ passed) (rest t) _ long in
    standing_after t ∙ ap (λ l. moved_by l one) cut ∙ moved_append before passed one ∙ ap (moved_by passed) (sym (here s))
  where
    parted : (r : Reader) → text_of r ≡ take r.pos r.text.now ++ rest r
    parted r = sym (take-append-drop r.pos r.text.now)

    here : (r : Reader) → standing r ≡ moved_by (take r.pos r.text.now) (record { line = 1; column = 1 })
    here r = refl

pub standing_line : (s : Reader) → 1 ≤ (standing s).line
unfolding standing place_after
standing_line s = line_least (take s.pos s.text.now) (record { line = 1; column = 1 })
