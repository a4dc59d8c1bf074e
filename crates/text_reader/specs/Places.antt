-- Places in a text.
use Rattle.std.specs.Prelude.{ℕ, ◌+◌, cond, List, [], ◌∷◌, ◌++◌, decimal, ◌==◌}
use Rattle.text_reader.specs.declared.place.Place.{Place}

-- the place after a byte
abbrev pub moved : ℕ → Place → Place
moved b p = cond (b == 10) (record { line = p.line + 1; column = 1 }) (record { line = p.line; column = p.column + 1 })

-- the place after some bytes
unfoldable pub moved_by : List ℕ → Place → Place
moved_by [] p = p
moved_by (b ∷ bs) p = moved_by bs (moved b p)

-- the place after the bytes that a text begins with
unfoldable pub place_after : List ℕ → Place
place_after bs = moved_by bs (record { line = 1; column = 1 })

-- a place as it is printed: the line and the column
abbrev pub place_text : Place → List ℕ
place_text p = decimal p.line ++ (32 ∷ decimal p.column)
