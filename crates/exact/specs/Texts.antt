-- Amplitudes and weights as they are written: words parted by one space.
use Rattle.std.specs.Prelude.{ℕ, List, [], ◌∷◌, ◌++◌, Some, None, codes, decimal, Option}
use Rattle.std.specs.Fmt.{signed_decimal}
use Rattle.exact.specs.declared.Quadruple.{Quadruple}
use Rattle.exact.specs.declared.Amplitude.{Amplitude}
use Rattle.exact.specs.declared.Weight.{Weight}
use Rattle.exact.specs.Shares.{share}

abbrev pub words : List (List ℕ) → List ℕ
words [] = []
words (w ∷ []) = w
words (w ∷ (v ∷ ws)) = w ++ (codes " " ++ words (v ∷ ws))

-- a b c d
abbrev pub quadruple_text : Quadruple → List ℕ
quadruple_text x = words (signed_decimal x.a ∷ (signed_decimal x.b ∷ (signed_decimal x.c ∷ (signed_decimal x.d ∷ []))))

-- a b c d k
abbrev pub amplitude_text : Amplitude → List ℕ
amplitude_text x = words (signed_decimal x.quadruple.a ∷ (signed_decimal x.quadruple.b ∷ (signed_decimal x.quadruple.c ∷ (signed_decimal x.quadruple.d ∷ (decimal x.power.0 ∷ [])))))

abbrev pub share_text : Option ℕ → List ℕ
share_text None = codes "-"
share_text (Some s) = decimal s

-- whole part, root part, k and share
abbrev pub weight_text : Weight → List ℕ
weight_text w = words (decimal w.whole ∷ (signed_decimal w.root ∷ (decimal w.power.0 ∷ (share_text (share w) ∷ []))))
