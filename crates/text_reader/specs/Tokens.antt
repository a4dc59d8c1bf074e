-- Words, tokens and lines of a text.
use Rattle.std.specs.Prelude.{◌≡◌, ℕ, Bool, cond, not, ◌&&◌, List, [], ◌∷◌, ◌==◌}

-- the longest run of bytes of a kind that a text begins with, and what stands after it
unfoldable pub run_of : (ℕ → Bool) → List ℕ → List ℕ
run_of kind [] = []
run_of kind (b ∷ bs) = cond (kind b) (b ∷ run_of kind bs) []

unfoldable pub past_run : (ℕ → Bool) → List ℕ → List ℕ
past_run kind [] = []
past_run kind (b ∷ bs) = cond (kind b) (past_run kind bs) (b ∷ bs)

-- what is answered of a byte is whether it is of a kind
abbrev pub Tells : (ℕ → Bool → Type 0) → (ℕ → Bool) → Type 0
Tells answer kind = (b : ℕ) (told : Bool) → answer b told → told ≡ kind b

-- a byte of a line is no line end, and one of a word is no space either
abbrev pub line_byte : ℕ → Bool
line_byte b = not (b == 10)

abbrev pub word_byte : ℕ → Bool
word_byte b = not (b == 10) && not (b == 32)

-- the line that a text begins with, without its end
abbrev pub first_line : List ℕ → List ℕ
first_line t = run_of line_byte t

-- the word that a text begins with, and what stands after it
abbrev pub first_word : List ℕ → List ℕ
first_word t = run_of word_byte t

abbrev pub past_word : List ℕ → List ℕ
past_word t = past_run word_byte t

-- the token that a text begins with: a word, one space or line end, or nothing at the end
unfoldable pub token : List ℕ → List ℕ
token [] = []
token (b ∷ bs) = cond (word_byte b) (first_word (b ∷ bs)) (b ∷ [])
