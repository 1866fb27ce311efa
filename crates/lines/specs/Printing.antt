-- The line that is printed for a line that was read.
use Rattle.std.specs.Prelude.{ℕ, ◌+◌, ◌≤◌, ◌≡◌, cond, List, [], ◌∷◌, ◌++◌, eqb, length}
use Rattle.std.proofs.lemmas.List.Edits.{sets}
use Rattle.format.specs.Given.{Given, gives, refused, refused_at}
use Rattle.number.specs.declared.Number.{Number}
use Rattle.binary32.specs.Patterns.{pattern_read}
use Rattle.binary32.specs.Places.{PlacesGiven, places_of}
use Rattle.lines.specs.declared.reading.Line.{Line}
use Rattle.lines.specs.declared.reading.Line.TheVariants.{Digits, Bad}
use Rattle.lines.specs.Digits.{low_digits, decimal}
use Rattle.lines.specs.Reading.{is_pattern, digits_value}

-- ---- texts
-- `bad line`
abbrev pub bad_line : List ℕ
bad_line = 98 ∷ 97 ∷ 100 ∷ 32 ∷ 108 ∷ 105 ∷ 110 ∷ 101 ∷ []

-- `refused`
abbrev pub refused_word : List ℕ
refused_word = 114 ∷ 101 ∷ 102 ∷ 117 ∷ 115 ∷ 101 ∷ 100 ∷ []

abbrev pub line_feed : List ℕ
line_feed = 10 ∷ []

-- texts with one space between
abbrev pub spaced : List (List ℕ) → List ℕ
spaced [] = []
spaced (t ∷ []) = t
spaced (t ∷ s ∷ ts) = t ++ 32 ∷ spaced (s ∷ ts)

-- ---- places and neighbours
-- a pattern, or `-` where there is none
abbrev pub field_text : Given ℕ → List ℕ
field_text (gives n) = low_digits 8 n
field_text (refused number) = 45 ∷ []
field_text (refused_at number index) = 45 ∷ []

abbrev pub fields : PlacesGiven → List (List ℕ)
fields q = field_text q.ufp ∷ field_text q.ulp ∷ field_text q.predecessor ∷ field_text q.successor ∷ []

-- ---- the printed line, without its line feed
-- for a pattern that was read so
abbrev pub answered_text : ℕ → Given Number → List ℕ
answered_text n (gives x) = spaced (low_digits 8 n ∷ fields (places_of x))
answered_text n (refused number) = spaced (low_digits 8 n ∷ refused_word ∷ decimal number ∷ [])
answered_text n (refused_at number index) = spaced (low_digits 8 n ∷ refused_word ∷ decimal number ∷ [])

unfoldable pub pattern_text : ℕ → List ℕ
pattern_text n = answered_text n (pattern_read n)

unfoldable pub printed : List ℕ → List ℕ
printed line = cond (is_pattern line) (pattern_text (digits_value line)) bad_line

-- for what is known of a line when it ends
unfoldable pub text_of : Line → List ℕ
text_of (Digits count value) = cond (eqb count 8) (pattern_text value) bad_line
text_of Bad = bad_line

-- ---- what a function stores
-- a text of at most so many bytes, stored in a list from a position on, and the position after it; the rest of the list is as it was
pub record Put (at most : ℕ) (text before : List ℕ) (next : ℕ) (after : List ℕ) : Type 0 where
  pub ends : next ≡ at + length text
  pub fits : length text ≤ most
  pub holds : after ≡ sets before at text
