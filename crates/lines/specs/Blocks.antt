-- Input as lines, and input that comes in blocks.
use Rattle.std.specs.Prelude.{ℕ, cond, List, [], ◌∷◌, ◌++◌, eqb}
use Rattle.lines.specs.declared.reading.Line.{Line}
use Rattle.lines.specs.declared.reading.Line.TheVariants.{Digits, Bad}
use Rattle.lines.specs.Reading.{fresh, pushed}
use Rattle.lines.specs.Printing.{printed, text_of, line_feed}

-- ---- the whole input
-- the last line, where something follows the last line feed
abbrev pub last_line : List ℕ → List (List ℕ)
last_line [] = []
last_line (b ∷ bs) = (b ∷ bs) ∷ []

-- the lines of an input, some bytes of the first of them seen before it: a line ends at a line feed or at the end of input
unfoldable pub lines_from : (seen input : List ℕ) → List (List ℕ)
lines_from seen [] = last_line seen
lines_from seen (b ∷ bs) = cond (eqb b 10) (seen ∷ lines_from [] bs) (lines_from (seen ++ b ∷ []) bs)

unfoldable pub printed_lines : List (List ℕ) → List ℕ
printed_lines [] = []
printed_lines (l ∷ ls) = printed l ++ line_feed ++ printed_lines ls

-- what the program prints for an input
abbrev pub output : List ℕ → List ℕ
output input = printed_lines (lines_from [] input)

-- ---- a block of the input, the first of its lines begun before it
-- the bytes printed for the lines that end in it
unfoldable pub ended : Line → List ℕ → List ℕ
ended l [] = []
ended l (b ∷ bs) = cond (eqb b 10) (text_of l ++ line_feed ++ ended fresh bs) (ended (pushed l b) bs)

-- the line that is begun where it ends
unfoldable pub begun : Line → List ℕ → Line
begun l [] = l
begun l (b ∷ bs) = cond (eqb b 10) (begun fresh bs) (begun (pushed l b) bs)

-- the bytes printed at the end of input
unfoldable pub end_text : Line → List ℕ
end_text (Digits count value) = cond (eqb count 0) [] (text_of (Digits count value) ++ line_feed)
end_text Bad = text_of Bad ++ line_feed

-- the bytes printed while blocks come, and at the end of input
unfoldable pub printed_blocks : Line → List (List ℕ) → List ℕ
printed_blocks l [] = end_text l
printed_blocks l (block ∷ blocks) = ended l block ++ printed_blocks (begun l block) blocks
