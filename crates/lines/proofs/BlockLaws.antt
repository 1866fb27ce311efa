-- Input in blocks is the whole input: what is printed block by block, and at the end, is what is printed for its lines.
use Rattle.theory.proofs.Prelude.{ℕ, true, false, Bool, cond, [], ◌∷◌, List, ◌++◌, append-nil, append_assoc, ◌∙◌, ap, ◌≡◌, sym, refl, ap₂, arith, eqb}
use mathlib.Core.List.{flatten}
use Rattle.lines.specs.declared.reading.Line.{Line}
use Rattle.lines.specs.Reading.{fresh, pushed}
use Rattle.lines.specs.Printing.{printed, text_of, line_feed}
use Rattle.lines.specs.Blocks.{lines_from, printed_lines, output, ended, begun, end_text, printed_blocks}
use Rattle.lines.proofs.LineLaws.{pushed_all, line_of, line_snoc, line_printed, some_byte}

-- at the end of input
end_printed : (seen : List ℕ) → end_text (line_of seen) ≡ printed_lines (lines_from seen [])
unfolding end_text printed_lines lines_from pushed_all
end_printed [] = refl
end_printed (b ∷ bs) = rw (some_byte (b ∷ bs) (omega arith), line_printed (b ∷ bs)) (sym (append-nil (printed (b ∷ bs) ++ line_feed)))

-- a block, with what comes after it
module _ (next : Line → List ℕ) (more : List ℕ) (goes_on : (seen : List ℕ) → next (line_of seen) ≡ printed_lines (lines_from seen more)) where
  block_printed : (seen block : List ℕ) → ended (line_of seen) block ++ next (begun (line_of seen) block) ≡ printed_lines (lines_from seen (block ++ more))
  unfolding ended begun lines_from printed_lines pushed_all
  block_printed seen [] = goes_on seen
  block_printed seen (b ∷ block) = by (eqb b 10) (block_printed [] block) (block_printed (seen ++ b ∷ []) block)
    where
      by : (t : Bool) → ended fresh block ++ next (begun fresh block) ≡ printed_lines (lines_from [] (block ++ more))
          → ended (line_of (seen ++ b ∷ [])) block ++ next (begun (line_of (seen ++ b ∷ [])) block) ≡ printed_lines (lines_from (seen ++ b ∷ []) (block ++ more))
          → cond t (text_of (line_of seen) ++ line_feed ++ ended fresh block) (ended (pushed (line_of seen) b) block) ++ next (cond t (begun fresh block) (begun (pushed (line_of seen) b) block))
          ≡ printed_lines (cond t (seen ∷ lines_from [] (block ++ more)) (lines_from (seen ++ b ∷ []) (block ++ more)))
      by true line byte =
          append_assoc (text_of (line_of seen) ++ line_feed) (ended fresh block) (next (begun fresh block))
          ∙ ap₂ (λ (t r : List ℕ). t ++ line_feed ++ r) (line_printed seen) line
      by false line byte = ap (λ (l : Line). ended l block ++ next (begun l block)) (sym (line_snoc fresh seen b)) ∙ byte

blocks_from : (blocks : List (List ℕ)) (seen : List ℕ) → printed_blocks (line_of seen) blocks ≡ printed_lines (lines_from seen (flatten blocks))
unfolding printed_blocks flatten
blocks_from [] seen = end_printed seen
blocks_from (block ∷ blocks) seen = block_printed (λ l. printed_blocks l blocks) (flatten blocks) (blocks_from blocks) seen block

-- however the input is cut into blocks, the lines of the whole input are printed
pub blocks_printed : (blocks : List (List ℕ)) → printed_blocks fresh blocks ≡ output (flatten blocks)
unfolding pushed_all
blocks_printed blocks = blocks_from blocks []
