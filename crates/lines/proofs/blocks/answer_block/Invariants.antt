-- `lines::blocks::answer_block` meets its contract: what is left of the block, answered from where the loop stands, completes what the whole block gives.
use Rattle.theory.proofs.Prelude.{ℕ, ◌≤◌, ◌+◌, ◌*◌, List, ◌≡◌, length, drop}
use Rattle.lines.specs.declared.reading.Line.{Line}
use Rattle.lines.specs.Printing.{Put}
use Rattle.lines.specs.Blocks.{ended, begun}
use Rattle.lines.proofs.blocks.answer_block.Given as goal

-- the lines before i are answered, the line is begun, and the texts that are left go to `at`
pub record Going (first : Line) (input before : List ℕ) (i : ℕ) (line : Line) (at : ℕ) (out : List ℕ) : Type 0 where
  pub room : at ≤ 45 * i
  pub same : length out ≡ length before
  pub completes : {most next : ℕ} {after : List ℕ} → Put at most (ended line (drop i input)) out next after
      → Put 0 (45 * i + most) (ended first input) before next after
  pub begins : begun line (drop i input) ≡ begun first input

abbrev pub invariant-loop-b : goal.invariant-loop-b
invariant-loop-b l = Going l.initial.line l.input l.initial.out l.b-index l.line l.printed l.out
