-- `vectors::rows::count` meets its contract: the rows so far and those that are left are those of the input.
use Rattle.theory.proofs.Prelude.{◌≡◌, length}
use Rattle.vectors.specs.Columns.{row_length}
use Rattle.vectors.specs.Rows.{rows_in, counted}
use Rattle.vectors.proofs.rows.count.Given as goal

abbrev pub invariant-loop-row : goal.invariant-loop-row
invariant-loop-row l =
    (l.row-iterator.size ≡ row_length)
    × (counted l.tally l.row-iterator.rest.now (rows_in (length l.row-iterator.rest.now)) ≡ counted l.initial.tally l.input (rows_in (length l.input)))
