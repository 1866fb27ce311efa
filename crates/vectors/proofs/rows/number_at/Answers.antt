-- `vectors::rows::number_at` meets its contract.
use Rattle.format.proofs.Signed.{back}
use Rattle.vectors.specs.Rows.{number_at}
use Rattle.vectors.proofs.rows.number_at.Goals as goal

pub returns : goal.returns
unfolding number_at
returns c = rw (back (record { sfits = c.integer.type_inv }), ← c.word.ensures, ← c.column_at.ensures, ← c.integer.ensures)
