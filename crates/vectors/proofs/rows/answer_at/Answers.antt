-- `vectors::rows::answer_at` meets its contract.
use Rattle.theory.proofs.Prelude.{◌∙◌}
use Rattle.format.proofs.Signed.{back}
use Rattle.vectors.specs.Rows.{row_answer}
use Rattle.vectors.proofs.rows.answer_at.Goals as goal

pub returns : goal.returns
unfolding row_answer
returns c =
    let emin = back (record { sfits = c.integer.type_inv }) ∙ c.integer.ensures in
    let emax = back (record { sfits = c.integer-2.type_inv }) ∙ c.integer-2.ensures in
    rw (← c.word-3.ensures, ← c.word.ensures, ← c.word-2.ensures, ← emin, ← emax, ← c.word-4.ensures, ← c.number_at-a.ensures, ← c.number_at-b.ensures) c.answer_of.ensures
