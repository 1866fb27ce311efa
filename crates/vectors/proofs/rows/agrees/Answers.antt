-- `vectors::rows::agrees` meets its contract.
use Rattle.theory.proofs.Prelude.{ℕ, ◌≤◌, Bool, true, List, length, ◌≡◌, sym, ap, ap₂, ◌∙◌, le-leb, lt-leb}
use Rattle.theory.proofs.Tests.{and_failed, and_passed}
use Rattle.format.specs.Given.{given}
use Rattle.vectors.specs.Columns.{columns, row_length, are_columns}
use Rattle.vectors.specs.Rows.{row_answer, is_answer, says, agrees}
use Rattle.vectors.proofs.rows.agrees.Goals as goal

-- a row with its length and its columns agrees where its call answers what it says
answered : (row : List ℕ) {t : Bool} → row_length ≤ length row → t ≡ are_columns row 0 columns → t ≡ true → says row (row_answer row) ≡ agrees row
unfolding agrees
answered row l e h = sym (and_passed _ (le-leb row_length _ l) ∙ and_passed _ (sym e ∙ h))

pub returns-in-Ok : goal.returns-in-Ok
unfolding says
returns-in-Ok c =
    c.is_answer.ensures
    ∙ ap (says _) (sym (ap given c.in-Ok.is) ∙ c.answer_at.ensures)
    ∙ answered _ c.if-row-lt-ROW_LENGTH.false c.are_columns.ensures c.if-not-are_columns.false

pub returns-in-Err : goal.returns-in-Err
unfolding says
returns-in-Err c =
    c.is_answer-in-Err.ensures
    ∙ ap₂ (is_answer _) c.from.ensures c.whole.ensures
    ∙ ap (says _) (sym (ap given c.in-Err.is) ∙ c.answer_at.ensures)
    ∙ answered _ c.if-row-lt-ROW_LENGTH.false c.are_columns.ensures c.if-not-are_columns.false

pub returns-then-row-lt-ROW_LENGTH : goal.returns-then-row-lt-ROW_LENGTH
unfolding agrees
returns-then-row-lt-ROW_LENGTH c = sym (and_failed _ (lt-leb row_length _ c.if-row-lt-ROW_LENGTH.true))

pub returns-then-not-are_columns : goal.returns-then-not-are_columns
unfolding agrees
returns-then-not-are_columns c =
    sym (and_passed _ (le-leb row_length _ c.if-row-lt-ROW_LENGTH.false) ∙ and_failed _ (sym c.are_columns.ensures ∙ c.if-not-are_columns.true))
