-- `receivers::stretch::calmer_refusal` meets its contract.
use Rattle.theory.proofs.Prelude.{not, ◌∙◌, ap, sym}
use Rattle.theory.proofs.Results.{err_returned}
use Rattle.format.specs.Given.{given_at}
use Rattle.receivers.proofs.Refusals.{unequal, outside, first_most, second_most, after_first, refused_on}
use Rattle.receivers.proofs.stretch.calmer_refusal.Goals as goal

pub returns-then-first-second : goal.returns-then-first-second
returns-then-first-second c =
    rw c.into.ensures (unequal c.args.first.now c.args.second.now c.args.start c.args.length c.if-first-second.true)

pub returns-then-not-ends_within : goal.returns-then-not-ends_within
returns-then-not-ends_within c =
    rw c.into-then-not-ends_within.ensures
    (outside c.args.first.now c.args.second.now c.args.start c.args.length c.if-first-second.false c.ends_within.ensures (ap not c.if-not-ends_within.true))

-- after the first log's check
pub returns-in_err-check_finite : goal.returns-in_err-check_finite
returns-in_err-check_finite c =
    ap given_at (err_returned c.from_residual.result c.from_residual.ensures.1)
    ∙ refused_on _ _
    ∙ after_first _ _ _ _ c.if-first-second.false c.ends_within.ensures (ap not c.if-not-ends_within.false) (ap given_at (sym c.in_err-check_finite.was) ∙ c.check_finite.ensures)

pub returns : goal.returns
returns c =
    c.check_finite-2.ensures
    ∙ after_first _ _ _ _ c.if-first-second.false c.ends_within.ensures (ap not c.if-not-ends_within.false) (ap given_at (sym c.in_ok-check_finite.was) ∙ c.check_finite.ensures)

-- where the stretch ends within the logs
pub check_finite-requires : goal.check_finite-requires
check_finite-requires c =
    first_most c.args.first.now c.args.second.now c.args.start c.args.length c.if-first-second.false c.ends_within.ensures (ap not c.if-not-ends_within.false)

pub check_finite-requires-2 : goal.check_finite-requires-2
check_finite-requires-2 c =
    second_most c.args.first.now c.args.second.now c.args.start c.args.length c.if-first-second.false c.ends_within.ensures (ap not c.if-not-ends_within.false)
