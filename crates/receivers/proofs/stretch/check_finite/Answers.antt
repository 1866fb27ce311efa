-- `receivers::stretch::check_finite` meets its contract.
use Rattle.theory.proofs.Prelude.{arith}
use Rattle.receivers.proofs.Refusals.{not_finite_at, all_are_finite}
use Rattle.receivers.proofs.stretch.check_finite.Goals as goal

pub returns-then-bad-length : goal.returns-then-bad-length
returns-then-bad-length c = not_finite_at c.args.log.now c.args.start c.args.length c.requires c.first_not_finite-bad.ensures c.if-bad-length.true

pub returns : goal.returns
returns c = all_are_finite c.args.log.now c.args.start c.args.length c.requires c.first_not_finite-bad.ensures (omega (arith, c.if-bad-length.false))
