-- `number::delivery::deliver` meets its contract.
use Rattle.theory.proofs.Prelude.{◌∙◌, ap, sym, arith, le-leb, lt-leb}
use Rattle.theory.proofs.Tests.{unless_passed, unless_failed}
use Rattle.number.proofs.Prelude.{gives, delivered, known}
use Rattle.number.proofs.Values.{canonical_within, canonical_beyond}
use Rattle.number.proofs.delivery.deliver.Goals as goal

pub returns-then-prepared-place : goal.returns-then-prepared-place
unfolding delivered
returns-then-prepared-place c =
    let k = known c.requires.0 in
    sym (unless_failed _ _ (lt-leb _ _ (canonical_beyond k.admits c.requires.1 (omega (arith, k.highest, c.if-prepared-place.true)))))

pub number_at-requires : goal.number_at-requires
number_at-requires c = (c.requires.0, c.requires.1, c.if-prepared-place.false)

pub returns : goal.returns
unfolding delivered
returns c =
    let k = known c.requires.0 in
    ap gives c.number_at.ensures ∙ sym (unless_passed _ _ (le-leb _ _ (canonical_within k.admits c.requires.1 (omega (arith, k.highest, c.if-prepared-place.false)))))
