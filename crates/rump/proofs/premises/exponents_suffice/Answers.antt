-- `rump::premises::exponents_suffice` meets its contract.
use Rattle.theory.proofs.Prelude.{◌∙◌, ap₂, arith, leb, rules}
use Rattle.theory.proofs.Tests.{refuted}
use Rattle.number.proofs.Prelude.{known}
use Rattle.rump.proofs.Reach.{reach, premise_by, above_read, below_read, emin_read}
use Rattle.rump.proofs.premises.exponents_suffice.Goals as goal

pub below_zero-requires : goal.below_zero-requires
below_zero-requires c = emin_read (known c.requires).admits (search rules)

pub returns-then-below_zero-digits : goal.returns-then-below_zero-digits
returns-then-below_zero-digits c =
    let low = below_read c.args.prepared.format.emin c.below_zero.ensures (search rules) in
    let k = known c.requires in
    refuted (λ h. omega (arith, c.if-below_zero-digits.true, low, k.digits, (reach k.admits h).low))

pub returns : goal.returns
returns c =
    let low = below_read c.args.prepared.format.emin c.below_zero.ensures (search rules) in
    let k = known c.requires in
    ap₂ leb k.digits (above_read c.args.prepared.format.emax c.above_zero.ensures (search rules))
    ∙ premise_by k.admits (omega (arith, c.if-below_zero-digits.false, low, k.digits))
