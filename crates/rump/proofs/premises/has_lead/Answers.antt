-- `rump::premises::has_lead` meets its contract.
use Rattle.theory.proofs.Prelude.{◌∙◌, arith, pos, sfits_lit, rules}
use Rattle.theory.proofs.Tests.{refuted}
use Rattle.number.proofs.Prelude.{known}
use Rattle.format.proofs.Signed.{le_read}
use Rattle.rump.proofs.Reach.{led, lead_by, above_read}
use Rattle.rump.proofs.premises.has_lead.Goals as goal

pub overflow_sub-prepared : goal.overflow_sub-prepared
overflow_sub-prepared c = let k = known c.requires in omega (arith, k.digits, k.admits.digits_low)

pub returns-then-prepared-above_zero : goal.returns-then-prepared-above_zero
returns-then-prepared-above_zero c =
    let high = above_read c.args.prepared.format.emin c.above_zero.ensures (search rules) in
    let k = known c.requires in
    refuted (λ h. omega (arith, c.if-prepared-above_zero.true, high, k.digits, (led k.admits h).low))

pub returns : goal.returns
returns c =
    let high = above_read c.args.prepared.format.emin c.above_zero.ensures (search rules) in
    let k = known c.requires in
    le_read (pos 0) c.args.prepared.format.emax (sfits_lit tt) (search rules) ∙ lead_by k.admits (omega (arith, c.if-prepared-above_zero.false, high, k.digits))
