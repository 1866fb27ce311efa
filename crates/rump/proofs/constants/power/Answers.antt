-- `rump::constants::power` meets its contract.
use Rattle.theory.proofs.Prelude.{ℕ, ◌+◌, ◌^◌, false, ◌∙◌, ap, mul_comm, arith, rules}
use Rattle.theory.proofs.Powers.{pow-add}
use Rattle.number.proofs.Prelude.{number, known}
use Rattle.arithmetic.proofs.Prepared.{below_most}
use Rattle.rump.proofs.Reach.{reach, below_read, emin_read}
use Rattle.rump.proofs.constants.power.Goals as goal

pub below_zero-requires : goal.below_zero-requires
below_zero-requires c = emin_read (known c.requires.0).admits (search rules)

pub overflow_add-below_zero : goal.overflow_add-below_zero
overflow_add-below_zero c =
    let a = (known c.requires.0).admits in
    omega (arith, below_read c.args.prepared.format.emin c.below_zero.ensures (search rules), below_most a, a.digits_high, c.requires.2)

pub power_number-requires : goal.power_number-requires
power_number-requires c =
    let k = known c.requires.0 in
    let r = reach k.admits c.requires.1 in
    (c.requires.0, omega (arith, below_read c.args.prepared.format.emin c.below_zero.ensures (search rules), k.admits.digits_low, k.highest, r.span, r.high, c.requires.2))

pub returns : goal.returns
returns c =
    let f = c.args.prepared.format in
    let k = c.args.k in
    c.power_number.ensures
    ∙ ap (number f false)
    (ap (λ (i : ℕ). f.base ^ (i + k)) (below_read c.args.prepared.format.emin c.below_zero.ensures (search rules)) ∙ pow-add f.base _ k ∙ mul_comm _ (f.base ^ k))
