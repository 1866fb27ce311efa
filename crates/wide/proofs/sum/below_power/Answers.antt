-- `wide::sum::below_power` meets its contract.
use Rattle.theory.proofs.Prelude.{ℕ, ◌^◌, ◌-◌, ◌∙◌, ap, ◌≡◌, sym, arith}
use Rattle.rounding.proofs.Prelude.{pow_half, located, located_above, power_at}
use Rattle.wide.specs.Sum.{below_power}
use Rattle.wide.proofs.sum.below_power.Goals as goal

pub returns-then-scale-gap : goal.returns-then-scale-gap
unfolding below_power
returns-then-scale-gap c =
    let h = c.requires.0 in
    sym (located_above _ _ (omega (arith, c.requires, pow_half h.base_least {i = c.args.scale.digits} {j = c.args.gap - 1} (omega arith))))

pub returns : goal.returns
unfolding below_power
returns c =
    let h = c.requires.0 in
    let bound : c.args.scale.bound ≡ c.args.scale.base ^ (c.args.gap - 1) = h.bound_power ∙ power_at c.args.scale.base (omega arith) in
    c.locate.ensures ∙ ap (λ (t : ℕ). located (t - c.args.m) t) bound
