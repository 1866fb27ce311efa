-- `rounding::digits::power` meets its contract: a shift, selected constants, or what the scale has.
use Rattle.theory.proofs.Prelude.{ℕ, ◌≤◌, ◌^◌, ◌∙◌, ap, sym, subst, lt_of_not-le, arith}
use Rattle.format.proofs.Squaring.{one_shl}
use Rattle.rounding.proofs.Prelude.{pow_mono, digits_most, power_most}
use Rattle.rounding.proofs.digits.power.Goals as goal

pub returns-then-scale-eq2 : goal.returns-then-scale-eq2
returns-then-scale-eq2 c =
    one_shl 64 c.args.k (omega (arith, c.requires.1, digits_most c.requires.0)) ∙ ap (λ (b : ℕ). b ^ c.args.k) (sym c.if-scale-eq2.true)

-- ---- base 10
pub decimal_power-requires : goal.decimal_power-requires
decimal_power-requires c =
    let most : c.args.scale.base ^ c.args.k ≤ 2 ^ 63 = power_most c.requires.0 c.requires.1 in
    let ten : 10 ^ c.args.k ≤ 2 ^ 63 = subst (λ (b : ℕ). b ^ c.args.k ≤ 2 ^ 63) c.if-scale-eq10.true most in
    let less = lt_of_not-le (λ (l : 19 ≤ c.args.k). omega (arith, pow_mono {β = 10} (omega arith) l)) in
    omega (arith, less)

pub power-requires : goal.power-requires
power-requires c =
    let h = c.requires.0 in
    (h.base_least, h.base_most, power_most h c.requires.1)

pub overflow_shl-result : goal.overflow_shl-result
overflow_shl-result c = omega (arith, c.requires.1, digits_most c.requires.0)
