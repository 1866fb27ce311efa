-- `rounding::cutting::split` meets its contract: in base 2 the divisor is a power of two.
use Rattle.theory.proofs.Prelude.{ℕ, ◌-◌, ◌/◌, ◌%◌, ◌∙◌, ap, sym, arith}
use lib.Bits.{bit_and, and_mask}
use Rattle.rounding.proofs.Prelude.{unit_pos, unit_two, digits_most}
use Rattle.rounding.proofs.cutting.split.Goals as goal

pub returns-then-scale-eq2 : goal.returns-then-scale-eq2
returns-then-scale-eq2 c =
    let a = c.args in
    let power = unit_two c.requires.0 c.requires.1 c.if-scale-eq2.true in
    (ap (λ (d : ℕ). a.n / d) (sym power), ap (λ (d : ℕ). bit_and a.n (d - 1)) power ∙ and_mask a.n a.j ∙ ap (λ (d : ℕ). a.n % d) (sym power))

pub overflow_shr-result : goal.overflow_shr-result
overflow_shr-result c = let p = c.requires in omega (arith, p.1.most, digits_most p.0)

pub nonzero_div-result : goal.nonzero_div-result
nonzero_div-result c = unit_pos c.requires.0 c.requires.1

pub nonzero_rem-result : goal.nonzero_rem-result
nonzero_rem-result c = unit_pos c.requires.0 c.requires.1
