-- `decimal32::reading::biased_of` meets its contract.
use Rattle.theory.proofs.Prelude.{◌<◌, ◌∙◌, ap, ◌≡◌, arith}
use Rattle.decimal32.specs.Patterns.{five_of, high_bits, biased_of}
use Rattle.decimal32.proofs.Fields.{high_small}
use Rattle.decimal32.proofs.reading.biased_of.Goals as goal

pub overflow_mul-result : goal.overflow_mul-result
overflow_mul-result c =
    let high_is : c.high_bits.result ≡ high_bits (five_of c.args.pattern) = c.high_bits.ensures ∙ ap high_bits c.five_of.ensures in
    let high_most : c.high_bits.result < 4 = rw high_is (high_small c.args.pattern) in
    record { fits = omega (arith, high_most) }

pub overflow_add-result : goal.overflow_add-result
overflow_add-result c =
    let high_is : c.high_bits.result ≡ high_bits (five_of c.args.pattern) = c.high_bits.ensures ∙ ap high_bits c.five_of.ensures in
    let high_most : c.high_bits.result < 4 = rw high_is (high_small c.args.pattern) in
    record { fits = omega (arith, high_most) }

pub returns : goal.returns
unfolding biased_of
returns c =
    let high_is : c.high_bits.result ≡ high_bits (five_of c.args.pattern) = c.high_bits.ensures ∙ ap high_bits c.five_of.ensures in
    omega (arith, high_is)
