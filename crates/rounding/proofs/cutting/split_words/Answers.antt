-- `rounding::cutting::split_words` meets its contract: in base 2 the divisor is a power of two, and the high word has a whole share of the quotient.
use Rattle.theory.proofs.Prelude.{ℕ, ◌≤◌, ◌+◌, ◌^◌, ◌*◌, ◌-◌, ◌/◌, ◌%◌, ◌∙◌, ap, ap₂, ◌≡◌, ◌<◌, sym, arith, rules}
use lib.Bits.{bit_and, and_mask}
use Rattle.two_words.specs.declared.TwoWords.{TwoWords}
use Rattle.two_words.specs.Amount.{amount}
use Rattle.rounding.proofs.Prelude.{Scale, Scaled, Unit, unit_two, digits_most, quotient_within, share_steps, share_rest}
use Rattle.rounding.proofs.cutting.split_words.Goals as goal

module _ {s : Scale} (h : Scaled s) {d j : ℕ} (u : Unit s d j) where
  few : j ≤ 63
  few = omega (arith, u.most, digits_most h)

  -- the share of the high word and that of the low one, in base 2
  steps : {high : ℕ} (n : TwoWords) → s.base ≡ 2 → high ≡ n.high * 2 ^ (64 - j) → high + n.low / 2 ^ j ≡ amount n / d
  steps n two e =
      let power = unit_two h u two in
      ap₂ ◌+◌ e (ap (λ (w : ℕ). n.low / w) (sym power)) ∙ share_steps 64 n (omega (arith, few)) power

pub overflow_add-result : goal.overflow_add-result
overflow_add-result c =
    let p = c.requires in
    let low : c.args.n.low < 2 ^ 64 = search rules in
    omega (arith, steps p.0 p.1 c.args.n c.if-scale-eq2.true c.high_quotient.ensures, quotient_within 64 c.args.n low p.2)

pub returns-then-scale-eq2 : goal.returns-then-scale-eq2
returns-then-scale-eq2 c =
    let a = c.args in
    let p = c.requires in
    let power = unit_two p.0 p.1 c.if-scale-eq2.true in (
      steps p.0 p.1 a.n c.if-scale-eq2.true c.high_quotient.ensures,
      ap (λ (d : ℕ). bit_and a.n.low (d - 1)) power ∙ and_mask a.n.low a.j ∙ ap (λ (d : ℕ). a.n.low % d) (sym power)
          ∙ share_rest 64 a.n (omega (arith, few p.0 p.1)) power,
    )

pub high_quotient-requires : goal.high_quotient-requires
high_quotient-requires c =
    let p = c.requires in
    (few p.0 p.1, omega (arith, p.2, unit_two p.0 p.1 c.if-scale-eq2.true))

pub overflow_shr-result : goal.overflow_shr-result
overflow_shr-result c = let p = c.requires in omega (arith, few p.0 p.1)
