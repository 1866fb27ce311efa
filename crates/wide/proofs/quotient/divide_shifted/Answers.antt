-- `wide::quotient::divide_shifted` meets its contract: one division.
use Rattle.theory.proofs.Prelude.{ℕ, ◌*◌, ◌∙◌, ap, ◌≡◌, arith}
use Rattle.wide.proofs.Quotients.{quotient_ends, worked_exact, worked_rest, cut_shifted}
use Rattle.wide.proofs.quotient.divide_shifted.Goals as goal

-- a product by the unit is one by its power
dividend : (a : ℕ) {unit power n : ℕ} → n ≡ a * unit → unit ≡ power → n ≡ a * power
dividend a e f = e ∙ ap (λ (u : ℕ). a * u) f

pub returns-then-division-eq0 : goal.returns-then-division-eq0
returns-then-division-eq0 c =
    cut_shifted c.args.after (dividend _ c.product.ensures.value c.requires.4) c.divide-division.ensures.0 c.locate-location.ensures c.divide-division.ensures.1
    (worked_exact c.args.scale.base c.divide-division.result.quotient c.args.after c.if-division-eq0.true c.trailing_zeros.ensures)

pub returns-else-division-eq0 : goal.returns-else-division-eq0
returns-else-division-eq0 c =
    cut_shifted c.args.after (dividend _ c.product.ensures.value c.requires.4) c.divide-division.ensures.0 c.locate-location.ensures c.divide-division.ensures.1
    (worked_rest c.args.scale.base c.divide-division.result.quotient c.args.after c.if-division-eq0.false)

pub trailing_zeros-requires : goal.trailing_zeros-requires
trailing_zeros-requires c =
    let p = c.requires in
    let d = c.divide-division.ensures in
    (p.0.base_least, (quotient_ends p.0 p.1 p.2 c.args.after (dividend _ c.product.ensures.value p.4) d.0 d.1 c.if-division-eq0.true).0)

pub overflow_sub-digits : goal.overflow_sub-digits
overflow_sub-digits c =
    let p = c.requires in
    let d = c.divide-division.ensures in
    omega (arith, (quotient_ends p.0 p.1 p.2 c.args.after (dividend _ c.product.ensures.value p.4) d.0 d.1 c.if-division-eq0.true).1, c.trailing_zeros.ensures)
