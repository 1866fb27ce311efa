-- `arithmetic::quotient::counted_quotient` meets its contract: the quotient in the wide format, delivered.
use Rattle.theory.proofs.Prelude.{xor, ◌≤◌, ◌∙◌, ap, ap₂, sym, arith}
use Rattle.theory.proofs.Results.{err_returned}
use Rattle.format.specs.Given.{given}
use Rattle.arithmetic.specs.Marked.{marked, marked_quotient}
use Rattle.arithmetic.specs.Quotients.{with_digits}
use Rattle.arithmetic.proofs.Prepared.{Delivers, divisor_none, quotient_delivers}
use Rattle.arithmetic.proofs.Pairs.{quotient_operands}
use Rattle.arithmetic.proofs.QuotientPlaces.{counted_digits}
use Rattle.arithmetic.proofs.quotient.counted_quotient.Goals as goal

pub returns-then-b-eq0 : goal.returns-then-b-eq0
unfolding marked
returns-then-b-eq0 c =
    let s = c.args in
    sym (ap (with_digits _) (ap (marked s.prepared.format _ _) (divisor_none s.prepared.format s.direction s.a s.b c.if-b-eq0.true)))

pub quotient_powers-w-requires : goal.quotient_powers-w-requires
quotient_powers-w-requires c = c.requires

pub quotient-counted-requires : goal.quotient-counted-requires
quotient-counted-requires c =
    let some : 1 ≤ c.args.b.significand = omega (arith, c.if-b-eq0.false) in
    quotient_operands c.requires some c.quotient_powers-w.ensures

pub deliver_wide-requires : goal.deliver_wide-requires
unfolding xor
deliver_wide-requires c =
    let some : 1 ≤ c.args.b.significand = omega (arith, c.if-b-eq0.false) in
    let result : let s = c.args in
    Delivers s.prepared.format c.quotient-counted.result.rounding (marked_quotient s.prepared.format s.direction s.a s.b) = quotient_delivers c.requires.usable c.args.direction c.args.a c.args.b some c.quotient_powers-w.ensures c.quotient-counted.ensures.0 in
    (c.requires.usable, result.canonical)

pub returns : goal.returns
unfolding xor
returns c =
    let some : 1 ≤ c.args.b.significand = omega (arith, c.if-b-eq0.false) in
    let result : let s = c.args in
    Delivers s.prepared.format c.quotient-counted.result.rounding (marked_quotient s.prepared.format s.direction s.a s.b) = quotient_delivers c.requires.usable c.args.direction c.args.a c.args.b some c.quotient_powers-w.ensures c.quotient-counted.ensures.0 in
    let digits = counted_digits c.requires c.quotient_powers-w.ensures c.quotient-counted.ensures.1 in
    ap (with_digits c.quotient-counted.result.digits) (ap given (sym c.in_ok-rounded.was)) ∙ ap₂ with_digits digits (c.deliver_wide.ensures ∙ result.is)

pub returns-in_err-rounded : goal.returns-in_err-rounded
unfolding xor
returns-in_err-rounded c =
    let some : 1 ≤ c.args.b.significand = omega (arith, c.if-b-eq0.false) in
    let result : let s = c.args in
    Delivers s.prepared.format c.quotient-counted.result.rounding (marked_quotient s.prepared.format s.direction s.a s.b) = quotient_delivers c.requires.usable c.args.direction c.args.a c.args.b some c.quotient_powers-w.ensures c.quotient-counted.ensures.0 in
    ap given (err_returned _ c.from_residual.ensures.1)
    ∙ ap (with_digits _) (ap given (sym c.in_err-rounded.was) ∙ c.deliver_wide.ensures ∙ result.is)
