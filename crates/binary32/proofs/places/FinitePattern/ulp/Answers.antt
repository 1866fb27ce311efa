-- `binary32::places::FinitePattern::ulp` meets its contract.
use Rattle.theory.proofs.Prelude.{ℕ, ◌≤◌, ◌^◌, ◌%◌, ◌∙◌, ap, sym, arith}
use native.Mathlib.Numerals.{lt_of_le_of_ne}
use Rattle.binary32.proofs.PatternPlaces.{ulp_zero, ulp_small, ulp_normal}
use Rattle.binary32.proofs.places.FinitePattern.ulp.Goals as goal

pub returns-then-field-lt24 : goal.returns-then-field-lt24
returns-then-field-lt24 c =
    let some : 1 ≤ c.args.self.bits % 2 ^ 31 = lt_of_le_of_ne (omega arith) (λ e. c.if-size-eq0.false (sym e)) in
    ulp_small _ c.args.self.is_finite _ some c.if-field-lt24.true (c.power.ensures ∙ ap (λ (k : ℕ). 2 ^ k) c.place_of.ensures)

pub returns-then-size-eq0 : goal.returns-then-size-eq0
returns-then-size-eq0 c = ulp_zero _ c.args.self.is_finite c.if-size-eq0.true

pub returns : goal.returns
returns c = ulp_normal _ c.args.self.is_finite c.if-field-lt24.false
