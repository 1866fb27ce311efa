-- `binary32::places::FinitePattern::successor` meets its contract.
use Rattle.theory.proofs.Prelude.{ℕ, ◌+◌, ◌≤◌, ◌∙◌, ap, sym, arith}
use Rattle.format.specs.Given.{gives}
use Rattle.binary32.specs.Patterns.{pattern_of_key}
use Rattle.binary32.proofs.PatternNeighbours.{key_bounds, no_successor, minus_zero_next, key_successor}
use Rattle.binary32.proofs.places.FinitePattern.successor.Goals as goal

pub returns-then-k : goal.returns-then-k
returns-then-k c = no_successor _ c.args.self.is_finite (sym c.key-k.ensures ∙ c.if-k.true)

pub returns-then-k-eq2147483647 : goal.returns-then-k-eq2147483647
returns-then-k-eq2147483647 c = minus_zero_next _ c.args.self.is_finite (sym c.key-k.ensures ∙ c.if-k-eq2147483647.true)

pub returns : goal.returns
returns c =
    let k = c.key-k.ensures in
    ap gives (c.pattern_of_key.ensures ∙ ap (λ (j : ℕ). pattern_of_key (j + 1)) k)
    ∙ key_successor _ c.args.self.is_finite (λ z. c.if-k.false (k ∙ z)) (λ z. c.if-k-eq2147483647.false (k ∙ z))

pub overflow_add-k : goal.overflow_add-k
overflow_add-k c =
    let bounds : (8388609 ≤ c.key-k.result) × (c.key-k.result ≤ 4286578687) = omega (arith, c.key-k.ensures, key_bounds _ c.args.self.is_finite) in
    record { fits = omega (arith, bounds) }
