-- `binary32::places::FinitePattern::predecessor` meets its contract.
use Rattle.theory.proofs.Prelude.{ℕ, ◌-◌, ◌≤◌, ◌∙◌, ap, sym, arith}
use Rattle.format.specs.Given.{gives}
use Rattle.binary32.specs.Patterns.{pattern_of_key}
use Rattle.binary32.proofs.PatternNeighbours.{key_bounds, no_predecessor, key_predecessor}
use Rattle.binary32.proofs.places.FinitePattern.predecessor.Goals as goal

pub returns-then-k-eq8388609 : goal.returns-then-k-eq8388609
returns-then-k-eq8388609 c = no_predecessor _ c.args.self.is_finite (sym c.key-k.ensures ∙ c.if-k-eq8388609.true)

pub returns : goal.returns
returns c =
    let k = c.key-k.ensures in
    ap gives (c.pattern_of_key.ensures ∙ ap (λ (j : ℕ). pattern_of_key (j - 1)) k) ∙ key_predecessor _ c.args.self.is_finite (λ z. c.if-k-eq8388609.false (k ∙ z))

pub pattern_of_key-requires : goal.pattern_of_key-requires
pattern_of_key-requires c =
    let bounds : (8388609 ≤ c.key-k.result) × (c.key-k.result ≤ 4286578687) = omega (arith, c.key-k.ensures, key_bounds _ c.args.self.is_finite) in
    omega (arith, bounds)
