-- `wide::quotient::locate_under` meets its contract: twice a against b times the base.
use Rattle.theory.proofs.Prelude.{ℕ, ◌≤◌, ◌^◌, ◌*◌, ◌≢◌, ◌∙◌, ap, ◌≡◌, sym, ltb-true, ltb-false, arith}
use Rattle.rounding.proofs.Prelude.{Scale, Scaled, located_below, located_half, located_above, power_at, power_one}
use Rattle.rounding.specs.Digits.{Leading}
use Rattle.rounding.proofs.Normals.{leading_pos}
use Rattle.wide.proofs.Quotients.{under_below}
use Rattle.wide.proofs.quotient.locate_under.Goals as goal

-- b times the base, where that is the power
whole : (β b : ℕ) {e n : ℕ} → 1 ≤ e → e ≤ 1 → n ≡ b * β → n ≡ b * β ^ e
whole β b l m f = f ∙ ap (λ (v : ℕ). b * v) (sym (power_at β (omega (arith, l, m)) ∙ power_one β))

some : {s : Scale} {a : ℕ} → Scaled s → Leading s a → a ≢ 0
some h l z = omega (arith, leading_pos h l, z)

pub returns-then-e-gt1 : goal.returns-then-e-gt1
returns-then-e-gt1 c = sym (under_below c.requires.0 c.requires.1 c.requires.2 c.args.e c.if-e-gt1.true)

pub returns-then-less : goal.returns-then-less
returns-then-less c =
    let p = c.requires in
    let e = whole c.args.scale.base c.args.b p.3 c.if-e-gt1.false c.product-whole.ensures.value in
    sym (located_below _ _ (some p.0 p.1) (omega (arith, ltb-true _ _ (sym c.less.ensures ∙ c.if-less.true), e)))

pub returns-then-less-2 : goal.returns-then-less-2
returns-then-less-2 c =
    let e = whole c.args.scale.base c.args.b c.requires.3 c.if-e-gt1.false c.product-whole.ensures.value in
    sym (located_above _ _ (omega (arith, ltb-true _ _ (sym c.less-2.ensures ∙ c.if-less-2.true), e)))

pub returns-else-less-2 : goal.returns-else-less-2
returns-else-less-2 c =
    let p = c.requires in
    let e = whole c.args.scale.base c.args.b p.3 c.if-e-gt1.false c.product-whole.ensures.value in
    let least = ltb-false _ _ (sym c.less.ensures ∙ c.if-less.false) in
    let most = ltb-false _ _ (sym c.less-2.ensures ∙ c.if-less-2.false) in
    sym (located_half _ _ (some p.0 p.1) (omega (arith, least, most, e)))
