-- `wide::product::product_cut` meets its contract: both cuts are that of the value.
use Rattle.theory.proofs.Prelude.{ℕ, ◌≤◌, ◌<◌, ◌^◌, ◌*◌, ◌-◌, ◌∙◌, ap, ◌≡◌, sym, mul-le-mul_left, arith}
use Rattle.two_words.specs.Amount.{amount}
use Rattle.rounding.proofs.Prelude.{pow_mono, cut_of, cut_lowest, positional, digits_most}
use Rattle.wide.proofs.Products.{product_small}
use Rattle.wide.proofs.product.product_cut.Goals as goal

pub returns-then-up-scale : goal.returns-then-up-scale
returns-then-up-scale c =
    let small : amount c.product-n.result < c.args.scale.bound * c.args.scale.bound = let p = c.requires in omega (arith, c.product-n.ensures.value, product_small p.1.most p.2.most) in
    let exact : let a = c.args in
    cut_of a.scale.base a.scale.digits (amount c.product-n.result * a.scale.base ^ a.up) (a.scale.base ^ a.down)
    ≡ cut_of a.scale.base a.scale.digits (a.a * a.b * a.scale.base ^ a.up) (a.scale.base ^ a.down) = let a = c.args in
    ap (λ (n : ℕ). cut_of a.scale.base a.scale.digits (n * a.scale.base ^ a.up) (a.scale.base ^ a.down)) c.product-n.ensures.value in
    let a = c.args in
    let h = c.requires.0 in
    let β = a.scale.base in
    let j = a.down - a.up in
    let many : a.scale.digits ≤ j = omega (arith, c.if-up-scale.true) in
    let below : amount c.product-n.result < β ^ a.scale.digits * β ^ j =
    omega (arith, small, ap (λ (v : ℕ). v * v) h.bound_power, mul-le-mul_left (β ^ a.scale.digits) (pow_mono h.base_least many)) in
    c.drop_beyond.ensures ∙ sym (cut_lowest (positional h) a.up a.down j (omega (arith, c.if-up-scale.true)) below) ∙ exact

pub overflow_add-up : goal.overflow_add-up
overflow_add-up c = let p = c.requires in omega (arith, p.3, digits_most p.0)
