-- `arithmetic::product::marked_product` meets its contract: the product in the wide format, delivered.
use Rattle.theory.proofs.Prelude.{xor, ◌∙◌}
use Rattle.arithmetic.specs.Marked.{marked_product}
use Rattle.arithmetic.proofs.Prepared.{Delivers, product_delivers}
use Rattle.arithmetic.proofs.Pairs.{product_operands}
use Rattle.arithmetic.proofs.product.marked_product.Goals as goal

pub product_powers-w-requires : goal.product_powers-w-requires
product_powers-w-requires c = c.requires

pub product-rounding-requires : goal.product-rounding-requires
product-rounding-requires c = product_operands c.requires c.product_powers-w.ensures

pub deliver_wide-requires : goal.deliver_wide-requires
unfolding xor
deliver_wide-requires c =
    let result : let s = c.args in
    Delivers s.prepared.format c.product-rounding.result (marked_product s.prepared.format s.direction s.a s.b) = product_delivers c.requires.usable c.args.direction c.args.a c.args.b c.product_powers-w.ensures c.product-rounding.ensures in
    (c.requires.usable, result.canonical)

pub returns : goal.returns
unfolding xor
returns c =
    let result : let s = c.args in
    Delivers s.prepared.format c.product-rounding.result (marked_product s.prepared.format s.direction s.a s.b) = product_delivers c.requires.usable c.args.direction c.args.a c.args.b c.product_powers-w.ensures c.product-rounding.ensures in
    c.deliver_wide.ensures ∙ result.is
