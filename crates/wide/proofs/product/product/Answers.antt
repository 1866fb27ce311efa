-- `wide::product::product` meets its contract: the cut is that of the exact product.
use Rattle.theory.proofs.Prelude.{ℕ, ◌≤◌, ◌+◌, ◌^◌, ◌*◌, ◌∙◌, ap, ◌≡◌, arith}
use Rattle.rounding.specs.declared.Cut.{Cut}
use Rattle.rounding.proofs.Prelude.{pow_pos, Scale, ScaledWithin, cut_of, positional, digits_most}
use Rattle.rounding.specs.Digits.{Shifted}
use Rattle.wide.proofs.Sizes.{product_size}
use Rattle.wide.proofs.Finishes.{finishes, rounds_zero}
use Rattle.rounding.proofs.Normals.{extended_shifted, shifted_none, shifted_at, neither_lacks}
use Rattle.wide.proofs.Products.{product_zero, both_some, product_exact}
use Rattle.wide.proofs.product.product.Goals as goal
use Rattle.wide.proofs.product.product.Goals.{Joined-a-scale, After-product_cut-exact, then-a-scale+else-a-b, else-a-scale}

pub returns-then-a-b : goal.returns-then-a-b
returns-then-a-b c =
    let positive : 1 ≤ c.args.scale.base ^ c.args.down = pow_pos c.requires.0.base_least c.args.down in
    let a = c.args in
    rw c.zero.ensures
    (rounds_zero (positional c.requires.0) a.direction a.negative _ positive (omega (arith, ap (λ (n : ℕ). n * a.scale.base ^ a.up) (product_zero a.a a.b c.if-a-b.true))))

-- both significands with all their digits
record Brought (s : Scale) (a b m n down low : ℕ) : Type 0 where
  first_shift : ℕ
  second_shift : ℕ
  first : Shifted s a m first_shift
  second : Shifted s b n second_shift
  low_is : low ≡ down + first_shift + second_shift

brought_cut : {limit : ℕ} {s : Scale} → ScaledWithin limit s → {a b m n down low : ℕ} → Brought s a b m n down low → (up : ℕ) {c : Cut}
    → c ≡ cut_of s.base s.digits (m * n * s.base ^ up) (s.base ^ low) → c ≡ cut_of s.base s.digits (a * b * s.base ^ up) (s.base ^ down)
brought_cut h {down = down} t up e = (rw t.low_is at e) ∙ product_exact h up down t.first t.second

brought : (c : Joined-a-scale) → let s = c.args in Brought s.scale s.a s.b c.if-a-scale.m c.if-a-scale.n s.down c.if-a-scale.low
brought c =
    let s = c.args in
    let p = c.requires in
    elim c.if-a-scale.branch [
      | then-a-scale+else-a-b w ↦
          let some = both_some s.a s.b w.if-a-b.false in
          record {
            first_shift = _;
            second_shift = _;
            first = shifted_at w.m-is (extended_shifted p.0 some.0 w.normalise-first.ensures);
            second = shifted_at w.n-is (extended_shifted p.0 some.1 w.normalise-second.ensures);
            low_is = w.low-is;
          }
      | else-a-scale w ↦
          let all = neither_lacks s.a s.b s.scale.least w.if-a-scale.false in
          record {
            first_shift = 0;
            second_shift = 0;
            first = shifted_at w.m-is (shifted_none p.0 all.0 p.1);
            second = shifted_at w.n-is (shifted_none p.0 all.1 p.2);
            low_is = omega (arith, w.low-is);
          }
    ]

pub product_cut-exact-requires : goal.product_cut-exact-requires
product_cut-exact-requires c =
    let p = c.requires in
    let t = brought c in
    (p.0, t.first.leading, t.second.leading, omega (arith, p.3), omega (arith, p.4, t.low_is, t.first.shift_most, t.second.shift_most, digits_most p.0))

-- the cut is that of the exact product
exact : (c : After-product_cut-exact) → let a = c.args in
    c.product_cut-exact.result ≡ cut_of a.scale.base a.scale.digits (a.a * a.b * a.scale.base ^ a.up) (a.scale.base ^ a.down)
exact c = brought_cut c.requires.0 (brought c.before) c.args.up c.product_cut-exact.ensures

pub finish-requires : goal.finish-requires
finish-requires c =
    let p = c.requires in
    finishes p.0 _ _ (pow_pos p.0.base_least c.args.down) (exact c) (2 ^ 30) (omega arith)
    (product_size (positional p.0) c.args.up (omega (arith, p.1, p.0.bound_power)) (omega (arith, p.2, p.0.bound_power)) (omega (arith, digits_most p.0, p.3)))

pub overflow_add-low : goal.overflow_add-low
overflow_add-low c =
    let p = c.requires in
    omega (arith, p.4, c.normalise-first.ensures.within, c.normalise-second.ensures.within, digits_most p.0)

pub overflow_add-low-then-a-scale : goal.overflow_add-low-then-a-scale
overflow_add-low-then-a-scale c =
    let p = c.requires in
    omega (arith, p.4, c.normalise-first.ensures.within, c.normalise-second.ensures.within, digits_most p.0)

pub returns : goal.returns
returns c = c.finish.ensures _ _ (pow_pos c.requires.0.base_least c.args.down) (exact c.before)
