-- `wide::quotient::quotient` meets its contract: the cut is that of the exact quotient.
use Rattle.theory.proofs.Prelude.{ℕ, ◌≤◌, ◌+◌, ◌^◌, ◌*◌, ◌∙◌, ◌≡◌, mul-pos, eq-eqb, arith}
use Rattle.rounding.specs.declared.Cut.{Cut}
use Rattle.rounding.proofs.Prelude.{pow_pos, Scale, ScaledWithin, cut_of, positional, digits_most}
use Rattle.rounding.specs.Digits.{Shifted}
use Rattle.wide.specs.Quotient.{digits_from, digits_of}
use Rattle.rounding.proofs.Normals.{extended_shifted, shifted_none, shifted_at, neither_lacks}
use Rattle.wide.proofs.Sizes.{shifted_size}
use Rattle.wide.proofs.Quotients.{quotient_exact, digits_of_law}
use Rattle.wide.proofs.Finishes.{finishes, rounds_zero}
use Rattle.wide.proofs.quotient.quotient.Goals as goal
use Rattle.wide.proofs.quotient.quotient.Goals.{Joined-m-scale, After-quotient_cut-digits, then-m-scale, else-m-scale}

-- both significands with all their digits: the shift of each goes to the other side
record Brought (s : Scale) (m n a b up down high low : ℕ) : Type 0 where
  first_shift : ℕ
  second_shift : ℕ
  first : Shifted s m a first_shift
  second : Shifted s n b second_shift
  high_is : high ≡ up + second_shift
  low_is : low ≡ down + first_shift

module _ {limit : ℕ} {s : Scale} (h : ScaledWithin limit s) {m n a b up down high low : ℕ} (some : 1 ≤ n) (t : Brought s m n a b up down high low) where
  exact_at : {c : Cut} → c ≡ cut_of s.base s.digits (a * s.base ^ high) (b * s.base ^ low) → c ≡ cut_of s.base s.digits (m * s.base ^ up) (n * s.base ^ down)
  exact_at e = (rw (t.high_is, t.low_is) at e) ∙ quotient_exact h up down t.first t.second some

  digits_at : {k : ℕ} → 1 ≤ m → k ≡ digits_from s.base s.digits a b high low → k ≡ digits_of s.base s.digits m n up down
  digits_at l e = (rw (t.high_is, t.low_is) at e) ∙ digits_of_law h up down l some t.first t.second

pub returns-then-m-eq0 : goal.returns-then-m-eq0
returns-then-m-eq0 c =
    let positive : 1 ≤ c.args.n * c.args.scale.base ^ c.args.down = mul-pos c.requires.2 (pow_pos c.requires.0.base_least c.args.down) in (
      rw c.zero-rounding.ensures (rounds_zero (positional c.requires.0) c.args.direction c.args.negative _ positive (rw c.if-m-eq0.true (omega arith))),
      rw (eq-eqb c.args.m 0 c.if-m-eq0.true),
    )

pub overflow_add-low : goal.overflow_add-low
overflow_add-low c = let p = c.requires in omega (arith, p.5, c.normalise-first.ensures.within, digits_most p.0)

pub overflow_add-high : goal.overflow_add-high
overflow_add-high c = let p = c.requires in omega (arith, p.4, c.normalise-second.ensures.within, digits_most p.0)

brought : (c : Joined-m-scale) → let s = c.args in Brought s.scale s.m s.n c.if-m-scale.a c.if-m-scale.b s.up s.down c.if-m-scale.high c.if-m-scale.low
brought c =
    let s = c.args in
    let p = c.requires in
    elim c.if-m-scale.branch [
      | then-m-scale w ↦
          record {
            first_shift = _;
            second_shift = _;
            first = shifted_at w.a-is (extended_shifted p.0 (omega (arith, c.if-m-eq0.false)) w.normalise-first.ensures);
            second = shifted_at w.b-is (extended_shifted p.0 p.2 w.normalise-second.ensures);
            high_is = w.high-is;
            low_is = w.low-is;
          }
      | else-m-scale w ↦
          let all = neither_lacks s.m s.n s.scale.least w.if-m-scale.false in
          record {
            first_shift = 0;
            second_shift = 0;
            first = shifted_at w.a-is (shifted_none p.0 all.0 p.1);
            second = shifted_at w.b-is (shifted_none p.0 all.1 p.3);
            high_is = omega (arith, w.high-is);
            low_is = omega (arith, w.low-is);
          }
    ]

pub quotient_cut-digits-requires : goal.quotient_cut-digits-requires
quotient_cut-digits-requires c =
    let p = c.requires in
    let b = brought c in (
      p.0,
      b.first.leading,
      b.second.leading,
      omega (arith, p.4, b.high_is, b.second.shift_most, digits_most p.0),
      omega (arith, p.5, b.low_is, b.first.shift_most, digits_most p.0),
    )

-- the cut is that of the exact quotient
exact : (c : After-quotient_cut-digits) → let a = c.args in
    c.quotient_cut-digits.result.0 ≡ cut_of a.scale.base a.scale.digits (a.m * a.scale.base ^ a.up) (a.n * a.scale.base ^ a.down)
exact c = let p = c.requires in exact_at p.0 p.2 (brought c.before) c.quotient_cut-digits.ensures.0

-- and its digits are those of the operands
counted : (c : After-quotient_cut-digits) → let a = c.args in
    c.quotient_cut-digits.result.1 ≡ digits_of a.scale.base a.scale.digits a.m a.n a.up a.down
counted c = let p = c.requires in digits_at p.0 p.2 (brought c.before) (omega (arith, c.if-m-eq0.false)) c.quotient_cut-digits.ensures.1

pub finish-rounding-requires : goal.finish-rounding-requires
finish-rounding-requires c =
    let p = c.requires in
    finishes p.0 _ _ (mul-pos p.2 (pow_pos p.0.base_least c.args.down)) (exact c.before) (2 ^ 30) (omega arith)
    (shifted_size (positional p.0) (omega (arith, p.1, p.0.bound_power)) (omega (arith, p.4)))

pub returns : goal.returns
returns c =
    let p = c.requires in
    let k = c.before.before in
    (c.finish-rounding.ensures _ _ (mul-pos p.2 (pow_pos p.0.base_least c.args.down)) (exact k), counted k)
