-- `wide::long_division::cut_fraction` meets its contract, from zero, from below the lowest place, and from the digits that were taken.
use Rattle.theory.proofs.Prelude.{ℕ, ◌≤◌, ◌^◌, ◌*◌, ◌∙◌, ap, sym, mul-pos, arith}
use Rattle.rounding.proofs.Prelude.{pow_pos, cut_of, positional}
use Rattle.wide.proofs.Digits.{taken_exact}
use Rattle.wide.proofs.Cuts.{taken_quotient, under_cut, zero_cut}
use Rattle.wide.proofs.long_division.cut_fraction.Goals as goal

pub returns-then-n-eq0 : goal.returns-then-n-eq0
returns-then-n-eq0 c =
    let size : 1 ≤ c.args.d * c.args.scale.base ^ c.args.down = mul-pos c.requires.1 (pow_pos c.requires.0.base_least c.args.down) in
    let a = c.args in
    sym (ap (λ (n : ℕ). cut_of a.scale.base a.scale.digits (n * a.scale.base ^ a.up) (a.d * a.scale.base ^ a.down)) c.if-n-eq0.true
    ∙ zero_cut (positional c.requires.0) (a.d * a.scale.base ^ a.down) a.up size)

pub returns-then-high-down : goal.returns-then-high-down
returns-then-high-down c =
    let a = c.args in
    sym (under_cut (positional c.requires.0) a.up a.down (omega arith) c.requires.1 c.align-aligned.ensures (omega arith))

pub cut_division-requires : goal.cut_division-requires
cut_division-requires c =
    let v = c.take_digits-division.ensures in
    let a = c.align-aligned.ensures in
    let rest = (taken_exact c.args.scale.base a.above v.taken).1 in
    (c.requires.0, rest, omega (arith, a.most, c.requires.0.base_most), v.fits, omega (arith, v.taken.within, a.few, c.requires.2), v.ended)

pub returns : goal.returns
returns c =
    let size : 1 ≤ c.args.d * c.args.scale.base ^ c.args.down = mul-pos c.requires.1 (pow_pos c.requires.0.base_least c.args.down) in
    let a = c.args in
    c.cut_division.ensures _ _ size (taken_quotient a.up a.down c.align-aligned.ensures (omega arith) c.take_digits-division.ensures.taken)
