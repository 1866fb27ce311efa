-- `number::exponents::below_zero` meets its contract: an admitted exponent has a negation of 32 bits.
use Rattle.theory.proofs.Prelude.{◌≡◌, refl, arith, ℤ, pos, ◌-ℤ◌, negsuc, Fits-nat_abs, sfits_lit, w32, SFits}
use Rattle.theory.proofs.Integers.{above, below, diff_parts, size_parts}
use Rattle.format.proofs.Signed.{Under, apart, fits, not_negative, back, lt_taken, lt_left}
use Rattle.format.proofs.Formats.{exponents}
use Rattle.number.specs.Exponents.{below_zero}
use Rattle.number.proofs.exponents.below_zero.Goals as goal

-- 0 - z, for z below 0
negation : (z : ℤ) → Under z (pos 0) → (below (pos 0 -ℤ z) ≡ 0) × (above (pos 0 -ℤ z) ≡ below z)
negation z h = let d = diff_parts (pos 0) z in let o = apart (pos 0 -ℤ z) in (omega (arith, apart z), omega (arith, apart z))

is_below : (z : ℤ) → below_zero z ≡ below z
is_below (pos n) = refl
is_below (negsuc n) = refl

pub overflow_cast-result : goal.overflow_cast-result
overflow_cast-result c =
    let taken : Under c.args.e (pos 0) = lt_taken c.args.e (pos 0) c.ranges.e (sfits_lit tt) c.if-e-lt0.true in
    let fit : SFits w32 (pos 0 -ℤ c.args.e) = let e = exponents _ _ c.requires in
    let n = negation c.args.e taken in
    fits (pos 0 -ℤ c.args.e) (omega (arith, n.1, apart c.args.e)) (omega (arith, n.0)) in
    rw (back c.ranges.e, back fit) (not_negative (pos 0 -ℤ c.args.e) (negation c.args.e taken).0, Fits-nat_abs tt fit)

pub returns-then-e-lt0 : goal.returns-then-e-lt0
returns-then-e-lt0 c =
    let taken : Under c.args.e (pos 0) = lt_taken c.args.e (pos 0) c.ranges.e (sfits_lit tt) c.if-e-lt0.true in
    let fit : SFits w32 (pos 0 -ℤ c.args.e) = let e = exponents _ _ c.requires in
    let n = negation c.args.e taken in
    fits (pos 0 -ℤ c.args.e) (omega (arith, n.1, apart c.args.e)) (omega (arith, n.0)) in
    let n = negation c.args.e taken in
    rw (back c.ranges.e, back fit) (omega (arith, n.0, n.1, size_parts (pos 0 -ℤ c.args.e), is_below c.args.e))

pub returns-else-e-lt0 : goal.returns-else-e-lt0
returns-else-e-lt0 c =
    let h = lt_left c.args.e (pos 0) c.ranges.e (sfits_lit tt) c.if-e-lt0.false in
    omega (arith, is_below c.args.e, apart c.args.e)

pub overflow_sub-result : goal.overflow_sub-result
overflow_sub-result c =
    let taken : Under c.args.e (pos 0) = lt_taken c.args.e (pos 0) c.ranges.e (sfits_lit tt) c.if-e-lt0.true in
    let fit : SFits w32 (pos 0 -ℤ c.args.e) = let e = exponents _ _ c.requires in
    let n = negation c.args.e taken in
    fits (pos 0 -ℤ c.args.e) (omega (arith, n.1, apart c.args.e)) (omega (arith, n.0)) in
    rw (back c.ranges.e) fit
