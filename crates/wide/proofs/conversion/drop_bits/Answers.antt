-- `wide::conversion::drop_bits` meets its contract: a shift and a mask in base 2, and nothing in another base.
use Rattle.theory.proofs.Prelude.{ℕ, ◌≤◌, ◌<◌, ◌+◌, ◌*◌, ◌^◌, ◌-◌, ◌%◌, false, not, ⊎_elim, inl, inr, ◌⊎◌, ◌∙◌, ap, ◌≡◌, refl, mod-lt, arith, eqb, eqb-true, eqb-false}
use mathlib.Core.Bool.{◌||◌}
use lib.Bits.{bit_and, and_mask}
use Rattle.std.specs.Prelude.{max}
use Rattle.std.proofs.lemmas.Bool.{cases_lt}
use Rattle.theory.proofs.Tests.{granted, neither}
use Rattle.format.proofs.Squaring.{one_shl}
use Rattle.rounding.proofs.Prelude.{Digits, pow_pos, pow_mono}
use Rattle.wide.proofs.Conversions.{bits_most, dropping_none, dropping_bits}
use Rattle.wide.proofs.conversion.drop_bits.Goals as goal

-- the base is 2, and `below` bits have to go: all below place 0, or all that the format has no room for
record Known (base digits n down bits below : ℕ) : Type 0 where
  two : base ≡ 2
  word : bits ≤ 64
  few : below ≤ 64
  some : 1 ≤ below
  which : (below ≡ down) ⊎ ((below + digits ≡ bits) × (digits + down < bits))
  divisor : (1 * 2 ^ (below - 1)) % 2 ^ 64 ≡ 2 ^ (below - 1)
  power : 1 ≤ 2 ^ (below - 1)
  most : 2 ^ (below - 1) ≤ 2 ^ 63
  rest : bit_and n ((1 * 2 ^ (below - 1)) % 2 ^ 64 - 1) ≡ n % 2 ^ (below - 1)

known : {base : ℕ} (digits : ℕ) {n down bits lack below : ℕ} → Digits 2 n bits → n < 2 ^ 64 → down ≤ 64 → lack ≡ bits - digits → below ≡ max lack down → not (eqb base 2) || eqb below 0 ≡ false
    → Known base digits n down bits below
known {base} digits {n} {down} {bits} {lack} {below} d l m spare e test =
    let t = neither (not (eqb base 2)) (eqb below 0) test in
    let word : bits ≤ 64 = bits_most d l in
    let some : 1 ≤ below = omega (arith, eqb-false below 0 t.1) in
    let few : below ≤ 64 = omega (arith, word, m, spare, e) in
    let divisor : (1 * 2 ^ (below - 1)) % 2 ^ 64 ≡ 2 ^ (below - 1) = one_shl 64 (below - 1) (omega (arith, few, some)) in
    record {
      two = eqb-true base 2 (granted refl t.0);
      word = word;
      few = few;
      some = some;
      which = ⊎_elim (λ (k : down < lack). inr (omega (arith, k, spare, e), omega (arith, k, spare))) (λ (k : lack ≤ down). inl (omega (arith, k, e))) (cases_lt down lack);
      divisor = divisor;
      power = pow_pos {β = 2} (omega arith) (below - 1);
      most = pow_mono {β = 2} (omega arith) {i = below - 1} {j = 63} (omega (arith, few));
      rest = ap (λ (v : ℕ). bit_and n (v - 1)) divisor ∙ and_mask n (below - 1);
    }

pub returns-then-scale-below : goal.returns-then-scale-below
returns-then-scale-below c = dropping_none c.requires.0 _ _

pub overflow_shl-divisor : goal.overflow_shl-divisor
overflow_shl-divisor c =
    let k = known c.args.scale.digits c.bit_count-bits.ensures c.ranges.n.fits c.requires.2 c.saturating_sub.ensures c.max-below.ensures c.if-scale-below.false in
    omega (arith, k.few, k.some)

pub overflow_sub-divisor : goal.overflow_sub-divisor
overflow_sub-divisor c =
    let k = known c.args.scale.digits c.bit_count-bits.ensures c.ranges.n.fits c.requires.2 c.saturating_sub.ensures c.max-below.ensures c.if-scale-below.false in
    omega (arith, k.divisor, k.power)

pub locate-rest-requires : goal.locate-rest-requires
locate-rest-requires c =
    let k = known c.args.scale.digits c.bit_count-bits.ensures c.ranges.n.fits c.requires.2 c.saturating_sub.ensures c.max-below.ensures c.if-scale-below.false in
    (omega (arith, k.rest, mod-lt c.args.n k.power, k.most), omega (arith, k.divisor, k.power))

pub overflow_shr-result : goal.overflow_shr-result
overflow_shr-result c =
    let k = known c.args.scale.digits c.bit_count-bits.ensures c.ranges.n.fits c.requires.2 c.saturating_sub.ensures c.max-below.ensures c.if-scale-below.false in
    omega (arith, k.few, k.some)

pub returns : goal.returns
returns c =
    let k = known c.args.scale.digits c.bit_count-bits.ensures c.ranges.n.fits c.requires.2 c.saturating_sub.ensures c.max-below.ensures c.if-scale-below.false in
    dropping_bits c.requires.0 k.two c.bit_count-bits.ensures k.word c.requires.2 (omega (arith, k.some)) k.which k.divisor refl k.rest c.locate-rest.ensures
