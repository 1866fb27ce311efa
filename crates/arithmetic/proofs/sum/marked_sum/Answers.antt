-- `arithmetic::sum::marked_sum` meets its contract: the numbers in the order of their exponents, the sum in the wide format, delivered.
use Rattle.theory.proofs.Prelude.{◌+◌, Bool, cond, ◌∙◌, ap, ◌≡◌, sym, refl, subst, arith, nat_abs, ◌-ℤ◌, lt_z, w32, SFits, rules}
use Rattle.arithmetic.proofs.Prelude.{Direction, Prepared, back, exponents_made, Rounding, Number, place_of, Operands, Member, members, known}
use Rattle.wide.specs.Operand.{wide}
use Rattle.arithmetic.specs.Operands.{wide_of, zero_signed}
use Rattle.arithmetic.specs.Operations.{zero_sign}
use Rattle.arithmetic.specs.Marked.{marked_sum}
use Rattle.arithmetic.proofs.Prepared.{Delivers, scale_scaled, bounded, add_delivers}
use Rattle.arithmetic.proofs.Pairs.{Aligned, aligned, place_apart, zero_signed_none, zero_signed_some}
use Rattle.arithmetic.proofs.sum.marked_sum.Goals as goal

-- the selected numbers
ordered_at : {q : Prepared} {a b high low : Number} {t : Bool} → Operands q a b → lt_z a.exponent b.exponent ≡ t → high ≡ cond t b a → low ≡ cond t a b
    → Aligned q a b high low
ordered_at {t = t} o h e f = rw (e, f) (aligned o t h)

pub distance-gap-requires : goal.distance-gap-requires
distance-gap-requires c =
    let a_fits : SFits w32 c.args.a.exponent = search rules in
    let b_fits : SFits w32 c.args.b.exponent = search rules in
    let ordered : let s = c.args in Aligned s.prepared s.a s.b c.select-high.result c.select-low.result = ordered_at c.requires refl (c.select-high.ensures ∙ rw (back a_fits, back b_fits)) (c.select-low.ensures ∙ rw (back a_fits, back b_fits)) in
    let high_member : Member c.args.prepared.format c.select-high.result = let o = ordered.operands in members _ (known o.usable).admits o.first in
    let low_member : Member c.args.prepared.format c.select-low.result = let o = ordered.operands in members _ (known o.usable).admits o.second in
    let high_fits : SFits w32 c.select-high.result.exponent = search rules in
    let low_fits : SFits w32 c.select-low.result.exponent = search rules in
    let r = (known ordered.operands.usable).admits.range in
    let l = low_member.exponent_low in
    let h = high_member.exponent_high in
    let m = ordered.order in
    rw (back low_fits, back high_fits)
    (exponents_made (record { emin_low = omega (arith, r.emin_low); emin_emax = m; emax_high = omega (arith, r.emax_high) }))

pub aligned_sum-sum-requires : goal.aligned_sum-sum-requires
aligned_sum-sum-requires c =
    let a_fits : SFits w32 c.args.a.exponent = search rules in
    let b_fits : SFits w32 c.args.b.exponent = search rules in
    let ordered : let s = c.args in Aligned s.prepared s.a s.b c.select-high.result c.select-low.result = ordered_at c.requires refl (c.select-high.ensures ∙ rw (back a_fits, back b_fits)) (c.select-low.ensures ∙ rw (back a_fits, back b_fits)) in
    let high_member : Member c.args.prepared.format c.select-high.result = let o = ordered.operands in members _ (known o.usable).admits o.first in
    let low_member : Member c.args.prepared.format c.select-low.result = let o = ordered.operands in members _ (known o.usable).admits o.second in
    let high_fits : SFits w32 c.select-high.result.exponent = search rules in
    let low_fits : SFits w32 c.select-low.result.exponent = search rules in
    let gap : c.distance-gap.result ≡ nat_abs (c.select-high.result.exponent -ℤ c.select-low.result.exponent) = c.distance-gap.ensures ∙ rw (back low_fits, back high_fits) in
    let place : c.place_of-place.result + c.distance-gap.result ≡ place_of c.args.prepared.format c.select-high.result = omega (arith, c.place_of-place.ensures, gap, place_apart high_member low_member ordered.order) in
    let high_is : let x = c.select-high.result in
    wide x.negative x.significand (c.place_of-place.result + c.distance-gap.result) ≡ wide_of c.args.prepared.format x = let x = c.select-high.result in ap (wide x.negative x.significand) place in
    let low_is : let y = c.select-low.result in
    wide y.negative y.significand c.place_of-place.result ≡ wide_of c.args.prepared.format y = let y = c.select-low.result in ap (wide y.negative y.significand) c.place_of-place.ensures in
    let o = ordered.operands in
    (scale_scaled o.usable, bounded o.usable c.select-high.result o.first high_is, bounded o.usable c.select-low.result o.second low_is)

-- what comes from the wide format, with the sign of zero
reordered : {q : Prepared} {a b high low : Number} → Aligned q a b high low → (d : Direction) (r : Rounding) {s : Rounding} → s ≡ zero_signed (zero_sign d a.negative b.negative) r
    → Delivers q.format (zero_signed (zero_sign d high.negative low.negative) r) (marked_sum q.format d high low) → Delivers q.format s (marked_sum q.format d a b)
reordered {q} {high = high} {low = low} o d r {s} k h =
    let same : zero_signed (zero_sign d high.negative low.negative) r ≡ s = ap (λ (t : Bool). zero_signed t r) (o.zero d) ∙ sym k in
    subst (Delivers q.format s) (o.sum d) (subst (λ (x : Rounding). Delivers q.format x (marked_sum q.format d high low)) same h)

pub place_of-place-requires : goal.place_of-place-requires
place_of-place-requires c =
    let a_fits : SFits w32 c.args.a.exponent = search rules in
    let b_fits : SFits w32 c.args.b.exponent = search rules in
    let ordered : let s = c.args in Aligned s.prepared s.a s.b c.select-high.result c.select-low.result = ordered_at c.requires refl (c.select-high.ensures ∙ rw (back a_fits, back b_fits)) (c.select-low.ensures ∙ rw (back a_fits, back b_fits)) in
    let o = ordered.operands in record { usable = o.usable; number = o.second }

pub deliver_wide-requires : goal.deliver_wide-requires
deliver_wide-requires c =
    let a_fits : SFits w32 c.args.a.exponent = search rules in
    let b_fits : SFits w32 c.args.b.exponent = search rules in
    let ordered : let s = c.args in Aligned s.prepared s.a s.b c.select-high.result c.select-low.result = ordered_at c.requires refl (c.select-high.ensures ∙ rw (back a_fits, back b_fits)) (c.select-low.ensures ∙ rw (back a_fits, back b_fits)) in
    let high_member : Member c.args.prepared.format c.select-high.result = let o = ordered.operands in members _ (known o.usable).admits o.first in
    let low_member : Member c.args.prepared.format c.select-low.result = let o = ordered.operands in members _ (known o.usable).admits o.second in
    let high_fits : SFits w32 c.select-high.result.exponent = search rules in
    let low_fits : SFits w32 c.select-low.result.exponent = search rules in
    let gap : c.distance-gap.result ≡ nat_abs (c.select-high.result.exponent -ℤ c.select-low.result.exponent) = c.distance-gap.ensures ∙ rw (back low_fits, back high_fits) in
    let place : c.place_of-place.result + c.distance-gap.result ≡ place_of c.args.prepared.format c.select-high.result = omega (arith, c.place_of-place.ensures, gap, place_apart high_member low_member ordered.order) in
    let high_is : let x = c.select-high.result in
    wide x.negative x.significand (c.place_of-place.result + c.distance-gap.result) ≡ wide_of c.args.prepared.format x = let x = c.select-high.result in ap (wide x.negative x.significand) place in
    let low_is : let y = c.select-low.result in
    wide y.negative y.significand c.place_of-place.result ≡ wide_of c.args.prepared.format y = let y = c.select-low.result in ap (wide y.negative y.significand) c.place_of-place.ensures in
    let result : (r : Rounding) → let s = c.args in
    r ≡ zero_signed (zero_sign s.direction s.a.negative s.b.negative) c.aligned_sum-sum.result
    → Delivers s.prepared.format r (marked_sum s.prepared.format s.direction s.a s.b) = λ r e. let o = ordered in
    let d = c.args.direction in
    reordered o d c.aligned_sum-sum.result e
    (add_delivers o.operands.usable d c.select-high.result c.select-low.result high_is low_is c.aligned_sum-sum.ensures) in
    let none : let s = c.args in
    Delivers s.prepared.format (record { wide = wide c.zero_sign.result 0 0; mark = c.aligned_sum-sum.result.mark }) (marked_sum s.prepared.format s.direction s.a s.b) = let r = c.aligned_sum-sum.result in
    result _ (zero_signed_none c.zero_sign.result r c.aligned_sum-sum.ensures.rounds.canonical c.if-wide-eq0.true ∙ ap (λ (n : Bool). zero_signed n r) c.zero_sign.ensures) in
    (c.requires.usable, none.canonical)

pub returns-then-wide-eq0 : goal.returns-then-wide-eq0
returns-then-wide-eq0 c =
    let a_fits : SFits w32 c.args.a.exponent = search rules in
    let b_fits : SFits w32 c.args.b.exponent = search rules in
    let ordered : let s = c.args in Aligned s.prepared s.a s.b c.select-high.result c.select-low.result = ordered_at c.requires refl (c.select-high.ensures ∙ rw (back a_fits, back b_fits)) (c.select-low.ensures ∙ rw (back a_fits, back b_fits)) in
    let high_member : Member c.args.prepared.format c.select-high.result = let o = ordered.operands in members _ (known o.usable).admits o.first in
    let low_member : Member c.args.prepared.format c.select-low.result = let o = ordered.operands in members _ (known o.usable).admits o.second in
    let high_fits : SFits w32 c.select-high.result.exponent = search rules in
    let low_fits : SFits w32 c.select-low.result.exponent = search rules in
    let gap : c.distance-gap.result ≡ nat_abs (c.select-high.result.exponent -ℤ c.select-low.result.exponent) = c.distance-gap.ensures ∙ rw (back low_fits, back high_fits) in
    let place : c.place_of-place.result + c.distance-gap.result ≡ place_of c.args.prepared.format c.select-high.result = omega (arith, c.place_of-place.ensures, gap, place_apart high_member low_member ordered.order) in
    let high_is : let x = c.select-high.result in
    wide x.negative x.significand (c.place_of-place.result + c.distance-gap.result) ≡ wide_of c.args.prepared.format x = let x = c.select-high.result in ap (wide x.negative x.significand) place in
    let low_is : let y = c.select-low.result in
    wide y.negative y.significand c.place_of-place.result ≡ wide_of c.args.prepared.format y = let y = c.select-low.result in ap (wide y.negative y.significand) c.place_of-place.ensures in
    let result : (r : Rounding) → let s = c.args in
    r ≡ zero_signed (zero_sign s.direction s.a.negative s.b.negative) c.aligned_sum-sum.result
    → Delivers s.prepared.format r (marked_sum s.prepared.format s.direction s.a s.b) = λ r e. let o = ordered in
    let d = c.args.direction in
    reordered o d c.aligned_sum-sum.result e
    (add_delivers o.operands.usable d c.select-high.result c.select-low.result high_is low_is c.aligned_sum-sum.ensures) in
    let none : let s = c.args in
    Delivers s.prepared.format (record { wide = wide c.zero_sign.result 0 0; mark = c.aligned_sum-sum.result.mark }) (marked_sum s.prepared.format s.direction s.a s.b) = let r = c.aligned_sum-sum.result in
    result _ (zero_signed_none c.zero_sign.result r c.aligned_sum-sum.ensures.rounds.canonical c.if-wide-eq0.true ∙ ap (λ (n : Bool). zero_signed n r) c.zero_sign.ensures) in
    c.deliver_wide.ensures ∙ none.is

pub deliver_wide-requires-2 : goal.deliver_wide-requires-2
deliver_wide-requires-2 c =
    let a_fits : SFits w32 c.args.a.exponent = search rules in
    let b_fits : SFits w32 c.args.b.exponent = search rules in
    let ordered : let s = c.args in Aligned s.prepared s.a s.b c.select-high.result c.select-low.result = ordered_at c.requires refl (c.select-high.ensures ∙ rw (back a_fits, back b_fits)) (c.select-low.ensures ∙ rw (back a_fits, back b_fits)) in
    let high_member : Member c.args.prepared.format c.select-high.result = let o = ordered.operands in members _ (known o.usable).admits o.first in
    let low_member : Member c.args.prepared.format c.select-low.result = let o = ordered.operands in members _ (known o.usable).admits o.second in
    let high_fits : SFits w32 c.select-high.result.exponent = search rules in
    let low_fits : SFits w32 c.select-low.result.exponent = search rules in
    let gap : c.distance-gap.result ≡ nat_abs (c.select-high.result.exponent -ℤ c.select-low.result.exponent) = c.distance-gap.ensures ∙ rw (back low_fits, back high_fits) in
    let place : c.place_of-place.result + c.distance-gap.result ≡ place_of c.args.prepared.format c.select-high.result = omega (arith, c.place_of-place.ensures, gap, place_apart high_member low_member ordered.order) in
    let high_is : let x = c.select-high.result in
    wide x.negative x.significand (c.place_of-place.result + c.distance-gap.result) ≡ wide_of c.args.prepared.format x = let x = c.select-high.result in ap (wide x.negative x.significand) place in
    let low_is : let y = c.select-low.result in
    wide y.negative y.significand c.place_of-place.result ≡ wide_of c.args.prepared.format y = let y = c.select-low.result in ap (wide y.negative y.significand) c.place_of-place.ensures in
    let result : (r : Rounding) → let s = c.args in
    r ≡ zero_signed (zero_sign s.direction s.a.negative s.b.negative) c.aligned_sum-sum.result
    → Delivers s.prepared.format r (marked_sum s.prepared.format s.direction s.a s.b) = λ r e. let o = ordered in
    let d = c.args.direction in
    reordered o d c.aligned_sum-sum.result e
    (add_delivers o.operands.usable d c.select-high.result c.select-low.result high_is low_is c.aligned_sum-sum.ensures) in
    let some : let s = c.args in
    Delivers s.prepared.format c.aligned_sum-sum.result (marked_sum s.prepared.format s.direction s.a s.b) = result _ (zero_signed_some _ c.aligned_sum-sum.result c.if-wide-eq0.false) in
    (c.requires.usable, some.canonical)

pub returns : goal.returns
returns c =
    let a_fits : SFits w32 c.args.a.exponent = search rules in
    let b_fits : SFits w32 c.args.b.exponent = search rules in
    let ordered : let s = c.args in Aligned s.prepared s.a s.b c.select-high.result c.select-low.result = ordered_at c.requires refl (c.select-high.ensures ∙ rw (back a_fits, back b_fits)) (c.select-low.ensures ∙ rw (back a_fits, back b_fits)) in
    let high_member : Member c.args.prepared.format c.select-high.result = let o = ordered.operands in members _ (known o.usable).admits o.first in
    let low_member : Member c.args.prepared.format c.select-low.result = let o = ordered.operands in members _ (known o.usable).admits o.second in
    let high_fits : SFits w32 c.select-high.result.exponent = search rules in
    let low_fits : SFits w32 c.select-low.result.exponent = search rules in
    let gap : c.distance-gap.result ≡ nat_abs (c.select-high.result.exponent -ℤ c.select-low.result.exponent) = c.distance-gap.ensures ∙ rw (back low_fits, back high_fits) in
    let place : c.place_of-place.result + c.distance-gap.result ≡ place_of c.args.prepared.format c.select-high.result = omega (arith, c.place_of-place.ensures, gap, place_apart high_member low_member ordered.order) in
    let high_is : let x = c.select-high.result in
    wide x.negative x.significand (c.place_of-place.result + c.distance-gap.result) ≡ wide_of c.args.prepared.format x = let x = c.select-high.result in ap (wide x.negative x.significand) place in
    let low_is : let y = c.select-low.result in
    wide y.negative y.significand c.place_of-place.result ≡ wide_of c.args.prepared.format y = let y = c.select-low.result in ap (wide y.negative y.significand) c.place_of-place.ensures in
    let result : (r : Rounding) → let s = c.args in
    r ≡ zero_signed (zero_sign s.direction s.a.negative s.b.negative) c.aligned_sum-sum.result
    → Delivers s.prepared.format r (marked_sum s.prepared.format s.direction s.a s.b) = λ r e. let o = ordered in
    let d = c.args.direction in
    reordered o d c.aligned_sum-sum.result e
    (add_delivers o.operands.usable d c.select-high.result c.select-low.result high_is low_is c.aligned_sum-sum.ensures) in
    let some : let s = c.args in
    Delivers s.prepared.format c.aligned_sum-sum.result (marked_sum s.prepared.format s.direction s.a s.b) = result _ (zero_signed_some _ c.aligned_sum-sum.result c.if-wide-eq0.false) in
    c.deliver_wide-2.ensures ∙ some.is
