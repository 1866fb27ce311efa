-- Two operands on their way to the wide format: the powers beside a product and a quotient, the order of a sum, the sign of its zero.
use Rattle.theory.proofs.Prelude.{ℕ, ◌≤◌, ◌<◌, ◌+◌, ◌^◌, ◌*◌, true, false, Bool, cond, ⊎_elim, ◌≢◌, ap, ◌≡◌, refl, arith, nat_abs, ◌-ℤ◌, +ℤ_comm, lt_z, ne_eqb}
use Rattle.arithmetic.proofs.Prelude.{Direction, Format, Prepared, Number, Operands, place_of, value, Member, members, known, Rounding, size_parts, diff_parts, member_highest, highest_most}
use Rattle.theory.specs.Wide.{Canonical}
use Rattle.format.specs.Formats.{Scaled}
use Rattle.format.proofs.Signed.{Upto, apart, lt_true, lt_false}
use Rattle.arithmetic.specs.declared.operands.Powers.{Powers}
use Rattle.arithmetic.specs.Operands.{product_powers, quotient_powers, zero_signed}
use Rattle.arithmetic.specs.Operations.{zero_sign}
use Rattle.arithmetic.specs.Marked.{marked_sum}
use Rattle.arithmetic.proofs.Prepared.{above_most, below_most, scale_scaled, significand_small}

-- ---- what the wide product and the wide quotient ask for
pub powers : {i j : ℕ} {w : Powers} → i ≡ w.up → j ≡ w.down → record { up = i; down = j } ≡ w
powers e g = rw (e, g)

module _ {q : Prepared} {a b : Number} (o : Operands q a b) where
  pub low_places : (place_of q.format a < 2 ^ 27) × (place_of q.format b < 2 ^ 27)
  low_places =
      let ok = (known o.usable).admits in
      (omega (arith, member_highest ok (members a ok o.first), highest_most ok), omega (arith, member_highest ok (members b ok o.second), highest_most ok))

  pub product_operands : {w : Powers} → w ≡ product_powers q.format a b
      → Scaled q.scale × (a.significand < q.scale.bound) × (b.significand < q.scale.bound) × (w.up < 2 ^ 29) × (w.down < 2 ^ 29)
  product_operands e =
      let u = o.usable in
      let ok = (known u).admits in (
        scale_scaled u,
        significand_small u a o.first,
        significand_small u b o.second,
        rw e (omega (arith, low_places.0, low_places.1, above_most ok)),
        rw e (omega (arith, below_most ok)),
      )

  pub quotient_operands : 1 ≤ b.significand → {w : Powers} → w ≡ quotient_powers q.format a b
      → Scaled q.scale × (a.significand < q.scale.bound) × (1 ≤ b.significand) × (b.significand < q.scale.bound) × (w.up < 2 ^ 29) × (w.down < 2 ^ 29)
  quotient_operands some e =
      let u = o.usable in
      let ok = (known u).admits in (
        scale_scaled u,
        significand_small u a o.first,
        some,
        significand_small u b o.second,
        rw e (omega (arith, low_places.0, below_most ok)),
        rw e (omega (arith, low_places.1, above_most ok)),
      )

-- ---- a sum with the sign of zero, as the code has it
pub zero_signed_none : {β p : ℕ} (none : Bool) (r : Rounding) → Canonical β p r.wide.significand r.wide.place → r.wide.significand ≡ 0
    → record { wide = record { negative = none; significand = 0; place = 0 }; mark = r.mark } ≡ zero_signed none r
zero_signed_none {β} {p} none r c e =
    let place : r.wide.place ≡ 0 = ⊎_elim (λ k. k) (λ l. absurd (omega (arith, c.small, l, ap (λ (m : ℕ). β * m) e))) c.normal in
    rw (e, place)

pub zero_signed_some : (none : Bool) (r : Rounding) → r.wide.significand ≢ 0 → r ≡ zero_signed none r
zero_signed_some none r h = rw (ne_eqb r.wide.significand 0 h)

-- ---- two numbers in the order of their exponents
pub zero_swap : (d : Direction) (s t : Bool) → zero_sign d s t ≡ zero_sign d t s
zero_swap d true true = refl
zero_swap d true false = refl
zero_swap d false true = refl
zero_swap d false false = refl

pub record Aligned (q : Prepared) (a b high low : Number) : Type 0 where
  pub operands : Operands q high low
  pub order : Upto low.exponent high.exponent
  pub zero : (d : Direction) → zero_sign d high.negative low.negative ≡ zero_sign d a.negative b.negative
  pub sum : (d : Direction) → marked_sum q.format d high low ≡ marked_sum q.format d a b

pub aligned : {q : Prepared} {a b : Number} → Operands q a b → (t : Bool) → lt_z a.exponent b.exponent ≡ t → Aligned q a b (cond t b a) (cond t a b)
aligned {q} {a} {b} o true e =
    record {
      operands = record { usable = o.usable; first = o.second; second = o.first };
      order = let l = lt_true a.exponent b.exponent e in omega arith;
      zero = λ d. zero_swap d b.negative a.negative;
      sum = λ d. rw (zero_swap d b.negative a.negative, +ℤ_comm (value q.format b) (value q.format a));
    }
aligned {q} {a} {b} o false e = record { operands = o; order = lt_false a.exponent b.exponent e; zero = λ d. refl; sum = λ d. refl }

-- the place of the higher one is that of the lower one and the distance between their exponents
pub place_apart : {f : Format} {high low : Number} → Member f high → Member f low → Upto low.exponent high.exponent
    → place_of f low + nat_abs (high.exponent -ℤ low.exponent) ≡ place_of f high
place_apart {f} {high} {low} i j l =
    omega (
      arith,
      size_parts (high.exponent -ℤ low.exponent),
      diff_parts high.exponent low.exponent,
      apart (high.exponent -ℤ low.exponent),
      size_parts (high.exponent -ℤ f.emin),
      diff_parts high.exponent f.emin,
      apart (high.exponent -ℤ f.emin),
      size_parts (low.exponent -ℤ f.emin),
      diff_parts low.exponent f.emin,
      apart (low.exponent -ℤ f.emin),
      i.exponent_low,
      j.exponent_low,
    )
