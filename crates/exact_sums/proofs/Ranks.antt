-- Numbers of the wide format with 24 binary digits: read from a pattern, added, and in the order of their ranks.
use Rattle.theory.proofs.Prelude.{ℕ, ◌≤◌, ◌<◌, ◌+◌, ◌^◌, ◌*◌, ◌-◌, ◌%◌, ⊎_elim, inl, ◌∙◌, ap, ap₂, ◌≡◌, sym, refl, dec_le, zero-mul, arith, ltb, ℤ, ◌+ℤ◌, nat_abs, neg_ℤ, lt_z}
use Rattle.theory.specs.Wide.{Canonical}
use Rattle.theory.specs.declared.Direction.TheVariants.{NearestEven}
use Rattle.theory.specs.declared.Mark.TheVariants.{Exact}
use Rattle.theory.specs.Marks.{inexact}
use Rattle.theory.specs.Signed.{signed, WideZ}
use Rattle.theory.proofs.Canonical.{canonical_wide, canonical_less}
use Rattle.theory.proofs.Integers.{negate_signed, size_signed, times_one}
use Rattle.theory.proofs.Marks.{inexact_counted}
use Rattle.theory.proofs.Order.{Ordered, signed_order, key_order}
use Rattle.format.specs.declared.Scale.{Scale}
use Rattle.format.specs.Formats.{Scaled, scale_of}
use Rattle.format.specs.Published.{binary32}
use Rattle.format.proofs.Formats.{scaled}
use Rattle.rounding.specs.declared.Wide.{Wide}
use Rattle.rounding.specs.declared.Rounding.{Rounding}
use Rattle.wide.specs.Operand.{Bounded, size_of, value_of, wide}
use Rattle.wide.specs.Sum.{RoundsZ}
use Rattle.wide.proofs.Results.{sum_value, sum_place}
use Rattle.binary32.specs.Patterns.{sign_of, field_of, magnitude_read, pattern_value}
use Rattle.binary32.proofs.Fields.{binary32_limits, binary_24, significand_of, significand_canonical, magnitude_is}
use Rattle.exact_sums.specs.Numbers.{Placed, Holds, SumOf, turned, size_rank, rank_of}

pub placed_more : {k : ℕ} {x : Wide} (n : ℕ) → k ≤ n → Placed k x → Placed n x
placed_more n l h = record { canonical = h.canonical; place_most = omega (arith, h.place_most) }

pub value_wide : {k : ℕ} {x : Wide} → Placed k x → WideZ 2 24 (value_of 2 x)
value_wide {x = x} h = rw (size_signed x.negative (size_of 2 x)) (canonical_wide binary_24 h.canonical)

-- ---- the number of a pattern: its sign, its fraction with the leading digit, and the place of its field
pub pattern_holds : (n : ℕ) {field m k : ℕ} → field ≡ field_of n → m ≡ significand_of field (n % 2 ^ 23) → k ≡ field - 1
    → Holds 254 (pattern_value n) (wide (sign_of n) m k)
unfolding pattern_value magnitude_read
pattern_holds n g e f =
    rw (e, f, g)
    (record {
      placed = record { canonical = significand_canonical (field_of n) (omega arith); place_most = omega arith };
      value = ap (signed (sign_of n)) (sym (magnitude_is n));
    })

-- ---- sums
exact_value : {N : ℤ} {r : Rounding} → RoundsZ 2 24 NearestEven N r → r.mark ≡ Exact → value_of 2 r.wide ≡ N
exact_value {N} {r} h e =
    let v : ℤ = value_of 2 r.wide in
    ⊎_elim (λ p. sym (times_one v) ∙ p.1 ∙ sym h.sign) (λ p. absurd (omega (arith, p.0, ap inexact (sym h.rounds.marked ∙ e))))
    (inexact_counted v (signed r.wide.negative (nat_abs N)) 1)

module _ {s : Scale} (e : s ≡ scale_of binary32) where
  pub scaled_here : Scaled s
  scaled_here = rw e (scaled binary32_limits)

  pub bounded_here : {x : Wide} → Placed 300 x → Bounded s x
  bounded_here h = rw e (record { canonical = h.canonical; place_most = omega (arith, h.place_most) })

  pub sum_here : (x y : Wide) {r : Rounding} → RoundsZ s.base s.digits NearestEven (value_of s.base x +ℤ value_of s.base y) r → SumOf x y r
  sum_here x y {r} h k hx hy =
      let z : RoundsZ 2 24 NearestEven (value_of 2 x +ℤ value_of 2 y) r = rw e at h in
      record {
        nearest = record {
          placed = record {
            canonical = z.rounds.canonical;
            place_most = sum_place binary_24 x y z hx.canonical hy.canonical k hx.place_most hy.place_most;
          };
          value = sum_value binary_24 (value_of 2 x +ℤ value_of 2 y) z;
        };
        exact = exact_value z;
      }

-- ---- the number on the other side
pub turned_is : (x : Wide) {m : Wide} → m ≡ turned x → value_of 2 m ≡ neg_ℤ (value_of 2 x)
turned_is x e = ap (value_of 2) e ∙ sym (negate_signed x.negative (size_of 2 x))

pub turned_placed : {k : ℕ} {x m : Wide} (n : ℕ) → k ≤ n → Placed k x → m ≡ turned x → Placed n m
turned_placed n l h e = rw e (record { canonical = h.canonical; place_most = omega (arith, h.place_most) })

-- ---- the order
module _ {x : Wide} (h : Placed 300 x) where
  pub rank_most : size_rank x ≤ 2 ^ 33
  rank_most = omega (arith, h.place_most, h.canonical.small)

  nothing : size_rank x ≤ 0 → size_of 2 x ≤ 0
  nothing l = let z : x.significand ≡ 0 = omega arith in omega (arith, ap (λ (m : ℕ). m * 2 ^ x.place) z, zero-mul (2 ^ x.place))

  something : 0 < size_rank x → 0 < size_of 2 x
  something l = canonical_less binary_24 zero_canonical h.canonical (omega arith)
    where
      zero_canonical : Canonical 2 24 0 0
      zero_canonical = record { small = omega arith; normal = inl refl }

rank_less : {x y : Wide} → Placed 300 x → Placed 300 y → size_rank x < size_rank y → size_of 2 x < size_of 2 y
rank_less hx hy l = canonical_less binary_24 hx.canonical hy.canonical l

rank_upto : {x y : Wide} → Placed 300 x → Placed 300 y → size_rank x ≤ size_rank y → size_of 2 x ≤ size_of 2 y
rank_upto {x} {y} hx hy l = by (dec_le (size_rank y) (size_rank x))
  where
    by : Dec (size_rank y ≤ size_rank x) → size_of 2 x ≤ size_of 2 y
    by (no g) = omega (arith, rank_less hx hy (omega arith))
    by (yes g) =
        let k : x.place ≡ y.place = omega (arith, hx.canonical.small, hy.canonical.small) in
        let m : x.significand ≡ y.significand = omega arith in
        rw (k, m) (omega arith)

-- the order of the ranks is that of the values
pub rank_order : {x y : Wide} → Placed 300 x → Placed 300 y → {i j : ℕ} → i ≡ rank_of x → j ≡ rank_of y → ltb i j ≡ lt_z (value_of 2 x) (value_of 2 y)
rank_order {x} {y} hx hy e f =
    ap₂ ltb e f ∙ key_order (2 ^ 33) x.negative y.negative (rank_most hx) (rank_most hy) ∙ sym (signed_order sizes x.negative y.negative)
  where
    sizes : Ordered (size_rank x) (size_rank y) (size_of 2 x) (size_of 2 y)
    sizes =
        record {
          less = rank_less hx hy;
          most = rank_upto hx hy;
          more = rank_less hy hx;
          least = rank_upto hy hx;
          none = λ h. omega (arith, nothing hx (omega arith), nothing hy (omega arith));
          some = λ h. positive h (dec_le 1 (size_rank x));
        }
      where
        positive : 0 < size_rank x + size_rank y → Dec (1 ≤ size_rank x) → 0 < size_of 2 x + size_of 2 y
        positive h (yes l) = omega (arith, something hx (omega arith))
        positive h (no l) = omega (arith, something hy (omega arith))
