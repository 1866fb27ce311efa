-- What a sum rounded to nearest leaves is in the format, and two sums are in the order of their rounded sums, then of what these leave.
use Rattle.theory.proofs.Prelude.{ℕ, ◌≤◌, ◌^◌, ◌%◌, true, false, Bool, not, ◌∙◌, ap, ◌≡◌, refl, subst, arith, ℤ, pos, ◌+ℤ◌, nat_abs, ◌-ℤ◌, neg_ℤ, ◌*ℤ◌, +ℤ_comm, lt_z, le_z}
use Rattle.theory.specs.declared.Direction.TheVariants.{NearestEven}
use Rattle.theory.specs.Signed.{round_z}
use Rattle.theory.proofs.Integers.{above, below, sum_parts, diff_parts, neg_above, neg_below, le_parts, parts_eq, parts_scale_le, scale_above, scale_below}
use Rattle.theory.proofs.Order.{Upto, le_true, le_false, lt_true, lt_false}
use Rattle.theory.proofs.Round.{to_even}
use Rattle.theory.proofs.Signed.{round_z_mono}
use Rattle.theory.proofs.FastTwoSum.{WideTriple, nearest_exact, rounded_triple}
use Rattle.theory.proofs.Tests.{refuted}
use Rattle.rounding.specs.declared.Rounding.{Rounding}
use Rattle.rounding.specs.declared.Wide.{Wide}
use Rattle.wide.specs.Operand.{value_of}
use Rattle.binary32.specs.Patterns.{pattern_value}
use Rattle.binary32.proofs.Fields.{binary_24}
use Rattle.binary32.proofs.PatternOrder.{magnitude_most}
use Rattle.binary32.proofs.PatternValues.{value_size}
use Rattle.exact_sums.specs.Numbers.{Placed, Nearest, Marked, SumOf, RestOf, turned}
use Rattle.exact_sums.proofs.Ranks.{value_wide, placed_more, turned_is, turned_placed}

less : (u v : ℤ) {w : ℤ} → w ≡ neg_ℤ v → u +ℤ w ≡ u -ℤ v
less u v e =
    rw e (parts_eq (u +ℤ neg_ℤ v) (u -ℤ v) (omega (arith, sum_parts u (neg_ℤ v), diff_parts u v, neg_above v, neg_below v)))

-- ---- two further steps: z = x - a, y = b - z
module _ (a b : Wide) (ha : Placed 254 a) (hb : Placed 254 b) {x : Wide} (hx : Nearest 255 (value_of 2 a +ℤ value_of 2 b) x) {m : Wide} (em : m ≡ turned a) where
  m_placed : Placed 255 m
  m_placed = turned_placed 255 (omega arith) ha em

  module _ {z : Rounding} (ez : SumOf x m z) {w : Wide} (ew : w ≡ turned z.wide) where
    hz : Nearest 256 (value_of 2 x +ℤ value_of 2 m) z.wide
    hz = (ez 255 hx.placed m_placed).nearest

    w_placed : Placed 256 w
    w_placed = turned_placed 256 (omega arith) hz.placed ew

    pub third_placed : Placed 300 b × Placed 300 w
    third_placed = (placed_more 300 (omega arith) hb, placed_more 300 (omega arith) w_placed)

    module _ (order : nat_abs (value_of 2 b) ≤ nat_abs (value_of 2 a)) {y : Rounding} (ey : SumOf b w y) where
      hy : Nearest 257 (value_of 2 b +ℤ value_of 2 w) y.wide
      hy = (ey 256 (placed_more 256 (omega arith) hb) w_placed).nearest

      z_is : value_of 2 z.wide ≡ round_z 2 24 NearestEven (value_of 2 x -ℤ value_of 2 a) 1
      z_is = hz.value ∙ ap (λ (v : ℤ). round_z 2 24 NearestEven v 1) (less (value_of 2 x) (value_of 2 a) (turned_is a em))

      y_is : value_of 2 y.wide ≡ round_z 2 24 NearestEven (value_of 2 b -ℤ value_of 2 z.wide) 1
      y_is = hy.value ∙ ap (λ (v : ℤ). round_z 2 24 NearestEven v 1) (less (value_of 2 b) (value_of 2 z.wide) (turned_is z.wide ew))

      triple : WideTriple 24 (value_of 2 a) (value_of 2 b) (value_of 2 x) (value_of 2 z.wide) (value_of 2 y.wide)
      triple =
          rounded_triple binary_24 NearestEven NearestEven NearestEven (value_of 2 a) (value_of 2 b) (value_wide ha) (value_wide hb) order hx.value z_is y_is

      pub rest_made : RestOf (value_of 2 a +ℤ value_of 2 b) x y.wide
      rest_made =
          record { placed = placed_more 300 (omega arith) hy.placed; exact = nearest_exact binary_24 triple to_even hx.value }

-- ---- from patterns
pub in_order : (a b : ℕ) {v w : ℤ} → v ≡ pattern_value a → w ≡ pattern_value b → a % 2 ^ 31 ≤ b % 2 ^ 31 → nat_abs v ≤ nat_abs w
in_order a b e f h = rw (e, f, value_size a, value_size b) (magnitude_most a b h)

-- the same of equal values, in either order
module _ {u v u' v' : ℤ} (e : u ≡ u') (f : v ≡ v') where
  pub sum_told : {k : ℕ} {r : Rounding} → Marked k (u +ℤ v) r → Marked k (u' +ℤ v') r
  sum_told s = rw (← e, ← f) s

  pub nearest_here : {k : ℕ} {x : Wide} → Nearest k (u' +ℤ v') x → Nearest k (u +ℤ v) x
  nearest_here s = rw (e, f) s

  pub nearest_turned : {k : ℕ} {x : Wide} → Nearest k (v' +ℤ u') x → Nearest k (u +ℤ v) x
  nearest_turned {k} {x} s = nearest_here (subst (λ (N : ℤ). Nearest k N x) (+ℤ_comm v' u') s)

-- ---- the order of two sums
rounded_upto : {N M : ℤ} {x y : Wide} → Nearest 255 N x → Nearest 255 M y → Upto N M → Upto (value_of 2 x) (value_of 2 y)
rounded_upto {N} {M} s t l =
    rw (s.value, t.value)
    (le_parts (round_z_mono binary_24 NearestEven N M (omega arith) (omega arith) (parts_scale_le N 1 (M *ℤ pos 1) (omega (arith, scale_above M 1, scale_below M 1)))))

module _ {N M : ℤ} {x y : Wide} (s : Nearest 255 N x) (t : Nearest 255 M y) where
  pub rounded_less : lt_z (value_of 2 x) (value_of 2 y) ≡ true → true ≡ le_z N M
  rounded_less h = by (le_z N M) refl
    where
      by : (c : Bool) → le_z N M ≡ c → true ≡ c
      by true g = refl
      by false g = absurd (omega (arith, lt_true (value_of 2 x) (value_of 2 y) h, rounded_upto t s (omega (arith, le_false N M g))))

  pub rounded_more : lt_z (value_of 2 y) (value_of 2 x) ≡ true → false ≡ le_z N M
  rounded_more h = refuted (λ g. omega (arith, lt_true (value_of 2 y) (value_of 2 x) h, rounded_upto s t (le_true N M g)))

-- N is h and l, M is i and j, and h is i
rests_decide : (N M h l i j : ℤ) → h +ℤ l ≡ N → i +ℤ j ≡ M → lt_z h i ≡ false → lt_z i h ≡ false → not (lt_z j l) ≡ le_z N M
rests_decide N M h l i j e f a b = by (lt_z j l) (le_z N M) refl refl
  where
    by : (p q : Bool) → lt_z j l ≡ p → le_z N M ≡ q → not p ≡ q
    by false true hp hq = refl
    by true false hp hq = refl
    by true true hp hq =
        absurd (omega (arith, lt_true j l hp, le_true N M hq, lt_false h i a, lt_false i h b, sum_parts h l, sum_parts i j, ap above e, ap below e, ap above f, ap below f))
    by false false hp hq =
        absurd (omega (arith, lt_false j l hp, le_false N M hq, lt_false h i a, lt_false i h b, sum_parts h l, sum_parts i j, ap above e, ap below e, ap above f, ap below f))

pub rests_order : {N M : ℤ} {x y r q : Wide} → RestOf N x r → RestOf M y q → lt_z (value_of 2 x) (value_of 2 y) ≡ false → lt_z (value_of 2 y) (value_of 2 x) ≡ false
    → {t : Bool} → t ≡ lt_z (value_of 2 q) (value_of 2 r) → not t ≡ le_z N M
rests_order {N} {M} {x} {y} {r} {q} s t a b e =
    ap not e ∙ rests_decide N M (value_of 2 x) (value_of 2 r) (value_of 2 y) (value_of 2 q) s.exact t.exact a b
