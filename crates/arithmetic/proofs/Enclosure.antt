-- Direction 4 gives at most the exact result of an operation and direction 3 at least it; and sums are monotone.
use Rattle.theory.proofs.Prelude.{ℕ, ◌≡◌, arith, ℤ, pos, ◌+ℤ◌, ◌*ℤ◌, ◌≤ℤ◌}
use Rattle.arithmetic.proofs.Prelude.{Direction, Format, direction, Given, gives, Admitted, positional, Number, Rounded, value}
use Rattle.theory.specs.declared.Direction.TheVariants.{Upward, Downward}
use Rattle.theory.proofs.Integers.{sum_parts, le_parts, parts_le, scale_above, scale_below}
use Rattle.theory.proofs.Signed.{downward_le, le_upward, round_z_mono}
use Rattle.arithmetic.specs.Marked.{sum_answer}
use Rattle.arithmetic.specs.Outcomes.{RoundedNumber}
use Rattle.arithmetic.proofs.Calls.{CallRounds, sum_rounds}

-- ---- every operation, by the fraction N / D that its answer rounds
pub given_down : {f : Format} {N : ℤ} {D : ℕ} {x : Number} → Admitted f → RoundedNumber f Downward N D x → (value f x *ℤ pos D) ≤ℤ N
given_down {N} a g = rw g.value (downward_le (positional a) g.divisor N)

pub given_up : {f : Format} {N : ℤ} {D : ℕ} {x : Number} → Admitted f → RoundedNumber f Upward N D x → N ≤ℤ (value f x *ℤ pos D)
given_up {N} a g = rw g.value (le_upward (positional a) g.divisor N)

pub given_mono : {f : Format} {d : Direction} {N N' : ℤ} {D D' : ℕ} {x y : Number} → Admitted f → RoundedNumber f d N D x → RoundedNumber f d N' D' y
    → (N *ℤ pos D') ≤ℤ (N' *ℤ pos D) → value f x ≤ℤ value f y
given_mono {d} {N} {N'} a g h l = rw (g.value, h.value) (round_z_mono (positional a) d N N' g.divisor h.divisor l)

module _ {f : Format} {a b : Number} {N : ℤ} {D : ℕ} {r : Given Rounded} {x : Rounded} where
  pub rounds_down : CallRounds f 4 a b N D r → r ≡ gives x → (value f x.number *ℤ pos D) ≤ℤ N
  unfolding direction
  rounds_down h e = given_down (h.passed e).admits (h.given e).rounded

  pub rounds_up : CallRounds f 3 a b N D r → r ≡ gives x → N ≤ℤ (value f x.number *ℤ pos D)
  unfolding direction
  rounds_up h e = given_up (h.passed e).admits (h.given e).rounded

-- ---- the sum
pub sum_mono : (f : Format) (d : ℕ) (a b c : Number) {x y : Rounded} → sum_answer f d a c ≡ gives x → sum_answer f d b c ≡ gives y
    → value f a ≤ℤ value f b → value f x.number ≤ℤ value f y.number
sum_mono f d a b c e h l =
    let s : ℤ = value f a +ℤ value f c in
    let t : ℤ = value f b +ℤ value f c in
    given_mono ((sum_rounds f d a c).passed e).admits ((sum_rounds f d a c).given e).rounded ((sum_rounds f d b c).given h).rounded
    (parts_le (s *ℤ pos 1) (t *ℤ pos 1)
    (omega
    (arith, le_parts l, sum_parts (value f a) (value f c), sum_parts (value f b) (value f c), scale_above s 1, scale_below s 1, scale_above t 1, scale_below t 1)))
