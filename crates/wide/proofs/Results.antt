-- What a caller may know of a result: its value is the rounding of the exact value, and its place is bounded.
use Rattle.theory.proofs.Prelude.{ℕ, ◌≤◌, ◌+◌, ◌^◌, ◌*◌, ◌-◌, Bool, ◌∙◌, ap, ◌≡◌, sym, refl, ap₂, arith, ℤ, ◌+ℤ◌}
use Rattle.rounding.proofs.Prelude.{Positional, Canonical, Direction, pow_pos, place_le, Rounds}
use Rattle.theory.specs.Round.{round}
use Rattle.theory.specs.Signed.{signed, round_z}
use Rattle.theory.proofs.Canonical.{canonical_place}
use Rattle.theory.proofs.Round.{round_exact}
use Rattle.theory.proofs.Monotone.{round_mono}
use Rattle.theory.proofs.Signed.{round_z_signed}
use Rattle.rounding.specs.declared.Wide.{Wide}
use Rattle.rounding.specs.declared.Rounding.{Rounding}
use Rattle.wide.specs.Operand.{value_of}
use Rattle.wide.specs.Sum.{RoundsZ}
use Rattle.wide.proofs.Sizes.{greatest_below, sum_size}

module _ {β p : ℕ} (ok : Positional β p) {d : Direction} {r : Rounding} where
  module _ {negative : Bool} {N D : ℕ} (h_d : 1 ≤ D) (h : Rounds β p d negative N D r) where
    pub rounds_value : value_of β r.wide ≡ round_z β p d (signed negative N) D
    rounds_value = ap₂ signed h.sign h.size ∙ sym (round_z_signed ok h_d d negative N)

    -- what is at most the greatest number at place k has a place of at most k
    pub rounds_place : (k : ℕ) → N ≤ (β ^ p - 1) * β ^ k * D → r.wide.place ≤ k
    rounds_place k l =
        let w : ℕ = (β ^ p - 1) * β ^ k in
        let most : round β p d negative N D ≤ round β p d negative w 1 =
        round_mono ok d negative (record { divisor = h_d; divisor' = omega arith; cross = omega arith }) in
        let itself : round β p d negative w 1 ≡ w =
        round_exact ok w (omega arith) d negative w (record { significand = β ^ p - 1; exponent = k; small = omega (arith, pow_pos ok.base p); is = refl }) (omega arith) in
        rw (← canonical_place ok h.canonical, h.size) (place_le ok (omega (arith, greatest_below ok k)))

  pub sum_value : (z : ℤ) → RoundsZ β p d z r → value_of β r.wide ≡ round_z β p d z 1
  sum_value z h = rounds_value (omega arith) h.rounds ∙ ap (λ (v : ℤ). round_z β p d v 1) (sym h.sign)

  pub sum_place : (x y : Wide) → RoundsZ β p d (value_of β x +ℤ value_of β y) r → Canonical β p x.significand x.place → Canonical β p y.significand y.place
      → (k : ℕ) → x.place ≤ k → y.place ≤ k → r.wide.place ≤ k + 1
  sum_place x y h hx hy k l m = rounds_place (omega arith) h.rounds (k + 1) (omega (arith, sum_size ok x y hx hy k l m))
