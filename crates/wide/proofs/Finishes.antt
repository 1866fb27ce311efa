-- What `finish` asks of a cut, and the rounding of zero.
use Rattle.theory.proofs.Prelude.{ℕ, ◌≤◌, ◌<◌, ◌^◌, ◌*◌, ◌-◌, Bool, inl, ◌∙◌, ◌≡◌, sym, refl, zero-mul, arith}
use native.Mathlib.Nat.{div-le_self}
use Rattle.rounding.proofs.Prelude.{Positional, Direction, pow_pos, place_le, Scale, ScaledWithin, cut_of, Rounds, positional}
use Rattle.theory.proofs.Wide.{wide_zero}
use Rattle.theory.proofs.Round.{round_exact}
use Rattle.theory.proofs.Marks.{mark_exactly}
use Rattle.theory.specs.declared.Mark.TheVariants.{Exact}
use Rattle.rounding.specs.declared.Cut.{Cut}
use Rattle.rounding.proofs.Cuts.{cut_canonical}
use Rattle.wide.proofs.Sizes.{greatest_below}

-- what `finish` asks of a cut: its steps fit the digits, and its place is small where the value is
pub finishes : {limit : ℕ} {s : Scale} → ScaledWithin limit s → (N D : ℕ) → 1 ≤ D → {c : Cut} → c ≡ cut_of s.base s.digits N D → (k : ℕ) → k ≤ 2 ^ 30
    → N ≤ (s.base ^ s.digits - 1) * s.base ^ k → ScaledWithin limit s × (c.steps < s.bound) × (c.place ≤ 2 ^ 30)
unfolding cut_of
finishes h N D h_d {c} e k m l =
    let ok = positional h in
    let place : c.place ≤ k = rw e (place_le ok (omega (arith, div-le_self N D, greatest_below ok k))) in
    (h, rw (e, h.bound_power) (cut_canonical ok N D h_d).small, omega arith)

-- zero is exact, with any sign
pub rounds_zero : {β p : ℕ} → Positional β p → (d : Direction) (negative : Bool) {N : ℕ} (D : ℕ) → 1 ≤ D → N ≡ 0
    → Rounds β p d negative N D (record { wide = record { negative = negative; significand = 0; place = 0 }; mark = Exact })
rounds_zero {β} {p} ok d negative D h_d e =
    rw e
    (record {
      sign = refl;
      canonical = record { small = pow_pos ok.base p; normal = inl refl };
      size = zero-mul (β ^ 0) ∙ sym (round_exact ok 0 h_d d negative 0 (wide_zero ok) (omega arith));
      marked = sym (mark_exactly (0 * β ^ 0) 0 D negative (omega arith));
    })
