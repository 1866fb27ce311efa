-- Theorems 2 and 3: what the three steps are off where a is smaller than b; of every triple, and of what our own three steps give.
use Rattle.theory.proofs.Prelude.{ℕ, ◌<◌, true, ◌≡◌, sym, subst, arith, ℤ, ◌+ℤ◌, nat_abs, ◌-ℤ◌}
use Rattle.theory.proofs.Words.{Positional, WideZ, Faithful}
use Rattle.theory.specs.declared.Direction.{Direction}
use Rattle.theory.specs.Nearest.{NearestNumber}
use Rattle.theory.proofs.Round.{Nearest}
use Rattle.theory.proofs.Nearest.{round_z_nearest_number}
use Rattle.theory.proofs.Reversed.{ReversedTriple, ReversedNearest, y_exact, reversed_close, nearest_close}
use Rattle.number.proofs.Prelude.{Format, Given, gives, member, value}
use Rattle.number.specs.declared.Number.{Number}
use Rattle.format.specs.Given.{◌then◌}
use Rattle.format.proofs.Formats.{Admitted, positional}
use Rattle.format.proofs.GivenLaws.{gives_same, gives_not_refused}
use Rattle.arithmetic.specs.Operations.{rounded_difference}
use Rattle.arithmetic.specs.Outcomes.{RoundedNumber, Outcome, given, too_large}
use Rattle.arithmetic.proofs.Outcome.{rounded_z_outcome}
use Rattle.fast_two_sum.specs.declared.Steps.{Steps}
use Rattle.fast_two_sum.specs.Triples.{Triple}
use Rattle.fast_two_sum.specs.Calls.{three_steps}
use Rattle.fast_two_sum.specs.Outcomes.{RoundedSteps}
use Rattle.fast_two_sum.specs.Reversed.{ReversedSummands, NearestTriple, ReversedBound, NearestBound}
use Rattle.fast_two_sum.proofs.Bounds.{value_size, value_wide}
use Rattle.fast_two_sum.proofs.Demand.{rounded_is_triple}

module _ {f : Format} {a b : Number} (s : ReversedSummands f a b) where
  ok : Positional 2 f.digits
  ok = record { base = omega arith; digits = s.digits }

  wide : (n : Number) → member f n ≡ true → WideZ 2 f.digits (value f n)
  wide n h = subst (λ (β : ℕ). WideZ β f.digits (value f n)) s.base (value_wide f (omega (arith, s.base)) n h)

  order : nat_abs (value f a) < nat_abs (value f b)
  order = omega (arith, value_size f a, value_size f b, s.order)

  pub reversed_bound : {x z y : Number} → Triple f a b x z y → ReversedBound f a b x z y
  reversed_bound {x} {z} {y} t = record { by_x = rw (← value_size f x) (reversed_close ok on_values); third_exact = y_exact ok on_values }
    where
      faithful : (v r : ℤ) → Faithful f.base f.digits v r → Faithful 2 f.digits v r
      faithful v r h = subst (λ (β : ℕ). Faithful β f.digits v r) s.base h

      on_values : ReversedTriple f.digits (value f a) (value f b) (value f x) (value f z) (value f y)
      on_values =
          record {
            a_wide = wide a s.a_number;
            b_wide = wide b s.b_number;
            order = order;
            x_step = faithful _ _ t.x_step;
            z_step = faithful _ _ t.z_step;
            y_step = faithful _ _ t.y_step;
          }

  pub nearest_bound : {x z y : Number} → NearestTriple f a b x z y → NearestBound f a b x y
  nearest_bound {x} {z} {y} t = record { by_x = rw (← value_size f x) (nearest_close ok on_values) }
    where
      nearest : (v r : ℤ) → NearestNumber f.base f.digits v r → NearestNumber 2 f.digits v r
      nearest v r h = subst (λ (β : ℕ). NearestNumber β f.digits v r) s.base h

      on_values : ReversedNearest f.digits (value f a) (value f b) (value f x) (value f z) (value f y)
      on_values =
          record {
            a_wide = wide a s.a_number;
            b_wide = wide b s.b_number;
            order = order;
            x_step = nearest _ _ t.x_step;
            z_step = nearest _ _ t.z_step;
            y_step = nearest _ _ t.y_step;
          }

-- ---- our own three steps
module _ {f : Format} (ok : Admitted f) (d₁ d₂ d₃ : Direction) {a b : Number} {t : Steps} where
  -- what they give is rounded, each in its own direction
  pub given_steps : three_steps f d₁ d₂ d₃ a b ≡ gives t → RoundedSteps f d₁ d₂ d₃ a b t
  unfolding three_steps
  given_steps = first (rounded_z_outcome ok d₁ _ (value f a +ℤ value f b))
    where
      third : {x z : Number} → RoundedNumber f d₁ (value f a +ℤ value f b) 1 x → RoundedNumber f d₂ (value f x -ℤ value f a) 1 z
          → {g : Given Number} → Outcome f d₃ (value f b -ℤ value f z) 1 g → (g then λ y. gives (record { x = x; z = z; y = y })) ≡ gives t → RoundedSteps f d₁ d₂ d₃ a b t
      third rx rz (given ry) e = subst (RoundedSteps f d₁ d₂ d₃ a b) (gives_same e) (record { x_is = rx; z_is = rz; y_is = ry })
      third rx rz (too_large l) e = absurd (gives_not_refused (sym e))

      second : {x : Number} → RoundedNumber f d₁ (value f a +ℤ value f b) 1 x → {g : Given Number} → Outcome f d₂ (value f x -ℤ value f a) 1 g
          → (g then λ z. rounded_difference f d₃ b z then λ y. gives (record { x = x; z = z; y = y })) ≡ gives t → RoundedSteps f d₁ d₂ d₃ a b t
      second rx (given {x = z} rz) e = third rx rz (rounded_z_outcome ok d₃ _ (value f b -ℤ value f z)) e
      second rx (too_large l) e = absurd (gives_not_refused (sym e))

      first : {g : Given Number} → Outcome f d₁ (value f a +ℤ value f b) 1 g
          → (g then λ x. rounded_difference f d₂ x a then λ z. rounded_difference f d₃ b z then λ y. gives (record { x = x; z = z; y = y })) ≡ gives t → RoundedSteps f d₁ d₂ d₃ a b t
      first (given {x} rx) e = second rx (rounded_z_outcome ok d₂ _ (value f x -ℤ value f a)) e
      first (too_large l) e = absurd (gives_not_refused (sym e))

  module _ (s : ReversedSummands f a b) (e : three_steps f d₁ d₂ d₃ a b ≡ gives t) where
    -- theorem 2
    pub steps_reversed : ReversedBound f a b t.x t.z t.y
    steps_reversed = reversed_bound s (rounded_is_triple ok (given_steps e))

    -- theorem 3, each direction 0 or 1
    pub steps_nearest : Nearest d₁ → Nearest d₂ → Nearest d₃ → NearestBound f a b t.x t.y
    steps_nearest near₁ near₂ near₃ = nearest_bound s nearest
      where
        r : RoundedSteps f d₁ d₂ d₃ a b t
        r = given_steps e

        nearest : NearestTriple f a b t.x t.z t.y
        nearest =
            record {
              x_number = r.x_is.member;
              z_number = r.z_is.member;
              y_number = r.y_is.member;
              x_step = rw r.x_is.value (round_z_nearest_number (positional ok) near₁ _);
              z_step = rw r.z_is.value (round_z_nearest_number (positional ok) near₂ _);
              y_step = rw r.y_is.value (round_z_nearest_number (positional ok) near₃ _);
            }
