-- Demand 3: every triple of two numbers of a binary format is within the bound.
use Rattle.theory.proofs.Prelude.{ℕ, ◌≤◌, ◌<◌, ◌^◌, ◌*◌, ◌-◌, true, ⊎_elim, inl, inr, ◌⊎◌, ◌∙◌, ap, ◌≡◌, sym, refl, subst, arith, ℤ, ◌+ℤ◌, nat_abs, ◌-ℤ◌, leb-true, eqb-true, ltb-true}
use Rattle.theory.proofs.Words.{Positional, Wide, ufp, ulp, WideZ, Faithful}
use Rattle.theory.proofs.Tests.{and_left, and_right, or_cases}
use Rattle.theory.proofs.Powers.{pow_pos, pow_mono}
use Rattle.theory.proofs.Integers.{above, below, size_signed, diff_parts, size_parts}
use Rattle.theory.proofs.FastTwoSum.{WideTriple, triple_close}
use Rattle.number.proofs.Prelude.{Format, apart}
use Rattle.number.specs.declared.Number.{Number}
use Rattle.number.specs.Numbers.{place_of, normal, small, is_zero, member, magnitude, value}
use Rattle.fast_two_sum.specs.Triples.{Summands, Triple, Bound}

-- ---- a number of a format, admitted or not, is in its wide format
significand_below : (f : Format) → 2 ≤ f.base → (x : Number) → member f x ≡ true → x.significand < f.base ^ f.digits
unfolding member normal small is_zero
significand_below f hβ x h =
    ⊎_elim
    (λ n. let u : x.significand ≤ f.base ^ f.digits - 1 = leb-true _ _ (and_left _ _ (and_right _ _ n)) in omega (arith, pow_pos hβ f.digits))
    (λ k.
    ⊎_elim
    (λ s. let u : x.significand < f.base ^ (f.digits - 1) = ltb-true _ _ (and_left _ _ (and_right _ _ s)) in omega (arith, pow_mono hβ {i = f.digits - 1} {j = f.digits} (omega arith)))
    (λ z. let u : x.significand ≡ 0 = eqb-true _ _ (and_left _ _ z) in omega (arith, pow_pos hβ f.digits)) (or_cases _ _ k))
    (or_cases _ _ h)

pub value_size : (f : Format) (x : Number) → nat_abs (value f x) ≡ magnitude f x
unfolding value
value_size f x = size_signed x.negative (magnitude f x)

pub value_wide : (f : Format) → 2 ≤ f.base → (x : Number) → member f x ≡ true → WideZ f.base f.digits (value f x)
unfolding magnitude
value_wide f hβ x h =
    subst (Wide f.base f.digits) (sym (value_size f x)) (record { significand = x.significand; exponent = place_of f x; small = significand_below f hβ x h; is = refl })

-- equal values are no distance apart
pub none : (v w : ℤ) → v ≡ w → nat_abs (v -ℤ w) ≡ 0
none v w e = omega (arith, size_parts (v -ℤ w), diff_parts v w, apart (v -ℤ w), ap above e, ap below e)

module _ {f : Format} {a b x z y : Number} (s : Summands f a b) (t : Triple f a b x z y) where
  base_least : 2 ≤ f.base
  base_least = omega (arith, s.base)

  ok : Positional 2 f.digits
  ok = record { base = omega arith; digits = omega (arith, s.digits) }

  -- the theory's triple, on values
  on_values : WideTriple f.digits (value f a) (value f b) (value f x) (value f z) (value f y)
  on_values =
      record {
        a_wide = subst (λ (β : ℕ). WideZ β f.digits (value f a)) s.base (value_wide f base_least a s.a_number);
        b_wide = subst (λ (β : ℕ). WideZ β f.digits (value f b)) s.base (value_wide f base_least b s.b_number);
        order = omega (arith, value_size f a, value_size f b, s.order);
        x_step = subst (λ (β : ℕ). Faithful β f.digits (value f a +ℤ value f b) (value f x)) s.base t.x_step;
        z_step = subst (λ (β : ℕ). Faithful β f.digits (value f x -ℤ value f a) (value f z)) s.base t.z_step;
        y_step = subst (λ (β : ℕ). Faithful β f.digits (value f b -ℤ value f z) (value f y)) s.base t.y_step;
      }

  pub bound : Bound f a b x y
  bound =
      let c = triple_close ok on_values in
      record {
        by_sum = c.by_sum;
        by_x = rw (← value_size f x) c.by_x;
        last_place_law = subst (λ (β : ℕ). magnitude f y ≤ ulp β f.digits (magnitude f x)) (sym s.base) (rw (← value_size f y, ← value_size f x) c.last_place_law);
        exact = λ h. none _ _ (c.exact (exactly h));
      }
    where
      exactly : (magnitude f a ≡ 0) ⊎ (magnitude f b ≡ 0) ⊎ (ufp f.base (magnitude f a) ≤ 2 ^ f.digits * ufp f.base (magnitude f b))
          → (nat_abs (value f a) ≡ 0) ⊎ (nat_abs (value f b) ≡ 0) ⊎ (ufp 2 (nat_abs (value f a)) ≤ 2 ^ f.digits * ufp 2 (nat_abs (value f b)))
      exactly (inl e) = inl (value_size f a ∙ e)
      exactly (inr (inl e)) = inr (inl (value_size f b ∙ e))
      exactly (inr (inr h)) =
          inr (inr (rw (value_size f a, value_size f b) (subst (λ (β : ℕ). ufp β (magnitude f a) ≤ 2 ^ f.digits * ufp β (magnitude f b)) s.base h)))
