-- What compare answers is the order of the exact values of two numbers of the format: less, greater and equal say so, equal only
-- for one record or both zeros, the order turns round and is transitive.
use Rattle.theory.proofs.Prelude.{true, [], ◌∷◌, ◌⊎◌, ◌∙◌, ap, ◌≡◌, sym, refl, arith, ◌<ℤ◌}
use Rattle.theory.specs.Lists.{all}
use Rattle.theory.proofs.Tests.{and_left, and_right}
use Rattle.theory.proofs.Integers.{lt_parts, parts_lt}
use Rattle.number.proofs.Prelude.{Format, Given, gives, admitted, admits, member, magnitude, value, members}
use Rattle.number.specs.declared.Number.{Number}
use Rattle.format.proofs.GivenLaws.{gives_same, gives_not_refused}
use Rattle.std.specs.declared.cmp.Ordering.{Ordering}
use Rattle.std.specs.declared.cmp.Ordering.TheVariants.{Less, Equal, Greater}
use Rattle.number.specs.Checks.{Checks, not_admitted, no_direction, not_member, all_passed}
use Rattle.number.specs.Order.{order_z, compared}
use Rattle.number.proofs.Values.{member_zeros}
use Rattle.number.proofs.CheckLaws.{checked_passed, checks_end, pair_made}
use Rattle.number.proofs.Comparison.{less_says, equal_says, greater_says, less_when, greater_when, both_zero}

-- a and b are numbers of the format, and r is the order of their values
record Compared (f : Format) (a b : Number) (r : Ordering) : Type 0 where
  admitted_format : admitted f ≡ true
  pair : (member f a ≡ true) × (member f b ≡ true)
  order : order_z (value f a) (value f b) ≡ r

known : {f : Format} {a b : Number} {r : Ordering} → compared f a b ≡ gives r → Compared f a b r
unfolding compared all
known {f} {a} {b} {r} h = by (checks_end f [] (a ∷ b ∷ []) (gives (order_z (value f a) (value f b)))) h
  where
    by : {g : Given Ordering} → Checks f [] (a ∷ b ∷ []) (gives (order_z (value f a) (value f b))) g → g ≡ gives r → Compared f a b r
    by (not_admitted n) e = absurd (gives_not_refused (sym e))
    by (no_direction n m) e = absurd (gives_not_refused (sym e))
    by (not_member n m l) e = absurd (gives_not_refused (sym e))
    by (all_passed n m l) e = record { admitted_format = n; pair = (and_left _ _ l, and_left _ _ (and_right _ _ l)); order = gives_same e }

module _ (f : Format) (a b : Number) where
  pub compared_less : compared f a b ≡ gives Less → value f a <ℤ value f b
  compared_less h = less_says (known h).order

  pub compared_greater : compared f a b ≡ gives Greater → value f b <ℤ value f a
  compared_greater h = greater_says (known h).order

  -- equal only for one record, or both zeros
  pub compared_equal : compared f a b ≡ gives Equal → (a ≡ b) ⊎ ((magnitude f a ≡ 0) × (magnitude f b ≡ 0))
  compared_equal h =
      let c = known h in
      let ok = admits _ c.admitted_format in
      let m = c.pair in
      member_zeros ok (members _ ok m.0) (members _ ok m.1) (equal_says c.order)

  -- and the two zeros are
  pub zeros_compared : admitted f ≡ true → member f a ≡ true → member f b ≡ true → magnitude f a ≡ 0 → magnitude f b ≡ 0 → compared f a b ≡ gives Equal
  unfolding compared all value
  zeros_compared h i j z w =
      checked_passed f [] (a ∷ b ∷ []) _ h refl (pair_made f a b i j) ∙ ap gives (sym (both_zero a.negative b.negative _ _ z w))

  pub compared_turned : compared f a b ≡ gives Less → compared f b a ≡ gives Greater
  unfolding compared all
  compared_turned h =
      let c = known h in
      checked_passed f [] (b ∷ a ∷ []) _ c.admitted_format refl (pair_made f b a c.pair.1 c.pair.0) ∙ ap gives (greater_when (less_says c.order))

pub compared_transitive : (f : Format) (a b d : Number) → compared f a b ≡ gives Less → compared f b d ≡ gives Less → compared f a d ≡ gives Less
unfolding compared all
compared_transitive f a b d h k =
    let c = known h in
    let e = known k in
    checked_passed f [] (a ∷ d ∷ []) _ c.admitted_format refl (pair_made f a d c.pair.0 e.pair.1)
    ∙ ap gives (less_when (parts_lt (value f a) (value f d) (omega (arith, lt_parts (less_says c.order), lt_parts (less_says e.order)))))
