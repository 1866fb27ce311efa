-- The places of the number that a finite pattern stands for, as patterns.
use Rattle.theory.proofs.Prelude.{ℕ, ◌≤◌, ◌<◌, ◌+◌, ◌^◌, ◌*◌, ◌-◌, suc, zero, ◌%◌, ◌/◌, true, false, Bool, [], ◌∷◌, ◌∙◌, ap, ◌≡◌, sym, refl, ap₂, arith, ne_eqb, eq-eqb, lt-leb}
use Rattle.theory.specs.Units.{ufp, ulp}
use Rattle.theory.proofs.Powers.{pow-add, pow_mono}
use Rattle.theory.proofs.Units.{ufp_le, ufp_unique, ufp_shift, ulp_canonical}
use Rattle.format.specs.Given.{gives}
use Rattle.format.specs.Published.{binary32}
use Rattle.number.specs.Numbers.{number, magnitude}
use Rattle.number.specs.Checks.{checked}
use Rattle.number.proofs.Membership.{Member}
use Rattle.units.specs.Places.{first_place, last_place}
use Rattle.number.proofs.CheckLaws.{one_checked}
use Rattle.binary32.specs.Patterns.{field_of, fraction_of, finite, magnitude_read, number_read, pattern_of, answer_written}
use Rattle.binary32.proofs.Fields.{binary32_limits, significand_of, significand_canonical, magnitude_is, finite_field, binary_24}
use Rattle.binary32.proofs.RoundTrips.{read_made, read_inside, read_magnitude, pattern_back}

-- ---- magnitudes
small_magnitude : (k : ℕ) → field_of k ≡ 0 → magnitude_read k ≡ fraction_of k
unfolding magnitude_read
small_magnitude k e = rw (eq-eqb (field_of k) 0 e)

normal_magnitude : (k : ℕ) {E F : ℕ} → field_of k ≡ suc E → fraction_of k ≡ F → magnitude_read k ≡ (2 ^ 23 + F) * 2 ^ E
normal_magnitude k {E} {F} e f =
    let place : suc E - 1 ≡ E = omega arith in
    magnitude_is k ∙ rw (e, f, ne_eqb (suc E) 0 (λ z. omega arith), place)

-- the pattern of a magnitude, for the sign plus
place_pattern : (k : ℕ) {M : ℕ} → k < 2 ^ 31 → magnitude_read k ≡ M → pattern_of (number binary32 false M) ≡ k
unfolding number_read magnitude_read
place_pattern k l e =
    ap₂ (λ (s : Bool) (m : ℕ). pattern_of (number binary32 s m)) (sym (lt-leb (2 ^ 31) k l)) (sym e) ∙ pattern_back k (omega arith)

module _ (n : ℕ) (h : finite n ≡ true) where
  inside : Member binary32 (number_read n)
  inside = read_inside {n = n} (record { finite = h; is = refl })

  -- the pattern of a place, by its magnitude
  place_answer_law : (place : ℕ → ℕ) (k : ℕ) → k < 2 ^ 31 → magnitude_read k ≡ place (magnitude_read n)
      → gives k ≡ answer_written (checked binary32 [] (number_read n ∷ []) (gives (number binary32 false (place (magnitude binary32 (number_read n))))))
  place_answer_law place k l e =
      sym
      (ap answer_written (one_checked binary32_limits inside)
      ∙ ap (λ (m : ℕ). gives (pattern_of (number binary32 false (place m)))) (read_magnitude n (read_made n h))
      ∙ ap gives (place_pattern k l e))

  -- ---- ufp
  pub ufp_small : (k : ℕ) → n % 2 ^ 31 < 2 ^ 23 → k ≡ ufp 2 (n % 2 ^ 31) → gives k ≡ answer_written (first_place binary32 (number_read n))
  unfolding first_place
  ufp_small k s e =
      let most : k ≤ n % 2 ^ 31 = omega (arith, ufp_le {β = 2} (omega arith) (n % 2 ^ 31)) in
      let own : magnitude_read k ≡ k = small_magnitude k (omega arith) ∙ omega arith in
      let size : magnitude_read n ≡ n % 2 ^ 31 = small_magnitude n (omega arith) ∙ omega arith in
      place_answer_law (ufp 2) k (omega arith) (own ∙ e ∙ ap (ufp 2) (sym size))

  pub ufp_normal : 2 ^ 23 ≤ n % 2 ^ 31 → gives (n % 2 ^ 31 / 2 ^ 23 * 2 ^ 23) ≡ answer_written (first_place binary32 (number_read n))
  unfolding first_place
  ufp_normal s =
      let E : ℕ = field_of n - 1 in
      let F : ℕ = fraction_of n in
      let k : ℕ = n % 2 ^ 31 / 2 ^ 23 * 2 ^ 23 in
      let size : magnitude_read n ≡ (2 ^ 23 + F) * 2 ^ E = normal_magnitude n {E = E} (omega arith) refl in
      let power : magnitude_read k ≡ (2 ^ 23 + 0) * 2 ^ E = normal_magnitude k {E = E} {F = 0} (omega arith) (omega arith) in
      let first : ufp 2 (2 ^ 23 + F) ≡ 2 ^ 23 = ufp_unique {β = 2} (omega arith) 23 (omega arith) (omega arith) in
      place_answer_law (ufp 2) k (omega arith) (power ∙ sym (ap (ufp 2) size ∙ ufp_shift {β = 2} (omega arith) (2 ^ 23 + F) E ∙ ap (λ (m : ℕ). m * 2 ^ E) first))

  -- ---- ulp
  pub ulp_zero : n % 2 ^ 31 ≡ 0 → gives 0 ≡ answer_written (last_place binary32 (number_read n))
  unfolding last_place ulp
  ulp_zero s =
      let size : magnitude_read n ≡ 0 = small_magnitude n (omega arith) ∙ omega arith in
      place_answer_law (ulp 2 24) 0 (omega arith) (small_magnitude 0 refl ∙ ap (ulp 2 24) (sym size))

  -- the place of the field
  field_place : 1 ≤ n % 2 ^ 31 → ulp 2 24 (magnitude_read n) ≡ 2 ^ (field_of n - 1)
  field_place s =
      ap (ulp 2 24) (magnitude_is n)
      ∙ ulp_canonical binary_24 (significand_canonical (field_of n) {fraction = fraction_of n} (omega arith)) (digits (field_of n) refl)
    where
      digits : (E : ℕ) → field_of n ≡ E → 1 ≤ significand_of E (fraction_of n)
      digits zero e = omega arith
      digits (suc E) e = rw (ne_eqb (suc E) 0 (λ z. omega arith)) (omega arith)

  -- up to place 22 it is a small number
  pub ulp_small : (k : ℕ) → 1 ≤ n % 2 ^ 31 → n % 2 ^ 31 / 2 ^ 23 < 24 → k ≡ 2 ^ (n % 2 ^ 31 / 2 ^ 23 - 1) → gives k ≡ answer_written (last_place binary32 (number_read n))
  unfolding last_place
  ulp_small k s l e =
      let field : field_of n ≡ n % 2 ^ 31 / 2 ^ 23 = omega arith in
      let most : k < 2 ^ 23 = omega (arith, pow_mono {β = 2} (omega arith) {i = n % 2 ^ 31 / 2 ^ 23 - 1} {j = 22} (omega arith)) in
      let own : magnitude_read k ≡ k = small_magnitude k (omega arith) ∙ omega arith in
      place_answer_law (ulp 2 24) k (omega arith) (own ∙ e ∙ ap (λ (f : ℕ). 2 ^ (f - 1)) (sym field) ∙ sym (field_place s))

  pub ulp_normal : 24 ≤ n % 2 ^ 31 / 2 ^ 23 → gives ((n % 2 ^ 31 / 2 ^ 23 - 23) * 2 ^ 23) ≡ answer_written (last_place binary32 (number_read n))
  unfolding last_place
  ulp_normal l =
      let E : ℕ = field_of n - 24 in
      let k : ℕ = (n % 2 ^ 31 / 2 ^ 23 - 23) * 2 ^ 23 in
      let power : magnitude_read k ≡ (2 ^ 23 + 0) * 2 ^ E = normal_magnitude k {E = E} {F = 0} (omega (arith, finite_field n h)) (omega arith) in
      let place : 23 + E ≡ field_of n - 1 = omega arith in
      place_answer_law (ulp 2 24) k (omega (arith, finite_field n h)) (power ∙ sym (field_place (omega arith) ∙ ap (λ (i : ℕ). 2 ^ i) (sym place) ∙ pow-add 2 23 E))
