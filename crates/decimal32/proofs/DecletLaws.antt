-- Declets, by tests that antt computes at each of them: three digits each; every number below 1000 has a canonical one that is read
-- as it; and a canonical one comes back when it is read and written.
use Rattle.theory.proofs.Prelude.{ℕ, ◌<◌, true, Bool, not, ◌∙◌, ap, ◌≡◌, sym, refl, eqb, ltb, eqb-true, ltb-true}
use mathlib.Core.Bool.{◌||◌}
use Rattle.theory.specs.Lists.{all}
use Rattle.theory.specs.Tests.{◌and◌}
use Rattle.theory.proofs.Lists.{at_number}
use Rattle.decimal32.specs.Declets.{declet_value, declet_for, canonical_declet}

pub value_small : {n : ℕ} → n < 1024 → declet_value n < 1000
unfolding all declet_value ◌and◌
value_small {n} h = ltb-true (declet_value n) 1000 (at_number (λ (i : ℕ). ltb (declet_value i) 1000) 1024 refl n h)

pub declet_fits : {n : ℕ} → n < 1000 → declet_for n < 1024
unfolding all declet_for ◌and◌
declet_fits {n} h = ltb-true (declet_for n) 1024 (at_number (λ (i : ℕ). ltb (declet_for i) 1024) 1000 refl n h)

-- written and read
pub declet_back : {n : ℕ} → n < 1000 → declet_value (declet_for n) ≡ n
unfolding all declet_value declet_for ◌and◌
declet_back {n} h = eqb-true (declet_value (declet_for n)) n (at_number (λ (i : ℕ). eqb (declet_value (declet_for i)) i) 1000 refl n h)

pub declet_canonical : {n : ℕ} → n < 1000 → canonical_declet (declet_for n) ≡ true
unfolding all declet_for canonical_declet ◌and◌
declet_canonical {n} h = at_number (λ (i : ℕ). canonical_declet (declet_for i)) 1000 refl n h

-- read and written
abbrev returned : ℕ → Bool
returned n = not (canonical_declet n) || eqb (declet_for (declet_value n)) n

pub canonical_back : {n : ℕ} → n < 1024 → canonical_declet n ≡ true → declet_for (declet_value n) ≡ n
unfolding all declet_value declet_for canonical_declet ◌and◌
canonical_back {n} h c =
    eqb-true (declet_for (declet_value n)) n (sym (ap (λ (t : Bool). not t || eqb (declet_for (declet_value n)) n) c) ∙ at_number returned 1024 refl n h)
