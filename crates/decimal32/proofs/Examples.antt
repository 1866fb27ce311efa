-- Worked examples, computed from the definitions: patterns in hexadecimal in the comments.
use Rattle.theory.proofs.Prelude.{ℕ, ◌+◌, suc, zero, true, false, Bool, not, cond, ◌≡◌, refl, pos, negsuc}
use Rattle.theory.specs.Tests.{unless}
use Rattle.theory.specs.Place.{place, step}
use Rattle.format.specs.Given.{gives, refused}
use Rattle.number.specs.Numbers.{number}
use Rattle.decimal32.specs.Declets.{declet_value, declet_for, canonical_declet}
use Rattle.decimal32.specs.Patterns.{finite, biased_of, coefficient_of, magnitude_read, number_read, decimal32_read, pattern_of}

-- the declets of 5, 9, 79, 80, 987 and 999, and three that are not canonical
declets : (declet_for 5 ≡ 5) × (declet_for 9 ≡ 9) × (declet_for 79 ≡ 121) × (declet_for 80 ≡ 10) × (declet_for 987 ≡ 911) × (declet_for 999 ≡ 255)
unfolding declet_for
declets = (refl, refl, refl, refl, refl, refl)

spare : (declet_value 255 ≡ 999) × (declet_value 511 ≡ 999) × (declet_value 878 ≡ 888) × (declet_value 1023 ≡ 999)
unfolding declet_value
spare = (refl, refl, refl, refl)

count : (ℕ → Bool) → ℕ → ℕ → ℕ
count test i zero = 0
count test i (suc n) = cond (test i) 1 0 + count test (suc i) n

not_canonical : count (λ (n : ℕ). not (canonical_declet n)) 0 1024 ≡ 24
unfolding count canonical_declet
not_canonical = refl

-- 00000001 is 1E-101; 77F3FCFF 9999999E90, with leading digit 9; A23003D0 -7.50, as 7500000E-6
least : decimal32_read 1 ≡ gives (record { negative = false; significand = 1; exponent = negsuc 100 })
unfolding decimal32_read unless finite number_read number magnitude_read coefficient_of biased_of declet_value place step
least = refl

greatest : decimal32_read 2012478719 ≡ gives (record { negative = false; significand = 9999999; exponent = pos 90 })
unfolding decimal32_read unless finite number_read number magnitude_read coefficient_of biased_of declet_value place step
greatest = refl

minus : decimal32_read 2721055696 ≡ gives (record { negative = true; significand = 7500000; exponent = negsuc 5 })
unfolding decimal32_read unless finite number_read number magnitude_read coefficient_of biased_of declet_value place step
minus = refl

-- 78000000 is an infinity and 7C000000 NaN
endless : (decimal32_read 2013265920 ≡ refused 9) × (decimal32_read 2080374784 ≡ refused 9)
unfolding decimal32_read unless finite
endless = (refl, refl)

-- 1234567E90 is 47F4D2E7
written : pattern_of (record { negative = false; significand = 1234567; exponent = pos 90 }) ≡ 1207227111
unfolding pattern_of declet_for
written = refl
