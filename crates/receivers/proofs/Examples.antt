-- The definitions on small logs: equality, a difference that rounding would lose, and a stretch whose end is past 2 ^ 64.
use Rattle.theory.proofs.Prelude.{ℕ, ◌^◌, ◌-◌, [], ◌∷◌, ◌≡◌, refl}
use Rattle.theory.specs.Tests.{◌and◌, unless}
use Rattle.theory.specs.Lists.{first_where, none}
use Rattle.format.specs.Given.{refused, refused_at}
use Rattle.binary32.specs.Patterns.{finite, not_finite, magnitude_read, pattern_value}
use Rattle.receivers.specs.Stretches.{greatest_from, least_from, greatest_of, least_of, spread, calm_as, ends_within, finite_within, calmer_refusal, calmer_log, calmer_stretch}

-- 1, 2, 3, -1, 2 ^ 24 and infinity as patterns
abbrev one : ℕ
one = 1065353216

abbrev two : ℕ
two = 1073741824

abbrev three : ℕ
three = 1077936128

abbrev minus_one : ℕ
minus_one = 3212836864

abbrev large : ℕ
large = 1266679808

abbrev infinity : ℕ
infinity = 2139095040

-- 3 - 1 against 2 - (-1); infinity before the stretch has no influence
less_spread : calmer_stretch (infinity ∷ one ∷ three ∷ []) (one ∷ two ∷ minus_one ∷ []) 1 2 ≡ one ∷ three ∷ []
unfolding calmer_stretch calmer_log calmer_refusal ends_within finite_within calm_as spread greatest_of least_of greatest_from least_from none first_where not_finite finite pattern_value magnitude_read unless ◌and◌
less_spread = refl

-- 2 - 1 against 3 - 2
equal_spreads : calmer_stretch (one ∷ two ∷ []) (three ∷ two ∷ []) 0 2 ≡ one ∷ two ∷ []
unfolding calmer_stretch calmer_log calmer_refusal ends_within finite_within calm_as spread greatest_of least_of greatest_from least_from none first_where not_finite finite pattern_value magnitude_read unless ◌and◌
equal_spreads = refl

-- 2 ^ 24 + 1 against 2 ^ 24: to 24 digits both round to 2 ^ 24
rounding_would_lose : calmer_stretch (minus_one ∷ large ∷ []) (0 ∷ large ∷ []) 0 2 ≡ 0 ∷ large ∷ []
unfolding calmer_stretch calmer_log calmer_refusal ends_within finite_within calm_as spread greatest_of least_of greatest_from least_from none first_where not_finite finite pattern_value magnitude_read unless ◌and◌
rounding_would_lose = refl

-- start + length is 2 ^ 64
past_end : calmer_refusal (infinity ∷ []) (one ∷ []) (2 ^ 64 - 1) 1 ≡ refused 17
unfolding calmer_refusal ends_within unless ◌and◌
past_end = refl

-- the first log before the second, though the second's index is lower
first_log_first : calmer_refusal (one ∷ one ∷ infinity ∷ []) (one ∷ infinity ∷ one ∷ []) 1 2 ≡ refused_at 9 2
unfolding calmer_refusal ends_within finite_within none first_where not_finite finite unless ◌and◌
first_log_first = refl
