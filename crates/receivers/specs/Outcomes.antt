-- What the calls of this crate give, in the words of request 13: each refusal with its condition, exactly where no earlier one holds; the
-- spread of a stretch; and what has no influence.
use Rattle.std.specs.Prelude.{ℕ, ◌+◌, ◌≤◌, ◌<◌, ◌≡◌, true, false, List, [], ◌⊎◌, ℤ, ◌-ℤ◌, length, get_or, ◌<ℤ◌, ◌≤ℤ◌}
use Rattle.format.specs.Given.{Given, gives, refused, refused_at}
use Rattle.binary32.specs.Patterns.{finite, pattern_value, pattern_values}
use Rattle.receivers.specs.Stretches.{spread, stretch, not_refused}

-- logs of one length, and a stretch that is not empty and ends within them
pub record Within (first second : List ℕ) (start n : ℕ) : Type 0 where
  pub same : length first ≡ length second
  pub some : 1 ≤ n
  pub most : start + n ≤ length first

-- every pattern of the stretch from index start up to the one before `end` is finite
abbrev pub FiniteFrom : (log : List ℕ) (start end : ℕ) → Type 0
FiniteFrom log start end = (k : ℕ) → start ≤ k → k < end → finite (get_or log k 0) ≡ true

-- index i of the log is the first of the stretch whose pattern is not finite
pub record FirstNotFinite (log : List ℕ) (start n i : ℕ) : Type 0 where
  pub from : start ≤ i
  pub within : i < start + n
  pub fails : finite (get_or log i 0) ≡ false
  pub earlier : FiniteFrom log start i

-- v is at least w
abbrev pub AtLeast : ℤ → ℤ → Type 0
AtLeast v w = w ≤ℤ v

-- v is the value of a pattern of the stretch, which no pattern of the stretch passes in the order
pub record ExtremeWithin (order : ℤ → ℤ → Type 0) (log : List ℕ) (start n : ℕ) (v : ℤ) : Type 0 where
  pub index : ℕ
  pub from : start ≤ index
  pub within : index < start + n
  pub is : pattern_value (get_or log index 0) ≡ v
  pub most : (k : ℕ) → start ≤ k → k < start + n → order (pattern_value (get_or log k 0)) v

-- the spread of the values of the stretch
abbrev pub spread_within : (log : List ℕ) (start n : ℕ) → ℤ
spread_within log start n = spread (pattern_values (stretch log start n))

-- it is the difference of the greatest and the least
pub record Spread (log : List ℕ) (start n : ℕ) : Type 0 where
  pub high : ℤ
  pub high_greatest : ExtremeWithin ◌≤ℤ◌ log start n high
  pub low : ℤ
  pub low_least : ExtremeWithin AtLeast log start n low
  pub difference : spread_within log start n ≡ high -ℤ low

-- what calmer_refusal and calmer_log give and calmer_stretch hands back, with the condition of each end: no earlier one holds
pub data Ends (first second : List ℕ) (start n : ℕ) : Given Unit → Given ℕ → List ℕ → Type 0 where
  lengths_differ : ¬ (length first ≡ length second) → Ends first second start n (refused 11) (refused 11) []
  outside : length first ≡ length second → (n ≡ 0) ⊎ (length first < start + n) → Ends first second start n (refused 17) (refused 17) []
  first_not_finite : Within first second start n → (i : ℕ) → FirstNotFinite first start n i
      → Ends first second start n (refused_at 9 i) (refused_at 9 i) []
  second_not_finite : Within first second start n → FiniteFrom first start (start + n) → (i : ℕ) → FirstNotFinite second start n i
      → Ends first second start n (refused_at 9 i) (refused_at 9 i) []
  first_calmer : Within first second start n → FiniteFrom first start (start + n) → FiniteFrom second start (start + n)
      → spread_within first start n ≤ℤ spread_within second start n → Ends first second start n not_refused (gives 1) (stretch first start n)
  second_calmer : Within first second start n → FiniteFrom first start (start + n) → FiniteFrom second start (start + n)
      → spread_within second start n <ℤ spread_within first start n → Ends first second start n not_refused (gives 2) (stretch second start n)

-- ---- patterns outside the stretch have no influence
-- two logs, equally long, with the same patterns in the stretch
pub record SameWithin (start n : ℕ) (log log' : List ℕ) : Type 0 where
  pub long : length log ≡ length log'
  pub entries : (k : ℕ) → start ≤ k → k < start + n → get_or log k 0 ≡ get_or log' k 0
