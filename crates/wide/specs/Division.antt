-- Long division of whole numbers, digit by digit, and what the code has found of it.
use Rattle.std.specs.Prelude.{ℕ, zero, suc, ◌^◌, ◌+◌, ◌*◌, ◌-◌, ◌/◌, ◌%◌, ◌≤◌, ◌<◌, ◌≡◌}
use Rattle.format.specs.declared.Scale.{Scale}
use Rattle.wide.specs.declared.long_division.Division.{Division}

-- ---- n / w in the base β, for n below w: what remains is lowered by a place, and w goes into it as often as the next digit says
-- what remains after j digits
unfoldable pub remains : (β w n j : ℕ) → ℕ
remains β w n zero = n
remains β w n (suc j) = remains β w n j * β % w

-- the digit that follows them
abbrev pub digit : (β w n j : ℕ) → ℕ
digit β w n j = remains β w n j * β / w

-- the first j digits, as a number
unfoldable pub digits : (β w n j : ℕ) → ℕ
digits β w n zero = 0
digits β w n (suc j) = digits β w n j * β + digit β w n j

-- ---- what the code has found
-- w = d * β ^ t is above n: every digit of n / d stands below place t
pub record Start (β n d w t : ℕ) : Type 0 where
  pub power : w ≡ d * β ^ t
  pub above : n < w
  pub most : w < 2 ^ 32 * β
  pub few : t < 40

-- the digits of n / w at the places from `places` - 1 down to k are q, and r remains
pub record Taken (β n w places q r k : ℕ) : Type 0 where
  pub quotient : q ≡ digits β w n (places - k)
  pub remainder : r ≡ remains β w n (places - k)
  pub within : k ≤ places

-- the three ends: all digits stand, the digit at the lowest place was taken, nothing remains
pub data Ended (s : Scale) (v : Division) : Type 0 where
  all_digits : s.least ≤ v.quotient → Ended s v
  lowest_place : v.place ≡ 0 → Ended s v
  no_rest : v.remainder ≡ 0 → Ended s v

-- n / w after i digits, of which `places` stand at or above the lowest place
abbrev pub after : (s : Scale) (n w places i : ℕ) → Division
after s n w places i = record { quotient = digits s.base w n i; remainder = remains s.base w n i; place = places - i }

-- none of the first j of these is an end
abbrev pub NoEnd : (s : Scale) (n w places j : ℕ) → Type 0
NoEnd s n w places j = (i : ℕ) → i < j → ¬ Ended s (after s n w places i)

-- the answer of the loop: what it has taken, down to the first place that is an end, and how many digits with the zeros before the first
pub record Divided (s : Scale) (n w places : ℕ) (v : Division) : Type 0 where
  pub taken : Taken s.base n w places v.quotient v.remainder v.place
  pub ended : Ended s v
  pub first : NoEnd s n w places (places - v.place)
  pub fits : v.quotient < s.bound
  pub count : places - v.place ≤ s.digits + 32

-- N / D is q steps of β ^ k and r / w of a step more
pub record Quotient (β N D w q r k : ℕ) : Type 0 where
  pub exact : N * w ≡ (q * w + r) * (D * β ^ k)
  pub rest : r < w
