-- Two logs of one pass: the spread of a list of values, a stretch of a log, and the calmer of two logs in a stretch.
use Rattle.std.specs.Prelude.{ℕ, ◌+◌, ◌*◌, ◌≡◌, Bool, cond, List, [], ◌∷◌, leb, eqb, ℤ, pos, ◌-ℤ◌, length, take, drop}
use Rattle.std.specs.Int.Signed.{le_z, lt_z}
use Rattle.theory.specs.Tests.{◌and◌, unless}
use Rattle.theory.specs.Lists.{first_where, none}
use Rattle.format.specs.Given.{Given, gives, refused, refused_at, ◌then◌}
use Rattle.binary32.specs.Patterns.{not_finite, pattern_values}

-- ---- on exact values
abbrev pub greater : ℤ → ℤ → ℤ
greater v w = cond (lt_z v w) w v

abbrev pub lesser : ℤ → ℤ → ℤ
lesser v w = cond (lt_z w v) w v

-- the greatest of m and the list
unfoldable pub greatest_from : (m : ℤ) → List ℤ → ℤ
greatest_from m [] = m
greatest_from m (v ∷ vs) = greatest_from (greater m v) vs

-- the least of m and the list
unfoldable pub least_from : (m : ℤ) → List ℤ → ℤ
least_from m [] = m
least_from m (v ∷ vs) = least_from (lesser m v) vs

-- the greatest and the least of a list; an empty one, which no call has, is given 0
unfoldable pub greatest_of : List ℤ → ℤ
greatest_of [] = pos 0
greatest_of (v ∷ vs) = greatest_from v vs

unfoldable pub least_of : List ℤ → ℤ
least_of [] = pos 0
least_of (v ∷ vs) = least_from v vs

-- the exact difference between the greatest and the least
unfoldable pub spread : List ℤ → ℤ
spread vs = greatest_of vs -ℤ least_of vs

-- the first list of patterns is at least as calm as the second
unfoldable pub calm_as : (first second : List ℕ) → Bool
calm_as first second = le_z (spread (pattern_values first)) (spread (pattern_values second))

-- ---- the calls
-- n entries of a log from start on
abbrev pub stretch : (log : List ℕ) (start n : ℕ) → List ℕ
stretch log start n = take n (drop start log)

-- what a check gives that refuses nothing
abbrev pub not_refused : Given Unit
not_refused = gives tt

-- the stretch is not empty, and ends within the log
unfoldable pub ends_within : (log : List ℕ) (start n : ℕ) → Bool
ends_within log start n = leb 1 n and leb (start + n) (length log)

-- refusal 9 where a pattern of the stretch is not finite, with the index of the first, counted from the log's start
unfoldable pub finite_within : (log : List ℕ) (start n : ℕ) → Given Unit
finite_within log start n =
    unless (none not_finite (stretch log start n)) (refused_at 9 (start + first_where not_finite (stretch log start n))) not_refused

-- the answer of calmer_refusal: 11; 17 where the length is zero or the stretch runs past the end; 9 in the first log, then in the second
unfoldable pub calmer_refusal : (first second : List ℕ) (start n : ℕ) → Given Unit
calmer_refusal first second start n =
    unless (eqb (length first) (length second)) (refused 11)
    (unless (ends_within first start n) (refused 17) (finite_within first start n then λ _. finite_within second start n))

-- the answer of calmer_log: the calmer log by its number, 1 or 2, the first if equal
unfoldable pub calmer_log : (first second : List ℕ) (start n : ℕ) → Given ℕ
calmer_log first second start n =
    calmer_refusal first second start n then λ _. gives (cond (calm_as (stretch first start n) (stretch second start n)) 1 2)

-- of two stretches that of the log with the number given, nothing at a refusal
abbrev pub stretch_of : Given ℕ → (first second : List ℕ) → List ℕ
stretch_of (gives log) first second = cond (eqb log 1) first second
stretch_of (refused number) first second = []
stretch_of (refused_at number index) first second = []

-- what calmer_stretch hands back: the stretch of that log
unfoldable pub calmer_stretch : (first second : List ℕ) (start n : ℕ) → List ℕ
calmer_stretch first second start n = stretch_of (calmer_log first second start n) (stretch first start n) (stretch second start n)

-- where entry n of a slice of 32-bit numbers stands: block and byte
abbrev pub place_from : ℕ × ℕ → (n : ℕ) → ℕ × ℕ
place_from p n = (p.0, n * 4 + p.1)

-- the part stands in the memory of the log with the number given, from its entry `start` on; at a refusal the empty part may stand anywhere
abbrev pub StandsIn : Given ℕ → (first second : ℕ × ℕ) (start : ℕ) (part : ℕ × ℕ) → Type 0
StandsIn (gives log) first second start part = part ≡ place_from (cond (eqb log 1) first second) start
StandsIn (refused number) first second start part = Unit
StandsIn (refused_at number index) first second start part = Unit
