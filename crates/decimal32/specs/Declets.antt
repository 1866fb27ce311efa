-- Declets, IEEE 754 clause 3.5.2: three decimal digits in ten bits, by the bit rules of tables 3.3 (reading) and 3.4 (writing).
use Rattle.std.specs.Prelude.{ℕ, ◌+◌, ◌*◌, ◌/◌, ◌%◌, Bool, not, ◌&&◌, ◌||◌, cond, List, [], ◌∷◌, eqb, ltb, get_or}
use Rattle.theory.specs.Lists.{all, numbers}

-- ---- reading: bits p q r s t u v w x y, the most significant first
-- a digit of three bits; the digits 8 and 9
abbrev pub low_digit : ℕ → ℕ → ℕ → ℕ
low_digit a b c = a * 4 + b * 2 + c

abbrev pub high_digit : ℕ → ℕ
high_digit c = 8 + c

abbrev pub three_digits : ℕ → ℕ → ℕ → ℕ
three_digits a b c = a * 100 + b * 10 + c

-- the row of table 3.3: by v w x, and where these are all 1, by s t
abbrev pub row_of : (v w x s t : ℕ) → ℕ
row_of v w x s t = cond (eqb v 0) 0 (cond (eqb (w * 2 + x) 3) (4 + s * 2 + t) (1 + w * 2 + x))

abbrev pub read_bits : (p q r s t u v w x y : ℕ) → ℕ
read_bits p q r s t u v w x y =
    get_or
    (three_digits (low_digit p q r) (low_digit s t u) (low_digit w x y)
    ∷ three_digits (low_digit p q r) (low_digit s t u) (high_digit y)
    ∷ three_digits (low_digit p q r) (high_digit u) (low_digit s t y)
    ∷ three_digits (high_digit r) (low_digit s t u) (low_digit p q y)
    ∷ three_digits (high_digit r) (high_digit u) (low_digit p q y)
    ∷ three_digits (high_digit r) (low_digit p q u) (high_digit y)
    ∷ three_digits (low_digit p q r) (high_digit u) (high_digit y)
    ∷ three_digits (high_digit r) (high_digit u) (high_digit y)
    ∷ [])
    (row_of v w x s t)
    0

-- the number below 1000 that a declet stands for
unfoldable pub declet_value : ℕ → ℕ
declet_value n =
    read_bits (n / 512 % 2) (n / 256 % 2) (n / 128 % 2) (n / 64 % 2) (n / 32 % 2) (n / 16 % 2) (n / 8 % 2) (n / 4 % 2) (n / 2 % 2) (n % 2)

-- a table has this number at each of the 1,024 declets
unfoldable pub holds_declets : List ℕ → Bool
holds_declets table = all (λ (n : ℕ). eqb (get_or table n 0) (declet_value n)) (numbers 0 1024)

-- ---- writing: the digits a b c; the last bit of each has a place of its own, the bits above it go where the case says
-- pq, st and vwx, as numbers, with the last bits r, u and y
abbrev pub declet_bits : (a b c pq st vwx : ℕ) → ℕ
declet_bits a b c pq st vwx = pq * 256 + st * 32 + vwx * 2 + (a % 2 * 128 + b % 2 * 16 + c % 2)

-- the row of table 3.4: by which digits are 8 or 9
abbrev pub row_for : (a-low b-low c-low : Bool) → ℕ
row_for a-low b-low c-low = cond a-low 0 4 + cond b-low 0 2 + cond c-low 0 1

abbrev pub write_digits : (a b c : ℕ) (a-low b-low c-low : Bool) → ℕ
write_digits a b c a-low b-low c-low =
    get_or
    (declet_bits a b c (a / 2) (b / 2) (c / 2)
    ∷ declet_bits a b c (a / 2) (b / 2) 4
    ∷ declet_bits a b c (a / 2) (c / 2) 5
    ∷ declet_bits a b c (a / 2) 2 7
    ∷ declet_bits a b c (c / 2) (b / 2) 6
    ∷ declet_bits a b c (b / 2) 1 7
    ∷ declet_bits a b c (c / 2) 0 7
    ∷ declet_bits a b c 0 3 7
    ∷ [])
    (row_for a-low b-low c-low)
    0

abbrev pub declet_digits : (a b c : ℕ) → ℕ
declet_digits a b c = write_digits a b c (ltb a 8) (ltb b 8) (ltb c 8)

-- the canonical declet of a number below 1000
unfoldable pub declet_for : ℕ → ℕ
declet_for n = declet_digits (n / 100) (n / 10 % 10) (n % 10)

-- all but 24 declets are canonical: where s, t, v, w and x are 1, p and q are 0
unfoldable pub canonical_declet : ℕ → Bool
canonical_declet n = not (eqb (n / 32 % 4) 3 && eqb (n / 2 % 8) 7) || eqb (n / 256) 0
