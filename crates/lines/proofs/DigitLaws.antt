-- Every byte is tried: the digit that is read of it, and the letter of each digit.
use Rattle.theory.proofs.Prelude.{ℕ, ◌<◌, Bool, cond, true, false, [], ◌∷◌, List, eqb, get_or, ◌≡◌, refl, arith, eqb-true, ltb-true}
use Rattle.theory.proofs.Lists.{at_number}
use Rattle.std.proofs.lemmas.Bool.{agree_below_at}
use Rattle.std.proofs.lemmas.Option.{cond_some}
use Rattle.std.specs.Prelude.{Some, None}
use Rattle.lines.specs.Digits.{digit_of, is_digit, digit_in, glyph, holds_digits}

-- a table that passes the test has the value of each byte
pub entry_is : (table : List ℕ) → holds_digits table ≡ true → (b : ℕ) → b < 256 → get_or table b 0 ≡ digit_of b
unfolding holds_digits
entry_is table h b l = eqb-true (get_or table b 0) (digit_of b) (at_number (λ (i : ℕ). eqb (get_or table i 0) (digit_of i)) 256 h b l)

-- a byte that is read as a digit, and one that is not
pub some_digit : (b : ℕ) {d : ℕ} → digit_in b ≡ Some d → (is_digit b ≡ true) × (digit_of b ≡ d)
unfolding digit_in
some_digit b e = cond_some _ _ _ e

pub small_digit : (b : ℕ) {d : ℕ} → digit_in b ≡ Some d → d < 16
unfolding is_digit
small_digit b e = let h = some_digit b e in omega (arith, ltb-true (digit_of b) 16 h.0, h.1)

pub no_digit : (b : ℕ) → digit_in b ≡ None → is_digit b ≡ false
unfolding digit_in
no_digit b e = by (is_digit b) e
  where
    by : (t : Bool) → cond t (Some (digit_of b)) None ≡ None → t ≡ false
    by true e = cc
    by false e = refl

-- `0123456789abcdef`
abbrev pub letters : List ℕ
letters = 48 ∷ 49 ∷ 50 ∷ 51 ∷ 52 ∷ 53 ∷ 54 ∷ 55 ∷ 56 ∷ 57 ∷ 97 ∷ 98 ∷ 99 ∷ 100 ∷ 101 ∷ 102 ∷ []

pub letter_is : (d : ℕ) → d < 16 → get_or letters d 0 ≡ glyph d
letter_is d h = eqb-true _ _ (agree_below_at (λ d. eqb (get_or letters d 0) (glyph d)) (λ d. true) 16 d refl h)
