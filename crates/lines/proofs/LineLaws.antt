-- What is known of a line that was read byte by byte determines what is printed for it.
use Rattle.theory.proofs.Prelude.{ℕ, ◌≤◌, ◌<◌, ◌+◌, ◌^◌, ◌*◌, suc, ◌%◌, true, false, Bool, cond, [], ◌∷◌, List, ◌++◌, ◌≡◌, sym, refl, dec_le, pow-suc, add-zero, add-one, arith, leb, length, ne_eqb, le-leb, lt-leb, le-ltb, lt-ltb, ltb-true}
use native.Mathlib.Nat.{zero-add}
use Rattle.theory.specs.Lists.{all}
use Rattle.theory.specs.Tests.{◌and◌}
use Rattle.theory.proofs.Powers.{pow_mono}
use Rattle.lines.specs.declared.reading.Line.{Line}
use Rattle.lines.specs.Digits.{digit_of, is_digit}
use Rattle.lines.specs.Reading.{is_pattern, value_from, digits_value, known, fresh, bad, pushed}
use Rattle.lines.specs.Printing.{printed, text_of, line_feed}
use Rattle.lines.specs.Blocks.{end_text}

-- what is known of a line after more bytes, and of the bytes of a whole line
unfoldable pub pushed_all : Line → List ℕ → Line
pushed_all l [] = l
pushed_all l (b ∷ bs) = pushed_all (pushed l b) bs

abbrev pub line_of : List ℕ → Line
line_of bs = pushed_all fresh bs

pub line_snoc : (l : Line) (bs : List ℕ) (b : ℕ) → pushed_all l (bs ++ b ∷ []) ≡ pushed (pushed_all l bs) b
unfolding pushed_all
line_snoc l [] b = refl
line_snoc l (x ∷ bs) b = line_snoc (pushed l x) bs b

-- ---- what is known, by the digits
bad_stays : (bs : List ℕ) → pushed_all bad bs ≡ bad
unfolding pushed_all pushed ◌and◌
bad_stays [] = refl
bad_stays (b ∷ bs) = bad_stays bs

pub and_false : (t : Bool) → (t and false) ≡ false
unfolding ◌and◌
and_false true = refl
and_false false = refl

digit_below : (b : ℕ) → is_digit b ≡ true → digit_of b < 16
unfolding is_digit
digit_below b h = ltb-true (digit_of b) 16 h

-- n digits with the value v, and then more bytes
abbrev Known : (n v : ℕ) (bs : List ℕ) → Type 0
Known n v bs = pushed_all (known n v) bs ≡ cond (all is_digit bs and leb (n + length bs) 8) (known (n + length bs) (value_from v bs)) bad

pushed_digits : (n v : ℕ) (bs : List ℕ) → n ≤ 8 → v < 16 ^ n → Known n v bs
unfolding pushed_all pushed all value_from ◌and◌
pushed_digits n v [] h s = rw (add-zero, le-leb n 8 h)
pushed_digits n v (b ∷ bs) h s = by (is_digit b) refl (dec_le 8 n) (pushed_digits (n + 1) (v * 16 + digit_of b) bs)
  where
    by : (t : Bool) → is_digit b ≡ t → Dec (8 ≤ n) → (n + 1 ≤ 8 → v * 16 + digit_of b < 16 ^ (n + 1) → Known (n + 1) (v * 16 + digit_of b) bs) → Known n v (b ∷ bs)
    by t d (yes g) more = rw (le-ltb n 8 g, lt-leb (n + suc (length bs)) 8 (omega arith), and_false) (bad_stays bs)
    by false d (no g) more = rw (lt-ltb n 8 (omega arith), d) (bad_stays bs)
    by true d (no g) more =
        let low : v < 16 ^ 7 = omega (arith, pow_mono {β = 16} (omega arith) {i = n} {j = 7} (omega arith)) in
        let whole : v % 2 ^ 28 ≡ v = omega arith in
        let small : v * 16 + digit_of b < 16 ^ (n + 1) = rw (add-one, pow-suc) (omega (arith, digit_below b d)) in
        let e : n + 1 + length bs ≡ n + suc (length bs) = omega arith in
        rw (lt-ltb n 8 (omega arith), d, whole, sym e) (more (omega arith) small)

-- ---- a whole line
module _ (bs : List ℕ) where
  line_known : line_of bs ≡ cond (all is_digit bs and leb (length bs) 8) (known (length bs) (digits_value bs)) bad
  line_known = let k = pushed_digits 0 0 bs (omega arith) (omega arith) in rw zero-add at k

  pub line_printed : text_of (line_of bs) ≡ printed bs
  unfolding text_of printed is_pattern ◌and◌
  line_printed = rw line_known (by (all is_digit bs) refl (dec_le (length bs) 8))
    where
      by : (t : Bool) → all is_digit bs ≡ t → Dec (length bs ≤ 8)
          → text_of (cond (all is_digit bs and leb (length bs) 8) (known (length bs) (digits_value bs)) bad) ≡ printed bs
      by false d h = rw d
      by true d (yes h) = rw (d, le-leb (length bs) 8 h)
      by true d (no h) = rw (d, lt-leb (length bs) 8 (omega arith), ne_eqb (length bs) 8 (λ e. omega arith))

  -- a line that has begun is printed at the end of input
  pub some_byte : 1 ≤ length bs → end_text (line_of bs) ≡ text_of (line_of bs) ++ line_feed
  unfolding end_text
  some_byte h = rw line_known (by (all is_digit bs and leb (length bs) 8))
    where
      by : (t : Bool) → end_text (cond t (known (length bs) (digits_value bs)) bad) ≡ text_of (cond t (known (length bs) (digits_value bs)) bad) ++ line_feed
      by true = rw (ne_eqb (length bs) 0 (λ e. omega arith))
      by false = refl
