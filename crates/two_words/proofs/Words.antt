-- The powers of a width, one bit, and a quotient with what remains.
use Rattle.std.proofs.Common.{◌≡◌, ℕ, suc, ◌+◌, ◌-◌, ◌*◌, ◌/◌, ◌%◌, ◌^◌, ◌<◌, ◌≤◌, Bool, true, false, sym, ap, ◌∙◌, arith, pow-add}
use native.Mathlib.Nat.{pow-succ'}
use lib.Arith.{digits_div, digits_mod}
use mir.Val.{bool_byte}

-- half of a word, and a word in its halves
pub double : (n : ℕ) → 1 ≤ n → 2 ^ n ≡ 2 * 2 ^ (n - 1)
double n h = let e : n ≡ suc (n - 1) = omega arith in ap (λ (k : ℕ). 2 ^ k) e ∙ pow-succ' 2 (n - 1)

pub square : (b : ℕ) → 2 ^ (2 * b) ≡ 2 ^ b * 2 ^ b
square b = let e : 2 * b ≡ b + b = omega arith in ap (λ (k : ℕ). 2 ^ k) e ∙ pow-add 2 b b

-- one bit
pub bit_most : (t : Bool) → bool_byte t ≤ 1
bit_most true = omega arith
bit_most false = omega arith

-- a quotient and what remains, from what they make
pub quotient_made : (q r w : ℕ) {n : ℕ} → q * w + r ≡ n → r < w → (q ≡ n / w) × (r ≡ n % w)
quotient_made q r w e l = (sym (digits_div q l) ∙ ap (λ (x : ℕ). x / w) e, sym (digits_mod q l) ∙ ap (λ (x : ℕ). x % w) e)
