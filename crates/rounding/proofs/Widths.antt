-- The laws of a width at words of 64 bits, whose powers are at most 2 ^ 63.
use Rattle.theory.proofs.Prelude.{ℕ, ◌≤◌, ◌<◌, ◌*◌, ◌≡◌, arith}
use Rattle.format.specs.declared.Scale.{Scale}
use Rattle.format.specs.Formats.{greatest_power, Scaled}
use Rattle.two_words.specs.declared.TwoWords.{TwoWords}
use Rattle.two_words.specs.Amount.{amount}
use Rattle.rounding.proofs.Scales.{digits_within, product_within, high_within}

-- the digits are few against the limits on places, and a word has a bit for each
pub digits_most : {s : Scale} → Scaled s → s.digits ≤ 63
digits_most h = digits_within h 63 (omega arith)

pub product_high : (r : TwoWords) {a b : ℕ} → amount r ≡ a * b → a ≤ greatest_power → b ≤ greatest_power → r.high < greatest_power
product_high r e l m = product_within 64 r (omega arith) e l m

pub high_below : (n : TwoWords) {b d : ℕ} → b ≤ greatest_power → amount n < b * d → n.high < d
high_below n m l = high_within 64 n (omega arith) l
