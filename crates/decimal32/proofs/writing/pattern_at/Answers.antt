-- `decimal32::writing::pattern_at` meets its contract: the five parts fill 32 bits.
use Rattle.theory.proofs.Prelude.{ℕ, ◌≤◌, ◌<◌, ◌^◌, ◌/◌, ◌%◌, Bool, ◌≡◌, arith}
use Rattle.number.proofs.PatternLaws.{sign_most}
use Rattle.decimal32.specs.Declets.{declet_for}
use Rattle.decimal32.specs.Patterns.{sign_weight, five_for}
use Rattle.decimal32.proofs.DecletLaws.{declet_fits}
use Rattle.decimal32.proofs.Fields.{five_fits}
use Rattle.decimal32.proofs.writing.pattern_at.Goals.{After-sign_weight}
use Rattle.decimal32.proofs.writing.pattern_at.Goals as goal

-- what the calls gave
record Parts (s : Bool) (m k sign five first second : ℕ) : Type 0 where
  sign_is : sign ≡ sign_weight s
  sign_high : sign ≤ 2 ^ 31
  five_is : five ≡ five_for (k / 64) (m / 1000000)
  five_most : five < 30
  first_is : first ≡ declet_for (m / 1000 % 1000)
  first_most : first < 1024
  second_is : second ≡ declet_for (m % 1000)
  second_most : second < 1024

parts : (s : Bool) (m k : ℕ) {v f a b : ℕ} → m < 10 ^ 7 → k ≤ 191 → v ≡ sign_weight s → f ≡ five_for (k / 64) (m / 1000000)
    → a ≡ declet_for (m / 1000 % 1000) → b ≡ declet_for (m % 1000) → Parts s m k v f a b
parts s m k hm hk v f a b =
    record {
      sign_is = v;
      sign_high = rw v (sign_most 31 s);
      five_is = f;
      five_most = rw f (five_fits {high = k / 64} {digit = m / 1000000} (omega arith) (omega arith));
      first_is = a;
      first_most = rw a (declet_fits {n = m / 1000 % 1000} (omega arith));
      second_is = b;
      second_most = rw b (declet_fits {n = m % 1000} (omega arith));
    }

told : (c : After-sign_weight) → Parts c.args.negative c.args.m c.args.k c.sign_weight.result c.five_for-five.result c.declet_for-first.result c.declet_for-second.result
told c = parts _ _ _ c.requires.0 c.requires.1 c.sign_weight.ensures c.five_for-five.ensures c.declet_for-first.ensures c.declet_for-second.ensures

pub overflow_mul-result : goal.overflow_mul-result
overflow_mul-result c = let p = told (goal.at.overflow_mul-result c).After-sign_weight in record { fits = omega arith }

pub overflow_add-result : goal.overflow_add-result
overflow_add-result c = let p = told (goal.at.overflow_add-result c).After-sign_weight in record { fits = omega arith }

pub overflow_add-result-2 : goal.overflow_add-result-2
overflow_add-result-2 c = let p = told (goal.at.overflow_add-result-2 c).After-sign_weight in record { fits = omega arith }

pub overflow_mul-result-3 : goal.overflow_mul-result-3
overflow_mul-result-3 c = let p = told (goal.at.overflow_mul-result-3 c).After-sign_weight in record { fits = omega arith }

pub overflow_add-result-3 : goal.overflow_add-result-3
overflow_add-result-3 c = let p = told (goal.at.overflow_add-result-3 c).After-sign_weight in record { fits = omega arith }

pub overflow_add-result-4 : goal.overflow_add-result-4
overflow_add-result-4 c = let p = told (goal.at.overflow_add-result-4 c).After-sign_weight in record { fits = omega arith }

pub returns : goal.returns
returns c = let p = told (goal.at.returns c).After-sign_weight in omega arith
