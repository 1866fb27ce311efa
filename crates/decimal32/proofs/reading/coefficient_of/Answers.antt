-- `decimal32::reading::coefficient_of` meets its contract.
use Rattle.theory.proofs.Prelude.{ℕ, ◌<◌, ◌+◌, ◌^◌, ◌*◌, ◌∙◌, ap, ◌≡◌, arith}
use Rattle.decimal32.specs.Declets.{declet_value}
use Rattle.decimal32.specs.Patterns.{five_of, leading_digit, first_declet, second_declet, coefficient_of}
use Rattle.decimal32.proofs.DecletLaws.{value_small}
use Rattle.decimal32.proofs.Fields.{leading_small}
use Rattle.decimal32.proofs.reading.coefficient_of.Goals.{After-six_digits-trailing}
use Rattle.decimal32.proofs.reading.coefficient_of.Goals as goal

-- what the calls gave
record Parts (n leading trailing : ℕ) : Type 0 where
  leading_is : leading ≡ leading_digit (five_of n)
  leading_most : leading < 10
  trailing_is : trailing ≡ declet_value (first_declet n) * 10 ^ 3 + declet_value (second_declet n)
  trailing_most : trailing < 10 ^ 6

parts : (n : ℕ) {l t : ℕ} → l ≡ leading_digit (five_of n) → t ≡ declet_value (first_declet n) * 10 ^ 3 + declet_value (second_declet n) → Parts n l t
parts n l t =
    record {
      leading_is = l;
      leading_most = rw l (leading_small (five_of n));
      trailing_is = t;
      trailing_most = omega (arith, t, value_small {n = first_declet n} (omega arith), value_small {n = second_declet n} (omega arith));
    }

told : (c : After-six_digits-trailing) → Parts c.args.pattern c.leading_digit-leading.result c.six_digits-trailing.result
told c = parts _ (c.leading_digit-leading.ensures ∙ ap leading_digit c.five_of.ensures) c.six_digits-trailing.ensures

pub overflow_mul-result : goal.overflow_mul-result
overflow_mul-result c = let p = told (goal.at.overflow_mul-result c).After-six_digits-trailing in record { fits = omega arith }

pub overflow_add-result : goal.overflow_add-result
overflow_add-result c = let p = told (goal.at.overflow_add-result c).After-six_digits-trailing in record { fits = omega arith }

pub returns : goal.returns
unfolding coefficient_of
returns c = let p = told (goal.at.returns c).After-six_digits-trailing in omega arith
