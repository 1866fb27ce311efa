-- `rounding::digits::decimal_count` meets its contract: the guess is right, or one too small.
use Rattle.theory.proofs.Prelude.{ℕ, ◌<◌, ◌+◌, ◌^◌, true, false, Bool, ◌≡◌, refl, bool_byte, leb, leb-true, leb-false, add-zero, arith}
use Rattle.rounding.specs.Digits.{Digits}
use Rattle.rounding.proofs.Decimals.{guessed, bits_few, guess_few, guess_more, guess_right}
use Rattle.rounding.proofs.digits.decimal_count.Goals as goal

-- the test adds one
counted : {n b p : ℕ} → Digits 2 n b → n < 2 ^ 63 → p ≡ 10 ^ guessed b → (t : Bool) → leb p n ≡ t → Digits 10 n (guessed b + bool_byte t)
counted {n} {b} h l e true f = guess_more h l (omega (arith, e, leb-true _ n f))
counted {n} {b} h l e false f = rw add-zero (guess_right h l (omega (arith, e, leb-false _ n f)))

pub returns : goal.returns
returns c = counted c.bit_count.ensures c.requires.1 c.decimal_power.ensures (leb c.decimal_power.result c.args.n) refl

pub overflow_mul-guess : goal.overflow_mul-guess
overflow_mul-guess c = omega (arith, bits_few c.bit_count.ensures c.requires.1)

pub decimal_power-requires : goal.decimal_power-requires
decimal_power-requires c = guess_few c.bit_count.ensures c.requires.1
