-- `two_words::quotient::divide_normal` meets its contract: two digits make a word.
use Rattle.std.proofs.Common.{◌^◌, ◌<◌, arith}
use Rattle.two_words.proofs.Digits.{short}
use Rattle.two_words.proofs.quotient.divide_normal.Goals as goal

pub overflow_add-result : goal.overflow_add-result
overflow_add-result c =
    let first : c.digit-first.result.quotient < 2 ^ 32 = short 32 _ c.args.d c.digit-first.result.remainder c.args.h _ c.digit-first.ensures.0 c.requires.1 (omega arith) in
    let second : c.digit-second.result.quotient < 2 ^ 32 = short 32 _ c.args.d c.digit-second.result.remainder c.digit-first.result.remainder _
    c.digit-second.ensures.0 c.digit-first.ensures.1 (omega arith) in
    omega (arith, first, second)
