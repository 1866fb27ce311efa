-- `two_words::product::product` meets its contract: two words that make the product are those of its columns.
use Rattle.std.proofs.Common.{rules}
use Rattle.two_words.proofs.Columns.{words_only}
use Rattle.two_words.proofs.product.product.Goals as goal

pub returns-clause-words : goal.returns-clause-words
returns-clause-words c = words_only 32 c.args.a c.args.b c.from.ensures (search rules)
