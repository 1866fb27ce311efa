-- `lines::digits::entry` meets its contract.
use Rattle.theory.proofs.Prelude.{◌∙◌, arith}
use Rattle.lines.proofs.DigitLaws.{entry_is}
use Rattle.lines.proofs.digits.entry.Goals as goal

pub returns : goal.returns
returns c = c.from.ensures ∙ entry_is c.args.table.now c.requires c.args.b (omega arith)
