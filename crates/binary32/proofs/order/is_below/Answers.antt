-- `binary32::order::is_below` meets its contract.
use Rattle.binary32.proofs.PatternValues.{key_order}
use Rattle.binary32.proofs.order.is_below.Goals as goal

pub returns : goal.returns
returns c = key_order c.args.a c.args.b c.key.ensures c.key-2.ensures
