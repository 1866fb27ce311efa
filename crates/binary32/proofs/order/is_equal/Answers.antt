-- `binary32::order::is_equal` meets its contract.
use Rattle.binary32.proofs.PatternValues.{key_equal}
use Rattle.binary32.proofs.order.is_equal.Goals as goal

pub returns : goal.returns
returns c = key_equal c.args.a c.args.b c.key.ensures c.key-2.ensures
