-- `exact_sums::sums::rest_ordered` meets its contract.
use Rattle.exact_sums.proofs.Rests.{third_placed, rest_made}
use Rattle.exact_sums.proofs.sums.rest_ordered.Goals as goal

pub rounded_sum-requires : goal.rounded_sum-requires
rounded_sum-requires c = third_placed c.args.a c.args.b c.requires.0 c.requires.1 c.requires.3 c.negated.ensures c.rounded_sum-z.ensures c.negated-2.ensures

pub returns : goal.returns
returns c = rest_made c.args.a c.args.b c.requires.0 c.requires.1 c.requires.3 c.negated.ensures c.rounded_sum-z.ensures c.negated-2.ensures c.requires.2 c.rounded_sum.ensures
