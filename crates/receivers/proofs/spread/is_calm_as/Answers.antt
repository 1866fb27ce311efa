-- `receivers::spread::is_calm_as` meets its contract.
use Rattle.receivers.proofs.Spreads.{calm_told}
use Rattle.receivers.proofs.spread.is_calm_as.Goals as goal

pub returns : goal.returns
returns c =
    let s = c.args in
    calm_told s.first.now s.second.now c.extremes-a.ensures c.extremes-b.ensures c.sums_upto.ensures
