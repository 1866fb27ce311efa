-- `saved_lines::distances::is_greater_nearer` meets its contract.
use Rattle.theory.proofs.Prelude.{not, ap, ◌∙◌}
use Rattle.saved_lines.proofs.DistanceLaws.{greater_below, greater_above, greater_nearer}
use Rattle.saved_lines.proofs.distances.is_greater_nearer.Goals as goal

pub returns-then-not-is_below : goal.returns-then-not-is_below
returns-then-not-is_below c =
    let e = ap not c.if-not-is_below.true in
    e ∙ greater_below _ _ _ c.requires c.is_below.ensures e

pub returns-else-is_below : goal.returns-else-is_below
returns-else-is_below c =
    c.if-is_below.false ∙ greater_above _ _ _ c.requires c.is_below-else-not-is_below.ensures (ap not c.if-is_below.false)

pub returns-then-is_below : goal.returns-then-is_below
returns-then-is_below c = greater_nearer _ _ _ c.requires c.sums_upto.ensures
