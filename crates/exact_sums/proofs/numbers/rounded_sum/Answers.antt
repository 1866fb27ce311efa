-- `exact_sums::numbers::rounded_sum` meets its contract.
use Rattle.theory.proofs.Prelude.{ap}
use Rattle.format.specs.declared.Prepared.{Prepared}
use Rattle.exact_sums.proofs.Ranks.{scaled_here, bounded_here, sum_here}
use Rattle.exact_sums.proofs.numbers.rounded_sum.Goals as goal

pub sum-requires : goal.sum-requires
sum-requires c =
    let e = ap (λ (q : Prepared). q.scale) c.prepared_binary32-prepared.ensures in
    let p = c.requires in
    (scaled_here e, bounded_here e p.0, bounded_here e p.1)

pub returns : goal.returns
returns c = sum_here (ap (λ (q : Prepared). q.scale) c.prepared_binary32-prepared.ensures) _ _ c.sum.ensures
