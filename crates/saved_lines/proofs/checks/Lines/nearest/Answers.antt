-- `saved_lines::checks::Lines::nearest` meets its contract.
use Rattle.theory.proofs.Prelude.{◌-◌, ◌≡◌, ◌∙◌, sym, arith, rules}
use Rattle.theory.specs.Lists.{first_where}
use Rattle.saved_lines.specs.Searches.{at_least}
use Rattle.saved_lines.proofs.Offsets.{rising, rising_strictly}
use Rattle.saved_lines.proofs.Positions.{found_first, found_right, found_left}
use Rattle.saved_lines.proofs.Searches.{searched, later_at_least, told_at_least}
use Rattle.saved_lines.proofs.checks.Lines.nearest.Goals as goal
use Rattle.saved_lines.proofs.checks.Lines.nearest.Goals.{After-partition_point-next, else-next-offsets-via-then-next-offsets+else-is_greater_nearer, else-next-offsets-via-else-next-offsets}

next_is : (c : After-partition_point-next) → c.partition_point-next.result ≡ first_where (at_least c.args.query) c.args.self.now.offsets.now
next_is c =
    let p = c.partition_point-next.ensures in
    searched c.args.self.now.offsets.now (rising c.args.self.now.offsets.now c.args.self.now.checked) (later_at_least c.args.query) p.bound p.partitioned (λ a r f k. (told_at_least _ _ (search rules), search rules))

pub is_greater_nearer-requires : goal.is_greater_nearer-requires
is_greater_nearer-requires c =
    rising_strictly c.args.self.now.offsets.now c.args.self.now.checked (c.partition_point-next.result - 1) c.partition_point-next.result (omega arith) c.if-next-offsets.true

pub returns-then-next-eq0 : goal.returns-then-next-eq0
returns-then-next-eq0 c = found_first c.args.self.now.offsets.now c.args.self.now.checked c.args.query (next_is (goal.at.returns-then-next-eq0 c).After-partition_point-next) c.if-next-eq0.true

pub returns-then-is_greater_nearer : goal.returns-then-is_greater_nearer
returns-then-is_greater_nearer c =
    found_right c.args.self.now.offsets.now c.args.self.now.checked c.args.query (next_is (goal.at.returns-then-is_greater_nearer c).After-partition_point-next) c.if-next-offsets.true (sym c.is_greater_nearer.ensures ∙ c.if-is_greater_nearer.true)

pub returns : goal.returns
returns c =
    found_left c.args.self.now.offsets.now c.args.self.now.checked c.args.query (next_is (goal.at.returns c).After-partition_point-next) (omega arith)
    (λ h. elim c.else-next-offsets.branch [
      | else-next-offsets-via-then-next-offsets+else-is_greater_nearer w ↦ sym w.is_greater_nearer.ensures ∙ w.if-is_greater_nearer.false
      | else-next-offsets-via-else-next-offsets w ↦ absurd (omega (arith, h, w.if-next-offsets.false))
    ])
