-- `saved_lines::checks::Lines::within` meets its contract.
use Rattle.theory.proofs.Prelude.{ℕ, ◌≤◌, ◌-◌, List, ◌≡◌, refl, rules, arith, length}
use Rattle.theory.specs.Lists.{first_where}
use Rattle.saved_lines.specs.Searches.{at_least, reaching, beyond}
use Rattle.saved_lines.proofs.Offsets.{Ascending, rising}
use Rattle.saved_lines.proofs.Reaches.{around}
use Rattle.saved_lines.proofs.Searches.{Parted, searched, searched_part, later_at_least, later_reaching, later_beyond, told_at_least, told_reaching, told_beyond}
use Rattle.saved_lines.proofs.checks.Lines.within.Goals as goal
use Rattle.saved_lines.proofs.checks.Lines.within.Goals.{After-partition_point}

module _ (c : After-partition_point) where
  abbrev l : List ℕ
  l = c.args.self.offsets.now

  abbrev split : ℕ
  split = c.partition_point-split.result

  ascends : Ascending l
  ascends = rising l c.args.self.checked

  split_most : split ≤ length l
  split_most = c.partition_point-split.ensures.bound

  split_is : split ≡ first_where (at_least c.args.query) l
  split_is =
      searched l ascends (later_at_least c.args.query) split_most c.partition_point-split.ensures.partitioned (λ a r f k. (told_at_least _ _ (search rules), search rules))

  first_is : Parted l (reaching c.args.query c.args.distance) 0 c.partition_point-first.result split
  first_is =
      let p = c.partition_point-first.ensures in
      searched_part l 0 split (omega (arith, split_most)) ascends (later_reaching c.args.query c.args.distance) p.bound p.partitioned (λ a r f k. (told_reaching _ _ _ (search rules), search rules))

  rest_is : Parted l (beyond c.args.query c.args.distance) split c.partition_point.result (length l - split)
  rest_is =
      let p = c.partition_point.ensures in
      searched_part l split (length l - split) (omega (arith, split_most)) ascends (later_beyond c.args.query c.args.distance) p.bound p.partitioned (λ a r f k. (told_beyond _ _ _ (search rules), search rules))

pub returns-clause-found : goal.returns-clause-found
returns-clause-found c =
    let p = (goal.at.returns-clause-found c).After-partition_point in
    (around c.args.self.offsets.now c.args.self.checked c.args.query c.args.distance (split_is p) (first_is p) (rest_is p), refl)
