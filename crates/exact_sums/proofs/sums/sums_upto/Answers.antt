-- `exact_sums::sums::sums_upto` meets its contract.
use Rattle.theory.proofs.Prelude.{◌∙◌, sym, arith, ◌+ℤ◌}
use Rattle.binary32.specs.Patterns.{pattern_value}
use Rattle.exact_sums.specs.Numbers.{Placed, Marked}
use Rattle.exact_sums.proofs.Ranks.{placed_more}
use Rattle.exact_sums.proofs.Rests.{sum_told, rounded_less, rounded_more, rests_order}
use Rattle.exact_sums.proofs.sums.sums_upto.Goals as goal
use Rattle.exact_sums.proofs.sums.sums_upto.Goals.{After-rounded_sum-y}

-- the two sums, rounded
module _ (c : After-rounded_sum-y) where
  first : Marked 255 (pattern_value c.args.a +ℤ pattern_value c.args.b) c.rounded_sum-x.result
  first =
      let a = c.read_wide.ensures in
      let b = c.read_wide-2.ensures in
      sum_told a.value b.value (c.rounded_sum-x.ensures 254 a.placed b.placed)

  second : Marked 255 (pattern_value c.args.c +ℤ pattern_value c.args.d) c.rounded_sum-y.result
  second =
      let a = c.read_wide-3.ensures in
      let b = c.read_wide-4.ensures in
      sum_told a.value b.value (c.rounded_sum-y.ensures 254 a.placed b.placed)

  first_placed : Placed 300 c.rounded_sum-x.result.wide
  first_placed = placed_more 300 (omega arith) first.nearest.placed

  second_placed : Placed 300 c.rounded_sum-y.result.wide
  second_placed = placed_more 300 (omega arith) second.nearest.placed

pub is_below-requires : goal.is_below-requires
is_below-requires c = let s = (goal.at.is_below-requires c).After-rounded_sum-y in (first_placed s, second_placed s)

pub returns-then-is_below : goal.returns-then-is_below
returns-then-is_below c =
    let s = (goal.at.returns-then-is_below c).After-rounded_sum-y in
    rounded_less (first s).nearest (second s).nearest (sym c.is_below.ensures ∙ c.if-is_below.true)

pub is_below-requires-2 : goal.is_below-requires-2
is_below-requires-2 c = let s = (goal.at.is_below-requires-2 c).After-rounded_sum-y in (second_placed s, first_placed s)

pub returns-then-is_below-2 : goal.returns-then-is_below-2
returns-then-is_below-2 c =
    let s = (goal.at.returns-then-is_below-2 c).After-rounded_sum-y in
    rounded_more (first s).nearest (second s).nearest (sym c.is_below-2.ensures ∙ c.if-is_below-2.true)

pub rest-left-requires : goal.rest-left-requires
rest-left-requires c = first (goal.at.rest-left-requires c).After-rounded_sum-y

pub rest-right-requires : goal.rest-right-requires
rest-right-requires c = second (goal.at.rest-right-requires c).After-rounded_sum-y

pub returns : goal.returns
returns c =
    rests_order c.rest-left.ensures c.rest-right.ensures (sym c.is_below.ensures ∙ c.if-is_below.false) (sym c.is_below-2.ensures ∙ c.if-is_below-2.false) c.is_below-3.ensures
