-- `units::neighbours::is_within_one_step` meets its contract.
use Rattle.theory.proofs.Prelude.{ℕ, ◌+◌, ◌&&◌, ◌∙◌, ap₂, arith, eqb, leb}
use Rattle.number.proofs.Prelude.{positional, magnitude, value, member_canonical}
use Rattle.number.proofs.Membership.{Member, members, Known, known}
use Rattle.units.proofs.OneStep.{code_and, within_sizes, within_across, units_across}
use Rattle.units.proofs.neighbours.is_within_one_step.Goals as goal

-- b has the sign of a
pub returns-then-a-b : goal.returns-then-a-b
unfolding value
returns-then-a-b c =
    let facts : Known c.args.prepared = known c.requires.usable in
    let ok = positional facts.admits in
    ap₂ ◌&&◌ c.reaches.ensures c.reaches-then-a-b.ensures ∙ code_and _ _ ∙ within_sizes ok c.args.a.negative c.args.b.negative _ _ c.if-a-b.true

pub overflow_add-result : goal.overflow_add-result
overflow_add-result c =
    let facts : Known c.args.prepared = known c.requires.usable in
    let first : Member c.args.prepared.format c.args.a = members _ facts.admits c.requires.first in
    let second : Member c.args.prepared.format c.args.b = members _ facts.admits c.requires.second in
    omega (arith, first.significand_high, second.significand_high, facts.admits.power_high)

pub returns : goal.returns
unfolding value magnitude
returns c =
    let facts : Known c.args.prepared = known c.requires.usable in
    let first : Member c.args.prepared.format c.args.a = members _ facts.admits c.requires.first in
    let second : Member c.args.prepared.format c.args.b = members _ facts.admits c.requires.second in
    let a = facts.admits in
    ap₂ (λ (k j : ℕ). (eqb k 0 && eqb j 0) && leb (c.args.a.significand + c.args.b.significand) 1) c.place_of.ensures c.place_of-2.ensures
    ∙ units_across (positional a) (member_canonical a first) (member_canonical a second)
    ∙ within_across (positional a) c.args.a.negative c.args.b.negative _ _ c.if-a-b.false
