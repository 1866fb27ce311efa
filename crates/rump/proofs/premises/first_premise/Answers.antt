-- `rump::premises::first_premise` meets its contract.
use Rattle.theory.proofs.Prelude.{ℕ, ◌+◌, ◌^◌, ◌-◌, false, ◌∙◌, ap, ◌≡◌, ap₂, arith, ltb, pos}
use Rattle.theory.proofs.Wide.{wide_pow}
use Rattle.number.proofs.Prelude.{Prepared, Usable, highest_place, positional, magnitude, number, known, highest_most}
use Rattle.number.specs.declared.Number.{Number}
use Rattle.rump.proofs.Reach.{reach, power_most, first_by}
use Rattle.rump.proofs.Lines.{Has, number_has, has_size}
use Rattle.rump.proofs.premises.first_premise.Goals as goal

pub overflow_add-prepared : goal.overflow_add-prepared
overflow_add-prepared c =
    let k = known c.requires.usable in
    omega (arith, k.highest, highest_most k.admits)

pub overflow_sub-prepared : goal.overflow_sub-prepared
overflow_sub-prepared c =
    let k = known c.requires.usable in
    let r = reach k.admits c.requires.kept in
    omega (arith, k.highest, k.digits, r.low, r.span)

pub power_number-bound-requires : goal.power_number-bound-requires
power_number-bound-requires c =
    let k = known c.requires.usable in
    (c.requires.usable, omega (arith, k.digits, k.admits.digits_low))

-- the bound that the code makes
bound_has : {q : Prepared} → Usable q → {b : Number} → b ≡ number q.format false (q.format.base ^ (q.highest + 1 - q.scale.digits))
    → Has q.format b (pos (q.format.base ^ (highest_place q.format + 1 - q.format.digits)))
bound_has {q} u e =
    let f = q.format in
    let k = known u in
    let same : q.highest + 1 - q.scale.digits ≡ highest_place f + 1 - f.digits = ap₂ (λ (n p : ℕ). n + 1 - p) k.highest k.digits in
    number_has k.admits (wide_pow (positional k.admits) _) (power_most k.admits _ (omega (arith, k.admits.digits_low)))
    (e ∙ ap (λ (i : ℕ). number f false (f.base ^ i)) same)

pub is_smaller-requires : goal.is_smaller-requires
is_smaller-requires c =
    let bound = bound_has c.requires.usable c.power_number-bound.ensures in
    (c.requires.usable.format, c.requires.number, bound.number)

pub returns : goal.returns
returns c =
    let f = c.args.prepared.format in
    let bound = bound_has c.requires.usable c.power_number-bound.ensures in
    c.is_smaller.ensures ∙ ap (ltb (magnitude f c.args.x)) (has_size bound) ∙ first_by f c.args.x c.requires.kept
