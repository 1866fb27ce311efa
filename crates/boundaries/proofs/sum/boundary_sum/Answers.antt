-- `boundaries::sum::boundary_sum` meets its contract: what each check leaves, and both promises at each end.
use Rattle.std.proofs.lemmas.Grind.{common_steps}
use Rattle.theory.proofs.Prelude.{ℕ, ◌<◌, suc, true, ◌∙◌, ap, ◌≡◌, sym, subst, arith, length, rules}
use Rattle.theory.specs.Lists.{first_where, none}
use Rattle.theory.specs.declared.Direction.{Direction}
use Rattle.format.specs.Given.{gives, refused_at}
use Rattle.format.specs.Directions.{is_direction, direction}
use Rattle.binary32.specs.Patterns.{not_finite}
use Rattle.theory.proofs.Directions.{direction_taken, no_direction_taken}
use Rattle.boundaries.specs.Outcomes.{Counted}
use Rattle.boundaries.specs.Steps.{Summable}
use Rattle.boundaries.specs.Sums.{boundary_steps, rests_of, strips_summed, boundary_answer}
use Rattle.boundaries.proofs.Checks.{ends_with, miscounted, second_differs, no_direction, not_finite_case, checked, none_made, too_large_is, sum_is}
use Rattle.boundaries.proofs.sum.boundary_sum.Goals.{Then-not-contains, Else-not-contains, Else-strips-rests, In-Ok, Else-finite-strips}
use Rattle.boundaries.proofs.sum.boundary_sum.Goals as goal

-- ---- what the checks leave
not_counted : (c : Then-not-contains) → Counted c.args.strips.now → ⊥
not_counted c h = grind (arith, common_steps, h.0, h.1)

counted : (c : Else-not-contains) → Counted c.args.strips.now
counted c = (search rules, search rules)

second_length : (c : Else-strips-rests) → Counted c.args.strips.now → suc (length c.args.rests.now) ≡ length c.args.strips.now
second_length c n = omega (arith, n.0, c.if-strips-rests.false)

directed : (c : In-Ok) → (is_direction c.args.direction ≡ true) × (c.in-Ok.direction ≡ direction c.args.direction)
directed c = direction_taken c.args.direction (sym c.try_from.ensures ∙ c.in-Ok.is)

all_finite : (c : Else-finite-strips) → none not_finite c.args.strips.now ≡ true
all_finite c = none_made c.args.strips.now (omega (arith, c.first_not_finite-finite.ensures, c.if-finite-strips.false))

summable : (c : Else-finite-strips) → Counted c.args.strips.now → Summable c.args.strips.now
summable c n = record { some = n.0; few = n.1; finite = all_finite c }

passed : (c : Else-finite-strips) → Counted c.args.strips.now → suc (length c.args.rests.now) ≡ length c.args.strips.now
    → (is_direction c.args.direction ≡ true) × (c.in-Ok.direction ≡ direction c.args.direction)
    → strips_summed c.in-Ok.direction c.args.strips.now ≡ boundary_answer c.args.direction c.args.strips.now c.args.rests.now
passed c n second directed = checked c.args.direction c.args.strips.now c.args.rests.now n.0 n.1 second directed.0 (all_finite c) directed.1

-- ---- the refusals
pub returns-then-not-contains : goal.returns-then-not-contains
returns-then-not-contains c =
    let s = c.args in
    let both = ends_with s.direction s.strips.now s.rests.now (miscounted s.direction s.strips.now s.rests.now (not_counted (goal.at.returns-then-not-contains c).Then-not-contains)) in
    record { answer = rw c.into.ensures both.0; written = both.1 }

pub returns-then-strips-rests : goal.returns-then-strips-rests
returns-then-strips-rests c =
    let s = c.args in
    let n = counted (goal.at.returns-then-strips-rests c).Else-not-contains in
    let differs : suc (length s.rests.now) ≡ length s.strips.now → ⊥ = λ e. c.if-strips-rests.true (omega arith) in
    let both = ends_with s.direction s.strips.now s.rests.now (second_differs s.direction s.strips.now s.rests.now n.0 n.1 differs) in
    record { answer = rw c.into-then-strips-rests.ensures both.0; written = both.1 }

pub returns-in_default : goal.returns-in_default
returns-in_default c =
    let s = c.args in
    let at = goal.at.returns-in_default c in
    let n = counted at.Else-not-contains in
    let both =
    ends_with s.direction s.strips.now s.rests.now
    (no_direction s.direction s.strips.now s.rests.now n.0 n.1 (second_length at.Else-strips-rests n) (no_direction_taken s.direction (sym c.try_from.ensures ∙ c.in_default.is))) in
    record { answer = rw c.into-in_default.ensures both.0; written = both.1 }

pub returns-then-finite-strips : goal.returns-then-finite-strips
returns-then-finite-strips c =
    let s = c.args in
    let at = goal.at.returns-then-finite-strips c in
    let n = counted at.Else-not-contains in
    let first = c.first_not_finite-finite.ensures in
    let here : first_where not_finite s.strips.now < length s.strips.now = subst (λ (i : ℕ). i < length s.strips.now) first c.if-finite-strips.true in
    let both =
    ends_with s.direction s.strips.now s.rests.now
    (ap (refused_at 9) first ∙ not_finite_case s.direction s.strips.now s.rests.now n.0 n.1 (second_length at.Else-strips-rests n) (directed at.In-Ok).0 here) in
    record { answer = both.0; written = both.1 }

pub returns-then-large-strips : goal.returns-then-large-strips
returns-then-large-strips c =
    let s = c.args in
    let at = goal.at.returns-then-large-strips c in
    let n = counted at.Else-not-contains in
    let d = c.in-Ok.direction in
    let missing : suc (length (boundary_steps d s.strips.now)) ≡ length s.strips.now → ⊥ = λ e. c.if-large-strips.true (c.first_too_large-large.ensures ∙ e) in
    let both =
    ends_with s.direction s.strips.now s.rests.now
    (ap (refused_at 5) c.first_too_large-large.ensures ∙ sym (too_large_is d s.strips.now missing) ∙ passed at.Else-finite-strips n (second_length at.Else-strips-rests n) (directed at.In-Ok)) in
    record { answer = both.0; written = both.1 }

-- ---- the passes
pub first_too_large-large-requires : goal.first_too_large-large-requires
first_too_large-large-requires c = let at = goal.at.first_too_large-large-requires c in summable at.Else-finite-strips (counted at.Else-not-contains)

pub write_rests-requires-clause-summable : goal.write_rests-requires-clause-summable
write_rests-requires-clause-summable c = let at = goal.at.write_rests-requires-clause-summable c in summable at.Else-finite-strips (counted at.Else-not-contains)

pub returns : goal.returns
returns c =
    let s = c.args in
    let at = goal.at.returns c in
    let n = counted at.Else-not-contains in
    let d = c.in-Ok.direction in
    let complete : suc (length (boundary_steps d s.strips.now)) ≡ length s.strips.now = sym c.first_too_large-large.ensures ∙ c.if-large-strips.false in
    let both =
    ends_with s.direction s.strips.now s.rests.now
    (ap gives c.write_rests.ensures.sum ∙ sym (sum_is d s.strips.now complete) ∙ passed at.Else-finite-strips n (second_length at.Else-strips-rests n) (directed at.In-Ok)) in
    record {
      answer = both.0;
      written = c.write_rests.ensures.written ∙ ap (λ (d : Direction). rests_of (boundary_steps d s.strips.now)) (directed at.In-Ok).1 ∙ both.1;
    }
