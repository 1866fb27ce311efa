-- `boundaries::steps::add_strip` meets its contract.
use Rattle.std.specs.Prelude.{Result, Ok, Err, Some, None}
use Rattle.std.specs.Result.{result_ok}
use Rattle.theory.proofs.Prelude.{ℕ, true, ◌∙◌, ap, ◌≡◌, sym, refl, ap₂, arith}
use Rattle.format.specs.declared.Refusal.{Refusal}
use Rattle.format.specs.Given.{given}
use Rattle.format.specs.Published.{binary32}
use Rattle.number.specs.Numbers.{member}
use Rattle.fast_two_sum.specs.declared.Steps.{Steps}
use Rattle.boundaries.specs.Sums.{step_written, strip_added}
use Rattle.boundaries.proofs.StepLaws.{triple_members, read_number, sum_written}
use Rattle.boundaries.proofs.steps.add_strip.Goals.{In_ok-steps, After-three_sum}
use Rattle.boundaries.proofs.steps.add_strip.Goals as goal

steps_taken : (r : Result Steps Refusal) {t : Steps} → result_ok r ≡ Some t → r ≡ Ok t
steps_taken (Ok s) h = ap Ok cc
steps_taken (Err why) h = absurd (let z : ◌≡◌ {A = ℕ} 0 1 = cc in omega arith)

none_taken : (r : Result Steps Refusal) → result_ok r ≡ None → step_written (given r) ≡ None
none_taken (Ok s) h = absurd (let z : ◌≡◌ {A = ℕ} 0 1 = cc in omega arith)
none_taken (Err why) h = refl

answered : (c : After-three_sum) → step_written (given c.three_sum.result) ≡ strip_added c.args.direction c.args.x c.args.strip
answered c = sum_written _ _ _ c.read_finite.ensures c.read_finite-2.ensures c.three_sum.ensures

taken : (c : In_ok-steps) → c.three_sum.result ≡ Ok c.in_ok-steps.steps
taken c = steps_taken _ (sym c.ok.ensures.value ∙ c.in_ok-steps.was)

-- x and y are in the format
members : (c : In_ok-steps) → (member binary32 c.in_ok-steps.steps.x ≡ true) × (member binary32 c.in_ok-steps.steps.y ≡ true)
members c =
    triple_members c.args.direction _ _ (read_number c.args.x c.read_finite.ensures c.requires.0) (read_number c.args.strip c.read_finite-2.ensures c.requires.1)
    (sym c.three_sum.ensures ∙ ap given (taken c))

pub returns : goal.returns
returns c =
    ap₂ (λ (x y : ℕ). Some (record { x = x; y = y })) c.pattern_of.ensures c.pattern_of-2.ensures
    ∙ sym (ap (λ (a : Result Steps Refusal). step_written (given a)) (taken (goal.at.returns c).In_ok-steps))
    ∙ answered (goal.at.returns c).After-three_sum

pub returns-in_err-steps : goal.returns-in_err-steps
returns-in_err-steps c =
    c.from_residual.ensures ∙ sym (none_taken _ (sym c.ok.ensures.value ∙ c.in_err-steps.was)) ∙ answered (goal.at.returns-in_err-steps c).After-three_sum

pub three_sum-requires : goal.three_sum-requires
three_sum-requires c = (read_number c.args.x c.read_finite.ensures c.requires.0, read_number c.args.strip c.read_finite-2.ensures c.requires.1)

pub pattern_of-requires : goal.pattern_of-requires
pattern_of-requires c = (members (goal.at.pattern_of-requires c).In_ok-steps).0

pub pattern_of-requires-2 : goal.pattern_of-requires-2
pattern_of-requires-2 c = (members (goal.at.pattern_of-requires-2 c).In_ok-steps).1
