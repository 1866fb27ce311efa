-- `fast_two_sum::sum::fast_two_sum` meets its contract.
use Rattle.theory.proofs.Prelude.{[], ◌∷◌, List, ℕ, ◌∙◌, ap, ◌≡◌, sym}
use Rattle.std.specs.Prelude.{Ok, Err}
use Rattle.theory.specs.Directions.{direction_read}
use Rattle.format.specs.declared.Prepared.{Prepared}
use Rattle.number.specs.Checks.{directed}
use Rattle.theory.specs.declared.Direction.{Direction}
use Rattle.theory.proofs.Directions.{direction_taken}
use Rattle.theory.proofs.Results.{err_returned}
use Rattle.format.specs.declared.Refusal.{Refusal}
use Rattle.format.specs.Given.{given}
use Rattle.number.specs.declared.Number.{Number}
use Rattle.number.proofs.Prelude.{Format, entered}
use Rattle.number.proofs.CheckLaws.{passed, two_members, operands, goes_on, stops, number_stands, both_read, direction_stands, direction_fails, direction_goes, directed_passed, directed_failed}
use Rattle.fast_two_sum.specs.Calls.{three_steps, fast_two_sum}
use Rattle.fast_two_sum.proofs.Order.{order_answered}
use Rattle.fast_two_sum.proofs.sum.fast_two_sum.Goals as goal

-- what is refused before the numbers is refused
both_stand : (f : Format) (directions : List ℕ) (a b : Number) {why : Refusal} → entered f directions [] ≡ Err why → entered f directions (a ∷ b ∷ []) ≡ Err why
both_stand f directions a b h = sym (number_stands f directions (b ∷ []) a (sym (number_stands f directions [] b h)))

-- what is let on by three directions and two numbers
three_read : (f : Format) (d₁ d₂ d₃ : ℕ) {q : Prepared} {k₁ k₂ k₃ : Direction} → directed f d₃ [] ≡ Ok (q, k₃) → direction_read d₂ ≡ Ok k₂ → direction_read d₁ ≡ Ok k₁
    → entered f (d₁ ∷ d₂ ∷ d₃ ∷ []) [] ≡ Ok q
three_read f d₁ d₂ d₃ h k l = sym (direction_goes f _ d₁ (sym (direction_goes f _ d₂ (directed_passed f d₃ [] h).0 k)) l)

-- the steps of the prepared format in the code's directions
same_steps : {f g : Format} {s₁ s₂ s₃ t₁ t₂ t₃ : Direction} (a b : Number) → g ≡ f → s₁ ≡ t₁ → s₂ ≡ t₂ → s₃ ≡ t₃
    → three_steps g s₁ s₂ s₃ a b ≡ three_steps f t₁ t₂ t₃ a b
same_steps a b e h₁ h₂ h₃ = rw (e, h₁, h₂, h₃)

pub returns-in_err-prepared : goal.returns-in_err-prepared
unfolding fast_two_sum
returns-in_err-prepared c =
    let one = directed_failed _ _ _ (sym c.enter_directed.ensures ∙ c.in_err-prepared.was) in
    let three = direction_stands _ _ c.args.first (sym (direction_stands _ _ c.args.second one)) in
    stops _ _ _ _ _ (both_stand _ _ c.args.a c.args.b (sym three)) c.from_residual.ensures.1

pub returns-in_err-second : goal.returns-in_err-second
unfolding fast_two_sum
returns-in_err-second c =
    let one = (directed_passed _ _ _ (sym c.enter_directed.ensures ∙ c.in_ok-prepared.was)).0 in
    let two = direction_fails _ _ _ one (sym c.try_from.ensures ∙ c.in_err-second.was) in
    let three = direction_stands _ _ c.args.first (sym two) in
    stops _ _ _ _ _ (both_stand _ _ c.args.a c.args.b (sym three)) c.from_residual-in_err-second.ensures.1

pub returns-in_err-first : goal.returns-in_err-first
unfolding fast_two_sum
returns-in_err-first c =
    let one = (directed_passed _ _ _ (sym c.enter_directed.ensures ∙ c.in_ok-prepared.was)).0 in
    let two = direction_goes _ _ _ one (sym c.try_from.ensures ∙ c.in_ok-second.was) in
    let three = direction_fails _ _ _ (sym two) (sym c.try_from-2.ensures ∙ c.in_err-first.was) in
    stops _ _ _ _ _ (both_stand _ _ c.args.a c.args.b (sym three)) c.from_residual-in_err-first.ensures.1

pub returns-in_err-prepared-2 : goal.returns-in_err-prepared-2
unfolding fast_two_sum
returns-in_err-prepared-2 c =
    let three = three_read _ _ _ _ (sym c.enter_directed.ensures ∙ c.in_ok-prepared.was) (sym c.try_from.ensures ∙ c.in_ok-second.was) (sym c.try_from-2.ensures ∙ c.in_ok-first.was) in
    let five = both_read _ _ c.args.a c.args.b three c.with_number.ensures c.with_number-2.ensures in
    stops _ _ _ _ _ (five ∙ c.in_err-prepared-2.was) c.from_residual-in_err-prepared-2.ensures.1

pub check_order-requires : goal.check_order-requires
check_order-requires c =
    let three = three_read _ _ _ _ (sym c.enter_directed.ensures ∙ c.in_ok-prepared.was) (sym c.try_from.ensures ∙ c.in_ok-second.was) (sym c.try_from-2.ensures ∙ c.in_ok-first.was) in
    let five = both_read _ _ c.args.a c.args.b three c.with_number.ensures c.with_number-2.ensures in
    let p = passed _ _ _ (five ∙ c.in_ok-prepared-2.was) in
    let m = two_members p in
    (p.format, m.0, m.1)

pub returns-in_err-check_order : goal.returns-in_err-check_order
unfolding fast_two_sum
returns-in_err-check_order c =
    let three = three_read _ _ _ _ (sym c.enter_directed.ensures ∙ c.in_ok-prepared.was) (sym c.try_from.ensures ∙ c.in_ok-second.was) (sym c.try_from-2.ensures ∙ c.in_ok-first.was) in
    let five = both_read _ _ c.args.a c.args.b three c.with_number.ensures c.with_number-2.ensures in
    ap given (err_returned _ c.from_residual-in_err-check_order.ensures.1)
    ∙ order_answered _ _ _ _ c.check_order.ensures c.in_err-check_order.was
    ∙ goes_on _ _ _ _ (five ∙ c.in_ok-prepared-2.was)

pub three_steps-requires : goal.three_steps-requires
three_steps-requires c =
    let three = three_read _ _ _ _ (sym c.enter_directed.ensures ∙ c.in_ok-prepared.was) (sym c.try_from.ensures ∙ c.in_ok-second.was) (sym c.try_from-2.ensures ∙ c.in_ok-first.was) in
    let five = both_read _ _ c.args.a c.args.b three c.with_number.ensures c.with_number-2.ensures in
    operands (passed _ _ _ (five ∙ c.in_ok-prepared-2.was))

pub returns : goal.returns
unfolding fast_two_sum
returns c =
    let h = sym c.enter_directed.ensures ∙ c.in_ok-prepared.was in
    let second = sym c.try_from.ensures ∙ c.in_ok-second.was in
    let first = sym c.try_from-2.ensures ∙ c.in_ok-first.was in
    let all = both_read _ _ c.args.a c.args.b (three_read _ _ _ _ h second first) c.with_number.ensures c.with_number-2.ensures ∙ c.in_ok-prepared-2.was in
    c.three_steps.ensures
    ∙ same_steps _ _ (passed _ _ _ all).same (direction_taken _ first).1 (direction_taken _ second).1 (directed_passed _ _ _ h).1
    ∙ order_answered _ _ _ _ c.check_order.ensures c.in_ok-check_order.was
    ∙ goes_on _ _ _ _ all
