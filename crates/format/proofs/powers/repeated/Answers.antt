-- What is collected times what is left is the power, and no square that is made is above it.
use Rattle.theory.proofs.Prelude.{ℕ, ◌^◌, ◌*◌, ◌/◌, ◌∙◌, ap, ◌≡◌, sym, subst, mul-le-mul_left, arith}
use Rattle.format.proofs.Squaring.{Way, way_odd, way_even, way_product, way_square, way_one, way_none, way_first}
use Rattle.format.proofs.powers.repeated.Goals as goal
use Rattle.format.proofs.powers.repeated.Goals.{then-rest-eq1-2, then-rest-eq1, else-rest-eq1-2, else-rest-eq1}

pub overflow_mul-result : goal.overflow_mul-result
overflow_mul-result c =
    let l = c.loop-rest in
    let most = way_product l.rest l.invariant c.loop-rest-test.true in
    elim c.if-rest-eq1.branch [ then-rest-eq1 w ↦ omega (arith, ap (λ (f : ℕ). l.result * f) w.factor-is, most, c.requires.2) | else-rest-eq1 w ↦ omega (arith, ap (λ (f : ℕ). l.result * f) w.factor-is, most, c.requires.2, mul-le-mul_left l.result l.invariant.least) ]

pub overflow_mul-square : goal.overflow_mul-square
overflow_mul-square c = omega (arith, way_square c.loop-rest.rest c.loop-rest.invariant c.loop-rest-test.true, c.requires.2)

-- one step of the way, with the factor that was chosen
pub loop-rest-preserved : goal.loop-rest-preserved
loop-rest-preserved c =
    let l = c.loop-rest in
    let P : ℕ = c.args.base ^ c.args.k in
    let at : (f : ℕ) → Type 0 = λ f. Way P (l.result * f) (l.square * l.square) (l.rest / 2) in
    elim c.if-rest-eq1.branch [ then-rest-eq1 w ↦ subst at (sym w.factor-is) (way_odd l.invariant w.if-rest-eq1.true) | else-rest-eq1 w ↦ subst at (sym w.factor-is) (way_even l.invariant w.if-rest-eq1.false) ]

pub loop-rest-init : goal.loop-rest-init
loop-rest-init c = way_first c.args.base c.args.k c.requires.0

pub loop-rest-smaller : goal.loop-rest-smaller
loop-rest-smaller c = omega (arith, c.loop-rest-test.true)

pub returns : goal.returns
returns c =
    let ended : let l = c.loop-rest in let s = c.args in l.result * c.if-rest-eq1-2.last ≡ s.base ^ s.k = let l = c.loop-rest in
    let s = c.args in
    let at : (n : ℕ) → Type 0 = λ n. Way (s.base ^ s.k) l.result l.square n in
    elim c.if-rest-eq1-2.branch [ then-rest-eq1-2 w ↦ ap (λ (f : ℕ). l.result * f) w.last-is ∙ way_one (subst at w.if-rest-eq1-2.true l.invariant) | else-rest-eq1-2 w ↦ ap (λ (f : ℕ). l.result * f) w.last-is ∙ way_none (subst at (omega (arith, c.loop-rest-test.false, w.if-rest-eq1-2.false)) l.invariant) ] in
    ended

pub overflow_mul-result-2 : goal.overflow_mul-result-2
overflow_mul-result-2 c =
    let ended : let l = c.loop-rest in let s = c.args in l.result * c.if-rest-eq1-2.last ≡ s.base ^ s.k = let l = c.loop-rest in
    let s = c.args in
    let at : (n : ℕ) → Type 0 = λ n. Way (s.base ^ s.k) l.result l.square n in
    elim c.if-rest-eq1-2.branch [ then-rest-eq1-2 w ↦ ap (λ (f : ℕ). l.result * f) w.last-is ∙ way_one (subst at w.if-rest-eq1-2.true l.invariant) | else-rest-eq1-2 w ↦ ap (λ (f : ℕ). l.result * f) w.last-is ∙ way_none (subst at (omega (arith, c.loop-rest-test.false, w.if-rest-eq1-2.false)) l.invariant) ] in
    omega (arith, ended, c.requires.2)
