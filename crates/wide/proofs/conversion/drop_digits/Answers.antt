-- `wide::conversion::drop_digits` meets its contract.
use Rattle.theory.proofs.Prelude.{ℕ, ◌≤◌, ◌<◌, true, false, ⊎_elim, inl, inr, ◌⊎◌, ◌≡◌, mod-lt, arith, ltb, leb, ltb-true, leb-true, ltb-false, leb-false}
use mathlib.Core.Bool.{◌||◌}
use Rattle.rounding.proofs.Prelude.{pow_pos}
use Rattle.theory.proofs.Tests.{either, neither}
use Rattle.wide.proofs.Conversions.{dropping_next, dropping_less, dropping_cut}
use Rattle.wide.proofs.conversion.drop_digits.Goals as goal

-- the loop's test
more : (count down bound steps : ℕ) → ltb count down || leb bound steps ≡ true → (count < down) ⊎ (bound ≤ steps)
more count down bound steps e =
    ⊎_elim (λ t. inl (ltb-true count down t)) (λ t. inr (leb-true bound steps t)) (either (ltb count down) (leb bound steps) e)

enough : (count down bound steps : ℕ) → ltb count down || leb bound steps ≡ false → (down ≤ count) × (steps < bound)
enough count down bound steps e =
    let t = neither (ltb count down) (leb bound steps) e in
    (ltb-false count down t.0, leb-false bound steps t.1)

pub loop-count-preserved : goal.loop-count-preserved
loop-count-preserved c =
    let l = c.loop-count in
    dropping_next c.requires.0 l.invariant (omega arith) c.requires.3 (more l.count c.args.down c.args.scale.bound l.steps c.loop-count-test.true)
    (c.locate_digit-location.ensures _ _ (mod-lt _ (pow_pos c.requires.0.base_least l.count)) l.invariant.rest)

pub loop-count-smaller : goal.loop-count-smaller
loop-count-smaller c =
    let l = c.loop-count in
    dropping_less c.requires.0 l.invariant (more l.count c.args.down c.args.scale.bound l.steps c.loop-count-test.true)

pub returns : goal.returns
returns c =
    let l = c.loop-count in
    let t = enough l.count c.args.down c.args.scale.bound l.steps c.loop-count-test.false in
    dropping_cut c.requires.0 l.invariant (omega (arith, t.0)) t.1 c.requires.4
