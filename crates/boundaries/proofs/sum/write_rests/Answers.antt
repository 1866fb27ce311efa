-- `boundaries::sum::write_rests` meets its contract: what is written and the rests of the steps that are left are all rests, and
-- the steps that are left lead to the last x.
use Rattle.std.specs.Prelude.{None}
use Rattle.theory.proofs.Prelude.{ℕ, ◌<◌, ◌+◌, suc, List, ◌∙◌, ap, ◌≡◌, sym, refl, arith, length, get_or, rules}
use Rattle.theory.specs.declared.Direction.{Direction}
use Rattle.binary32.proofs.PatternValues.{all_finite}
use Rattle.boundaries.specs.Sums.{boundary_steps, strip_added, rests_of}
use Rattle.boundaries.proofs.StepLaws.{added_finite}
use Rattle.boundaries.proofs.Passes.{last_begin, last_goes_on, last_ends, rests_length, rests_left, rests_begin, rest_written, rest_missing, rests_end}
use Rattle.boundaries.proofs.sum.write_rests.Goals as goal

pub loop-done-init : goal.loop-done-init
loop-done-init c =
    let p = c.requires.summable in
    record {
      same = refl;
      finite = all_finite c.args.strips.now p.finite 0 p.some;
      rests = rests_begin c.args.direction c.args.strips.now c.args.rests.now p.some;
      last = last_begin c.args.direction c.args.strips.now p.some;
    }

-- ---- a step
pub add_strip-requires : goal.add_strip-requires
add_strip-requires c =
    (c.loop-done.invariant.finite, all_finite c.args.strips.now c.requires.summable.finite _ (omega (arith, c.requires.rests_length.0, c.loop-done.invariant.same, c.loop-done-test.true)))

-- no step is too large
never_large : (d : Direction) (x done : ℕ) (strips rests : List ℕ) → done < length rests → suc (length rests) ≡ length strips
    → length (boundary_steps d strips) ≡ length rests → rests_left d x done strips rests ≡ rests_of (boundary_steps d strips)
    → strip_added d x (get_or strips (done + 1) 0) ≡ None → ⊥
never_large d x done strips rests h e k i t = omega (arith, rest_missing d x done strips rests h e t, ap length i, rests_length (boundary_steps d strips))

pub returns-in_default : goal.returns-in_default
returns-in_default c =
    let l = c.loop-done in
    absurd
    (never_large c.args.direction l.x l.done c.args.strips.now l.rests (omega (arith, l.invariant.same, c.loop-done-test.true)) (omega (arith, c.requires.rests_length.0, l.invariant.same))
    (c.requires.rests_length.1 ∙ sym l.invariant.same) l.invariant.rests (sym c.add_strip.ensures ∙ c.in_default.is))

pub loop-done-preserved : goal.loop-done-preserved
loop-done-preserved c =
    let d = c.args.direction in
    let strips = c.args.strips.now in
    let l = c.loop-done in
    let inside : l.done < length l.rests = omega (arith, l.invariant.same, c.loop-done-test.true) in
    let lengths : suc (length l.rests) ≡ length strips = omega (arith, c.requires.rests_length.0, l.invariant.same) in
    let next : l.done + 1 < length strips = omega (arith, inside, lengths) in
    let e = sym c.add_strip.ensures ∙ c.in-Some.is in
    record {
      same = search rules;
      finite = added_finite d l.x (get_or strips (l.done + 1) 0) l.invariant.finite (all_finite strips c.requires.summable.finite (l.done + 1) next) e;
      rests = rest_written d l.x l.done strips l.rests inside lengths e ∙ l.invariant.rests;
      last = last_goes_on d l.x (l.done + 1) strips next e ∙ l.invariant.last;
    }

pub returns : goal.returns
returns c =
    let l = c.loop-done in
    let lengths : suc (length l.rests) ≡ length c.args.strips.now = omega (arith, c.requires.rests_length.0, l.invariant.same) in
    let end : l.done ≡ length l.rests = omega (arith, c.loop-done-test.false, l.auto.done-end, l.invariant.same) in
    record {
      sum = sym (last_ends c.args.direction l.x (l.done + 1) c.args.strips.now (omega (arith, end, lengths))) ∙ l.invariant.last;
      written = sym (rests_end c.args.direction l.x l.done c.args.strips.now l.rests end lengths) ∙ l.invariant.rests;
    }
