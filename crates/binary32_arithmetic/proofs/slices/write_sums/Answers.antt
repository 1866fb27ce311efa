-- `binary32_arithmetic::slices::write_sums` meets its contract: what is written and the sums of the rest are all sums, and so are the
-- counts of those that are not exact.
use Rattle.theory.proofs.Prelude.{ℕ, ◌≤◌, ◌<◌, ◌+◌, ◌^◌, append-nil, ◌∙◌, ap, ap₂, ◌≡◌, sym, arith, List, length, get_or, take, take_all}
use lib.ListN.{length-append, length-set}
use Rattle.std.proofs.lemmas.Iterator.Consumers.{YieldsList-turn, YieldsList-end}
use Rattle.theory.specs.Marks.{inexact}
use Rattle.theory.specs.declared.Direction.{Direction}
use Rattle.format.specs.Given.{Given}
use Rattle.binary32_arithmetic.specs.declared.MarkedPattern.{MarkedPattern}
use Rattle.binary32_arithmetic.specs.Calls.{Sum, on_patterns}
use Rattle.binary32_arithmetic.specs.Slices.{entry_sum, entry_written, written, inexact_in}
use Rattle.binary32_arithmetic.proofs.Passes.{Pair, pairs, pair, pairs_end, written_step, sums_end, inexact_step, inexact_end, inexact_most, written_pattern, written_count}
use Rattle.binary32_arithmetic.proofs.slices.write_sums.Goals as goal

-- an entry as it is written, and 1 where it is not exact
module _ (d : Direction) {a b : List ℕ} {n i x y : ℕ} (p : Pair a b n i x y) {entry : MarkedPattern} (e : entry ≡ entry_written (on_patterns Sum d x y)) where
  abbrev sum : Given MarkedPattern
  sum = on_patterns Sum d (get_or a n 0) (get_or b n 0)

  is : entry ≡ entry_written sum
  is = e ∙ ap entry_written (ap₂ (on_patterns Sum d) p.first p.second)

  pattern_is : entry.pattern ≡ written (entry_sum d (get_or a n 0) (get_or b n 0))
  pattern_is = ap (λ (m : MarkedPattern). m.pattern) is ∙ written_pattern sum

  counted : {count : ℕ} → count ≡ inexact entry.mark → count ≡ inexact_in sum
  counted h = h ∙ ap (λ (m : MarkedPattern). inexact m.mark) is ∙ written_count sum

  fewer : {count : ℕ} → count ≡ inexact entry.mark → count ≤ 1
  fewer h = omega (arith, counted h, inexact_most sum)

pub returns : goal.returns
returns c =
    let s = c.args in
    let l = c.loop-i in
    let n = length l.yielded in
    let end = pairs_end s.a.now s.b.now c.requires.b_length (YieldsList-end (pairs s.a.now s.b.now (cc) (cc) (cc)) l.yielded l.i-iterator l.yielded_by _ c.next.new.self c.in-None.is c.next.ensures.steps).1 in
    let all : take n l.out ≡ l.out = take_all n l.out (omega (arith, end)) in record {
      count = omega (arith, l.invariant.2, inexact_end s.direction n s.a.now s.b.now end);
      written = sym (append-nil l.out) ∙ (simp (all, sums_end s.direction n s.a.now s.b.now end) at l.invariant.3);
    }

pub overflow_add-inexact : goal.overflow_add-inexact
overflow_add-inexact c =
    let s = c.args in
    let p = pair s.a.now s.b.now c.requires.b_length (YieldsList-turn (pairs s.a.now s.b.now (cc) (cc) (cc)) c.loop-i.yielded c.loop-i.i-iterator c.loop-i.yielded_by _ c.next.new.self _ c.in-Some.is c.next.ensures.steps) in
    let few = fewer s.direction p c.sum_entry-entry.ensures c.inexact_count-inexact.ensures in
    let counts : c.in-Some.i + 1 < 2 ^ 64 = c.in-Some.ensures.steps.3 in
    omega (arith, few, c.loop-i.invariant.1)

pub loop-i-preserved : goal.loop-i-preserved
loop-i-preserved c =
    let s = c.args in
    let l = c.loop-i in
    let n = length l.yielded in
    let p = pair s.a.now s.b.now c.requires.b_length (YieldsList-turn (pairs s.a.now s.b.now (cc) (cc) (cc)) c.loop-i.yielded c.loop-i.i-iterator c.loop-i.yielded_by _ c.next.new.self _ c.in-Some.is c.next.ensures.steps) in
    let k = counted s.direction p c.sum_entry-entry.ensures c.inexact_count-inexact.ensures in
    simp length-append (rw p.index (
      simp length-set l.invariant.0,
      omega (arith, l.invariant.1, fewer s.direction p c.sum_entry-entry.ensures c.inexact_count-inexact.ensures),
      omega (arith, l.invariant.2, k, inexact_step s.direction n s.a.now s.b.now p.within c.requires.b_length),
      written_step s.direction n c.sum_entry-entry.result.pattern s.a.now s.b.now l.out p.within c.requires.b_length (omega arith) (pattern_is s.direction p c.sum_entry-entry.ensures) ∙ l.invariant.3,
    ))
