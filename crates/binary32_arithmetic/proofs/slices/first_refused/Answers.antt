-- `binary32_arithmetic::slices::first_refused` meets its contract: no entry that was passed is refused.
use Rattle.theory.proofs.Prelude.{ℕ, ◌<◌, List, ◌∙◌, ap, ◌≡◌, sym, arith, length, get_or, ap₂}
use lib.ListN.{length-append}
use borrow.Author.Count.{below_more}
use Rattle.std.proofs.lemmas.Iterator.Consumers.{YieldsList-turn, YieldsList-end}
use Rattle.theory.specs.declared.Direction.{Direction}
use Rattle.std.specs.Prelude.{Result}
use Rattle.format.specs.declared.Refusal.{Refusal}
use Rattle.format.specs.Given.{gives, given}
use Rattle.binary32_arithmetic.specs.Slices.{passes, entries, entry_sum}
use Rattle.binary32_arithmetic.proofs.Passes.{Pair, pairs, pair, pairs_end, passed_entry, refused_entry, entries_length, entry_at, refused_first, refused_nowhere}
use Rattle.binary32_arithmetic.proofs.slices.first_refused.Goals as goal

-- the verdict of an entry
here : (d : Direction) (a b : List ℕ) → length a ≡ length b → {n i x y : ℕ} → Pair a b n i x y → {v w : Result Unit Refusal}
    → given v ≡ passes (entry_sum d x y) → v ≡ w → passes (get_or (entries d a b) n (gives 0)) ≡ given w
here d a b e {n} p k q = ap passes (entry_at d a b e n p.within ∙ sym (ap₂ (entry_sum d) p.first p.second)) ∙ sym k ∙ ap given q

pub returns : goal.returns
returns c =
    let s = c.args in
    let count = entries_length s.direction s.a.now s.b.now c.requires in
    let end = pairs_end s.a.now s.b.now c.requires (YieldsList-end (pairs s.a.now s.b.now (cc) (cc) (cc)) c.loop-index.yielded c.loop-index.index-iterator c.loop-index.yielded_by _ c.next.new.self c.in-None.is c.next.ensures.steps).1 in
    sym (refused_nowhere (entries s.direction s.a.now s.b.now) (λ k h. c.loop-index.invariant k (omega (arith, count, end))))

pub returns-in-Err : goal.returns-in-Err
returns-in-Err c =
    let s = c.args in
    let all = entries s.direction s.a.now s.b.now in
    let p = pair s.a.now s.b.now c.requires (YieldsList-turn (pairs s.a.now s.b.now (cc) (cc) (cc)) c.loop-index.yielded c.loop-index.index-iterator c.loop-index.yielded_by _ c.next.new.self _ c.in-Some.is c.next.ensures.steps) in
    let within : length c.loop-index.yielded < length all = omega (arith, entries_length s.direction s.a.now s.b.now c.requires, p.within) in
    let found = refused_first all (length c.loop-index.yielded) within (refused_entry (get_or all (length c.loop-index.yielded) (gives 0)) (here s.direction s.a.now s.b.now c.requires p c.examine.ensures c.in-Err.is)) c.loop-index.invariant in
    rw p.index (sym found)

pub loop-index-preserved : goal.loop-index-preserved
loop-index-preserved c =
    let s = c.args in
    let p = pair s.a.now s.b.now c.requires (YieldsList-turn (pairs s.a.now s.b.now (cc) (cc) (cc)) c.loop-index.yielded c.loop-index.index-iterator c.loop-index.yielded_by _ c.next.new.self _ c.in-Some.is c.next.ensures.steps) in
    simp length-append
    (below_more _ _ c.loop-index.invariant
    (passed_entry (get_or (entries s.direction s.a.now s.b.now) (length c.loop-index.yielded) (gives 0))
    (here s.direction s.a.now s.b.now c.requires p c.examine.ensures c.in_default.is)))
