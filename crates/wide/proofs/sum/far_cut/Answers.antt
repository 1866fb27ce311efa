-- `wide::sum::far_cut` meets its contract: the three cases of a small summand.
use Rattle.theory.proofs.Prelude.{ℕ, ◌≤◌, ◌<◌, true, false, Bool, cond, not, ◌&&◌, Bool·beq, ◌≡◌, sym, refl, arith, leb, leb-true, leb-false}
use Rattle.theory.proofs.Tests.{never}
use Rattle.rounding.proofs.Prelude.{Location, Below, Above}
use Rattle.wide.proofs.FarSums.{far_none, far_power, far_selected}
use Rattle.wide.proofs.sum.far_cut.Goals as goal
use Rattle.wide.proofs.sum.far_cut.Goals.{then-differ, else-differ}

-- the signs differ and m is at most least, or not
both : (t : Bool) (m least : ℕ) → (not t && leb m least) ≡ true → (t ≡ false) × (m ≤ least)
both true m least h = absurd (never (sym h))
both false m least h = (refl, leb-true m least h)

not_both : (t : Bool) (m least : ℕ) → (not t && leb m least) ≡ false → t ≡ false → least < m
not_both true m least h e = absurd (never e)
not_both false m least h e = leb-false m least h

selected : (t : Bool) {l : Location} → not t ≡ true → l ≡ Above → l ≡ cond t Below Above
selected true h e = absurd (never (sym h))
selected false h e = e

kept : (t : Bool) {l : Location} → not t ≡ false → l ≡ Below → l ≡ cond t Below Above
kept true h e = e
kept false h e = absurd (never h)

pub returns-then-differ-m : goal.returns-then-differ-m
returns-then-differ-m c =
    let some : 1 ≤ c.args.y.significand = omega (arith, c.if-y-eq0.false) in
    let p = c.requires in
    let b = both (Bool·beq c.args.x.negative c.args.y.negative) c.args.x.significand c.args.scale.least c.if-differ-m.true in
    far_power p.0 p.1 p.2 c.args.gap p.3 p.4 some b.0 b.1 c.below_power.ensures

pub returns : goal.returns
returns c =
    let some : 1 ≤ c.args.y.significand = omega (arith, c.if-y-eq0.false) in
    let above : let s = c.args in Bool·beq s.x.negative s.y.negative ≡ false → s.scale.least < s.x.significand = let s = c.args in
    not_both (Bool·beq s.x.negative s.y.negative) s.x.significand s.scale.least c.if-differ-m.false in
    let p = c.requires in
    let t = Bool·beq c.args.x.negative c.args.y.negative in
    far_selected p.0 p.1 p.2 c.args.gap p.3 p.4 some t refl above
    (elim c.if-differ.branch [ then-differ w ↦ selected t w.if-differ.true w.location-is | else-differ w ↦ kept t w.if-differ.false w.location-is ])

pub returns-then-y-eq0 : goal.returns-then-y-eq0
returns-then-y-eq0 c = far_none c.requires.0 c.args.y c.requires.1 c.if-y-eq0.true
