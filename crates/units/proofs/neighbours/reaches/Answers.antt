-- `units::neighbours::reaches` meets its contract.
use Rattle.theory.proofs.Prelude.{ℕ, ◌^◌, ◌*◌, ◌-◌, suc, Bool, ◌&&◌, ◌∙◌, ap, ◌≡◌, sym, ap₂, add-one, arith, leb, le-leb, lt-leb}
use Rattle.theory.specs.Neighbours.{upper}
use Rattle.theory.specs.Wide.{Canonical}
use Rattle.number.proofs.Prelude.{positional, place_of, magnitude, highest_most, member_canonical, member_highest}
use Rattle.number.proofs.Membership.{Member, members, Known, known}
use Rattle.units.proofs.Forms.{next_size}
use Rattle.units.proofs.OneStep.{below_place, same_place, next_place, beyond_place}
use Rattle.units.proofs.neighbours.reaches.Goals as goal

pub returns-then-to-from : goal.returns-then-to-from
unfolding magnitude
returns-then-to-from c =
    let facts : Known c.args.prepared = known c.requires.usable in
    let inner : Member c.args.prepared.format c.args.x = members _ facts.admits c.requires.first in
    let own : Canonical c.args.prepared.format.base c.args.prepared.format.digits c.args.x.significand (place_of c.args.prepared.format c.args.x) = member_canonical facts.admits inner in
    let other : Canonical c.args.prepared.format.base c.args.prepared.format.digits c.args.y.significand (place_of c.args.prepared.format c.args.y) = member_canonical facts.admits (members _ facts.admits c.requires.second) in
    let written : (r : Bool) → let f = c.args.prepared.format in
    r ≡ leb (c.args.y.significand * f.base ^ place_of f c.args.y) (suc c.args.x.significand * f.base ^ place_of f c.args.x)
    → r ≡ leb (magnitude f c.args.y) (upper f.base f.digits (suc (magnitude f c.args.x))) = λ r e. let f = c.args.prepared.format in
    e ∙ ap (leb (c.args.y.significand * f.base ^ place_of f c.args.y)) (sym (next_size (positional facts.admits) own)) in
    written _ (sym (le-leb _ _ (below_place (positional facts.admits) own other (omega (arith, c.place_of-from.ensures, c.place_of-to.ensures, c.if-to-from.true)))))

pub overflow_add-result : goal.overflow_add-result
overflow_add-result c =
    let facts : Known c.args.prepared = known c.requires.usable in
    let inner : Member c.args.prepared.format c.args.x = members _ facts.admits c.requires.first in
    omega (arith, inner.significand_high, facts.admits.power_high)

pub returns-then-to-from-2 : goal.returns-then-to-from-2
unfolding magnitude
returns-then-to-from-2 c =
    let facts : Known c.args.prepared = known c.requires.usable in
    let inner : Member c.args.prepared.format c.args.x = members _ facts.admits c.requires.first in
    let own : Canonical c.args.prepared.format.base c.args.prepared.format.digits c.args.x.significand (place_of c.args.prepared.format c.args.x) = member_canonical facts.admits inner in
    let other : Canonical c.args.prepared.format.base c.args.prepared.format.digits c.args.y.significand (place_of c.args.prepared.format c.args.y) = member_canonical facts.admits (members _ facts.admits c.requires.second) in
    let written : (r : Bool) → let f = c.args.prepared.format in
    r ≡ leb (c.args.y.significand * f.base ^ place_of f c.args.y) (suc c.args.x.significand * f.base ^ place_of f c.args.x)
    → r ≡ leb (magnitude f c.args.y) (upper f.base f.digits (suc (magnitude f c.args.x))) = λ r e. let f = c.args.prepared.format in
    e ∙ ap (leb (c.args.y.significand * f.base ^ place_of f c.args.y)) (sym (next_size (positional facts.admits) own)) in
    written _
    (ap (leb c.args.y.significand) (add-one c.args.x.significand)
    ∙ same_place (positional facts.admits) own other (sym c.place_of-to.ensures ∙ c.if-to-from-2.true ∙ c.place_of-from.ensures))

pub overflow_add-from : goal.overflow_add-from
overflow_add-from c =
    let facts : Known c.args.prepared = known c.requires.usable in
    let inner : Member c.args.prepared.format c.args.x = members _ facts.admits c.requires.first in
    let a = facts.admits in
    omega (arith, c.place_of-from.ensures, member_highest a inner, highest_most a)

pub returns-then-from-to : goal.returns-then-from-to
unfolding magnitude
returns-then-from-to c =
    let facts : Known c.args.prepared = known c.requires.usable in
    let inner : Member c.args.prepared.format c.args.x = members _ facts.admits c.requires.first in
    let own : Canonical c.args.prepared.format.base c.args.prepared.format.digits c.args.x.significand (place_of c.args.prepared.format c.args.x) = member_canonical facts.admits inner in
    let other : Canonical c.args.prepared.format.base c.args.prepared.format.digits c.args.y.significand (place_of c.args.prepared.format c.args.y) = member_canonical facts.admits (members _ facts.admits c.requires.second) in
    let written : (r : Bool) → let f = c.args.prepared.format in
    r ≡ leb (c.args.y.significand * f.base ^ place_of f c.args.y) (suc c.args.x.significand * f.base ^ place_of f c.args.x)
    → r ≡ leb (magnitude f c.args.y) (upper f.base f.digits (suc (magnitude f c.args.x))) = λ r e. let f = c.args.prepared.format in
    e ∙ ap (leb (c.args.y.significand * f.base ^ place_of f c.args.y)) (sym (next_size (positional facts.admits) own)) in
    written _ (sym (lt-leb _ _ (beyond_place (positional facts.admits) own other (omega (arith, c.place_of-from.ensures, c.place_of-to.ensures, c.if-from-to.true)))))

pub overflow_sub-result : goal.overflow_sub-result
overflow_sub-result c =
    let facts : Known c.args.prepared = known c.requires.usable in
    let inner : Member c.args.prepared.format c.args.x = members _ facts.admits c.requires.first in
    omega (arith, facts.bound, inner.significand_high)

pub returns : goal.returns
unfolding magnitude
returns c =
    let facts : Known c.args.prepared = known c.requires.usable in
    let inner : Member c.args.prepared.format c.args.x = members _ facts.admits c.requires.first in
    let own : Canonical c.args.prepared.format.base c.args.prepared.format.digits c.args.x.significand (place_of c.args.prepared.format c.args.x) = member_canonical facts.admits inner in
    let other : Canonical c.args.prepared.format.base c.args.prepared.format.digits c.args.y.significand (place_of c.args.prepared.format c.args.y) = member_canonical facts.admits (members _ facts.admits c.requires.second) in
    let written : (r : Bool) → let f = c.args.prepared.format in
    r ≡ leb (c.args.y.significand * f.base ^ place_of f c.args.y) (suc c.args.x.significand * f.base ^ place_of f c.args.x)
    → r ≡ leb (magnitude f c.args.y) (upper f.base f.digits (suc (magnitude f c.args.x))) = λ r e. let f = c.args.prepared.format in
    e ∙ ap (leb (c.args.y.significand * f.base ^ place_of f c.args.y)) (sym (next_size (positional facts.admits) own)) in
    written _
    (ap₂ (λ (l b : ℕ). leb c.args.y.significand l && leb (b - c.args.x.significand) 1) facts.least facts.bound
    ∙ next_place (positional facts.admits) own other
    (omega (arith, c.place_of-from.ensures, c.place_of-to.ensures, c.if-from-to.false, c.if-to-from-2.false, c.if-to-from.false)))
