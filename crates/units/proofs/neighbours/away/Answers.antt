-- `units::neighbours::away` meets its contract.
use Rattle.theory.proofs.Prelude.{ℕ, ◌+◌, ◌^◌, ◌*◌, suc, ◌∙◌, ap, ◌≡◌, sym, refl, ap₂, add-one, arith}
use Rattle.theory.specs.Wide.{Canonical}
use Rattle.number.proofs.Prelude.{positional, place_of, magnitude, delivered, highest_most, member_canonical, member_highest}
use Rattle.number.proofs.Membership.{Member, members, Known, known}
use Rattle.units.proofs.Forms.{canonical_as, power_high, next_canonical, next_size, carry_size}
use Rattle.units.proofs.neighbours.away.Goals as goal

pub overflow_add-next : goal.overflow_add-next
overflow_add-next c =
    let facts : Known c.args.prepared = known c.requires.usable in
    let inner : Member c.args.prepared.format c.args.x = members _ facts.admits c.requires.number in
    omega (arith, inner.significand_high, facts.admits.power_high)

pub overflow_add-place : goal.overflow_add-place
overflow_add-place c =
    let facts : Known c.args.prepared = known c.requires.usable in
    let inner : Member c.args.prepared.format c.args.x = members _ facts.admits c.requires.number in
    let a = facts.admits in
    omega (arith, c.place_of-place.ensures, member_highest a inner, highest_most a)

pub deliver-requires : goal.deliver-requires
deliver-requires c =
    let facts : Known c.args.prepared = known c.requires.usable in
    (c.requires.usable, canonical_as facts.least refl (power_high (positional facts.admits) _))

pub returns-then-next-prepared : goal.returns-then-next-prepared
unfolding magnitude
returns-then-next-prepared c =
    let facts : Known c.args.prepared = known c.requires.usable in
    let inner : Member c.args.prepared.format c.args.x = members _ facts.admits c.requires.number in
    let own : Canonical c.args.prepared.format.base c.args.prepared.format.digits c.args.x.significand (place_of c.args.prepared.format c.args.x) = member_canonical facts.admits inner in
    let last : suc c.args.x.significand ≡ c.args.prepared.format.base ^ c.args.prepared.format.digits = sym (add-one c.args.x.significand) ∙ c.if-next-prepared.true ∙ facts.bound in
    let f = c.args.prepared.format in
    c.deliver.ensures
    ∙ ap (delivered f c.args.negative)
    (ap₂ (λ (m k : ℕ). m * f.base ^ (k + 1)) facts.least c.place_of-place.ensures ∙ carry_size (positional facts.admits) own last
    ∙ sym (next_size (positional facts.admits) own))

pub deliver-requires-2 : goal.deliver-requires-2
deliver-requires-2 c =
    let facts : Known c.args.prepared = known c.requires.usable in
    let inner : Member c.args.prepared.format c.args.x = members _ facts.admits c.requires.number in
    let own : Canonical c.args.prepared.format.base c.args.prepared.format.digits c.args.x.significand (place_of c.args.prepared.format c.args.x) = member_canonical facts.admits inner in
    let a = facts.admits in (
      c.requires.usable,
      canonical_as (add-one c.args.x.significand) c.place_of-place.ensures
          (next_canonical (positional a) own (omega (arith, inner.significand_high, c.if-next-prepared.false, facts.bound))),
    )

pub returns : goal.returns
unfolding magnitude
returns c =
    let facts : Known c.args.prepared = known c.requires.usable in
    let inner : Member c.args.prepared.format c.args.x = members _ facts.admits c.requires.number in
    let own : Canonical c.args.prepared.format.base c.args.prepared.format.digits c.args.x.significand (place_of c.args.prepared.format c.args.x) = member_canonical facts.admits inner in
    let f = c.args.prepared.format in
    c.deliver-2.ensures
    ∙ ap (delivered f c.args.negative)
    (ap₂ (λ (m k : ℕ). m * f.base ^ k) (add-one c.args.x.significand) c.place_of-place.ensures ∙ sym (next_size (positional facts.admits) own))
