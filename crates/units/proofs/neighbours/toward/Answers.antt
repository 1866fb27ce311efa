-- `units::neighbours::toward` meets its contract.
use Rattle.theory.proofs.Prelude.{ℕ, ◌<◌, ◌^◌, ◌*◌, ◌-◌, inl, inr, ◌⊎◌, ◌∙◌, ap, ◌≡◌, sym, refl, ap₂, arith}
use Rattle.theory.specs.Wide.{Canonical}
use Rattle.number.proofs.Prelude.{positional, place_of, magnitude, delivered, member_canonical}
use Rattle.number.proofs.Membership.{members, Known, known}
use Rattle.theory.proofs.Powers.{pow_pos}
use Rattle.units.proofs.Forms.{canonical_as, least_digits, before_canonical, below_canonical, before_size, below_size}
use Rattle.units.proofs.neighbours.toward.Goals as goal

pub deliver-requires : goal.deliver-requires
deliver-requires c =
    let facts : Known c.args.prepared = known c.requires.0.usable in
    let own : Canonical c.args.prepared.format.base c.args.prepared.format.digits c.args.x.significand (place_of c.args.prepared.format c.args.x) = member_canonical facts.admits (members _ facts.admits c.requires.0.number) in
    let Level : Type 0 = (place_of c.args.prepared.format c.args.x ≡ 0) ⊎ (c.args.prepared.format.base ^ (c.args.prepared.format.digits - 1) < c.args.x.significand) in
    let least : Level = inl (sym c.place_of-place.ensures ∙ c.if-place-eq0.true) in
    let a = facts.admits in
    (c.requires.0.usable, canonical_as refl c.place_of-place.ensures (before_canonical (positional a) own c.requires.1 least))

pub returns-then-place-eq0 : goal.returns-then-place-eq0
unfolding magnitude
returns-then-place-eq0 c =
    let facts : Known c.args.prepared = known c.requires.0.usable in
    let own : Canonical c.args.prepared.format.base c.args.prepared.format.digits c.args.x.significand (place_of c.args.prepared.format c.args.x) = member_canonical facts.admits (members _ facts.admits c.requires.0.number) in
    let Level : Type 0 = (place_of c.args.prepared.format c.args.x ≡ 0) ⊎ (c.args.prepared.format.base ^ (c.args.prepared.format.digits - 1) < c.args.x.significand) in
    let least : Level = inl (sym c.place_of-place.ensures ∙ c.if-place-eq0.true) in
    let f = c.args.prepared.format in
    c.deliver.ensures
    ∙ ap (delivered f c.args.negative)
    (ap (λ (k : ℕ). (c.args.x.significand - 1) * f.base ^ k) c.place_of-place.ensures ∙ sym (before_size (positional facts.admits) own c.requires.1 least))

pub overflow_sub-prepared : goal.overflow_sub-prepared
overflow_sub-prepared c =
    let facts : Known c.args.prepared = known c.requires.0.usable in
    omega (arith, facts.bound, pow_pos facts.admits.base_low c.args.prepared.format.digits)

pub deliver-requires-then-m-prepared : goal.deliver-requires-then-m-prepared
deliver-requires-then-m-prepared c =
    let facts : Known c.args.prepared = known c.requires.0.usable in
    let own : Canonical c.args.prepared.format.base c.args.prepared.format.digits c.args.x.significand (place_of c.args.prepared.format c.args.x) = member_canonical facts.admits (members _ facts.admits c.requires.0.number) in
    let power : c.args.x.significand ≡ c.args.prepared.format.base ^ (c.args.prepared.format.digits - 1) = c.if-m-prepared.true ∙ facts.least in
    let a = facts.admits in (
      c.requires.0.usable,
      canonical_as (ap (λ (t : ℕ). t - 1) facts.bound) (ap (λ (k : ℕ). k - 1) c.place_of-place.ensures)
          (below_canonical (positional a) own power (omega (arith, c.place_of-place.ensures, c.if-place-eq0.false))),
    )

pub returns-then-m-prepared : goal.returns-then-m-prepared
unfolding magnitude
returns-then-m-prepared c =
    let facts : Known c.args.prepared = known c.requires.0.usable in
    let own : Canonical c.args.prepared.format.base c.args.prepared.format.digits c.args.x.significand (place_of c.args.prepared.format c.args.x) = member_canonical facts.admits (members _ facts.admits c.requires.0.number) in
    let power : c.args.x.significand ≡ c.args.prepared.format.base ^ (c.args.prepared.format.digits - 1) = c.if-m-prepared.true ∙ facts.least in
    let f = c.args.prepared.format in
    c.deliver-then-m-prepared.ensures
    ∙ ap (delivered f c.args.negative)
    (ap₂ (λ (t k : ℕ). (t - 1) * f.base ^ (k - 1)) facts.bound c.place_of-place.ensures
    ∙ sym (below_size (positional facts.admits) own power (omega (arith, c.place_of-place.ensures, c.if-place-eq0.false))))

pub deliver-requires-2 : goal.deliver-requires-2
deliver-requires-2 c =
    let facts : Known c.args.prepared = known c.requires.0.usable in
    let own : Canonical c.args.prepared.format.base c.args.prepared.format.digits c.args.x.significand (place_of c.args.prepared.format c.args.x) = member_canonical facts.admits (members _ facts.admits c.requires.0.number) in
    let Level : Type 0 = (place_of c.args.prepared.format c.args.x ≡ 0) ⊎ (c.args.prepared.format.base ^ (c.args.prepared.format.digits - 1) < c.args.x.significand) in
    let between : Level = let k = facts in
    let h = least_digits (positional k.admits) own (omega (arith, c.place_of-place.ensures, c.if-place-eq0.false)) in
    inr (omega (arith, k.least, c.if-m-prepared.false)) in
    let a = facts.admits in
    (c.requires.0.usable, canonical_as refl c.place_of-place.ensures (before_canonical (positional a) own c.requires.1 between))

pub returns : goal.returns
unfolding magnitude
returns c =
    let facts : Known c.args.prepared = known c.requires.0.usable in
    let own : Canonical c.args.prepared.format.base c.args.prepared.format.digits c.args.x.significand (place_of c.args.prepared.format c.args.x) = member_canonical facts.admits (members _ facts.admits c.requires.0.number) in
    let Level : Type 0 = (place_of c.args.prepared.format c.args.x ≡ 0) ⊎ (c.args.prepared.format.base ^ (c.args.prepared.format.digits - 1) < c.args.x.significand) in
    let between : Level = let k = facts in
    let h = least_digits (positional k.admits) own (omega (arith, c.place_of-place.ensures, c.if-place-eq0.false)) in
    inr (omega (arith, k.least, c.if-m-prepared.false)) in
    let f = c.args.prepared.format in
    c.deliver-2.ensures
    ∙ ap (delivered f c.args.negative)
    (ap (λ (k : ℕ). (c.args.x.significand - 1) * f.base ^ k) c.place_of-place.ensures
    ∙ sym (before_size (positional facts.admits) own c.requires.1 between))
