-- `lines::printing::put_pattern` meets its contract.
use Rattle.theory.proofs.Prelude.{true, ◌∷◌, ◌++◌, ◌∙◌, ap, ◌≡◌, sym, arith}
use Rattle.format.specs.Given.{Given}
use Rattle.number.specs.declared.Number.{Number}
use Rattle.binary32.specs.Places.{PlacesGiven}
use Rattle.binary32.specs.Patterns.{finite}
use Rattle.binary32.proofs.Fields.{endless_field}
use Rattle.binary32.proofs.RoundTrips.{read_made, read_refused}
use Rattle.lines.specs.Digits.{low_digits}
use Rattle.lines.specs.Printing.{spaced, fields, answered_text, pattern_text, line_feed}
use Rattle.lines.proofs.Stores.{put_after, put_as, put_upto}
use Rattle.lines.proofs.printing.put_pattern.Goals as goal

pub returns-then-not-is_finite : goal.returns-then-not-is_finite
unfolding pattern_text
returns-then-not-is_finite c =
    let n = c.args.pattern in
    let failed = sym c.is_finite.ensures ∙ c.if-not-is_finite.true in
    put_upto (omega arith) (put_as (ap (λ (g : Given Number). answered_text n g ++ line_feed) (sym (read_refused n (endless_field n failed)))) (put_after c.put_field-at.ensures c.put_text.ensures))

pub returns : goal.returns
unfolding pattern_text
returns c =
    let passed : finite c.args.pattern ≡ true = sym c.is_finite.ensures ∙ c.if-not-is_finite.false in
    let n = c.args.pattern in
    put_as
    (ap (λ (c : PlacesGiven). spaced (low_digits 8 n ∷ fields c) ++ line_feed) c.places_of.ensures ∙ ap (λ (g : Given Number). answered_text n g ++ line_feed) (sym (read_made n passed)))
    (put_after c.put_field-at.ensures c.put_places.ensures)

pub places_of-requires : goal.places_of-requires
places_of-requires c =
    let passed : finite c.args.pattern ≡ true = sym c.is_finite.ensures ∙ c.if-not-is_finite.false in
    passed
