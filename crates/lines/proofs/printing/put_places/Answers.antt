-- `lines::printing::put_places` meets its contract.
use Rattle.theory.proofs.Prelude.{[], ◌∷◌, ◌++◌, append_assoc, ◌≡◌, arith}
use Rattle.binary32.specs.Places.{PlacesGiven, places_given}
use Rattle.lines.specs.Printing.{field_text, fields, spaced, line_feed}
use Rattle.lines.proofs.Stores.{put_after, put_as, put_length}
use Rattle.lines.proofs.printing.put_places.Goals as goal

joined : (q : PlacesGiven)
    → (field_text q.ufp ++ 32 ∷ []) ++ ((field_text q.ulp ++ 32 ∷ []) ++ ((field_text q.predecessor ++ 32 ∷ []) ++ (field_text q.successor ++ line_feed)))
    ≡ spaced (fields q) ++ line_feed
joined q = simp append_assoc

pub put_field-at-requires-2 : goal.put_field-at-requires-2
put_field-at-requires-2 c = let s = c.put_field-at.ensures in omega (arith, s.ends, s.fits, put_length s)

pub put_field-at-requires-3 : goal.put_field-at-requires-3
put_field-at-requires-3 c =
    let s = put_after c.put_field-at.ensures c.put_field-at-2.ensures in
    omega (arith, s.ends, s.fits, put_length s)

pub put_field-requires : goal.put_field-requires
put_field-requires c =
    let s = put_after c.put_field-at.ensures (put_after c.put_field-at-2.ensures c.put_field-at-3.ensures) in
    omega (arith, s.ends, s.fits, put_length s)

pub returns : goal.returns
returns c = put_as (joined (places_given c.args.places)) (put_after c.put_field-at.ensures (put_after c.put_field-at-2.ensures (put_after c.put_field-at-3.ensures c.put_field.ensures)))
