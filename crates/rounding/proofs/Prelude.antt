-- The words of cutting and rounding, and the laws of them that most proofs lean on, under one module.
pub use Rattle.theory.specs.declared.Direction.{Direction}
pub use Rattle.theory.specs.declared.Location.{Location}
pub use Rattle.theory.specs.declared.Location.TheVariants.{Exact, Below, Half, Above}
pub use Rattle.theory.specs.Place.{Positional}
unfoldable pub use Rattle.theory.specs.Place.{place, step}
pub use Rattle.theory.specs.Wide.{Canonical}
pub use Rattle.theory.specs.Signed.{signed}
pub use Rattle.theory.proofs.Powers.{pow-add, pow_pos, pow_pred, pow_mono, pow_half, pow_lt, pow_le_cancel}
pub use Rattle.theory.proofs.Place.{place_le, place_fits}
pub use Rattle.format.specs.declared.Scale.{Scale}
pub use Rattle.format.specs.Formats.{ScaledWithin, Scaled, greatest_power}
pub use Rattle.rounding.specs.Digits.{Digits, Unit}
unfoldable pub use Rattle.rounding.specs.Location.{located}
pub use Rattle.rounding.specs.Location.{mark_of}
unfoldable pub use Rattle.rounding.specs.Cut.{cut_of, dropped}
pub use Rattle.rounding.specs.Cut.{Rounds}
pub use Rattle.rounding.proofs.Scales.{positional, power_at, power_next, power_one, power_most, power_beyond, unit_next, unit_bound, unit_most, unit_pos, unit_two, count_le, count_room, bound_pos, least_bound, least_unit, bound_unit, square, quotient_within, share_steps, share_rest, less_taken, less_left}
pub use Rattle.rounding.proofs.Widths.{digits_most, product_high, high_below}
pub use Rattle.rounding.proofs.Locations.{located_exact, located_below, located_half, located_above, located_scaled}
pub use Rattle.rounding.proofs.Places.{extend_small, cut_is, cut_drop, cut_lowest, dropped_made, dropped_under, twice_steps, twice_rest}
