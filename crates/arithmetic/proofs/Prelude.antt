-- The words of the operations, and the laws of them that most proofs lean on, under one module.
pub use Rattle.theory.specs.declared.Direction.{Direction}
unfoldable pub use Rattle.theory.proofs.Words.{◌and◌, unless, all, round_z}
pub use Rattle.theory.proofs.Words.{signed, is_negative}
pub use Rattle.theory.specs.Marks.{mark}
pub use Rattle.theory.proofs.Powers.{pow-add, pow_pos, pow_mono, pow_half}
pub use Rattle.theory.proofs.Wide.{wide_pow}
pub use Rattle.theory.proofs.Tests.{and_left, and_right, and_made, never, unless_passed, unless_failed}
pub use Rattle.theory.proofs.Integers.{above, below, sum_parts, diff_parts, size_parts, size_signed, own_sign, scale_signed, scale_above, scale_below}
unfoldable pub use Rattle.format.specs.Directions.{is_direction, direction}
pub use Rattle.format.specs.Given.{refused_at}
pub use Rattle.format.proofs.Signed.{Upto}
pub use Rattle.format.proofs.Formats.{admitted_made, exponents_made, distances}
pub use Rattle.format.proofs.GivenLaws.{gives_same, gives_not_refused}
pub use Rattle.number.specs.declared.Number.{Number}
unfoldable pub use Rattle.number.proofs.Prelude.{admitted, member, magnitude, value, greatest, number, delivered, checked, entered}
pub use Rattle.number.proofs.Prelude.{Format, Prepared, Given, gives, refused, highest_place, back, apart, Admitted, admits, positional, above_zero, below_zero, place_of, given, Usable, Operand, Operands, Member, members, member_made, known, emin_admitted, highest_most, member_canonical, member_highest, member_greatest, number_of}
pub use Rattle.number.specs.Checks.{Checks, not_admitted, no_direction, not_member, all_passed}
pub use Rattle.number.proofs.Values.{number_member, number_value, number_same, delivered_same}
pub use Rattle.number.proofs.CheckLaws.{checked_passed, checks_end}
pub use Rattle.number.proofs.Negation.{signed_member, negated_value}
pub use Rattle.rounding.specs.declared.Wide.{Wide}
pub use Rattle.rounding.specs.declared.Rounding.{Rounding}
unfoldable pub use Rattle.arithmetic.specs.Operations.{rounded, rounded_z, rounded_product, rounded_quotient, rounded_fraction}
pub use Rattle.arithmetic.specs.Operations.{rounded_sum, rounded_difference}
pub use Rattle.arithmetic.specs.declared.Rounded.{Rounded}
