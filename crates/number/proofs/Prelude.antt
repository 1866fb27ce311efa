-- The words of formats and numbers, and the laws of them that most proofs lean on, under one module.
pub use Rattle.format.specs.declared.Format.{Format}
pub use Rattle.format.specs.declared.Prepared.{Prepared}
pub use Rattle.format.specs.Given.{Given, gives, refused, ◌then◌, given}
pub use Rattle.format.specs.Formats.{highest_place}
unfoldable pub use Rattle.format.specs.Formats.{admitted}
pub use Rattle.format.proofs.Signed.{back, apart}
pub use Rattle.format.proofs.Formats.{Admitted, admits, positional}
pub use Rattle.number.specs.Exponents.{above_zero, below_zero}
unfoldable pub use Rattle.number.specs.Numbers.{equal_z, place_of, member, magnitude, value, greatest, number, delivered}
unfoldable pub use Rattle.number.specs.Checks.{checked, entered, directed}
pub use Rattle.number.specs.Checks.{Usable, Operand, Operands}
pub use Rattle.number.proofs.Membership.{Member, members, member_made, known, equal_true, equal_made}
pub use Rattle.number.proofs.Values.{emin_admitted, highest_most, member_canonical, member_highest, member_greatest, number_of}
pub use Rattle.number.proofs.CheckLaws.{one_checked, passed, operand, operands, goes_on, answered, ends, stops, directed_enters, directed_stops, directed_answers}
