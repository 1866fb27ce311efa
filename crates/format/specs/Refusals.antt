-- The papers' refusals and their numbers: 1 to 11 of document 01, the others of document 02.
use Rattle.std.specs.Prelude.{ℕ}
use Rattle.format.specs.declared.Refusal.{Refusal}
use Rattle.format.specs.declared.Refusal.TheVariants.{FormatNotAdmitted, NoSuchDirection, NumberNotInFormat, DivisorZero, TooLarge, NotBinary, SmallerFirst, PremiseFails, NotFinite, NoSuchFormat, LengthsDiffer, ListLength, ListDescends, OutTooShort, ListRepeats, QueriesDescend, StretchOutside, StripCount}

-- what is returned: the number in the table of refusals
abbrev pub refusal_number : Refusal → ℕ
refusal_number FormatNotAdmitted = 1
refusal_number NoSuchDirection = 2
refusal_number NumberNotInFormat = 3
refusal_number DivisorZero = 4
refusal_number TooLarge = 5
refusal_number NotBinary = 6
refusal_number SmallerFirst = 7
refusal_number PremiseFails = 8
refusal_number NotFinite = 9
refusal_number NoSuchFormat = 10
refusal_number LengthsDiffer = 11
refusal_number ListLength = 12
refusal_number ListDescends = 13
refusal_number OutTooShort = 14
refusal_number ListRepeats = 15
refusal_number QueriesDescend = 16
refusal_number StretchOutside = 17
refusal_number StripCount = 18
