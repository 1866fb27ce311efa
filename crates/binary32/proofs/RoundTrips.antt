-- The round trips of binary_patterns at 8 and 23 bits: what is read is in format 2, every finite pattern comes back when it is read and
-- written, and every number of format 2 when it is written and read.
use Rattle.theory.proofs.Prelude.{ℕ, ◌<◌, ◌^◌, true, false, ◌≡◌, refl, arith}
use Rattle.theory.specs.Tests.{unless}
use Rattle.theory.specs.Signed.{signed}
use Rattle.format.specs.Given.{gives, refused}
use Rattle.format.specs.Published.{binary32}
use Rattle.number.specs.declared.Number.{Number}
use Rattle.number.specs.Numbers.{member, magnitude, value, number}
use Rattle.number.proofs.Membership.{Member}
use Rattle.binary_patterns.proofs.RoundTrips as trips
use Rattle.binary32.specs.Patterns.{sign_of, field_of, finite, magnitude_read, number_read, pattern_read, pattern_of, pattern_written}
use Rattle.binary32.proofs.Fields.{widths}

-- ---- what is read
-- the pattern n is finite, and x is its number
pub record Reads (n : ℕ) (x : Number) : Type 0 where
  pub finite : finite n ≡ true
  pub is : x ≡ number_read n

pub reads : (n : ℕ) {x : Number} → pattern_read n ≡ gives x → Reads n x
unfolding pattern_read finite number_read
reads n h = let r = trips.reads 8 23 n h in record { finite = r.finite; is = r.is }

pub read_made : (n : ℕ) → finite n ≡ true → pattern_read n ≡ gives (number_read n)
unfolding pattern_read finite number_read
read_made n h = trips.read_made 8 23 n h

-- reading refuses exactly the patterns whose field is all ones, by 9
pub read_refused : (n : ℕ) → field_of n ≡ 255 → pattern_read n ≡ refused 9
unfolding pattern_read
read_refused n e = trips.read_refused 8 23 n e

pub refused_endless : (n : ℕ) {k : ℕ} → pattern_read n ≡ refused k → (k ≡ 9) × (field_of n ≡ 255)
unfolding pattern_read
refused_endless n h = trips.refused_endless 8 23 n h

pub read_inside : {n : ℕ} {x : Number} → Reads n x → Member binary32 x
unfolding finite number_read
read_inside {n} r = trips.read_inside widths n (record { finite = r.finite; is = r.is })

-- what is read is in format 2, and has the value that its parts say
module _ (n : ℕ) {x : Number} (h : pattern_read n ≡ gives x) where
  pub read_member : member binary32 x ≡ true
  unfolding pattern_read
  read_member = trips.read_member widths n h

  pub read_value : value binary32 x ≡ signed (sign_of n) (magnitude_read n)
  unfolding pattern_read magnitude_read
  read_value = trips.read_value widths n h

  pub read_magnitude : magnitude binary32 x ≡ magnitude_read n
  unfolding pattern_read magnitude_read
  read_magnitude = trips.read_magnitude widths n h

  pub read_sign : x.negative ≡ sign_of n
  unfolding pattern_read
  read_sign = trips.read_sign widths n h

pub pattern_member : (n : ℕ) → finite n ≡ true → {x : Number} → x ≡ number_read n → member binary32 x ≡ true
pattern_member n h e = rw e (read_member n (read_made n h))

-- ---- what is written has 32 bits, and a number that is not in format 2 is refused by 3
pub written_made : (x : Number) → member binary32 x ≡ true → pattern_written x ≡ gives (pattern_of x)
unfolding pattern_written pattern_of
written_made x h = trips.written_made widths x h

pub pattern_less : (x : Number) → Member binary32 x → pattern_of x < 2 ^ 32
unfolding pattern_of
pattern_less x i = trips.pattern_less widths x i

pub written_refused : (x : Number) → member binary32 x ≡ false → pattern_written x ≡ refused 3
unfolding pattern_written
written_refused x h = trips.written_refused widths x h

pub refused_outside : (x : Number) {k : ℕ} → pattern_written x ≡ refused k → (k ≡ 3) × (member binary32 x ≡ false)
unfolding pattern_written
refused_outside x h = trips.refused_outside widths x h

-- ---- every finite pattern comes back
pub pattern_back : (n : ℕ) → n < 2 ^ 32 → pattern_of (number_read n) ≡ n
unfolding pattern_of number_read
pattern_back n h = trips.pattern_back widths n h

pub read_written : (n : ℕ) → n < 2 ^ 32 → {x : Number} → pattern_read n ≡ gives x → pattern_written x ≡ gives n
unfolding pattern_read pattern_written
read_written n h r = trips.read_written widths n h r

-- ---- every number of format 2 comes back
pub written_read : (x : Number) → member binary32 x ≡ true → pattern_read (pattern_of x) ≡ gives x
unfolding pattern_read pattern_of
written_read x h = trips.written_read widths x h

-- ---- zero: 80000000 reads as minus zero, and comes back
pub minus_zero_read : pattern_read (2 ^ 31) ≡ gives (number binary32 true 0)
unfolding pattern_read finite number_read number magnitude_read unless
minus_zero_read = refl

pub zero_written : pattern_written (number_read 0) ≡ gives 0
unfolding finite
zero_written = read_written 0 (omega arith) (read_made 0 refl)

pub minus_zero_written : pattern_written (number binary32 true 0) ≡ gives (2 ^ 31)
minus_zero_written = read_written (2 ^ 31) (omega arith) minus_zero_read
