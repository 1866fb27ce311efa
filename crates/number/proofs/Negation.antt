-- Negation turns the sign, of zero and of the value, negating twice gives the number back, and the magnitude has the value without its sign.
use Rattle.theory.proofs.Prelude.{ℕ, ◌≤◌, true, false, Bool, not, ◌∙◌, ◌≡◌, sym, refl, ap₂, pos, neg_ℤ}
use Rattle.theory.specs.Wide.{Wide}
use Rattle.theory.proofs.Integers.{negate_signed}
use Rattle.number.proofs.Prelude.{Format, Given, gives, Admitted, magnitude, value, greatest, number, Member, member_made, one_checked}
use Rattle.number.specs.declared.Number.{Number}
use Rattle.number.specs.Signs.{negated, unsigned, GivesNumber}
use Rattle.number.proofs.Values.{member_wide, member_greatest, number_magnitude, number_value, number_member, number_of}

-- an answer that is the number with this sign and this magnitude
pub gives_number : {f : Format} {answer : Given Number} {n : ℕ} → Admitted f → (negative : Bool) → answer ≡ gives (number f negative n)
    → Wide f.base f.digits n → n ≤ greatest f → GivesNumber f answer negative n
unfolding number
gives_number {f} {answer} {n} a negative e w h =
    record {
      given = number f negative n;
      is = e;
      number = member_made _ a (number_member a w negative h);
      sign = refl;
      size = number_magnitude a w negative;
    }

module _ {f : Format} {x : Number} (a : Admitted f) (i : Member f x) where
  -- negate gives the other sign and magnitude gives plus, at zero too; the magnitude stays
  pub negate_gives : GivesNumber f (negated f x) (not x.negative) (magnitude f x)
  negate_gives = gives_number a (not x.negative) (one_checked a i) (member_wide a i) (member_greatest a i)

  pub magnitude_gives : GivesNumber f (unsigned f x) false (magnitude f x)
  magnitude_gives = gives_number a false (one_checked a i) (member_wide a i) (member_greatest a i)

  -- x with any sign is in the format
  pub signed_member : (negative : Bool) → Member f (number f negative (magnitude f x))
  signed_member negative = number_member a (member_wide a i) negative (member_greatest a i)

  pub negated_value : value f (number f (not x.negative) (magnitude f x)) ≡ neg_ℤ (value f x)
  unfolding value
  negated_value = number_value a (member_wide a i) (not x.negative) ∙ sym (negate_signed x.negative (magnitude f x))

  pub unsigned_value : value f (number f false (magnitude f x)) ≡ pos (magnitude f x)
  unsigned_value = number_value a (member_wide a i) false

-- negating twice gives the number back
pub negated_twice : {f : Format} {x : Number} → Admitted f → Member f x
    → let y : Number = number f (not x.negative) (magnitude f x) in number f (not y.negative) (magnitude f y) ≡ x
unfolding number
negated_twice {f} {x} a i =
    ap₂ (number f) (not_not x.negative) (number_magnitude a (member_wide a i) (not x.negative)) ∙ number_of a i x.negative
  where
    not_not : (b : Bool) → not (not b) ≡ b
    not_not true = refl
    not_not false = refl
