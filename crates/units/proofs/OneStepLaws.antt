-- Within one step, in plain words: yes exactly where no number of the format lies strictly between the two, which is exactly where the
-- second has the value of the first, of its predecessor or of its successor. Which of the two comes first does not matter.
use Rattle.theory.proofs.Prelude.{true, false, Bool, [], ◌∷◌, ⊎_elim, inl, inr, ◌⊎◌, ◌∙◌, ap, ◌≡◌, sym, refl, ap₂, subst, arith, ℤ, nat_abs, lt_z, le_z, ◌<ℤ◌, ◌≤◌}
use Rattle.theory.proofs.Words.{◌and◌, all, unless, WideZ, successor}
use Rattle.theory.specs.Signed.{sign_or}
use Rattle.theory.proofs.Tests.{and_passed}
use Rattle.theory.proofs.Faithful.{successor_above}
use Rattle.theory.proofs.Order.{lt_true, lt_false, le_false}
use Rattle.theory.proofs.Integers.{above, below, lt_parts, parts_lt, le_parts, parts_eq, either_sign}
use Rattle.format.proofs.Formats.{admitted_made}
use Rattle.format.proofs.GivenLaws.{gives_same, gives_not_refused}
use Rattle.number.proofs.Prelude.{Format, gives, refused, admitted, Admitted, positional, member, value, greatest, number, checked, Member, members, member_made}
use Rattle.number.proofs.CheckLaws.{checked_passed, pair_made}
use Rattle.number.specs.declared.Number.{Number}
use Rattle.number.proofs.Values.{number_member, number_value}
use Rattle.units.specs.Neighbours.{GreatestNumberBelow, LeastNumberAbove, within_step, within_one_step, NothingBetween, SomeBetween, OneLine, same, next_below, next_above}
use Rattle.units.proofs.OneStep.{within_says, within_made, within_turned}
use Rattle.units.proofs.NeighbourLaws.{less, not_less, wide_value, between, predecessor_cases, successor_cases}

-- ---- it does not matter which comes first
pub within_symmetric : (f : Format) (a b : Number) → within_one_step f a b ≡ within_one_step f b a
unfolding within_one_step checked all ◌and◌
within_symmetric f a b =
    ap₂ (λ (t u : Bool). unless (admitted f) (refused 1) (unless true (refused 2) (unless t (refused 3) (gives u))))
    (both (member f a) (member f b)) (within_turned f.base f.digits (value f a) (value f b))
  where
    both : (s t : Bool) → s and t and true ≡ t and s and true
    both true true = refl
    both true false = refl
    both false true = refl
    both false false = refl

module _ {f : Format} (ok : Admitted f) {a b : Number} (i : Member f a) (j : Member f b) where
  answer : within_one_step f a b ≡ gives (within_step f.base f.digits (value f a) (value f b))
  unfolding within_one_step all
  answer = checked_passed f [] (a ∷ b ∷ []) _ (admitted_made ok) refl (pair_made f a b (member_made a ok i) (member_made b ok j))

  -- ---- yes exactly where no number lies strictly between
  pub yes_nothing_between : within_one_step f a b ≡ gives true → NothingBetween f a b
  yes_nothing_between h =
      let n = within_says (positional ok) (value f a) (value f b) (gives_same (sym answer ∙ h)) in
      record {
        upward = λ z m l r. n.upward (value f z) (wide_value ok (members z ok m)) l r;
        downward = λ z m l r. n.downward (value f z) (wide_value ok (members z ok m)) l r;
      }

  -- a value of the wide format up to the greatest is that of a number of the format
  record Written (u : ℤ) : Type 0 where
    written : Number
    inside : member f written ≡ true
    is : value f written ≡ u

  write : (u : ℤ) → WideZ f.base f.digits u → nat_abs u ≤ greatest f → Written u
  write u w h =
      record {
        written = number f (sign_or false u) (nat_abs u);
        inside = member_made _ ok (number_member ok w (sign_or false u) h);
        is = number_value ok w (sign_or false u) ∙ either_sign false u;
      }

  pub nothing_between_yes : NothingBetween f a b → within_one_step f a b ≡ gives true
  nothing_between_yes n =
      answer
      ∙ ap gives
      (within_made (positional ok) (value f a) (value f b)
      (record {
        upward = λ u w l r.
            let z = write u w (between ok u i j (less l) (less r)) in
            n.upward z.written z.inside (subst (λ (v : ℤ). value f a <ℤ v) (sym z.is) l) (subst (λ (v : ℤ). v <ℤ value f b) (sym z.is) r);
        downward = λ u w l r.
            let z = write u w (between ok u j i (less l) (less r)) in
            n.downward z.written z.inside (subst (λ (v : ℤ). value f b <ℤ v) (sym z.is) l) (subst (λ (v : ℤ). v <ℤ value f a) (sym z.is) r);
      }))

  -- and no exactly where one does
  pub no_something_between : within_one_step f a b ≡ gives false → SomeBetween f a b ⊎ SomeBetween f b a
  unfolding within_step
  no_something_between h = by (le_z (value f b) (successor f.base f.digits (value f a))) refl (gives_same (sym answer ∙ h))
    where
      found : {a b : Number} → Member f a → Member f b → le_z (value f b) (successor f.base f.digits (value f a)) ≡ false → SomeBetween f a b
      found {a} {b} i j e =
          let s = successor_above (positional ok) (value f a) in
          let l : successor f.base f.digits (value f a) <ℤ value f b = parts_lt _ _ (le_false (value f b) (successor f.base f.digits (value f a)) e) in
          let z = write (successor f.base f.digits (value f a)) s.number (between ok (successor f.base f.digits (value f a)) i j (less s.above) (less l)) in
          record {
            number = z.written;
            inside = z.inside;
            above = subst (λ (v : ℤ). value f a <ℤ v) (sym z.is) s.above;
            below = subst (λ (v : ℤ). v <ℤ value f b) (sym z.is) l;
          }

      by : (t : Bool) → le_z (value f b) (successor f.base f.digits (value f a)) ≡ t → t and le_z (value f a) (successor f.base f.digits (value f b)) ≡ false → SomeBetween f a b ⊎ SomeBetween f b a
      by false e g = inl (found i j e)
      by true e g = inr (found j i (sym (and_passed _ refl) ∙ g))

  -- ---- and exactly where b has the value of a or of a neighbour of a
  pub yes_one_line : within_one_step f a b ≡ gives true → OneLine f a b
  yes_one_line h = by (lt_z (value f a) (value f b)) refl (lt_z (value f b) (value f a)) refl
    where
      none : NothingBetween f a b
      none = yes_nothing_between h

      by : (s : Bool) → lt_z (value f a) (value f b) ≡ s → (t : Bool) → lt_z (value f b) (value f a) ≡ t → OneLine f a b
      by true e t g =
          ⊎_elim
          (λ c. next_above c.1
          (parts_eq (value f b) (value f c.0)
          (omega
          (arith, le_parts (c.2.least b (member_made b ok j) (parts_lt (value f a) (value f b) (lt_true (value f a) (value f b) e))), le_parts (not_less {v = value f c.0} {w = value f b} (none.upward c.0 c.2.number c.2.above))))))
          (λ c. absurd (omega (arith, lt_true (value f a) (value f b) e, le_parts (c.1 b j))))
          (successor_cases ok i)
      by false e true g =
          ⊎_elim
          (λ c. next_below c.1
          (parts_eq (value f b) (value f c.0)
          (omega
          (arith, le_parts (c.2.greatest b (member_made b ok j) (parts_lt (value f b) (value f a) (lt_true (value f b) (value f a) g))), le_parts (not_less {v = value f b} {w = value f c.0} (λ l. none.downward c.0 c.2.number l c.2.below))))))
          (λ c. absurd (omega (arith, lt_true (value f b) (value f a) g, le_parts (c.1 b j))))
          (predecessor_cases ok i)
      by false e false g = same (parts_eq (value f b) (value f a) (omega (arith, lt_false (value f a) (value f b) e, lt_false (value f b) (value f a) g)))

  pub one_line_yes : OneLine f a b → within_one_step f a b ≡ gives true
  one_line_yes (same e) =
      nothing_between_yes
      (record {
        upward = λ z m l r. omega (arith, lt_parts l, lt_parts r, ap above e, ap below e);
        downward = λ z m l r. omega (arith, lt_parts l, lt_parts r, ap above e, ap below e);
      })
  one_line_yes (next_below {y} p e) =
      let g : GreatestNumberBelow f a y = ⊎_elim (λ c. subst (GreatestNumberBelow f a) (gives_same (sym c.1 ∙ p)) c.2) (λ c. absurd (gives_not_refused (sym p ∙ c.0))) (predecessor_cases ok i) in
      nothing_between_yes
      (record {
        upward = λ z m l r. omega (arith, lt_parts l, lt_parts r, lt_parts g.below, ap above e, ap below e);
        downward = λ z m l r. omega (arith, lt_parts l, le_parts (g.greatest z m r), ap above e, ap below e);
      })
  one_line_yes (next_above {y} p e) =
      let g : LeastNumberAbove f a y = ⊎_elim (λ c. subst (LeastNumberAbove f a) (gives_same (sym c.1 ∙ p)) c.2) (λ c. absurd (gives_not_refused (sym p ∙ c.0))) (successor_cases ok i) in
      nothing_between_yes
      (record {
        upward = λ z m l r. omega (arith, lt_parts r, le_parts (g.least z m l), ap above e, ap below e);
        downward = λ z m l r. omega (arith, lt_parts l, lt_parts r, lt_parts g.above, ap above e, ap below e);
      })
