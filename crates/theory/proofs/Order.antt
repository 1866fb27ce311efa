-- Tests of order on integers: what a test that passed or failed says, as a fact on natural numbers that `omega` reads, and how it is
-- made. The order of signed magnitudes is that of their ranks, and of a key.
use Rattle.theory.proofs.Prelude.{ℕ, ◌≤◌, ◌<◌, ◌+◌, ◌-◌, suc, true, false, Bool, cond, ◌∙◌, ◌≡◌, sym, refl, subst, le_of_suc-le-suc, lt_of_not-le, arith, T, ltb, ℤ, pos, neg_ℤ, lt_z, le_z, le-ltb, lt-ltb}
use lib.Signed.{le_z_yes, lt_z_yes}
use Rattle.theory.specs.Signed.{signed}
use Rattle.theory.proofs.Tests.{never, refuted}
use Rattle.theory.proofs.Integers.{above, below, neg_above, neg_below, le_parts, parts_le, lt_parts, parts_lt}

-- a is at most b, and less than b
abbrev pub Upto : ℤ → ℤ → Type 0
Upto a b = above a + below b ≤ above b + below a

abbrev pub Under : ℤ → ℤ → Type 0
Under a b = above a + below b < above b + below a

holds : (t : Bool) → T t → t ≡ true
holds true h = refl
holds false h = elim h [ ]

pub le_true : (a b : ℤ) → le_z a b ≡ true → Upto a b
le_true a b h = le_parts (le_z_yes {a = a} {b = b} (subst T (sym h) tt))

pub lt_true : (a b : ℤ) → lt_z a b ≡ true → Under a b
lt_true a b h = lt_parts (lt_z_yes {a = a} {b = b} (subst T (sym h) tt))

pub make_le : (a b : ℤ) → Upto a b → le_z a b ≡ true
make_le a b h = holds (le_z a b) (parts_le a b h).le

pub make_lt : (a b : ℤ) → Under a b → lt_z a b ≡ true
make_lt a b h = holds (lt_z a b) (parts_lt a b h).lt

pub le_false : (a b : ℤ) → le_z a b ≡ false → Under b a
le_false a b h = lt_of_not-le (λ (l : above a + below b ≤ above b + below a). never (sym (make_le a b l) ∙ h))

pub lt_false : (a b : ℤ) → lt_z a b ≡ false → Upto b a
lt_false a b h = le_of_suc-le-suc (lt_of_not-le (λ (l : suc (above a + below b) ≤ above b + below a). never (sym (make_lt a b l) ∙ h)))

pub make_ge : (a b : ℤ) → Upto b a → lt_z a b ≡ false
make_ge a b h = sym (refuted (λ t. omega (arith, lt_true a b t)))

-- ---- signed magnitudes
-- the magnitudes m' and n' are in the order of m and n
pub record Ordered (m n m' n' : ℕ) : Type 0 where
  pub less : m < n → m' < n'
  pub most : m ≤ n → m' ≤ n'
  pub more : n < m → n' < m'
  pub least : n ≤ m → n' ≤ m'
  pub none : m + n ≤ 0 → m' + n' ≤ 0
  pub some : 0 < m + n → 0 < m' + n'

minus : (n : ℕ) → (above (neg_ℤ (pos n)) ≡ 0) × (below (neg_ℤ (pos n)) ≡ n)
minus n = (neg_above (pos n), neg_below (pos n))

module _ {m n m' n' : ℕ} (o : Ordered m n m' n') where
  signed_under : (s t : Bool) → Under (signed s m) (signed t n) → Under (signed s m') (signed t n')
  signed_under false false h = omega (arith, o.less (omega arith))
  signed_under false true h = absurd (omega (arith, minus n))
  signed_under true false h = omega (arith, minus m', o.some (omega (arith, minus m)))
  signed_under true true h = omega (arith, minus m', minus n', o.more (omega (arith, minus m, minus n)))

  signed_upto : (s t : Bool) → Upto (signed t n) (signed s m) → Upto (signed t n') (signed s m')
  signed_upto false false h = omega (arith, o.least (omega arith))
  signed_upto false true h = omega (arith, minus n')
  signed_upto true false h = omega (arith, minus m', o.none (omega (arith, minus m)))
  signed_upto true true h = omega (arith, minus m', minus n', o.most (omega (arith, minus m, minus n)))

  pub signed_order : (s t : Bool) → lt_z (signed s m') (signed t n') ≡ lt_z (signed s m) (signed t n)
  signed_order s t = by (lt_z (signed s m) (signed t n)) refl
    where
      by : (c : Bool) → lt_z (signed s m) (signed t n) ≡ c → lt_z (signed s m') (signed t n') ≡ c
      by true e = make_lt (signed s m') (signed t n') (signed_under s t (lt_true (signed s m) (signed t n) e))
      by false e = make_ge (signed s m') (signed t n') (signed_upto s t (lt_false (signed s m) (signed t n) e))

-- a whole number that orders signed magnitudes up to K
abbrev pub key_from : (K : ℕ) (negative : Bool) (n : ℕ) → ℕ
key_from K negative n = cond negative (K - n) (K + n)

module _ (K : ℕ) where
  key_parts : (s : Bool) (n : ℕ) → n ≤ K → above (signed s n) + K ≡ key_from K s n + below (signed s n)
  key_parts false n h = omega arith
  key_parts true n h = omega (arith, minus n)

  pub key_order : (s t : Bool) {m n : ℕ} → m ≤ K → n ≤ K → ltb (key_from K s m) (key_from K t n) ≡ lt_z (signed s m) (signed t n)
  key_order s t {m} {n} h g = by (lt_z (signed s m) (signed t n)) refl
    where
      by : (c : Bool) → lt_z (signed s m) (signed t n) ≡ c → ltb (key_from K s m) (key_from K t n) ≡ c
      by true e = lt-ltb (key_from K s m) (key_from K t n) (omega (arith, lt_true (signed s m) (signed t n) e, key_parts s m h, key_parts t n g))
      by false e = le-ltb (key_from K s m) (key_from K t n) (omega (arith, lt_false (signed s m) (signed t n) e, key_parts s m h, key_parts t n g))
