-- The greatest and the least in words: values of the list that no value of it passes.
use Rattle.theory.proofs.Prelude.{ℕ, ◌≤◌, ◌<◌, suc, zero, true, false, Bool, cond, [], ◌∷◌, List, ◌≡◌, refl, arith, ℤ, pos, length, get_or, lt_z}
use Rattle.format.proofs.Signed.{Upto, lt_true, lt_false}
use Rattle.receivers.specs.Stretches.{greater, lesser, greatest_from, least_from, greatest_of, least_of}

-- g stands in the list, and is an end of it in an order
pub record Extreme (order : ℤ → ℤ → Type 0) (vs : List ℤ) (g : ℤ) : Type 0 where
  pub place : ℕ
  pub inside : place < length vs
  pub is : get_or vs place (pos 0) ≡ g
  pub most : (k : ℕ) → k < length vs → order (get_or vs k (pos 0)) g

abbrev pub Downto : ℤ → ℤ → Type 0
Downto v w = Upto w v

module _ (order : ℤ → ℤ → Type 0) (m v : ℤ) (vs : List ℤ) (g : ℤ) where
  -- v goes past m, and takes its place
  past : order m g → Extreme order (v ∷ vs) g → Extreme order (m ∷ v ∷ vs) g
  past o e = record { place = suc e.place; inside = omega (arith, e.inside); is = e.is; most = most }
    where
      most : (k : ℕ) → k < length (m ∷ v ∷ vs) → order (get_or (m ∷ v ∷ vs) k (pos 0)) g
      most zero l = o
      most (suc k) l = e.most k (omega arith)

  -- v does not go past m
  kept : order v g → Extreme order (m ∷ vs) g → Extreme order (m ∷ v ∷ vs) g
  kept o e = by e.place e.inside e.is
    where
      most : (k : ℕ) → k < length (m ∷ v ∷ vs) → order (get_or (m ∷ v ∷ vs) k (pos 0)) g
      most zero l = e.most 0 (omega arith)
      most (suc zero) l = o
      most (suc (suc k)) l = e.most (suc k) (omega arith)

      by : (p : ℕ) → p < length (m ∷ vs) → get_or (m ∷ vs) p (pos 0) ≡ g → Extreme order (m ∷ v ∷ vs) g
      by zero l i = record { place = 0; inside = omega arith; is = i; most = most }
      by (suc p) l i = record { place = suc (suc p); inside = omega arith; is = i; most = most }

alone : (order : ℤ → ℤ → Type 0) (m : ℤ) → order m m → Extreme order (m ∷ []) m
alone order m o = record { place = 0; inside = omega arith; is = refl; most = most }
  where
    most : (k : ℕ) → k < length (m ∷ []) → order (get_or (m ∷ []) k (pos 0)) m
    most zero l = o
    most (suc k) l = absurd (omega arith)

-- ---- the greatest
greatest_step : (m v : ℤ) (vs : List ℤ) (t : Bool) → lt_z m v ≡ t → (g : ℤ) → Extreme Upto (cond t v m ∷ vs) g → Extreme Upto (m ∷ v ∷ vs) g
greatest_step m v vs true h g e = past Upto m v vs g (omega (arith, lt_true m v h, e.most 0 (omega arith))) e
greatest_step m v vs false h g e = kept Upto m v vs g (omega (arith, lt_false m v h, e.most 0 (omega arith))) e

greatest_from_law : (m : ℤ) (vs : List ℤ) → Extreme Upto (m ∷ vs) (greatest_from m vs)
unfolding greatest_from
greatest_from_law m [] = alone Upto m (omega arith)
greatest_from_law m (v ∷ vs) = greatest_step m v vs (lt_z m v) refl (greatest_from (greater m v) vs) (greatest_from_law (greater m v) vs)

pub greatest_is : (vs : List ℤ) → 1 ≤ length vs → Extreme Upto vs (greatest_of vs)
unfolding greatest_of
greatest_is [] h = absurd (omega arith)
greatest_is (v ∷ vs) h = greatest_from_law v vs

-- ---- the least
least_step : (m v : ℤ) (vs : List ℤ) (t : Bool) → lt_z v m ≡ t → (g : ℤ) → Extreme Downto (cond t v m ∷ vs) g → Extreme Downto (m ∷ v ∷ vs) g
least_step m v vs true h g e = past Downto m v vs g (omega (arith, lt_true v m h, e.most 0 (omega arith))) e
least_step m v vs false h g e = kept Downto m v vs g (omega (arith, lt_false v m h, e.most 0 (omega arith))) e

least_from_law : (m : ℤ) (vs : List ℤ) → Extreme Downto (m ∷ vs) (least_from m vs)
unfolding least_from
least_from_law m [] = alone Downto m (omega arith)
least_from_law m (v ∷ vs) = least_step m v vs (lt_z v m) refl (least_from (lesser m v) vs) (least_from_law (lesser m v) vs)

pub least_is : (vs : List ℤ) → 1 ≤ length vs → Extreme Downto vs (least_of vs)
unfolding least_of
least_is [] h = absurd (omega arith)
least_is (v ∷ vs) h = least_from_law v vs
