-- The answers in the request's words: the ends of a call, each with its condition; the entries of a stretch; and no influence of the
-- patterns outside it.
use Rattle.theory.proofs.Prelude.{ℕ, ◌≤◌, ◌<◌, ◌+◌, ◌-◌, true, false, Bool, cond, List, inl, inr, ◌⊎◌, ◌∙◌, ap, ◌≡◌, sym, refl, subst, dec_le, arith, eqb, ℤ, pos, length, get_or, drop, length-drop, le_z, ◌≤ℤ◌, eq-eqb, le-leb, leb-false, eqb-true}
use Prim.Native.Nat.{min}
use lib.ListN.{length-take}
use lib.Seq.{get_or-take, get_or-drop, ext_get_or}
use Rattle.theory.specs.Tests.{◌and◌, unless}
use Rattle.theory.specs.Lists.{first_where, none}
use Rattle.theory.proofs.Tests.{never}
use Rattle.theory.proofs.Lists.{first_before, first_passes}
use Rattle.std.specs.Prelude.{Result, Ok, Err}
use Rattle.format.specs.declared.ListRefusal.{ListRefusal}
use Rattle.format.specs.declared.ListRefusal.TheVariants.{Whole, Entry}
use Rattle.format.specs.Given.{Given, gives, refused, refused_at, given_at, ◌then◌}
use Rattle.theory.proofs.Integers.{parts_le, parts_lt}
use Rattle.format.proofs.Signed.{le_true, le_false}
use Rattle.binary32.specs.Patterns.{finite, not_finite, pattern_value, pattern_values}
use Rattle.binary32.proofs.PatternValues.{finite_made, finite_fails, all_finite, value_at, values_length}
use Rattle.receivers.specs.declared.Log.{Log}
use Rattle.receivers.specs.declared.Log.TheVariants.{First, Second}
use Rattle.receivers.specs.Answers.{calmer_given}
use Rattle.receivers.specs.Stretches.{greatest_of, least_of, spread, calm_as, stretch, not_refused, ends_within, finite_within, calmer_refusal, calmer_log, stretch_of, calmer_stretch}
use Rattle.receivers.specs.Outcomes.{Within, FiniteFrom, FirstNotFinite, AtLeast, ExtremeWithin, spread_within, Spread, Ends, lengths_differ, outside, first_not_finite, second_not_finite, first_calmer, second_calmer, SameWithin}
use Rattle.receivers.proofs.ExtremeLaws.{Extreme, greatest_is, least_is}
use Rattle.receivers.proofs.Refusals.{ends, stretch_length, not_refused_law, not_refused_at}

-- ---- what a caller has of an answer
pub check_passed : (r : Result Unit ListRefusal) → given_at r ≡ not_refused → r ≡ Ok tt
check_passed (Ok tt) h = refl
check_passed (Err (Whole why)) h = absurd (not_refused_law (sym h))
check_passed (Err (Entry why index)) h = absurd (not_refused_at (sym h))

pub first_named : (r : Result Log ListRefusal) → calmer_given r ≡ gives 1 → r ≡ Ok First
first_named (Ok First) h = refl
first_named (Ok Second) h = absurd (let z : ◌≡◌ {A = ℕ} 2 1 = cc in omega arith)
first_named (Err (Whole why)) h = absurd (not_refused_law (sym h))
first_named (Err (Entry why index)) h = absurd (not_refused_at (sym h))

pub second_named : (r : Result Log ListRefusal) → calmer_given r ≡ gives 2 → r ≡ Ok Second
second_named (Ok First) h = absurd (let z : ◌≡◌ {A = ℕ} 1 2 = cc in omega arith)
second_named (Ok Second) h = refl
second_named (Err (Whole why)) h = absurd (not_refused_law (sym h))
second_named (Err (Entry why index)) h = absurd (not_refused_at (sym h))

-- ---- the entries of a stretch
-- entry i of the stretch is entry start + i of the log
pub entry_is : (log : List ℕ) (start n i : ℕ) → i < n → get_or (stretch log start n) i 0 ≡ get_or log (start + i) 0
entry_is log start n i h = get_or-take n (drop start log) i 0 h ∙ get_or-drop start log i 0

module _ (log : List ℕ) (start n : ℕ) (m : start + n ≤ length log) where
  abbrev part : List ℕ
  part = stretch log start n

  -- an index of the log as a position of the stretch
  at : (k : ℕ) → start ≤ k → k < start + n → get_or part (k - start) 0 ≡ get_or log k 0
  at k l h =
      let back : start + (k - start) ≡ k = omega arith in
      entry_is log start n (k - start) (omega arith) ∙ ap (λ (i : ℕ). get_or log i 0) back

  value_is : (i : ℕ) → i < n → get_or (pattern_values part) i (pos 0) ≡ pattern_value (get_or log (start + i) 0)
  value_is i h = value_at part i ∙ ap pattern_value (entry_is log start n i h)

  long : length (pattern_values part) ≡ n
  long = values_length part ∙ stretch_length log start n m

  extreme : {parts : ℤ → ℤ → Type 0} (order : ℤ → ℤ → Type 0) → ((v w : ℤ) → parts v w → order v w) → {v : ℤ} → Extreme parts (pattern_values part) v
      → ExtremeWithin order log start n v
  extreme order made {v} e =
      let few : e.place < n = omega (arith, long, e.inside) in
      record {
        index = start + e.place;
        from = omega arith;
        within = omega arith;
        is = sym (value_is e.place few) ∙ e.is;
        most =
            λ k l h. let back : start + (k - start) ≡ k = omega arith in
            subst (λ (i : ℕ). order (pattern_value (get_or log i 0)) v) back
            (subst (λ (w : ℤ). order w v) (value_is (k - start) (omega arith)) (made _ v (e.most (k - start) (omega (arith, long)))));
      }

  pub spread_is : 1 ≤ n → Spread log start n
  unfolding spread
  spread_is h =
      record {
        high = greatest_of (pattern_values part);
        high_greatest = extreme ◌≤ℤ◌ parts_le (greatest_is (pattern_values part) (omega (arith, long)));
        low = least_of (pattern_values part);
        low_least = extreme AtLeast (λ v w. parts_le w v) (least_is (pattern_values part) (omega (arith, long)));
        difference = refl;
      }

  all_are : none not_finite part ≡ true → FiniteFrom log start (start + n)
  all_are h k l b = ap finite (sym (at k l b)) ∙ all_finite part h (k - start) (omega (arith, stretch_length log start n m))

  first_is_not : none not_finite part ≡ false → FirstNotFinite log start n (start + first_where not_finite part)
  unfolding none
  first_is_not h =
      let inside : first_where not_finite part < length part = leb-false (length part) (first_where not_finite part) h in
      let few : first_where not_finite part < n = omega (arith, stretch_length log start n m) in
      record {
        from = omega arith;
        within = omega arith;
        fails = ap finite (sym (entry_is log start n (first_where not_finite part) few)) ∙ finite_fails _ (first_passes not_finite 0 part inside);
        earlier =
            λ k l b. ap finite (sym (at k l (omega arith)))
            ∙ finite_made _ (first_before not_finite 0 part (k - start) (omega arith));
      }

-- where the test fails, one of its two conditions does
fails : (log : List ℕ) (start n : ℕ) → ends_within log start n ≡ false → (n ≡ 0) ⊎ (length log < start + n)
unfolding ends_within ◌and◌
fails log start n h = by (dec_le 1 n)
  where
    by : Dec (1 ≤ n) → (n ≡ 0) ⊎ (length log < start + n)
    by (no l) = inl (omega arith)
    by (yes l) = inr (leb-false (start + n) (length log) (sym (rw (le-leb 1 n l, ◌and◌)) ∙ h))

pub calls_end : (first second : List ℕ) (start n : ℕ)
    → Ends first second start n (calmer_refusal first second start n) (calmer_log first second start n) (calmer_stretch first second start n)
unfolding calmer_stretch calmer_log calmer_refusal finite_within calm_as unless
calls_end first second start n = by_lengths (eqb (length first) (length second)) refl
  where
    c : Bool
    c = le_z (spread_within first start n) (spread_within second start n)

    -- what the three calls answer where calmer_refusal gives g
    EndsBy : Given Unit → Type 0
    EndsBy g =
        Ends first second start n g (g then λ _. gives (cond c 1 2)) (stretch_of (g then λ _. gives (cond c 1 2)) (stretch first start n) (stretch second start n))

    by_spread : Within first second start n → FiniteFrom first start (start + n) → FiniteFrom second start (start + n) → (t : Bool) → c ≡ t
        → Ends first second start n not_refused (gives (cond t 1 2)) (stretch_of (gives (cond t 1 2)) (stretch first start n) (stretch second start n))
    by_spread w f g true e = first_calmer w f g (parts_le (spread_within first start n) (spread_within second start n) (le_true (spread_within first start n) (spread_within second start n) e))
    by_spread w f g false e = second_calmer w f g (parts_lt (spread_within second start n) (spread_within first start n) (le_false (spread_within first start n) (spread_within second start n) e))

    by_second : Within first second start n → FiniteFrom first start (start + n) → (t : Bool) → none not_finite (stretch second start n) ≡ t
        → EndsBy (unless t (refused_at 9 (start + first_where not_finite (stretch second start n))) not_refused)
    by_second w f true e = by_spread w f (all_are second start n (omega (arith, w.same, w.most)) e) c refl
    by_second w f false e = second_not_finite w f _ (first_is_not second start n (omega (arith, w.same, w.most)) e)

    by_first : Within first second start n → (t : Bool) → none not_finite (stretch first start n) ≡ t
        → EndsBy (unless t (refused_at 9 (start + first_where not_finite (stretch first start n))) not_refused then λ _. finite_within second start n)
    by_first w true e = by_second w (all_are first start n w.most e) (none not_finite (stretch second start n)) refl
    by_first w false e = first_not_finite w _ (first_is_not first start n w.most e)

    by_end : length first ≡ length second → (t : Bool) → ends_within first start n ≡ t
        → EndsBy (unless t (refused 17) (finite_within first start n then λ _. finite_within second start n))
    by_end e true h = by_first (record { same = e; some = (ends first start n h).0; most = (ends first start n h).1 }) (none not_finite (stretch first start n)) refl
    by_end e false h = outside e (fails first start n h)

    by_lengths : (t : Bool) → eqb (length first) (length second) ≡ t
        → EndsBy (unless t (refused 11) (unless (ends_within first start n) (refused 17) (finite_within first start n then λ _. finite_within second start n)))
    by_lengths true h = by_end (eqb-true _ _ h) (ends_within first start n) refl
    by_lengths false h = lengths_differ (λ e. never (sym (eq-eqb _ _ e) ∙ h))

-- ---- patterns outside the stretch have no influence
module _ (start n : ℕ) where
  length_is : (log : List ℕ) → length (stretch log start n) ≡ min n (length log - start)
  length_is log = length-take n (drop start log) ∙ ap (min n) (length-drop start log)

  pub same_stretch : {log log' : List ℕ} → SameWithin start n log log' → stretch log start n ≡ stretch log' start n
  same_stretch {log} {log'} s =
      ext_get_or 0 (stretch log start n) (stretch log' start n)
      (length_is log ∙ ap (λ (k : ℕ). min n (k - start)) s.long ∙ sym (length_is log'))
      (λ i h.
      let l : i < n = omega (arith, length_is log) in
      entry_is log start n i l ∙ s.entries (start + i) (omega arith) (omega arith) ∙ sym (entry_is log' start n i l))

  module _ {first first' second second' : List ℕ} (s : SameWithin start n first first') (t : SameWithin start n second second') where
    pub outside_refusal : calmer_refusal first second start n ≡ calmer_refusal first' second' start n
    unfolding calmer_refusal ends_within finite_within
    outside_refusal = rw (s.long, t.long, same_stretch s, same_stretch t)

    pub outside_log : calmer_log first second start n ≡ calmer_log first' second' start n
    unfolding calmer_log
    outside_log = rw (outside_refusal, same_stretch s, same_stretch t)

    pub outside_stretch : calmer_stretch first second start n ≡ calmer_stretch first' second' start n
    unfolding calmer_stretch
    outside_stretch = rw (outside_log, same_stretch s, same_stretch t)
