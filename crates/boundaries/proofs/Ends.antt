-- What boundary_sum answers, in the words of request 14: each refusal exactly where its condition holds and no earlier one does; THE
-- BOUND of what is summed; a lone strip comes back as it is; `rests` keeps its length, and at a refusal its entries.
use Rattle.theory.proofs.Prelude.{ℕ, ◌≤◌, ◌<◌, suc, zero, true, false, Bool, [], ◌∷◌, List, ◌∙◌, ap, ◌≡◌, sym, refl, subst, arith, eqb, leb, length, le-leb, leb-true, leb-false, eqb-true, eqb-false}
use Rattle.theory.specs.Tests.{◌and◌, unless}
use Rattle.theory.specs.Lists.{first_where, none}
use Rattle.theory.proofs.Tests.{never, and_left, and_right, and_made}
use Rattle.theory.proofs.Round.{Nearest, to_even, to_away}
use Rattle.theory.proofs.Integers.{eq_by_size}
use Rattle.theory.proofs.Lists.{first_before, first_passes}
use Rattle.format.specs.Given.{Given, gives, refused, refused_at}
use Rattle.format.specs.Directions.{is_direction, direction}
use Rattle.binary32.specs.Patterns.{finite, not_finite}
use Rattle.binary32.proofs.PatternValues.{finite_made, finite_fails}
use Rattle.boundaries.specs.Sums.{steps_from, boundary_steps, last_x, rests_of, first_of, strips_summed, boundary_answer, written_where, boundary_rests}
use Rattle.boundaries.specs.Totals.{total_of, TotalBound}
use Rattle.boundaries.specs.Outcomes.{AllFinite, Counted, Entered, Summed, Ends, strip_count, second_length, no_direction, not_finite_case, too_large, all_added}
use Rattle.boundaries.proofs.Passes.{rests_length}
use Rattle.boundaries.proofs.Bounds.{From, from}

-- what the steps of a boundary say
whole : (d : ℕ) (s : ℕ) (strips : List ℕ) → AllFinite (s ∷ strips) → From (direction d) s strips (steps_from (direction d) s strips)
whole d s strips f = from (direction d) strips (λ k l. f (suc k) (omega arith)) s (f 0 (omega arith))

summed_end : (d : ℕ) (strips rests : List ℕ) → Entered d strips rests → AllFinite strips → Ends d strips rests (strips_summed (direction d) strips)
unfolding strips_summed unless boundary_steps first_of
summed_end d [] rests e f = absurd (omega (arith, e.counted.0))
summed_end d (s ∷ strips) rests e f = by (eqb (suc (length (steps_from (direction d) s strips))) (suc (length strips))) refl
  where
    by : (t : Bool) → eqb (suc (length (steps_from (direction d) s strips))) (suc (length strips)) ≡ t
        → Ends d (s ∷ strips) rests (unless t (refused_at 5 (suc (length (steps_from (direction d) s strips)))) (gives (last_x s (steps_from (direction d) s strips))))
    by true h = all_added e f (record { complete = eqb-true _ _ h; is = refl })
    by false h =
        let g = whole d s strips f in
        let fewer : length (steps_from (direction d) s strips) < length strips =
        omega (arith, g.few, eqb-false (suc (length (steps_from (direction d) s strips))) (suc (length strips)) h) in
        too_large e f {i = suc (length (steps_from (direction d) s strips))} (record { within = omega (arith, fewer); earlier = refl; beyond = g.beyond fewer })

pub boundary_end : (d : ℕ) (strips rests : List ℕ) → Ends d strips rests (boundary_answer d strips rests)
unfolding boundary_answer is_direction unless none
boundary_end d strips rests = by_count (leb 1 (length strips) and leb (length strips) 4096) refl
  where
    first : ℕ
    first = first_where not_finite strips

    by_finite : Entered d strips rests → (t : Bool) → leb (length strips) first ≡ t → Ends d strips rests (unless t (refused_at 9 first) (strips_summed (direction d) strips))
    by_finite e true h = summed_end d strips rests e (λ k l. finite_made _ (first_before not_finite 0 strips k (omega (arith, leb-true (length strips) first h))))
    by_finite e false h =
        let here : first < length strips = leb-false (length strips) first h in
        not_finite_case e
        (record {
          within = here;
          fails = finite_fails _ (first_passes not_finite 0 strips here);
          earlier = λ k l. finite_made _ (first_before not_finite 0 strips k l);
        })

    by_direction : Counted strips → suc (length rests) ≡ length strips → (t : Bool) → leb d 4 ≡ t
        → Ends d strips rests (unless t (refused 2) (unless (leb (length strips) first) (refused_at 9 first) (strips_summed (direction d) strips)))
    by_direction c s true h = by_finite (record { counted = c; second = s; directed = leb-true d 4 h }) (leb (length strips) first) refl
    by_direction c s false h = no_direction c s (leb-false d 4 h)

    by_second : Counted strips → (t : Bool) → eqb (suc (length rests)) (length strips) ≡ t
        → Ends d strips rests (unless t (refused 11) (unless (leb d 4) (refused 2) (unless (leb (length strips) first) (refused_at 9 first) (strips_summed (direction d) strips))))
    by_second c true h = by_direction c (eqb-true _ _ h) (leb d 4) refl
    by_second c false h = second_length c (eqb-false _ _ h)

    by_count : (t : Bool) → leb 1 (length strips) and leb (length strips) 4096 ≡ t
        → Ends d strips rests (unless t (refused 18) (unless (eqb (suc (length rests)) (length strips)) (refused 11)
        (unless (leb d 4) (refused 2) (unless (leb (length strips) first) (refused_at 9 first) (strips_summed (direction d) strips)))))
    by_count true h = by_second (leb-true _ _ (and_left _ _ h), leb-true _ _ (and_right _ _ h)) (eqb (suc (length rests)) (length strips)) refl
    by_count false h = strip_count (λ c. never (sym (and_made (le-leb _ _ c.0) (le-leb _ _ c.1)) ∙ h))

-- ---- the bound
nearest : (d : ℕ) → d ≤ 1 → Nearest (direction d)
unfolding direction
nearest zero h = to_even
nearest (suc zero) h = to_away
nearest (suc (suc d)) h = absurd (omega arith)

summed_bound : (d : ℕ) (strips : List ℕ) {sum : ℕ} → 1 ≤ length strips → AllFinite strips → Summed d strips sum → TotalBound d strips sum (rests_of (boundary_steps (direction d) strips))
unfolding boundary_steps first_of total_of
summed_bound d [] h f g = absurd (omega arith)
summed_bound d (s ∷ strips) h f g =
    let w = whole d s strips f in
    let e : length (steps_from (direction d) s strips) ≡ length strips = omega (arith, g.complete) in
    rw g.is (record { finite = w.finite; within = w.within e; exact = λ k. eq_by_size _ _ (w.exact e (nearest d k)) })

pub boundary_bound : (d : ℕ) (strips rests : List ℕ) {sum : ℕ} → boundary_answer d strips rests ≡ gives sum → TotalBound d strips sum (boundary_rests d strips rests)
unfolding boundary_rests
boundary_bound d strips rests {sum} e =
    subst (TotalBound d strips sum) (sym (ap (λ (g : Given ℕ). written_where g (rests_of (boundary_steps (direction d) strips)) rests) e))
    (by (boundary_answer d strips rests) (boundary_end d strips rests) e)
  where
    by : (g : Given ℕ) → Ends d strips rests g → g ≡ gives sum → TotalBound d strips sum (rests_of (boundary_steps (direction d) strips))
    by g (strip_count n) k = absurd (let o : ◌≡◌ {A = ℕ} 0 1 = cc in omega arith)
    by g (second_length c n) k = absurd (let o : ◌≡◌ {A = ℕ} 0 1 = cc in omega arith)
    by g (no_direction c l h) k = absurd (let o : ◌≡◌ {A = ℕ} 0 1 = cc in omega arith)
    by g (not_finite_case h n) k = absurd (let o : ◌≡◌ {A = ℕ} 0 1 = cc in omega arith)
    by g (too_large h f l) k = absurd (let o : ◌≡◌ {A = ℕ} 0 1 = cc in omega arith)
    by g (all_added h f {sum = x} t) k = let same : x ≡ sum = cc in subst (λ (x : ℕ). TotalBound d strips x (rests_of (boundary_steps (direction d) strips))) same (summed_bound d strips h.counted.0 f t)

-- ---- lengths, and a lone strip
pub rests_keep_length : (d : ℕ) (strips rests : List ℕ) → length (boundary_rests d strips rests) ≡ length rests
unfolding boundary_rests
rests_keep_length d strips rests = by (boundary_answer d strips rests) (boundary_end d strips rests)
  where
    by : (g : Given ℕ) → Ends d strips rests g → length (written_where g (rests_of (boundary_steps (direction d) strips)) rests) ≡ length rests
    by g (strip_count n) = refl
    by g (second_length c n) = refl
    by g (no_direction c l h) = refl
    by g (not_finite_case h n) = refl
    by g (too_large h f l) = refl
    by g (all_added h f t) = omega (arith, rests_length (boundary_steps (direction d) strips), t.complete, h.second)

-- an index is that of a strip
pub index_below : (d : ℕ) (strips rests : List ℕ) {n i : ℕ} → boundary_answer d strips rests ≡ refused_at n i → i < 4096
index_below d strips rests {n} {i} e = by (boundary_answer d strips rests) (boundary_end d strips rests) e
  where
    by : (g : Given ℕ) → Ends d strips rests g → g ≡ refused_at n i → i < 4096
    by g (strip_count m) k = absurd (let o : ◌≡◌ {A = ℕ} 0 1 = cc in omega arith)
    by g (second_length c m) k = absurd (let o : ◌≡◌ {A = ℕ} 0 1 = cc in omega arith)
    by g (no_direction c l h) k = absurd (let o : ◌≡◌ {A = ℕ} 0 1 = cc in omega arith)
    by g (not_finite_case h {i = j} m) k = let same : j ≡ i = cc in omega (arith, same, m.within, h.counted.1)
    by g (too_large h f {i = j} m) k = let same : j ≡ i = cc in omega (arith, same, m.within, h.counted.1)
    by g (all_added h f t) k = absurd (let o : ◌≡◌ {A = ℕ} 0 1 = cc in omega arith)

pub lone_strip : (d s : ℕ) → d ≤ 4 → finite s ≡ true → boundary_answer d (s ∷ []) [] ≡ gives s
unfolding boundary_answer strips_summed boundary_steps steps_from first_of last_x is_direction none first_where not_finite ◌and◌ unless
lone_strip d s h f = rw (le-leb d 4 h, f)
