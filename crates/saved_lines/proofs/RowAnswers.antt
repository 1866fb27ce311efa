-- What nearest_lines answers and writes, in the words of request 12.
use Rattle.theory.proofs.Prelude.{ℕ, ◌≤◌, ◌<◌, ◌+◌, ◌*◌, true, false, Bool, not, List, ◌∙◌, ◌≡◌, sym, refl, eqb, leb, length, get_or, eq-eqb, le-leb, leb-true, eqb-true}
use Rattle.theory.specs.Lists.{first_where, none}
use Rattle.theory.specs.Tests.{◌and◌, unless}
use Rattle.theory.proofs.Tests.{never, and_left, and_right, and_made}
use Rattle.format.specs.Given.{Given, gives, refused, refused_at, ◌then◌}
use Rattle.binary32.specs.Patterns.{not_finite, pattern_values}
use Rattle.binary32.proofs.PatternValues.{all_finite}
use Rattle.saved_lines.specs.Offsets.{descends}
use Rattle.saved_lines.specs.Lines.{passed, patterns_checked, lines_checked, Checked, nearest_line}
use Rattle.saved_lines.specs.Rows.{row_looked, row_found, Queried, queries_checked, nearest_lines}
use Rattle.saved_lines.specs.Outcomes.{Fitting, RowEnds, lengths_differ, row_list_refused, bad_query, queries_descend, looked}
use Rattle.saved_lines.proofs.Checking.{checked_passes}
use Rattle.saved_lines.proofs.Refusals.{descent, finite_before, bad_there, bad_first, checks_end}
use Rattle.saved_lines.proofs.RowPatterns.{found_at, count_most}

pub row_ends : (l qs : List ℕ) (room : ℕ) → RowEnds l qs room (nearest_lines l qs room)
unfolding nearest_lines queries_checked patterns_checked unless
row_ends l qs room = by_lengths (eqb (length qs) room and leb (length qs) 4096) refl
  where
    count : Given ℕ
    count = gives (row_looked (pattern_values l) 0 (pattern_values qs))

    by_queries : Fitting qs room → Checked l → (b d : Bool) → none not_finite qs ≡ b → descends (pattern_values qs) ≡ d
        → RowEnds l qs room (unless b (refused_at 9 (first_where not_finite qs)) (unless (not d) (refused 16) passed) then λ _. count)
    by_queries f c false d e g = bad_query f c (bad_there qs e) (bad_first qs e) (finite_before qs)
    by_queries f c true true e g = queries_descend f c (all_finite qs e) (descent qs g)
    by_queries f c true false e g = looked f c (record { finite = e; order = g })

    by_lengths : (t : Bool) → eqb (length qs) room and leb (length qs) 4096 ≡ t
        → RowEnds l qs room (unless t (refused 11) (lines_checked l true then λ _. queries_checked qs then λ _. count))
    by_lengths true h =
        let f : Fitting qs room = (eqb-true _ _ (and_left _ _ h), leb-true _ _ (and_right _ _ h)) in
        checks_end l true (λ _. queries_checked qs then λ _. count) (RowEnds l qs room) (λ x a. row_list_refused f a)
        (λ c g. by_queries f c (none not_finite qs) (descends (pattern_values qs)) refl refl)
    by_lengths false h = lengths_differ (λ f. never (sym (and_made (eq-eqb _ _ f.0) (le-leb _ _ f.1)) ∙ h))

module _ (l qs : List ℕ) (c : Checked l) (d : Queried qs) where
  -- the count is at most the saved lines plus twice the queries
  pub at_most : row_looked (pattern_values l) 0 (pattern_values qs) ≤ length l + 2 * length qs
  at_most = count_most l qs c d

  -- the positions are request 2's, one by one
  pub one_by_one : (k : ℕ) → k < length qs → nearest_line l (get_or qs k 0) ≡ gives (get_or (row_found (pattern_values l) (pattern_values qs)) k 0)
  one_by_one k b = checked_passes l (get_or qs k 0) c (all_finite qs d.finite k b) ∙ sym (found_is (found_at (pattern_values l) qs k b))
    where
      found_is : {m n : ℕ} → m ≡ n → gives m ≡ gives n
      found_is e = cc
