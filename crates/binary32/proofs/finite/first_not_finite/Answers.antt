-- `binary32::finite::first_not_finite` meets its contract: std's first position is that of theory.specs.Lists.
use Rattle.std.proofs.Common.{Some, None, rules, tests}
use Rattle.std.specs.List.{position_or_len}
use Rattle.std.specs.Option.{unwrap_or}
use Rattle.std.proofs.lemmas.Iterator.{YieldsList-from_slice}
use Rattle.std.proofs.lemmas.Iterator.Search.{position_from_yields_List}
use Rattle.std.proofs.lemmas.List.Recursion.{is_position_or_len}
use Rattle.theory.proofs.Prelude.{ℕ, ◌≤◌, Bool, List, ◌∙◌, ap, ◌≡◌, sym, refl, cond, arith, dec_le, ltb, length, lt-ltb, le-ltb}
use Rattle.theory.specs.Lists.{first_where}
use Rattle.theory.proofs.Lists.{first_most}
use Rattle.binary32.specs.Patterns.{not_finite}
use Rattle.binary32.proofs.finite.first_not_finite.Goals as goal

first_position_is : (test : ℕ → Bool) (l : List ℕ) → first_where test l ≡ position_or_len test l
unfolding first_where
first_position_is test l = is_position_or_len (first_where test) test refl (λ x xs. ap (cond (test x) 0) (omega arith)) l

-- what is found, or the length
found_or_length : (n length : ℕ) → n ≤ length → unwrap_or (cond (ltb n length) (Some n) None) length ≡ n
found_or_length n length h = by (dec_le length n)
  where
    by : Dec (length ≤ n) → unwrap_or (cond (ltb n length) (Some n) None) length ≡ n
    by (yes m) = rw (le-ltb n length m) (omega arith)
    by (no m) = rw (lt-ltb n length (omega arith))

pub returns : goal.returns
unfolding not_finite
returns c =
    let l = c.args.patterns.now in
    let found : c.position.result ≡ cond (ltb (position_or_len not_finite l) (length l)) (Some (position_or_len not_finite l)) None = position_from_yields_List not_finite _ _ c.position.result c.position.ensures.ran (YieldsList-from_slice l cc) (λ x b q k. search (rules, tests)) in
    let same = first_position_is not_finite l in
    c.unwrap_or.ensures
    ∙ ap (λ o. unwrap_or o (length l)) found
    ∙ found_or_length (position_or_len not_finite l) (length l) (omega (arith, same, first_most not_finite 0 l))
    ∙ sym same
