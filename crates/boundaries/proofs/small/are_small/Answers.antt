-- `boundaries::small::are_small` meets its contract: what std's `all` answers is `all` of theory.specs.Lists.
use Rattle.std.proofs.Common.{rules, tests}
use Rattle.std.specs.List.{list_all}
use Rattle.std.proofs.lemmas.Iterator.{YieldsList-from_slice}
use Rattle.std.proofs.lemmas.Iterator.Search.{all_from_yields_List}
use Rattle.theory.proofs.Prelude.{ℕ, Bool, true, false, List, [], ◌∷◌, ◌&&◌, ◌∙◌, ◌≡◌, refl}
use Rattle.theory.specs.Tests.{◌and◌}
use Rattle.theory.specs.Lists.{all}
use Rattle.boundaries.specs.Steps.{small_strip}
use Rattle.boundaries.proofs.small.are_small.Goals as goal

all_is : (test : ℕ → Bool) (l : List ℕ) → list_all test l ≡ all test l
unfolding all ◌and◌
all_is test [] = refl
all_is test (x ∷ xs) = rw (all_is test xs) (by (test x))
  where
    by : (t : Bool) → (t && all test xs) ≡ t and all test xs
    by true = refl
    by false = refl

pub returns : goal.returns
returns c =
    let l = c.args.strips.now in
    all_from_yields_List small_strip _ _ c.all.result c.all.ensures.ran (YieldsList-from_slice l cc) (λ x b q k. search (rules, tests)) ∙ all_is small_strip l
