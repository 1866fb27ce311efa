-- Worked examples: the definitions on lists of patterns.
use Rattle.theory.proofs.Prelude.{ℕ, [], ◌∷◌, ◌≡◌, refl}
use Rattle.theory.specs.Lists.{first_where, none, some_neighbours}
use Rattle.theory.specs.Tests.{◌and◌, ◌or◌, unless}
use Rattle.format.specs.Given.{gives, refused, refused_at}
use Rattle.binary32.specs.Patterns.{finite, not_finite, magnitude_read, pattern_value}
use Rattle.saved_lines.specs.Offsets.{distance, nearer, is_nearest, nearest, nearest_ones, is_within, falls, descends, equals, repeats}
use Rattle.saved_lines.specs.Positions.{positions_from, without}
use Rattle.saved_lines.specs.Lines.{patterns_checked, ascent_checked, lines_checked, nearest_line, lines_in_order, lines_within}
use Rattle.saved_lines.specs.Rows.{looked, row_looked, queries_checked, nearest_lines}

-- 1, 2, 3 and -1 as patterns
abbrev one : ℕ
one = 1065353216

abbrev two : ℕ
two = 1073741824

abbrev three : ℕ
three = 1077936128

abbrev minus_one : ℕ
minus_one = 3212836864

-- at equal distance the smaller offset
tie : nearest_line (one ∷ three ∷ []) two ≡ gives 0
unfolding nearest_line lines_checked patterns_checked ascent_checked none first_where not_finite finite descends repeats some_neighbours falls equals nearest is_nearest nearer distance pattern_value magnitude_read unless ◌and◌ ◌or◌
tie = refl

-- the line at 2 ^ 25 is nearer to 2 ^ 24 than that at -1, though the differences rounded to nearest are equal
exact : nearest_line (minus_one ∷ 1275068416 ∷ []) 1266679808 ≡ gives 1
unfolding nearest_line lines_checked patterns_checked ascent_checked none first_where not_finite finite descends repeats some_neighbours falls equals nearest is_nearest nearer distance pattern_value magnitude_read unless ◌and◌ ◌or◌
exact = refl

-- plus and minus zero are equal offsets
zeros : nearest_line (2147483648 ∷ 0 ∷ []) 0 ≡ refused 15
unfolding nearest_line lines_checked patterns_checked ascent_checked none first_where not_finite finite descends repeats some_neighbours falls equals nearest is_nearest nearer distance pattern_value magnitude_read unless ◌and◌ ◌or◌
zeros = refl

-- 9 comes before 13, and has the index of the first
bad : nearest_line (three ∷ one ∷ 2139095040 ∷ 4286578688 ∷ []) two ≡ refused_at 9 2
unfolding nearest_line lines_checked patterns_checked ascent_checked none first_where not_finite finite descends repeats some_neighbours falls equals nearest is_nearest nearer distance pattern_value magnitude_read unless ◌and◌ ◌or◌
bad = refl

-- 9 of the query too, without one
bad_query : nearest_line (three ∷ one ∷ []) 2139095040 ≡ refused 9
unfolding nearest_line lines_checked patterns_checked ascent_checked none first_where not_finite finite descends repeats some_neighbours falls equals nearest is_nearest nearer distance pattern_value magnitude_read unless ◌and◌ ◌or◌
bad_query = refl

-- 13 wherever the list descends
descending : nearest_line (one ∷ three ∷ two ∷ []) two ≡ refused 13
unfolding nearest_line lines_checked patterns_checked ascent_checked none first_where not_finite finite descends repeats some_neighbours falls equals nearest is_nearest nearer distance pattern_value magnitude_read unless ◌and◌ ◌or◌
descending = refl

-- 13 before 15, wherever the equal ones stand
descending_first : nearest_line (one ∷ one ∷ three ∷ two ∷ []) two ≡ refused 13
unfolding nearest_line lines_checked patterns_checked ascent_checked none first_where not_finite finite descends repeats some_neighbours falls equals nearest is_nearest nearer distance pattern_value magnitude_read unless ◌and◌ ◌or◌
descending_first = refl

-- 12 comes before all
empty : nearest_line [] 2139095040 ≡ refused 12
unfolding nearest_line lines_checked patterns_checked ascent_checked none first_where not_finite finite descends repeats some_neighbours falls equals nearest is_nearest nearer distance pattern_value magnitude_read unless ◌and◌ ◌or◌
empty = refl

-- ---- within reach
-- within 1 of 2, edge included
edge : lines_within (minus_one ∷ one ∷ two ∷ three ∷ []) two one 3 ≡ gives 3
unfolding lines_within positions_from is_within lines_checked patterns_checked ascent_checked none first_where not_finite finite descends repeats some_neighbours falls equals distance pattern_value magnitude_read unless ◌and◌ ◌or◌
edge = refl

-- one place of `out` too few
short : lines_within (minus_one ∷ one ∷ two ∷ three ∷ []) two one 2 ≡ refused 14
unfolding lines_within positions_from is_within lines_checked patterns_checked ascent_checked none first_where not_finite finite descends repeats some_neighbours falls equals distance pattern_value magnitude_read unless ◌and◌ ◌or◌
short = refl

-- a distance below zero finds none, whatever the room
below_zero_law : lines_within (one ∷ two ∷ []) two minus_one 0 ≡ gives 0
unfolding lines_within positions_from is_within lines_checked patterns_checked ascent_checked none first_where not_finite finite descends repeats some_neighbours falls equals distance pattern_value magnitude_read unless ◌and◌ ◌or◌
below_zero_law = refl

-- minus zero is no distance below zero
minus_zero : lines_within (one ∷ two ∷ []) two 2147483648 2 ≡ gives 1
unfolding lines_within positions_from is_within lines_checked patterns_checked ascent_checked none first_where not_finite finite descends repeats some_neighbours falls equals distance pattern_value magnitude_read unless ◌and◌ ◌or◌
minus_zero = refl

-- nearest first, at equal distance the smaller offset first
in_order : lines_in_order (minus_one ∷ one ∷ two ∷ three ∷ []) two three ≡ 2 ∷ 1 ∷ 3 ∷ 0 ∷ []
unfolding nearest_ones nearest is_nearest nearer none first_where without positions_from is_within distance pattern_value magnitude_read
in_order = refl

-- ---- a row: 1 looks at the lines 1 and 2, 3 at 1, 2 and 4, which is not closer, 3 again at 2 and 4, 4 at 2 and 4
row : nearest_lines (one ∷ two ∷ 1082130432 ∷ []) (one ∷ three ∷ three ∷ 1082130432 ∷ []) 4 ≡ gives 9
unfolding nearest_lines queries_checked row_looked looked lines_checked patterns_checked ascent_checked none first_where not_finite finite descends repeats some_neighbours falls equals nearest is_nearest nearer distance pattern_value magnitude_read unless ◌and◌ ◌or◌
row = refl

-- no query: the list is still checked
no_query : nearest_lines (two ∷ one ∷ []) [] 0 ≡ refused 13
unfolding nearest_lines queries_checked row_looked looked lines_checked patterns_checked ascent_checked none first_where not_finite finite descends repeats some_neighbours falls equals nearest is_nearest nearer distance pattern_value magnitude_read unless ◌and◌ ◌or◌
no_query = refl

-- 9 of the queries before 16
bad_row : nearest_lines (one ∷ []) (two ∷ one ∷ 2139095040 ∷ []) 3 ≡ refused_at 9 2
unfolding nearest_lines queries_checked row_looked looked lines_checked patterns_checked ascent_checked none first_where not_finite finite descends repeats some_neighbours falls equals nearest is_nearest nearer distance pattern_value magnitude_read unless ◌and◌ ◌or◌
bad_row = refl
