-- The lines of a run's counts: rule, count and a bar, scaled to the largest count (REQUIREMENTS, Programs).
use Rattle.std.specs.Prelude.{ℕ, zero, suc, ◌+◌, ◌*◌, ◌/◌, max, List, [], ◌∷◌, take, replicate}
use Rattle.slices.specs.Numeral.{decimal}
use Rattle.printing.specs.Printed.{row_of}

-- the marks of the longest bar
abbrev pub bar_limit : ℕ
bar_limit = 40

-- how many marks: as many of those as the count is of the largest, rounded up
abbrev pub bar_width : (count largest : ℕ) → ℕ
bar_width count zero = 0
bar_width count (suc less) = (count * bar_limit + less) / suc less

-- so many `#`
abbrev pub bar : (count largest : ℕ) → List ℕ
bar count largest = take (bar_width count largest) (replicate bar_limit 35)

abbrev pub mix_row : (largest rule count : ℕ) → List ℕ
mix_row largest rule count = row_of (decimal rule ∷ decimal count ∷ bar count largest ∷ [])

abbrev pub largest_of : List ℕ → ℕ
largest_of [] = 0
largest_of (count ∷ counts) = max count (largest_of counts)

-- a line for each count, the rules numbered on from the first
abbrev pub rows_from : (largest rule : ℕ) (counts : List ℕ) → List (List ℕ)
rows_from largest rule [] = []
rows_from largest rule (count ∷ counts) = mix_row largest rule count ∷ rows_from largest (suc rule) counts

-- the lines of the counts, rule 1 first
abbrev pub mix_rows : (counts : List ℕ) → List (List ℕ)
mix_rows counts = rows_from (largest_of counts) 1 counts
