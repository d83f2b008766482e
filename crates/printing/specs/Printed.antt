-- The lines that programs print (REQUIREMENTS, Programs): fields with tabs between them, ended by byte 10, no header.
use Rattle.std.specs.Prelude.{ℕ, List, [], ◌∷◌, ◌++◌}
use Rattle.slices.specs.Numeral.{decimal}
use Rattle.slices.specs.Split.{tab, line_feed}

abbrev pub row_of : List (List ℕ) → List ℕ
row_of [] = line_feed ∷ []
row_of (field ∷ []) = field ++ (line_feed ∷ [])
row_of (field ∷ next ∷ fields) = field ++ (tab ∷ row_of (next ∷ fields))

-- a word, a number and further bytes
abbrev pub line_of : (word : List ℕ) (number : ℕ) (rest : List ℕ) → List ℕ
line_of word number rest = row_of (word ∷ decimal number ∷ rest ∷ [])

-- a word and two numbers
abbrev pub numbers_of : (word : List ℕ) (first second : ℕ) → List ℕ
numbers_of word first second = row_of (word ∷ decimal first ∷ decimal second ∷ [])

-- a word and one number
abbrev pub count_of : (word : List ℕ) (count : ℕ) → List ℕ
count_of word count = row_of (word ∷ decimal count ∷ [])
