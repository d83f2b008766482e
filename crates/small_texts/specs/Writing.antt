-- A text by its index: whether there is one, what is written, and a letter of it (REQUIREMENTS, Small terms).
use Rattle.std.specs.Prelude.{ℕ, suc, ◌<◌, ◌≡◌, cond, List, [], ◌∷◌, leb, ltb, length, get_or}
use Rattle.small_texts.specs.Texts.{largest_size, texts, text_at, ways}

-- how many small terms have n letters: none where that is too many
abbrev pub how_many : ℕ → ℕ
how_many n = cond (leb n largest_size) (ways 1 n) 0

-- the text with that index in place of a slice that is as long; where there is none, the slice
abbrev pub written : (index : ℕ) → List ℕ → List ℕ
written index s = cond (ltb index (how_many (length s))) (text_at (length s) index) s

-- `Chosen owing n i b owed j`: text i of those of so many terms with n letters and one more begins with b, and goes on as text j of those
-- of `owed` terms
pub record Chosen (owing n i b owed j : ℕ) : Type 0 where
  pub says : get_or (texts owing (suc n)) i [] ≡ b ∷ get_or (texts owed n) j []
  pub within : j < ways owed n
