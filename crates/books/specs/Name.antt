-- Names of lines (REQUIREMENTS, Books): one to eight small letters.
use Rattle.std.specs.Prelude.{ℕ, ◌≤◌, Bool, true, ◌&&◌, leb, length}
use mathlib.Core.List.{List, [], ◌∷◌, Memᴰ}

-- the bytes of `a` and `z`
abbrev pub first_small : ℕ
first_small = 97

abbrev pub last_small : ℕ
last_small = 122

-- the most letters
abbrev pub name_limit : ℕ
name_limit = 8

pub record IsName (name : List ℕ) : Type 0 where
  pub some-letter : 1 ≤ length name
  pub few-letters : length name ≤ name_limit
  pub small : (b : ℕ) → Memᴰ b name → (first_small ≤ b) × (b ≤ last_small)

abbrev pub is_small : ℕ → Bool
is_small b = leb first_small b && leb b last_small

abbrev pub all_small : List ℕ → Bool
all_small [] = true
all_small (b ∷ bytes) = is_small b && all_small bytes

unfoldable pub is_name : List ℕ → Bool
is_name name = leb 1 (length name) && leb (length name) name_limit && all_small name
