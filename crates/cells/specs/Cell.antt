-- A cell of the arena: a number of 64 bits that holds a letter, two indices of cells and a size. Assumes nothing.
use Rattle.std.specs.Prelude.{ℕ, ◌+◌, ◌*◌, ◌/◌, ◌%◌, ◌≤◌, ◌<◌, ◌≡◌, List, length, get_or}

-- an arena has at most this many cells, so that an index takes 16 bits
abbrev pub cell_limit : ℕ
cell_limit = 65536

-- a size takes as many
abbrev pub size_limit : ℕ
size_limit = 65536

-- the lowest 8 bits: the letter
abbrev pub letter_in : ℕ → ℕ
letter_in cell = cell % 256

-- bits 16 to 31: the index of the first part
abbrev pub first_in : ℕ → ℕ
first_in cell = cell / 65536 % 65536

-- bits 32 to 47: the index of the second
abbrev pub second_in : ℕ → ℕ
second_in cell = cell / 4294967296 % 65536

-- the bits from 48: the size of its term
abbrev pub size_in : ℕ → ℕ
size_in cell = cell / 281474976710656

-- the cell that holds these
abbrev pub packed : (letter first second size : ℕ) → ℕ
packed letter first second size = letter + first * 65536 + second * 4294967296 + size * 281474976710656

-- the cell at i, below the top, holds these
pub record Cell (cells : List ℕ) (top i letter first second size : ℕ) : Type 0 where
  pub inside : i < top
  pub lettered : letter_in (get_or cells i 0) ≡ letter
  pub first-is : first_in (get_or cells i 0) ≡ first
  pub second_is : second_in (get_or cells i 0) ≡ second
  pub sized : size_in (get_or cells i 0) ≡ size

-- no cell below the top has changed
abbrev pub Kept : (top : ℕ) (cells cells' : List ℕ) → Type 0
Kept top cells cells' = (i : ℕ) → i < top → get_or cells' i 0 ≡ get_or cells i 0

-- room for one cell at the top
pub record Free (cells : List ℕ) (top : ℕ) : Type 0 where
  pub few : length cells ≤ cell_limit
  pub free : top < length cells

-- room for a node of two terms there: their cells are in the arena, and its size is in range
pub record Joinable (cells : List ℕ) (top first second : ℕ) : Type 0 where
  pub room : Free cells top
  pub first_within : first < length cells
  pub second_within : second < length cells
  pub small : 1 + size_in (get_or cells first 0) + size_in (get_or cells second 0) < size_limit
