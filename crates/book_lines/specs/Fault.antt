-- The number of a bad line, 0 of a sound one, by its bytes and the numbers of the names of the lines before it (REQUIREMENTS, Books);
-- proofs/Faults.antt shows that it is the number that the line has behind those lines.
use Rattle.std.specs.Prelude.{ℕ, suc, Bool, cond, not, ◌&&◌, List, leb, length, take, drop}
use Rattle.slices.specs.Find.{index_of}
use Rattle.slices.specs.Split.{tab}
use Rattle.books.specs.Name.{is_name}
use Rattle.books.specs.Book.{line_limit}
use Rattle.book_names.specs.Key.{key_of, is_in}
use Rattle.book_lines.specs.Scan.{is_piece}
use Rattle.book_lines.specs.Uses.{uses_in, all_in}

-- what stands in front of the first tab, and behind it
abbrev pub name_field : (body : List ℕ) → List ℕ
name_field body = take (index_of tab body) body

abbrev pub piece_field : (body : List ℕ) → List ℕ
piece_field body = drop (suc (index_of tab body)) body

abbrev pub is_line : (body : List ℕ) → Bool
is_line body = is_name (name_field body) && is_piece (piece_field body)

unfoldable pub fault_of : (body keys : List ℕ) → ℕ
fault_of body keys =
    cond (leb line_limit (length keys)) 25
    (cond (not (is_line body)) 25
    (cond (is_in (key_of (name_field body)) keys) 26
    (cond (all_in (uses_in (piece_field body)) keys) 0 27)))
