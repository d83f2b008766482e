-- What is kept of a book that was read: how many lines it has, and the numbers of their names (REQUIREMENTS, Books).
use Rattle.std.specs.Prelude.{ℕ, ◌-◌, List, ◌++◌, length, replicate}
use Rattle.reading.specs.Reply.{Reply}
use Rattle.books.specs.Line.{Line}
use Rattle.books.specs.Book.{line_limit}
use Rattle.book_names.specs.Key.{keys_of}

abbrev pub count_of : Reply (List Line) → Reply ℕ
count_of (Reply.refused number line) = Reply.refused number line
count_of (Reply.answered book) = Reply.answered (length book)

abbrev pub no_keys : List ℕ
no_keys = replicate line_limit 0

-- the numbers of the names, with zeros behind them; zeros alone beside a refusal
abbrev pub table_of : Reply (List Line) → List ℕ
table_of (Reply.refused number line) = no_keys
table_of (Reply.answered book) = keys_of book ++ replicate (line_limit - length book) 0
