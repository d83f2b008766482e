-- That what playing a book answers and leaves is shown, and that the program's line is that of a book played in zeros. Assumes nothing.
use Prim.Native.Nat.{ℕ}
use mathlib.Core.Path.{◌≡◌, ap}
use mathlib.Core.List.{List}
use lib.ListN.{replicate}
use Rattle.calculus.specs.Limits.{area_limit, fuel_limit}
use Rattle.reading.specs.Reply.{Reply}
use Rattle.books.specs.Play.{store_size}
use Rattle.books.specs.Playing as playing
use Rattle.book_answers.specs.Shown.{reply_line, shown_book}
use Rattle.book_answers.specs.Program.{shown_in, book_program}

-- what playing a book answers and leaves is shown
pub played_shown :
    (book area : List ℕ) {reply : Reply playing.Played} {area' work' store' : List ℕ} →
    playing.After.after reply area' work' store'
    ≡ playing.playing_of book area (replicate area_limit 0) (replicate store_size 0) fuel_limit →
    reply_line reply area' ≡ shown_in book area
unfolding shown_in
played_shown book area e = ap shown_book e

-- what the program prints is shown of a book that is played in zeros
pub program_shown : (book : List ℕ) {line : List ℕ} → line ≡ shown_in book (replicate area_limit 0) → line ≡ book_program book
unfolding book_program shown_in
program_shown book e = e
