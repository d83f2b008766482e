-- What books say: by the laws of `books`; of two books, by what is known of normal terms that turn into each other. Assumes nothing.
use Prim.Native.Nat.{ℕ, ◌≤◌}
use native.Mathlib.Omega.{arith}
use mathlib.Core.Path.{◌≡◌, sym, ◌∙◌, ap, subst}
use mathlib.Core.Logic.{◌↔◌}
use mathlib.Core.List.{List, [], ◌∷◌}
use lib.ListN.{length, take, drop}
use Rattle.calculus.specs.Term.{Term, text}
use Rattle.calculus.specs.Turning.{Turn}
use Rattle.calculus.specs.Run.{Outcome}
use Rattle.calculus.proofs.PrefixCode.{text_injective}
use Rattle.calculus.proofs.Confluence.{turn_trans, turn-sym, normal-turn}
use Rattle.reading.specs.Reply.{Reply}
use Rattle.books.specs.Line.{Line}
use Rattle.books.specs.Book.{line_limit, ReadsBook}
use Rattle.books.specs.InFull.{BookInFull}
use Rattle.books.specs.Play.{store_size}
use Rattle.books.specs.Playing.{Played, After, playing_of}
use Rattle.books.proofs.Reading.{reads_exactly, book-read}
use Rattle.books.proofs.InFull.{in_full-some}
use Rattle.books.proofs.Exactly.{playing_refuses, book-result, book-full-one}
use Rattle.books.proofs.Answers.{read_range, call_answers}
use Rattle.promises.specs.BookSays.{Yields, BookSays}

-- ---- what a composer gets

result :
    (book area work store area' work' store' : List ℕ) (fuel line n : ℕ) →
    playing_of book area work store fuel ≡ After.after (Reply.answered (Played.played Outcome.finished line n)) area' work' store' →
    (t v : Term) × Yields book t v × (take n area' ≡ text v)
result book area work store area' work' store' fuel line n e =
    let (t, v, full, spelt, normal, turns, only, found) = book-result book area work store area' work' store' fuel line n e in
    (t, v, record { in_full = full; normal = normal; turns = turns; only = only; found = found }, spelt)

-- lines that are read have a last one, which can be written out in full
some-text : (bytes : List ℕ) (lines : List Line) → ReadsBook bytes (Reply.answered lines) → (t : Term) × BookInFull bytes t
some-text bytes [] r = absurd (omega (arith, (read_range r).0))
some-text bytes (l ∷ earlier) r =
    let well = (book-read bytes (l ∷ earlier) ((reads_exactly bytes (Reply.answered (l ∷ earlier))).1 r)).0 in
    let (t, full) = in_full-some l earlier well in
    (t, record { lines = l ∷ earlier; read = r; in_full = full })

-- ---- two books

-- what one text of the last line in full yields, any other does
yields_any : {book : List ℕ} {t u v : Term} → BookInFull book t → Yields book u v → Yields book t v
yields_any {book} {t} {u} {v} full y = subst (λ (s : Term). Yields book s v) (book-full-one book u t y.in_full full) y

-- what two terms yield is equal exactly where they turn into each other
yields_equal :
    {book₁ book₂ bytes₁ bytes₂ : List ℕ} {t u v w : Term} → Yields book₁ t v → Yields book₂ u w → bytes₁ ≡ text v → bytes₂ ≡ text w →
    (bytes₁ ≡ bytes₂) ↔ Turn t u
yields_equal {t = t} {u = u} {v = v} {w = w} y z spelt₁ spelt₂ =
    let both = normal-turn y.normal z.normal in (
      λ e. turn_trans y.turns (turn_trans (both.1 (text_injective v w (sym spelt₁ ∙ e ∙ spelt₂))) (turn-sym z.turns)),
      λ turned. spelt₁ ∙ ap text (both.0 (turn_trans (turn-sym y.turns) (turn_trans turned z.turns))) ∙ sym spelt₂,
    )

-- ---- lines, sizes, areas and store

-- of so many lines, the line is one; it is the last where it finished, and where it did not there is no result
abbrev InRange : (lines : ℕ) → Outcome → (line n : ℕ) → Type 0
InRange lines o line n =
    (1 ≤ line)
    × (line ≤ lines)
    × (lines ≤ line_limit)
    × (o ≡ Outcome.finished → line ≡ lines)
    × ((o ≡ Outcome.finished → ⊥) → n ≡ 0)

-- the same of what was read of a book
abbrev RangeIn : Outcome → (line n : ℕ) → Reply (List Line) → Type 0
RangeIn o line n (Reply.refused number place) = Unit
RangeIn o line n (Reply.answered lines) = InRange (length lines) o line n

in_range :
    (book area work store area' work' store' : List ℕ) (fuel line n : ℕ) (o : Outcome) (lines : List Line) →
    playing_of book area work store fuel ≡ After.after (Reply.answered (Played.played o line n)) area' work' store' →
    ReadsBook book (Reply.answered lines) → InRange (length lines) o line n
in_range book area work store area' work' store' fuel line n o lines e r =
    let a = call_answers book area work store area' work' store' fuel line n o e in
    let same_lines = sym ((reads_exactly book (Reply.answered a.lines)).1 a.read) ∙ (reads_exactly book (Reply.answered lines)).1 r in
    subst (RangeIn o line n) same_lines (a.least, a.most, a.few, a.last, a.none)

behind :
    (book area work store area' work' store' : List ℕ) (fuel : ℕ) (reply : Reply Played) →
    playing_of book area work store fuel ≡ After.after reply area' work' store' →
    (length area' ≡ length area)
    × (length work' ≡ length work)
    × (length store' ≡ length store)
    × (drop store_size store' ≡ drop store_size store)
behind book area work store area' work' store' fuel (Reply.refused number line) e =
    let (listed, same₁, same₂, same₃) = playing_refuses book area work store area' work' store' fuel number line e in
    (ap length same₁, ap length same₂, ap length same₃, ap (drop store_size) same₃)
behind book area work store area' work' store' fuel (Reply.answered (Played.played o line n)) e =
    let a = call_answers book area work store area' work' store' fuel line n o e in
    (a.area-long, a.work_long, a.store_long, a.behind)

pub book-says : BookSays
book-says =
    record {
      result = result;
      some-text = some-text;
      one-text = book-full-one;
      equal_exactly =
          λ book₁ area₁ work₁ store₁ area₁' work₁' store₁' book₂ area₂ work₂ store₂ area₂' work₂' store₂' fuel₁ line₁ n₁ fuel₂ line₂ n₂ t u
          e₁ e₂ full₁ full₂.
          let (t', v, y, spelt₁) = result book₁ area₁ work₁ store₁ area₁' work₁' store₁' fuel₁ line₁ n₁ e₁ in
          let (u', w, z, spelt₂) = result book₂ area₂ work₂ store₂ area₂' work₂' store₂' fuel₂ line₂ n₂ e₂ in
          yields_equal (yields_any full₁ y) (yields_any full₂ z) spelt₁ spelt₂;
      in_range = in_range;
      behind = behind;
    }
