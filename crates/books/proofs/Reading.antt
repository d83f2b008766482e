-- What is read of any bytes as a book is what the relation says, and nothing else.
-- Carried by what the reply on the next line says, and by one walk over the lines: the lines of an answer are a book with those texts, the
-- line of a refusal stands behind such lines, and lines that are a book are walked over. Assumes nothing.
use Prim.Native.Nat.{ℕ, suc, ◌<◌, ◌≤◌}
use native.Mathlib.Omega.{arith}
use mathlib.Core.Path.{◌≡◌, refl, sym, ◌∙◌, ap, ap₂, subst}
use mathlib.Core.Bool.{Bool, true, false, cond, not, ◌&&◌, false≢true}
use mathlib.Core.Option.{Option, none, some}
use mathlib.Core.Logic.{◌↔◌}
use mathlib.Core.List.Memᴰ
use mathlib.Core.List.{List, [], ◌∷◌, ◌++◌, append_assoc, append-nil, Memᴰ}
use lib.Dec.{ltb, leb, eqb}
use lib.ListN.{length, length-append}
use borrow.Author.Tests.{ltb-true, ltb-false, lt-ltb, le-ltb, leb-true, leb-false, le-leb, lt-leb}
use borrow.Author.Tests.{eqb-true, eqb-false, eq-eqb, ne_eqb, not-true, not-false}
use Rattle.calculus.proofs.Bells.{and_both}
use Rattle.slices.specs.Same.{same}
use Rattle.slices.specs.Split.{line_feed, lines, last_byte}
use Rattle.slices.proofs.Same.{same_equal, equal_same}
use Rattle.reading.specs.Reply.{Reply, refuse_if, onward, Refuses}
use Rattle.books.specs.Piece.{uses}
use Rattle.books.specs.Line.{Line, name_in, piece_in, line_text, WellFormed, line_of}
use Rattle.books.specs.Book.{book_limit, line_limit, Given, Book, bodies, Spells, BadLine, EndsLine, ReadsBook}
use Rattle.books.specs.Book.{given, all_given, judged, next_line, book_from, book_of}
use Rattle.books.proofs.Names.{both-and}
use Rattle.books.proofs.Lines.{line-text, text-line, none-line}
use Rattle.books.proofs.LineEnds.{last-ends, ends_last, ends_some, some-line}

-- ---- names that were given

given-told : (name : List ℕ) (earlier : List Line) → given name earlier ≡ true → Given name earlier
given-told name [] e = absurd (false≢true e)
given-told name (l ∷ earlier) e = go (same (name_in l) name) refl (given-told name earlier) e
  where
    go :
        (t : Bool) → same (name_in l) name ≡ t → (given name earlier ≡ true → Given name earlier) → cond t true (given name earlier) ≡ true →
        Given name (l ∷ earlier)
    go true q later e = Memᴰ.head (sym (same_equal (name_in l) name q))
    go false q later e = Memᴰ.tail (later e)

told-given : (name : List ℕ) (earlier : List Line) → Given name earlier → given name earlier ≡ true
told-given name [] m = absurd (Memᴰ.not-nil m)
told-given name (l ∷ earlier) (Memᴰ.head e) =
    ap (λ (t : Bool). cond t true (given name earlier)) (equal_same (name_in l) name (sym e))
told-given name (l ∷ earlier) (Memᴰ.tail m) = go (same (name_in l) name) (told-given name earlier m)
  where
    go : (t : Bool) → given name earlier ≡ true → cond t true (given name earlier) ≡ true
    go true e = refl
    go false e = e

-- the test holds of the names that were given
pub given_exactly : (name : List ℕ) (earlier : List Line) → (given name earlier ≡ true) ↔ Given name earlier
given_exactly name earlier = (given-told name earlier, told-given name earlier)

-- each of the names was given
abbrev AllGiven : List (List ℕ) → List Line → Type 0
AllGiven names earlier = (name : List ℕ) → Memᴰ name names → Given name earlier

all_told : (names : List (List ℕ)) (earlier : List Line) → all_given names earlier ≡ true → AllGiven names earlier
all_told [] earlier e name m = absurd (Memᴰ.not-nil m)
all_told (n ∷ names) earlier e name (Memᴰ.head s) =
    subst (λ (x : List ℕ). Given x earlier) (sym s) (given-told n earlier (and_both (given n earlier) (all_given names earlier) e).0)
all_told (n ∷ names) earlier e name (Memᴰ.tail m) =
    all_told names earlier (and_both (given n earlier) (all_given names earlier) e).1 name m

told-all : (names : List (List ℕ)) (earlier : List Line) → AllGiven names earlier → all_given names earlier ≡ true
told-all [] earlier h = refl
told-all (n ∷ names) earlier h =
    both-and (told-given n earlier (h n (Memᴰ.head refl))) (told-all names earlier (λ name m. h name (Memᴰ.tail m)))

-- the test of several holds where each was given
pub all-given_exactly :
    (names : List (List ℕ)) (earlier : List Line) →
    (all_given names earlier ≡ true) ↔ ((name : List ℕ) → Memᴰ name names → Given name earlier)
all-given_exactly names earlier = (all_told names earlier, told-all names earlier)

-- a name of which the test does not hold was not given
not-told : (name : List ℕ) (earlier : List Line) → given name earlier ≡ false → Given name earlier → ⊥
not-told name earlier e m = false≢true (sym e ∙ told-given name earlier m)

-- where the test of several does not hold, one was not given
one-not-given :
    (names : List (List ℕ)) (earlier : List Line) → all_given names earlier ≡ false →
    (name : List ℕ) × Memᴰ name names × (Given name earlier → ⊥)
one-not-given [] earlier e = absurd (false≢true (sym e))
one-not-given (n ∷ names) earlier e = go (given n earlier) refl (one-not-given names earlier) e
  where
    go :
        (t : Bool) → given n earlier ≡ t →
        (all_given names earlier ≡ false → (name : List ℕ) × Memᴰ name names × (Given name earlier → ⊥)) →
        (t && all_given names earlier) ≡ false → (name : List ℕ) × Memᴰ name (n ∷ names) × (Given name earlier → ⊥)
    go true q later e = let (name, m, missing) = later e in (name, Memᴰ.tail m, missing)
    go false q later e = (n, Memᴰ.head refl, not-told n earlier q)

-- a test that cannot hold does not
never_holds : (t : Bool) → (t ≡ true → ⊥) → t ≡ false
never_holds true n = absurd (n refl)
never_holds false n = refl

-- ---- the next line

-- the reply on a line, by what the tests of its names say
abbrev weighed : (earlier : List Line) (l : Line) (taken known : Bool) → Reply Line
weighed earlier l taken known =
    cond taken (Reply.refused 26 (suc (length earlier))) (cond known (Reply.answered l) (Reply.refused 27 (suc (length earlier))))

-- the reply on bytes behind earlier lines, by whether there may be no more of these
abbrev limited : (earlier : List Line) (body : List ℕ) (full : Bool) → Reply Line
limited earlier body full = cond full (Reply.refused 25 (suc (length earlier))) (judged earlier (line_of body))

-- what a reply on the line behind earlier ones says
abbrev Said : (earlier : List Line) (body : List ℕ) → Reply Line → Type 0
Said earlier body (Reply.refused number place) = BadLine earlier body number × (place ≡ suc (length earlier))
Said earlier body (Reply.answered l) =
    Spells body l × (length earlier < line_limit) × (Given (name_in l) earlier → ⊥) × AllGiven (uses (piece_in l)) earlier

said : (earlier : List Line) (body : List ℕ) → Said earlier body (next_line earlier body)
said earlier body = tried (leb line_limit (length earlier)) refl
  where
    used :
        (l : Line) → Spells body l → length earlier < line_limit → (Given (name_in l) earlier → ⊥) → (t : Bool) →
        all_given (uses (piece_in l)) earlier ≡ t → Said earlier body (weighed earlier l false t)
    used l s few fresh true q = (s, few, fresh, all_told (uses (piece_in l)) earlier q)
    used l s few fresh false q =
        let (name, m, missing) = one-not-given (uses (piece_in l)) earlier q in (BadLine.name_unknown few s fresh m missing, refl)

    named :
        (l : Line) → Spells body l → length earlier < line_limit → (t : Bool) → given (name_in l) earlier ≡ t →
        Said earlier body (weighed earlier l t (all_given (uses (piece_in l)) earlier))
    named l s few true q = (BadLine.name-given few s (given-told (name_in l) earlier q), refl)
    named l s few false q = used l s few (not-told (name_in l) earlier q) (all_given (uses (piece_in l)) earlier) refl

    formed : length earlier < line_limit → (o : Option Line) → line_of body ≡ o → Said earlier body (judged earlier o)
    formed few none q = (BadLine.malformed few (none-line body q), refl)
    formed few (some l) q = named l (text-line body l q) few (given (name_in l) earlier) refl

    tried : (t : Bool) → leb line_limit (length earlier) ≡ t → Said earlier body (limited earlier body t)
    tried true q = (BadLine.past_the_last (leb-true line_limit (length earlier) q), refl)
    tried false q = formed (leb-false line_limit (length earlier) q) (line_of body) refl

-- a refused line is bad by that number, and the next one
pub line-bad :
    (earlier : List Line) (body : List ℕ) (number place : ℕ) → next_line earlier body ≡ Reply.refused number place →
    BadLine earlier body number × (place ≡ suc (length earlier))
line-bad earlier body number place e = subst (Said earlier body) e (said earlier body)

-- an answered line makes a book of the lines that were one, and is what the bytes are the text of
pub line-good :
    (earlier : List Line) (body : List ℕ) (l : Line) → Book earlier → next_line earlier body ≡ Reply.answered l →
    Book (l ∷ earlier) × (body ≡ line_text l)
line-good earlier body l book e =
    let (s, few, fresh, known) = subst (Said earlier body) e (said earlier body) in
    (Book.line s.well_formed few fresh known book, s.spelt)

-- within the limit, the line decides
within :
    (earlier : List Line) (body : List ℕ) (o : Option Line) → length earlier < line_limit → line_of body ≡ o →
    next_line earlier body ≡ judged earlier o
within earlier body o few e = ap (limited earlier body) (lt-leb line_limit (length earlier) few) ∙ ap (judged earlier) e

-- bytes that are the text of a line give it
spells_line : {body : List ℕ} {l : Line} → Spells body l → line_of body ≡ some l
spells_line {l = l} s = ap line_of s.spelt ∙ line-text l s.well_formed

-- bytes that are the text of no line give none
spells_none : (body : List ℕ) → ((l : Line) → Spells body l → ⊥) → line_of body ≡ none
spells_none body missing = go (line_of body) refl
  where
    go : (o : Option Line) → line_of body ≡ o → o ≡ none
    go none q = refl
    go (some l) q = absurd (missing l (text-line body l q))

-- within the limit, the tests of the names decide on the text of a line
spelt-next :
    (earlier : List Line) {body : List ℕ} {l : Line} (taken known : Bool) → length earlier < line_limit → Spells body l →
    given (name_in l) earlier ≡ taken → all_given (uses (piece_in l)) earlier ≡ known → next_line earlier body ≡ weighed earlier l taken known
spelt-next earlier {body} {l} taken known few s e f =
    within earlier body (some l) few (spells_line s) ∙ ap₂ (weighed earlier l) e f

-- a bad line is refused by its number
bad-refused :
    {earlier : List Line} {body : List ℕ} {number : ℕ} → BadLine earlier body number →
    next_line earlier body ≡ Reply.refused number (suc (length earlier))
bad-refused {earlier} {body} (BadLine.past_the_last many) = ap (limited earlier body) (le-leb line_limit (length earlier) many)
bad-refused {earlier} {body} (BadLine.malformed few missing) = within earlier body none few (spells_none body missing)
bad-refused {earlier} (BadLine.name-given {l} few s m) =
    spelt-next earlier true (all_given (uses (piece_in l)) earlier) few s (told-given (name_in l) earlier m) refl
bad-refused {earlier} (BadLine.name_unknown {l} {name} few s fresh m missing) =
    spelt-next earlier false false few s (never_holds (given (name_in l) earlier) (λ e. fresh (given-told (name_in l) earlier e)))
    (never_holds (all_given (uses (piece_in l)) earlier) (λ e. missing (all_told (uses (piece_in l)) earlier e name m)))

-- the text of a line that may stand there is answered by it
good-answered :
    (l : Line) (earlier : List Line) → WellFormed l → length earlier < line_limit → (Given (name_in l) earlier → ⊥) →
    AllGiven (uses (piece_in l)) earlier → next_line earlier (line_text l) ≡ Reply.answered l
good-answered l earlier w few fresh known =
    spelt-next earlier false true few (record { well_formed = w; spelt = refl })
    (never_holds (given (name_in l) earlier) (λ e. fresh (given-told (name_in l) earlier e)))
    (told-all (uses (piece_in l)) earlier known)

-- ---- the walk over the lines

-- what a reply says of all texts: they are those of a book, or behind those of a book stands a bad one
abbrev Walked : (all : List (List ℕ)) → Reply (List Line) → Type 0
Walked all (Reply.answered book) = Book book × (all ≡ bodies book)
Walked all (Reply.refused number place) =
    (good : List Line) × (body : List ℕ) × (rest : List (List ℕ)) × Book good × (all ≡ bodies good ++ (body ∷ rest))
    × BadLine good body number × (place ≡ suc (length good))

walked : (earlier : List Line) (texts : List (List ℕ)) → Book earlier → Walked (bodies earlier ++ texts) (book_from earlier texts)
walked earlier [] book = (book, append-nil (bodies earlier))
walked earlier (body ∷ rest) book = go (next_line earlier body) refl (λ l. walked (l ∷ earlier) rest)
  where
    go :
        (r : Reply Line) → next_line earlier body ≡ r →
        ((l : Line) → Book (l ∷ earlier) → Walked (bodies (l ∷ earlier) ++ rest) (book_from (l ∷ earlier) rest)) →
        Walked (bodies earlier ++ (body ∷ rest)) (onward r (λ l. book_from (l ∷ earlier) rest))
    go (Reply.refused number place) q later =
        let (bad, here) = line-bad earlier body number place q in (earlier, body, rest, book, refl, bad, here)
    go (Reply.answered l) q later =
        let (longer, spelt) = line-good earlier body l book q in
        let texts : bodies (l ∷ earlier) ++ rest ≡ bodies earlier ++ (body ∷ rest) =
        append_assoc (bodies earlier) (line_text l ∷ []) rest ∙ ap (λ (s : List ℕ). bodies earlier ++ (s ∷ rest)) (sym spelt) in
        subst (λ (all : List (List ℕ)). Walked all (book_from (l ∷ earlier) rest)) texts (later l longer)

-- lines that are a book are walked over
pub book_passed : {book : List Line} → Book book → (rest : List (List ℕ)) → book_from [] (bodies book ++ rest) ≡ book_from book rest
book_passed Book.empty rest = refl
book_passed (Book.line {l} {earlier} w few fresh known book) rest =
    ap (book_from []) (append_assoc (bodies earlier) (line_text l ∷ []) rest)
    ∙ book_passed book (line_text l ∷ rest)
    ∙ ap (λ (r : Reply Line). onward r (λ m. book_from (m ∷ earlier) rest)) (good-answered l earlier w few fresh known)

-- ---- the tests of the whole book

-- what is answered of such bytes' lines is what they are read as
lines-read :
    {bytes : List ℕ} → length bytes ≤ book_limit → EndsLine bytes → (r : Reply (List Line)) → Walked (lines bytes) r → ReadsBook bytes r
lines-read short ends (Reply.answered book) w = ReadsBook.good short ends w.0 w.1
lines-read {bytes} short ends (Reply.refused number place) w =
    let (good, body, rest, book, texts, bad, here) = w in
    subst (λ (n : ℕ). ReadsBook bytes (Reply.refused number n)) (sym here) (ReadsBook.bad-line rest short ends book texts bad)

-- a test that refuses, or does not
tested :
    {bytes : List ℕ} {number : ℕ} (r : Reply (List Line)) (test : Bool) →
    (test ≡ true → ReadsBook bytes (Reply.refused number 0)) → (test ≡ false → ReadsBook bytes r) → ReadsBook bytes (refuse_if test number r)
tested r true holds fails = holds refl
tested r false holds fails = fails refl

-- the reply is one that the bytes are read as
reads : (bytes : List ℕ) → ReadsBook bytes (book_of bytes)
unfolding book_of
reads [] = ReadsBook.empty refl
reads (b ∷ bytes) =
    tested _ (ltb book_limit (length (b ∷ bytes))) (λ long. ReadsBook.too_long (ltb-true book_limit (length (b ∷ bytes)) long))
    (λ not-long.
    let short = ltb-false book_limit (length (b ∷ bytes)) not-long in
    tested _ (eqb (length (b ∷ bytes)) 0) (λ gone. absurd (some_byte gone))
    (λ filled.
    tested _ (not (eqb (last_byte (b ∷ bytes)) line_feed))
    (λ unfed. ReadsBook.no_line-end short (λ e. some_byte (ap (λ (s : List ℕ). eqb (length s) 0) e)) (unended unfed))
    (λ fed.
    let last = eqb-true (last_byte (b ∷ bytes)) line_feed (not-false (eqb (last_byte (b ∷ bytes)) line_feed) fed) in
    lines-read short (last-ends b bytes last) _ (walked [] (lines (b ∷ bytes)) Book.empty))))
  where
    some_byte : eqb (length (b ∷ bytes)) 0 ≡ true → ⊥
    some_byte e = let gone = eqb-true (length (b ∷ bytes)) 0 e in omega arith

    unended : not (eqb (last_byte (b ∷ bytes)) line_feed) ≡ true → EndsLine (b ∷ bytes) → ⊥
    unended e ends =
        eqb-false (last_byte (b ∷ bytes)) line_feed (not-true (eqb (last_byte (b ∷ bytes)) line_feed) e) (ends_last (b ∷ bytes) ends)

-- bytes that are not empty have a length
some_bytes : (bytes : List ℕ) → (bytes ≡ [] → ⊥) → length bytes ≡ 0 → ⊥
some_bytes [] filled e = filled refl
some_bytes (b ∷ bytes) filled e = omega arith

-- bytes that do not end a line have another last byte
other_last : (bytes : List ℕ) → (EndsLine bytes → ⊥) → last_byte bytes ≡ line_feed → ⊥
other_last [] unended e = omega arith
other_last (b ∷ bytes) unended e = unended (last-ends b bytes e)

-- of bytes within the limit that end a line, the lines decide
tests_pass : (bytes : List ℕ) → length bytes ≤ book_limit → EndsLine bytes → book_of bytes ≡ book_from [] (lines bytes)
unfolding book_of
tests_pass bytes short ends =
    let filled = ends_some bytes ends in
    rw (
      le-ltb book_limit (length bytes) short,
      ne_eqb (length bytes) 0 (omega arith),
      ap not (eq-eqb (last_byte bytes) line_feed (ends_last bytes ends)),
    )

-- what bytes are read as is the reply
reads_only : {bytes : List ℕ} {r : Reply (List Line)} → ReadsBook bytes r → book_of bytes ≡ r
unfolding book_of
reads_only {bytes} (ReadsBook.too_long long) = rw (lt-ltb book_limit (length bytes) long)
reads_only (ReadsBook.empty e) = ap book_of e
reads_only {bytes} (ReadsBook.no_line-end short filled unended) =
    rw (
      le-ltb book_limit (length bytes) short,
      ne_eqb (length bytes) 0 (some_bytes bytes filled),
      ap not (ne_eqb (last_byte bytes) line_feed (other_last bytes unended)),
    )
reads_only {bytes} (ReadsBook.bad-line {earlier = earlier} {body = body} rest short ends book texts bad) =
    tests_pass bytes short ends
    ∙ ap (book_from []) texts
    ∙ book_passed book (body ∷ rest)
    ∙ ap (λ (r : Reply Line). onward r (λ l. book_from (l ∷ earlier) rest)) (bad-refused bad)
reads_only {bytes} (ReadsBook.good {book = book} short ends good texts) =
    tests_pass bytes short ends ∙ ap (book_from []) (texts ∙ sym (append-nil (bodies book))) ∙ book_passed good []

-- the function answers what the relation says, and nothing else
pub reads_exactly : (bytes : List ℕ) (reply : Reply (List Line)) → (book_of bytes ≡ reply) ↔ ReadsBook bytes reply
reads_exactly bytes reply = (λ e. subst (ReadsBook bytes) e (reads bytes), reads_only)

-- ---- what follows

-- a book has no more lines than the limit
pub lines-few : {book : List Line} → Book book → length book ≤ line_limit
lines-few Book.empty = omega arith
lines-few (Book.line w few fresh known book) = few

-- the number of a bad line is one of a line's
bad-number : {earlier : List Line} {body : List ℕ} {number : ℕ} → BadLine earlier body number → Memᴰ number (25 ∷ 26 ∷ 27 ∷ [])
bad-number (BadLine.past_the_last many) = Memᴰ.head refl
bad-number (BadLine.malformed few missing) = Memᴰ.head refl
bad-number (BadLine.name-given few s m) = Memᴰ.tail (Memᴰ.head refl)
bad-number (BadLine.name_unknown few s fresh m missing) = Memᴰ.tail (Memᴰ.tail (Memᴰ.head refl))

-- a refusal's number and line are listed
refusal-listed :
    {bytes : List ℕ} {number line : ℕ} → ReadsBook bytes (Reply.refused number line) →
    Refuses (10 ∷ 11 ∷ 12 ∷ []) (25 ∷ 26 ∷ 27 ∷ []) 1 257 number line
refusal-listed (ReadsBook.too_long long) = Refuses.at_zero (Memᴰ.head refl) refl
refusal-listed (ReadsBook.empty e) = Refuses.at_zero (Memᴰ.tail (Memᴰ.head refl)) refl
refusal-listed (ReadsBook.no_line-end short filled unended) =
    Refuses.at_zero (Memᴰ.tail (Memᴰ.tail (Memᴰ.head refl))) refl
refusal-listed (ReadsBook.bad-line rest short ends book texts bad) =
    let few = lines-few book in Refuses.at_place (bad-number bad) (omega arith) (omega arith)

-- what is refused of a book is 10, 11 or 12 at line 0, or 25, 26 or 27 at a line from 1 to the one behind the limit
pub book-refused :
    (bytes : List ℕ) (number line : ℕ) → book_of bytes ≡ Reply.refused number line →
    Refuses (10 ∷ 11 ∷ 12 ∷ []) (25 ∷ 26 ∷ 27 ∷ []) 1 257 number line
book-refused bytes number line e = refusal-listed ((reads_exactly bytes (Reply.refused number line)).0 e)

-- there is a text for each line
length-bodies : (book : List Line) → length (bodies book) ≡ length book
length-bodies [] = refl
length-bodies (l ∷ earlier) = omega (arith, length-append (bodies earlier) (line_text l ∷ []), length-bodies earlier)

-- what bytes are read as is a book of some lines
lines-book :
    {bytes : List ℕ} {book : List Line} → ReadsBook bytes (Reply.answered book) →
    Book book × (1 ≤ length book) × (lines bytes ≡ bodies book)
lines-book {bytes} {book} (ReadsBook.good short ends good texts) =
    (good, omega (arith, some-line bytes ends, ap length texts, length-bodies book), texts)

-- what is answered is a book of some lines, whose texts are the lines of the bytes
pub book-read :
    (bytes : List ℕ) (book : List Line) → book_of bytes ≡ Reply.answered book → Book book × (1 ≤ length book) × (lines bytes ≡ bodies book)
book-read bytes book e = lines-book ((reads_exactly bytes (Reply.answered book)).0 e)
