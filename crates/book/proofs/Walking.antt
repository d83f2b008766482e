-- All lines, one after the other: where the walk through a book is, the next line, and what all lines come to where one stops or the last is
-- reached. Carried by what is read of the bytes that are left, behind the lines that were played. Assumes nothing.
use Prim.Native.Nat.{ℕ, suc, ◌+◌, ◌-◌, ◌≤◌, ◌<◌}
use native.Mathlib.Omega.{arith}
use mathlib.Core.Path.{◌≡◌, refl, sym, ◌∙◌, ap, ap₂, subst}
use mathlib.Core.List.{List, [], ◌∷◌, ◌++◌, append_assoc, append-nil}
use lib.ListN.{length, set, take, drop, replicate, length-append, length-set, length-replicate}
use lib.Seq.{take_at, take-suc-set, drop_at}
use native.Mathlib.Numerals.{add-one}
use Rattle.slices.specs.Find.{index_of}
use Rattle.slices.specs.Part.{part}
use Rattle.slices.specs.Split.{tab, line_feed, lines, last_byte}
use Rattle.calculus.specs.Term.{text, size}
use Rattle.calculus.specs.Run as runs
use Rattle.reading.specs.Reply.{Reply, onward}
use Rattle.finishing.specs.Answer.{outcome_of}
use Rattle.finishing.specs.declared.Outcome.{Outcome}
use Rattle.finishing.specs.declared.Outcome.TheVariants.{Finished, Spent, NoRoom}
use Rattle.books.specs.Piece.{piece_text}
use Rattle.books.specs.Line.{Line, name_in, piece_in, line_text, WellFormed}
use Rattle.books.specs.Book.{line_limit, Book, ReadsBook, next_line, book_from, book_of}
use Rattle.books.specs.Play.{Result, term_in, Play, further, play}
use Rattle.books.proofs.Names.{name_index}
use Rattle.books.proofs.LineEnds.{ends_last}
use Rattle.books.proofs.Reading.{line-good, reads_exactly, book-read, book_passed, lines-few}
use Rattle.book_names.specs.Key.{key_of, keys_of}
use Rattle.book_lines.specs.Fault.{piece_field}
use Rattle.book_reading.specs.Table.{table_of}
use Rattle.book_reading.proofs.Lines.{line-ends, one_line, no_line}
use Rattle.line_playing.specs.Shelf.{Shelved, Lent, Playable, Gives, LineLeft}
use Rattle.line_playing.specs.declared.LineEnd.{LineEnd}
use Rattle.line_playing.specs.declared.LineEnd.TheVariants as LineEnds
use Rattle.book.specs.declared.Played.{Played}
use Rattle.book.specs.Lines.{LinesReady, PlayLeft}
use Rattle.book_names.proofs.Given.{length_keys}
use Rattle.line_playing.proofs.Shelves.{as_many, shelf_more}

-- ---- the lines that are left

-- a book that was read ends with a line feed, and its lines are what is read of it
read-last : (book : List ℕ) (whole : List Line) → book_of book ≡ Reply.answered whole → last_byte book ≡ line_feed
read-last book whole e = go ((reads_exactly book (Reply.answered whole)).0 e)
  where
    go : ReadsBook book (Reply.answered whole) → last_byte book ≡ line_feed
    go (ReadsBook.good short ends b same) = ends_last book ends

read-from : (book : List ℕ) (whole : List Line) → book_of book ≡ Reply.answered whole → book_from [] (lines book) ≡ Reply.answered whole
read-from book whole e =
    let (b, some, same) = book-read book whole e in
    ap (book_from []) (same ∙ sym (append-nil _)) ∙ book_passed b []

-- the first of the lines that are left
pub record First (earlier : List Line) (body : List ℕ) (rest : List (List ℕ)) (whole : List Line) : Type 0 where
  pub l : Line
  pub next : next_line earlier body ≡ Reply.answered l
  pub others : book_from (l ∷ earlier) rest ≡ Reply.answered whole

first : (earlier : List Line) (body : List ℕ) (rest : List (List ℕ)) (whole : List Line) → book_from earlier (body ∷ rest) ≡ Reply.answered whole → First earlier body rest whole
first earlier body rest whole e = go (next_line earlier body) refl e
  where
    go :
        (r : Reply Line) → next_line earlier body ≡ r → onward r (λ l. book_from (l ∷ earlier) rest) ≡ Reply.answered whole →
        First earlier body rest whole
    go (Reply.refused number place) q e = let z : ◌≡◌ {A = ℕ} 0 1 = cc in absurd (omega arith)
    go (Reply.answered l) q e = record { l = l; next = q; others = e }

-- the lines that are there begin the book, and so do their names' numbers
keys_begin :
    (earlier : List Line) (rest : List (List ℕ)) (whole : List Line) → book_from earlier rest ≡ Reply.answered whole →
    (more : List ℕ) × (keys_of whole ≡ keys_of earlier ++ more)
keys_begin earlier [] whole e = let same : earlier ≡ whole = cc in ([], sym (ap keys_of same) ∙ sym (append-nil (keys_of earlier)))
keys_begin earlier (body ∷ rest) whole e =
    let f = first earlier body rest whole e in
    let (more, same) = keys_begin (f.l ∷ earlier) rest whole f.others in
    (key_of (name_in f.l) ∷ more, same ∙ append_assoc (keys_of earlier) (key_of (name_in f.l) ∷ []) more)

-- as many of the table's numbers as there are lines are theirs
keys_front :
    (earlier : List Line) (rest : List (List ℕ)) (whole : List Line) (keys : List ℕ) (n : ℕ) → book_from earlier rest ≡ Reply.answered whole →
    keys ≡ table_of (Reply.answered whole) → n ≡ length earlier → take n keys ≡ keys_of earlier
keys_front earlier rest whole keys n e table counted =
    let zeros : List ℕ = replicate (line_limit - length whole) 0 in
    let (more, same) = keys_begin earlier rest whole e in
    ap (take n) (table ∙ ap (λ (ks : List ℕ). ks ++ zeros) same ∙ append_assoc (keys_of earlier) more zeros)
    ∙ take_at (keys_of earlier) (more ++ zeros) n (length_keys earlier ∙ sym counted)

-- where the lines that are there stop, the book stops
stops-later :
    (fuel area : ℕ) (o : runs.Outcome) (n : ℕ) (earlier : List Line) (rest : List (List ℕ)) (whole : List Line) →
    book_from earlier rest ≡ Reply.answered whole → play fuel area earlier ≡ Play.stopped o n → play fuel area whole ≡ Play.stopped o n
stops-later fuel area o n earlier [] whole e stopped = let same : earlier ≡ whole = cc in sym (ap (play fuel area) same) ∙ stopped
stops-later fuel area o n earlier (body ∷ rest) whole e stopped =
    let f = first earlier body rest whole e in
    stops-later fuel area o n (f.l ∷ earlier) rest whole f.others (ap (further fuel area f.l) stopped)

-- ---- where the walk is

-- the last result stands in the area
abbrev pub LastIn : List Result → (sized : ℕ) (area : List ℕ) → Type 0
LastIn [] sized area = Unit
LastIn (r ∷ earlier) sized area = (sized ≡ size (term_in r)) × (take sized area ≡ text (term_in r))

pub record Walked
    (book keys area₀ work₀ : List ℕ) (fuel at count used sized : ℕ) (ends area work store : List ℕ) : Type 0 where
  pub whole : List Line
  pub read : book_of book ≡ Reply.answered whole
  pub table : keys ≡ table_of (Reply.answered whole)
  pub earlier : List Line
  pub results : List Result
  pub shelved : Shelved (take count keys) (take (count + 1) ends) store used earlier results
  pub counted : count ≡ length earlier
  pub comes : book_from earlier (lines (drop at book)) ≡ Reply.answered whole
  pub played : play fuel (length area₀) earlier ≡ Play.finished results
  pub last : LastIn results sized area
  pub lent : Lent area work fuel
  pub area-long : length area ≡ length area₀
  pub work_long : length work ≡ length work₀
  pub ends-long : length ends ≡ suc line_limit

pub walk_start :
    (book keys area work store : List ℕ) (fuel : ℕ) → LinesReady book keys area work store fuel →
    Walked book keys area work fuel 0 0 0 0 (replicate (suc line_limit) 0) area work store
walk_start book keys area work store fuel ready =
    record {
      whole = ready.lines;
      read = ready.read;
      table = ready.keyed;
      earlier = [];
      results = [];
      shelved =
          record {
            book = Book.empty;
            named = refl;
            keyed = refl;
            ended = refl;
            filled = refl;
            held = refl;
            fits = omega arith;
            long = ready.long;
          };
      counted = refl;
      comes = read-from book ready.lines ready.read;
      played = refl;
      last = tt;
      lent = ready.lent;
      area-long = refl;
      work_long = refl;
      ends-long = refl;
    }

module _
    {book keys area₀ work₀ : List ℕ} {fuel at count used sized : ℕ} {ends area work store : List ℕ}
    (walked : Walked book keys area₀ work₀ fuel at count used sized ends area work store) where
  -- a table of ends has room for one more
  pub walk-few : count ≤ line_limit
  walk-few = omega (arith, lines-few walked.shelved.book, walked.counted)

  pub walk-table : length keys ≡ line_limit
  walk-table =
      let (b, some, same) = book-read book walked.whole walked.read in
      let few = lines-few b in
      let zeros : List ℕ = replicate (line_limit - length walked.whole) 0 in
      ap length walked.table ∙ length-append (keys_of walked.whole) zeros
      ∙ omega (arith, length_keys walked.whole, length-replicate {A = ℕ} (line_limit - length walked.whole) 0, few)

  -- ---- the next line

  module _ (left : at < length book) (feed : ℕ) (found : feed ≡ at + index_of line_feed (drop at book)) where
    abbrev body : List ℕ
    body = part at feed book

    pub walk-line-ends : feed < length book
    walk-line-ends = line-ends book at feed (read-last book walked.whole walked.read) left found

    pub next : First walked.earlier body (lines (drop (feed + 1) book)) walked.whole
    next =
        first walked.earlier body (lines (drop (feed + 1) book)) walked.whole
        (ap (book_from walked.earlier) (sym (one_line book at feed (read-last book walked.whole walked.read) left found)) ∙ walked.comes)

    longer : Book (next.l ∷ walked.earlier) × (body ≡ line_text next.l)
    longer = line-good walked.earlier body next.l walked.shelved.book next.next

    pub walk-room : count < line_limit
    walk-room = omega (arith, lines-few longer.0, walked.counted)

    -- what stands behind its tab is the text of its piece
    field-piece : (l : Line) → WellFormed l → piece_field (line_text l) ≡ piece_text (piece_in l)
    field-piece l well =
        let index = name_index tab (piece_text (piece_in l)) (omega arith) well.named in
        ap (λ (n : ℕ). drop (suc n) (line_text l)) index
        ∙ ap (drop (suc (length (name_in l)))) (sym (append_assoc (name_in l) (tab ∷ []) (piece_text (piece_in l))))
        ∙ drop_at (name_in l ++ (tab ∷ [])) (piece_text (piece_in l)) (suc (length (name_in l)))
        (omega (arith, length-append (name_in l) (tab ∷ [])))

    playable-line : {l : Line} {earlier : List Line} (piece : List ℕ) → Book (l ∷ earlier) → piece ≡ piece_text (piece_in l) → Playable piece earlier l
    playable-line piece (Book.line well few fresh known b) spelt = record { well_formed = well; spelt = spelt; given = known }

    well-formed-line : {l : Line} {earlier : List Line} → Book (l ∷ earlier) → WellFormed l
    well-formed-line (Book.line well few fresh known b) = well

    pub walk-playable : (piece : List ℕ) → piece ≡ piece_field body → Playable piece walked.earlier next.l
    walk-playable piece cut =
        playable-line piece longer.0 (cut ∙ ap piece_field longer.1 ∙ field-piece next.l (well-formed-line longer.0))

    -- what it comes to
    abbrev pub came : Play
    came = further fuel (length area) next.l (Play.finished walked.results)

    came-play : play fuel (length area₀) (next.l ∷ walked.earlier) ≡ came
    came-play = ap₂ (λ (a : ℕ) (p : Play). further fuel a next.l p) (sym walked.area-long) walked.played

    -- it stops, and so does the book
    walk-stops :
        (end : Played) (o : Outcome) (p : runs.Outcome) (area' : List ℕ) → outcome_of o ≡ p →
        (end.outcome ≡ o) × (end.line ≡ count + 1) × (end.size ≡ 0) →
        came ≡ Play.stopped p (suc (length walked.results)) → (whole : List Line) → book_of book ≡ Reply.answered whole →
        PlayLeft (play fuel (length area₀) whole) end.outcome end.line end.size area'
    walk-stops end o p area' same is stopped whole read =
        let one : walked.whole ≡ whole = cc (sym walked.read ∙ read) in
        let ends_so : play fuel (length area₀) whole ≡ Play.stopped p (suc (length walked.results)) =
        ap (play fuel (length area₀)) (sym one)
        ∙ stops-later fuel (length area₀) p (suc (length walked.results)) (next.l ∷ walked.earlier) (lines (drop (feed + 1) book))
        walked.whole next.others (came-play ∙ stopped) in
        subst (λ (q : Play). PlayLeft q end.outcome end.line end.size area') (sym ends_so)
        (ap outcome_of is.0 ∙ same, omega (arith, is.1, walked.counted, as_many walked.earlier walked.results walked.shelved.named), is.2)

    pub walk-spent :
        (e : LineEnd) (end : Played) (area' store' : List ℕ) → e ≡ LineEnds.Spent →
        LineLeft e came next.l walked.results used area' store' → (end.outcome ≡ Spent) × (end.line ≡ count + 1) × (end.size ≡ 0) →
        (whole : List Line) → book_of book ≡ Reply.answered whole →
        PlayLeft (play fuel (length area₀) whole) end.outcome end.line end.size area'
    walk-spent e end area' store' same left is =
        walk-stops end Spent runs.Outcome.spent area' refl is
        (subst (λ (x : LineEnd). LineLeft x came next.l walked.results used area' store') same left)

    pub walk-no_room :
        (e : LineEnd) (end : Played) (area' store' : List ℕ) → e ≡ LineEnds.NoRoom →
        LineLeft e came next.l walked.results used area' store' → (end.outcome ≡ NoRoom) × (end.line ≡ count + 1) × (end.size ≡ 0) →
        (whole : List Line) → book_of book ≡ Reply.answered whole →
        PlayLeft (play fuel (length area₀) whole) end.outcome end.line end.size area'
    walk-no_room e end area' store' same left is =
        walk-stops end NoRoom runs.Outcome.no_room area' refl is
        (subst (λ (x : LineEnd). LineLeft x came next.l walked.results used area' store') same left)

    -- it finishes
    pub walk-gave :
        (e : LineEnd) (more : ℕ) (area' store' : List ℕ) → e ≡ LineEnds.Finished more →
        LineLeft e came next.l walked.results used area' store' →
        Gives came next.l walked.results used more area' store'
    walk-gave e more area' store' same left = subst (λ (x : LineEnd). LineLeft x came next.l walked.results used area' store') same left

    -- and the walk goes on behind it
    pub walk-on :
        (more : ℕ) (ends' area' work' store' : List ℕ) → Gives came next.l walked.results used more area' store' →
        ends' ≡ set ends (count + 1) (used + more) → length area' ≡ length area → length work' ≡ length work → length store' ≡ length store →
        Walked book keys area₀ work₀ fuel (feed + 1) (count + 1) (used + more) more ends' area' work' store'
    walk-on more ends' area' work' store' gives set' along wlong slong =
        let counted : count + 1 ≡ length (next.l ∷ walked.earlier) = omega (arith, walked.counted) in
        let keyed : take (count + 1) keys ≡ take count keys ++ (key_of (name_in next.l) ∷ []) =
        keys_front (next.l ∷ walked.earlier) (lines (drop (feed + 1) book)) walked.whole keys (count + 1) next.others walked.table counted
        ∙ ap (λ (ks : List ℕ). ks ++ (key_of (name_in next.l) ∷ [])) (sym walked.shelved.keyed) in
        let room : count + 1 < length ends = omega (arith, walk-room, walked.ends-long) in
        let ended : take (count + 1 + 1) ends' ≡ take (count + 1) ends ++ ((used + more) ∷ []) =
        ap₂ take (add-one (count + 1)) set' ∙ take-suc-set ends (count + 1) (used + more) room in
        let lines' : List Line = next.l ∷ walked.earlier in
        let results' : List Result = Result.result (name_in next.l) gives.result ∷ walked.results in
        let shelf =
        shelf_more next.l gives.result walked.shelved longer.0 gives.as_large gives.in_store gives.fits slong in
        record {
          whole = walked.whole;
          read = walked.read;
          table = walked.table;
          earlier = lines';
          results = results';
          shelved =
              subst (λ (ks : List ℕ). Shelved ks (take (count + 1 + 1) ends') store' (used + more) lines' results') (sym keyed)
              (subst (λ (es : List ℕ). Shelved (take count keys ++ (key_of (name_in next.l) ∷ [])) es store' (used + more) lines' results') (sym ended) shelf);
          counted = counted;
          comes = next.others;
          played = came-play ∙ gives.came_to;
          last = (gives.as_large, gives.in_area);
          lent =
              record {
                short = omega (arith, walked.lent.short, along);
                room = omega (arith, walked.lent.room, along, wlong);
                fuelled = walked.lent.fuelled;
              };
          area-long = along ∙ walked.area-long;
          work_long = wlong ∙ walked.work_long;
          ends-long = ap length set' ∙ length-set ends (count + 1) (used + more) ∙ walked.ends-long;
        }

  -- ---- the end

  pub walk_end :
      length book ≤ at → (whole : List Line) → book_of book ≡ Reply.answered whole →
      PlayLeft (play fuel (length area₀) whole) Finished count sized area
  walk_end over whole read =
      let one : walked.whole ≡ whole = cc (sym walked.read ∙ read) in
      let all : walked.earlier ≡ walked.whole = cc (sym (ap (book_from walked.earlier) (no_line book at over)) ∙ walked.comes) in
      let (b, some, same) = book-read book whole read in
      let many = as_many walked.earlier walked.results walked.shelved.named in
      let counted : count ≡ length walked.results = walked.counted ∙ many in
      let some-line : 1 ≤ length walked.results = omega (arith, some, ap length (all ∙ one), many) in
      subst (λ (q : Play). PlayLeft q Finished count sized area)
      (sym (ap (play fuel (length area₀)) (sym (all ∙ one)) ∙ walked.played))
      (ended walked.results walked.last counted some-line)
    where
      ended :
          (results : List Result) → LastIn results sized area → count ≡ length results → 1 ≤ length results →
          PlayLeft (Play.finished results) Finished count sized area
      ended [] last counted some = absurd (omega arith)
      ended (r ∷ earlier) last counted some = (refl, counted, last.0, last.1)
