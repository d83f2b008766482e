-- Checking's reply is the one that `ChecksAs` gives, and no other. Carried by one walk over the lines: what is found of each says why, and
-- lines that follow are walked over. Assumes nothing.
use Prim.Native.Nat.{ℕ, suc, ◌+◌, ◌≤◌}
use native.Mathlib.Omega.{arith}
use mathlib.Core.Path.{◌≡◌, refl, sym, ◌∙◌, ap, ap₂, subst}
use mathlib.Core.Bool.{Bool, true, false, not}
use mathlib.Core.List.{List, [], ◌∷◌, ◌++◌, map, append-nil, append_assoc}
use borrow.Author.Tests.{ltb-true, ltb-false, lt-ltb, le-ltb, eqb-true, eqb-false, eq-eqb, ne_eqb, not-true, not-false}
use lib.Dec.{ltb, eqb}
use lib.ListN.{length, length-append}
use Rattle.reading.specs.Reply.{Reply, refuse_if}
use Rattle.calculus.specs.Typing.{Judgement}
use Rattle.slices.specs.Split.{lines, fields, last_byte}
use Rattle.derivation_files.specs.Line.{Line, body_text, file_text, judgements}
use Rattle.derivation_files.specs.Checking.{Found, found_fields, onward, check_lines, checking_of}
use Rattle.derivation_files.specs.Accepted.{LineFollows, LinesFollow, Accepted}
use Rattle.derivation_files.specs.Checks.{BadLine, EndsLine, ChecksAs}
use Rattle.derivation_files.proofs.Split.{ended, last-append, ended-lines}
use Rattle.derivation_files.proofs.GoodLines.{body, follows-found}
use Rattle.derivation_files.proofs.FoundLines.{Says, says, bad-found}
use Rattle.derivation_files.proofs.Bodies.{bodies, bodies-texts, file_ended, lines_file, length-bodies}

-- ---- the walk over the lines

-- what a reply says of pieces behind n lines: all are lines that follow, in that number with those before, or behind lines that follow
-- stands the first bad one
abbrev Walked : (n : ℕ) (earlier : List Judgement) (pieces : List (List ℕ)) → Reply ℕ → Type 0
Walked n earlier pieces (Reply.answered m) = (ls : List Line) × (bodies ls ≡ pieces) × LinesFollow earlier ls × (n + length ls ≡ m)
Walked n earlier pieces (Reply.refused number place) =
    (good : List Line) × (line : List ℕ) × (rest : List (List ℕ)) × (bodies good ++ (line ∷ rest) ≡ pieces) × LinesFollow earlier good
    × BadLine (earlier ++ judgements good) line number × (suc (n + length good) ≡ place)

-- what a reply says of the pieces behind a line that follows it says of that line's text and them
walked_more :
    (n : ℕ) (earlier : List Judgement) (piece : List ℕ) (pieces : List (List ℕ)) (j : Judgement) (l : Line) → body l ≡ piece →
    l.judgement ≡ j → LineFollows earlier l →
    (r : Reply ℕ) → Walked (suc n) (earlier ++ (j ∷ [])) pieces r → Walked n earlier (piece ∷ pieces) r
walked_more n earlier piece pieces j l spelt same f (Reply.answered m) later =
    let (ls, spelt-ls, follow, count) = later in (
      l ∷ ls,
      ap₂ (λ (p : List ℕ) (ps : List (List ℕ)). p ∷ ps) spelt spelt-ls,
      LinesFollow.line f (subst (λ (k : Judgement). LinesFollow (earlier ++ (k ∷ [])) ls) (sym same) follow),
      omega arith,
    )
walked_more n earlier piece pieces j l spelt same f (Reply.refused number place) later =
    let (good, line, rest, spelt-good, follow, bad, count) = later in
    let grouped = append_assoc earlier (j ∷ []) (judgements good) in
    let judged : earlier ++ (j ∷ judgements good) ≡ earlier ++ judgements (l ∷ good) =
    ap (λ (k : Judgement). earlier ++ (k ∷ judgements good)) (sym same) in (
      l ∷ good,
      line,
      rest,
      ap₂ (λ (p : List ℕ) (ps : List (List ℕ)). p ∷ ps) spelt spelt-good,
      LinesFollow.line f (subst (λ (k : Judgement). LinesFollow (earlier ++ (k ∷ [])) good) (sym same) follow),
      subst (λ (js : List Judgement). BadLine js line number) (grouped ∙ judged) bad,
      omega arith,
    )

-- what is answered of pieces says why
walked : (n : ℕ) (earlier : List Judgement) (pieces : List (List ℕ)) → Walked n earlier pieces (check_lines n earlier pieces)
walked n earlier [] = ([], refl, LinesFollow.end, omega arith)
walked n earlier (piece ∷ pieces) =
    go (found_fields earlier (fields piece)) (says earlier piece) (λ j. walked (suc n) (earlier ++ (j ∷ [])) pieces)
  where
    go :
        (found : Found) → Says earlier piece found →
        ((j : Judgement) → Walked (suc n) (earlier ++ (j ∷ [])) pieces (check_lines (suc n) (earlier ++ (j ∷ [])) pieces)) →
        Walked n earlier (piece ∷ pieces) (onward n found (λ j. check_lines (suc n) (earlier ++ (j ∷ [])) pieces))
    go (Found.bad number) bad later = (
      [],
      piece,
      pieces,
      refl,
      LinesFollow.end,
      subst (λ (js : List Judgement). BadLine js piece number) (sym (append-nil earlier)) bad,
      omega arith,
    )
    go (Found.good j) good later =
        let (l, spelt, same, follows) = good in
        walked_more n earlier piece pieces j l spelt same follows (check_lines (suc n) (earlier ++ (j ∷ [])) pieces) (later j)

-- lines that follow are walked over
follow-onward :
    {earlier : List Judgement} {ls : List Line} (n : ℕ) (pieces : List (List ℕ)) → LinesFollow earlier ls →
    check_lines n earlier (bodies ls ++ pieces) ≡ check_lines (n + length ls) (earlier ++ judgements ls) pieces
follow-onward {earlier} n pieces LinesFollow.end =
    ap₂ (λ (m : ℕ) (js : List Judgement). check_lines m js pieces) (omega arith) (sym (append-nil earlier))
follow-onward {earlier} n pieces (LinesFollow.line {l} {ls} follows rest) =
    ap (λ (found : Found). onward n found (λ j. check_lines (suc n) (earlier ++ (j ∷ [])) (bodies ls ++ pieces)))
    (follows-found earlier l follows)
    ∙ follow-onward (suc n) pieces rest
    ∙ ap₂ (λ (m : ℕ) (js : List Judgement). check_lines m js pieces) (omega arith) (append_assoc earlier (l.judgement ∷ []) (judgements ls))

-- ---- the tests of the whole file

-- a file whose last byte is 10 ends with it
last-ends : (b : ℕ) (bytes : List ℕ) → last_byte (b ∷ bytes) ≡ 10 → EndsLine (b ∷ bytes)
last-ends b [] e = ([], ap (λ (c : ℕ). c ∷ []) e)
last-ends b (c ∷ bytes) e = let (front, same) = last-ends c bytes e in (b ∷ front, ap (λ (s : List ℕ). b ∷ s) same)

-- a file that ends with byte 10 has it for its last byte
ends_last : (file : List ℕ) → EndsLine file → last_byte file ≡ 10
ends_last file ends = ap last_byte ends.1 ∙ last-append ends.0 10 []

-- a file that ends with byte 10 is not empty
ends_some : (file : List ℕ) → EndsLine file → 1 ≤ length file
ends_some file ends = omega (arith, ap length ends.1, length-append ends.0 (10 ∷ []))

-- a file of some bytes, within the limits and ended by byte 10, is accepted where its pieces are lines that follow
lines-accepted :
    (b : ℕ) (bytes : List ℕ) (ls : List Line) → length (b ∷ bytes) ≤ 65536 → last_byte (b ∷ bytes) ≡ 10 → length (lines (b ∷ bytes)) ≤ 1024 →
    bodies ls ≡ lines (b ∷ bytes) → LinesFollow [] ls → Accepted (b ∷ bytes) (length ls)
lines-accepted b bytes ls short fed few spelt follow =
    let counted : length ls ≡ length (lines (b ∷ bytes)) = sym (length-bodies ls) ∙ ap length spelt in
    record {
      listed = ls;
      written = same;
      count = refl;
      some-line = filled ls same;
      few-lines = omega arith;
      short = short;
      follow = follow;
    }
  where
    same : b ∷ bytes ≡ file_text ls
    same = sym (file_ended ls ∙ ap (ended 10) spelt ∙ ended-lines 10 b bytes fed)

    filled : (ms : List Line) → b ∷ bytes ≡ file_text ms → 1 ≤ length ms
    filled [] e = let z : ◌≡◌ {A = ℕ} 0 1 = cc in omega arith
    filled (m ∷ ms) e = omega arith

-- what is answered of such a file's lines is what it checks as
lines-check :
    (b : ℕ) (bytes : List ℕ) → length (b ∷ bytes) ≤ 65536 → last_byte (b ∷ bytes) ≡ 10 → length (lines (b ∷ bytes)) ≤ 1024 →
    (r : Reply ℕ) → Walked 0 [] (lines (b ∷ bytes)) r → ChecksAs (b ∷ bytes) r
lines-check b bytes short fed few (Reply.answered m) w =
    let (ls, spelt, follow, count) = w in
    ChecksAs.accepted {n = m} (subst (Accepted (b ∷ bytes)) (omega arith) (lines-accepted b bytes ls short fed few spelt follow))
lines-check b bytes short fed few (Reply.refused number place) w =
    let (good, line, rest, spelt, follow, bad, count) = w in
    let texts : lines (b ∷ bytes) ≡ map body_text good ++ (line ∷ rest) =
    sym spelt ∙ ap (λ (ps : List (List ℕ)). ps ++ (line ∷ rest)) (sym (bodies-texts good)) in
    subst (λ (k : ℕ). ChecksAs (b ∷ bytes) (Reply.refused number k)) (omega arith)
    (ChecksAs.bad-line good line rest short (last-ends b bytes fed) few follow texts bad)

-- a test that refuses, or does not
tested :
    {file : List ℕ} {number : ℕ} (r : Reply ℕ) (test : Bool) →
    (test ≡ true → ChecksAs file (Reply.refused number 0)) → (test ≡ false → ChecksAs file r) → ChecksAs file (refuse_if test number r)
tested r true holds fails = holds refl
tested r false holds fails = fails refl

-- checking's reply is one that the file checks as
pub checks_as : (file : List ℕ) → ChecksAs file (checking_of file)
unfolding checking_of
checks_as [] = ChecksAs.empty refl
checks_as (b ∷ bytes) =
    tested _ (ltb 65536 (length (b ∷ bytes))) (λ long. ChecksAs.too_long (ltb-true 65536 (length (b ∷ bytes)) long))
    (λ not-long.
    let short = ltb-false 65536 (length (b ∷ bytes)) not-long in
    tested _ (eqb (length (b ∷ bytes)) 0) (λ none. absurd (some_byte none))
    (λ filled.
    tested _ (not (eqb (last_byte (b ∷ bytes)) 10))
    (λ unfed. ChecksAs.no_line-end short (λ e. some_byte (ap (λ (s : List ℕ). eqb (length s) 0) e)) (unended unfed))
    (λ fed.
    let last = eqb-true (last_byte (b ∷ bytes)) 10 (not-false (eqb (last_byte (b ∷ bytes)) 10) fed) in
    tested _ (ltb 1024 (length (lines (b ∷ bytes))))
    (λ many. ChecksAs.too_many-lines short (last-ends b bytes last) (ltb-true 1024 (length (lines (b ∷ bytes))) many))
    (λ few. lines-check b bytes short last (ltb-false 1024 (length (lines (b ∷ bytes))) few) _ (walked 0 [] (lines (b ∷ bytes)))))))
  where
    some_byte : eqb (length (b ∷ bytes)) 0 ≡ true → ⊥
    some_byte e = let gone = eqb-true (length (b ∷ bytes)) 0 e in omega arith

    unended : not (eqb (last_byte (b ∷ bytes)) 10) ≡ true → EndsLine (b ∷ bytes) → ⊥
    unended e ends = eqb-false (last_byte (b ∷ bytes)) 10 (not-true (eqb (last_byte (b ∷ bytes)) 10) e) (ends_last (b ∷ bytes) ends)

-- ---- no other reply

-- a file that is not empty has some bytes
some_bytes : (file : List ℕ) → (file ≡ [] → ⊥) → length file ≡ 0 → ⊥
some_bytes [] filled e = filled refl
some_bytes (b ∷ bytes) filled e = omega arith

-- a file that does not end with byte 10 has another last byte
other_last : (file : List ℕ) → (EndsLine file → ⊥) → last_byte file ≡ 10 → ⊥
other_last [] unended e = omega arith
other_last (b ∷ bytes) unended e = unended (last-ends b bytes e)

-- of a file within the limits that ends with byte 10, checking answers what it answers of the lines
tests_pass :
    (file : List ℕ) → length file ≤ 65536 → EndsLine file → length (lines file) ≤ 1024 → checking_of file ≡ check_lines 0 [] (lines file)
unfolding checking_of
tests_pass file short ends few =
    let filled = ends_some file ends in
    rw (
      le-ltb 65536 (length file) short,
      ne_eqb (length file) 0 (omega arith),
      ap not (eq-eqb (last_byte file) 10 (ends_last file ends)),
      le-ltb 1024 (length (lines file)) few,
    )

-- pieces that each end with byte 10 end with it
ended-ends : (piece : List ℕ) (pieces : List (List ℕ)) → EndsLine (ended 10 (piece ∷ pieces))
ended-ends piece [] = (piece, refl)
ended-ends piece (next ∷ pieces) =
    let (front, same) = ended-ends next pieces in
    (piece ++ (10 ∷ front), ap (λ (s : List ℕ). piece ++ (10 ∷ s)) same ∙ sym (append_assoc piece (10 ∷ front) (10 ∷ [])))

-- the text of some lines ends with byte 10
file_ends : (ls : List Line) → 1 ≤ length ls → EndsLine (file_text ls)
file_ends [] some-line = absurd (omega arith)
file_ends (l ∷ ls) some-line = subst EndsLine (sym (file_ended (l ∷ ls))) (ended-ends (body l) (bodies ls))

-- an accepted file is answered with its number of lines
accepted_checked : {file : List ℕ} {n : ℕ} → Accepted file n → checking_of file ≡ Reply.answered n
accepted_checked {file} {n} a =
    let cut : lines file ≡ bodies a.listed = ap lines a.written ∙ lines_file a.listed in
    let counted : length (lines file) ≡ n = ap length cut ∙ length-bodies a.listed ∙ a.count in
    tests_pass file a.short (subst EndsLine (sym a.written) (file_ends a.listed (omega arith))) (omega arith)
    ∙ ap (check_lines 0 []) (cut ∙ sym (append-nil (bodies a.listed)))
    ∙ follow-onward 0 [] a.follow
    ∙ ap Reply.answered (omega arith)

-- a file whose first bad line stands behind those lines is answered with that line
bad_checked :
    (file : List ℕ) (good : List Line) (line : List ℕ) (rest : List (List ℕ)) (number : ℕ) →
    LinesFollow [] good → lines file ≡ map body_text good ++ (line ∷ rest) → BadLine (judgements good) line number →
    check_lines 0 [] (lines file) ≡ Reply.refused number (suc (length good))
bad_checked file good line rest number follow texts bad =
    let later : Judgement → Reply ℕ = λ j. check_lines (suc (0 + length good)) (judgements good ++ (j ∷ [])) rest in
    ap (check_lines 0 []) (texts ∙ ap (λ (ps : List (List ℕ)). ps ++ (line ∷ rest)) (bodies-texts good))
    ∙ follow-onward 0 (line ∷ rest) follow
    ∙ ap (λ (found : Found). onward (0 + length good) found later) (bad-found bad)
    ∙ ap (Reply.refused number) (omega arith)

-- what a file checks as is checking's reply
pub checks_as_only : (file : List ℕ) (r : Reply ℕ) → ChecksAs file r → r ≡ checking_of file
unfolding checking_of
checks_as_only file r (ChecksAs.too_long long) = rw (lt-ltb 65536 (length file) long)
checks_as_only file r (ChecksAs.empty e) = sym (ap checking_of e)
checks_as_only file r (ChecksAs.no_line-end short filled unended) =
    rw (
      le-ltb 65536 (length file) short,
      ne_eqb (length file) 0 (some_bytes file filled),
      ap not (ne_eqb (last_byte file) 10 (other_last file unended)),
    )
checks_as_only file r (ChecksAs.too_many-lines short ends many) =
    let filled = ends_some file ends in
    rw (
      le-ltb 65536 (length file) short,
      ne_eqb (length file) 0 (omega arith),
      ap not (eq-eqb (last_byte file) 10 (ends_last file ends)),
      lt-ltb 1024 (length (lines file)) many,
    )
checks_as_only file r (ChecksAs.bad-line {number} good line rest short ends few follow texts bad) =
    sym (tests_pass file short ends few ∙ bad_checked file good line rest number follow texts bad)
checks_as_only file r (ChecksAs.accepted a) = sym (accepted_checked a)
