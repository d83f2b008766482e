-- The walk from line to line: what holds where `at` is the start of a line, and that one good line more keeps it. Assumes nothing.
use Prim.Native.Nat.{ℕ, zero, suc, ◌+◌, ◌-◌, ◌≤◌, ◌<◌}
use native.Mathlib.Numerals.{add-one}
use native.Mathlib.Omega.{arith}
use native.Mathlib.Decide.{dec_le}
use mathlib.Core.Path.{◌≡◌, refl, sym, ◌∙◌, ap, ap₂, subst}
use mathlib.Core.Bool.{Bool, true, false, not, cond}
use mathlib.Core.List.{List, [], ◌∷◌, ◌++◌}
use mathlib.Core.Option.{none, some}
use borrow.Author.Tests.{eq-eqb, ne_eqb, lt-ltb, le-ltb}
use lib.Dec.{eqb, ltb}
use lib.ListN.{length, get_or, take, drop, set, drop_of_length-le, length-append, length-set, length-take}
use lib.Seq.{get_or-set_same, get_or-set_other, get_or-take}
use Rattle.std.specs.Prelude.{Ok, Err, count_by, ◌==◌}
use Rattle.std.proofs.lemmas.List.Recursion.{is_count_by}
use Rattle.reading.specs.Reply.{Reply, refuse_if}
use Rattle.calculus.specs.Limits.{file_limit, line_limit}
use Rattle.calculus.specs.Typing.{Judgement}
use Rattle.slices.specs.Split.{line_feed, cons_first, cut_or, split, all_but_last, lines, fields, last_byte}
use Rattle.derivation_files.specs.Checking.{Found, earlier_line, found_fields, onward, check_lines, checking_of}
use Rattle.fields.specs.Fields.{judged_at, six_at, Texts, texts_at}
use Rattle.derivation_lines.specs.declared.Fault.{Fault}
use Rattle.derivation_lines.specs.Number.{number_of}
use Rattle.derivation_lines.specs.TextLine.{Outcome, line_fault}
use Rattle.checking.specs.Claim.{claim_of}
use Rattle.fields.specs.declared.Judged.{Judged}
use Rattle.fields.specs.declared.SixFields.{SixFields}
use Rattle.checking.proofs.Claimed.{Claimed, nowhere, claim-start, claim-next, claim-end}
use Rattle.instances.proofs.TextInstance.{texts_of}
use Rattle.fields.proofs.Cutting.{head_of, tail_of, first_line, later_pieces, some-piece, line-ends}
use Rattle.derivation_lines.proofs.TextLine.{Table, Verdict, earlier-none, line-verdict, follows_six}

-- ---- a line is left

last-drop : (at : ℕ) (s : List ℕ) → at < length s → last_byte (drop at s) ≡ last_byte s
last-drop zero s h = refl
last-drop (suc at) [] h = absurd (omega arith)
last-drop (suc at) (b ∷ []) h = absurd (omega arith)
last-drop (suc at) (b ∷ c ∷ s) h = last-drop at (c ∷ s) (omega arith)

-- bytes whose last is a line feed hold a line
feeds : (b : ℕ) (s : List ℕ) → last_byte (b ∷ s) ≡ line_feed → later_pieces (b ∷ s) ≡ [] → ⊥
feeds b [] e none_left =
    let z : ◌≡◌ {A = ℕ} 0 1 = ap length (sym none_left ∙ ap (λ (t : Bool). tail_of (cut_or t b ([] ∷ []))) (eq-eqb b line_feed e)) in
    omega arith
feeds b (c ∷ s) e none_left = go (eqb b line_feed) (split line_feed (c ∷ s)) (some-piece line_feed (c ∷ s)) (feeds c s e) none_left
  where
    go :
        (t : Bool) (pieces : List (List ℕ)) → pieces ≡ head_of pieces ∷ tail_of pieces → (tail_of pieces ≡ [] → ⊥) →
        tail_of (cut_or t b pieces) ≡ [] → ⊥
    go true pieces some-p later e = let z : ◌≡◌ {A = ℕ} (suc (length (tail_of pieces))) 0 = ap length (sym some-p ∙ e) in omega arith
    go false [] some-p later e = later e
    go false (piece ∷ pieces) some-p later e = later e

pub line-left : (s : List ℕ) (at : ℕ) → last_byte s ≡ line_feed → at < length s → later_pieces (drop at s) ≡ [] → ⊥
line-left s at last h = go (drop at s) refl (last-drop at s h ∙ last)
  where
    go : (l : List ℕ) → drop at s ≡ l → last_byte l ≡ line_feed → later_pieces l ≡ [] → ⊥
    go [] e q none_left = absurd (omega arith)
    go (b ∷ l) e q none_left = feeds b l q none_left

-- the first line, and the lines behind it
lines-first : (bytes : List ℕ) → (later_pieces bytes ≡ [] → ⊥) → lines bytes ≡ first_line bytes ∷ all_but_last (later_pieces bytes)
lines-first bytes more = ap all_but_last (some-piece line_feed bytes) ∙ go (later_pieces bytes) more
  where
    go : (pieces : List (List ℕ)) → (pieces ≡ [] → ⊥) → all_but_last (first_line bytes ∷ pieces) ≡ first_line bytes ∷ all_but_last pieces
    go [] more = absurd (more refl)
    go (piece ∷ pieces) more = refl

-- ---- what a verdict says of the whole

-- a line that does not follow is the first bad one
refused-whole :
    (own : Texts) (n : ℕ) (fault : Fault) {outcome : Outcome} (found : Found) (rest : Judgement → Reply ℕ) →
    Verdict own outcome found → Err fault ≡ outcome → Reply.refused (number_of fault) (n + 1) ≡ onward n found rest
refused-whole own n fault found rest (Verdict.good j e) wrong = cc
refused-whole own n fault found rest (Verdict.bad f) wrong =
    let same : fault ≡ f = cc in
    ap₂ Reply.refused (ap number_of same) (add-one n)

-- a line that follows has its judgement
found-good :
    (own : Texts) {outcome : Outcome} (found : Found) → Verdict own outcome found → Ok tt ≡ outcome →
    (j : Judgement) × (own ≡ texts_of j) × (found ≡ Found.good j)
found-good own found (Verdict.good j e) right = (j, e, refl)
found-good own found (Verdict.bad f) right = cc

-- ---- the table, one line longer

earlier-front :
    (earlier : List Judgement) (j : Judgement) (m : ℕ) → m < length earlier →
    earlier_line (earlier ++ (j ∷ [])) (suc m) ≡ earlier_line earlier (suc m)
earlier-front [] j m h = absurd (omega arith)
earlier-front (i ∷ is) j zero h = refl
earlier-front (i ∷ is) j (suc m) h = earlier-front is j m (omega arith)

earlier-last : (earlier : List Judgement) (j : Judgement) → earlier_line (earlier ++ (j ∷ [])) (suc (length earlier)) ≡ some j
earlier-last [] j = refl
earlier-last (i ∷ is) j = earlier-last is j

table_longer :
    (file starts : List ℕ) (earlier : List Judgement) (j : Judgement) (n at : ℕ) → length earlier ≡ n → n < length starts →
    texts_at (judged_at file at) file ≡ texts_of j → Table file starts earlier → Table file (set starts n at) (earlier ++ (j ∷ []))
table_longer file starts earlier j n at count room same table m i e = go (dec_le (suc m) n) (dec_le m n)
  where
    go : Dec (suc m ≤ n) → Dec (m ≤ n) → texts_at (judged_at file (get_or (set starts n at) m 0)) file ≡ texts_of i
    go (yes below) up =
        ap (λ (k : ℕ). texts_at (judged_at file k) file) (get_or-set_other starts n m at 0 (omega arith)) ∙
        table m i (sym (earlier-front earlier j m (omega arith)) ∙ e)
    go (no above) (yes up) =
        let here : m ≡ n = omega arith in
        let place : get_or (set starts n at) m 0 ≡ at = ap (λ (k : ℕ). get_or (set starts n at) k 0) here ∙ get_or-set_same starts n at 0 room in
        let found : some j ≡ some i = sym
        (ap (λ (k : ℕ). earlier_line (earlier ++ (j ∷ [])) (suc k)) (here ∙ sym count) ∙ earlier-last earlier j) ∙ e in
        let which : j ≡ i = cc in
        ap (λ (k : ℕ). texts_at (judged_at file k) file) place ∙ same ∙ ap texts_of which
    go (no above) (no past) =
        let nothing : none ≡ some i = sym (earlier-none (earlier ++ (j ∷ [])) m (omega (arith, length-append earlier (j ∷ [])))) ∙ e in
        cc

-- ---- the lines passed

-- n lines were passed, each of them good, the last with that claim, and the next begins at `at`; what is to come decides the whole
pub record Passed (file starts : List ℕ) (n at : ℕ) (claim : Judged) : Type 0 where
  pub earlier : List Judgement
  pub count : length earlier ≡ n
  pub size : length starts ≡ line_limit
  pub table : Table file starts earlier
  pub left : n + length (lines (drop at file)) ≡ length (lines file)
  pub comes : check_lines n earlier (lines (drop at file)) ≡ check_lines 0 [] (lines file)
  pub claimed : Claimed file claim at

pub start : (file starts : List ℕ) → length starts ≡ line_limit → Passed file starts 0 0 nowhere
start file starts size =
    record {
      earlier = [];
      count = refl;
      size = size;
      table = λ m i e. cc;
      left = omega arith;
      comes = refl;
      claimed = claim-start file;
    }

-- what the code answers behind the last line
pub at-end :
    (file starts : List ℕ) (n at : ℕ) (claim : Judged) → Passed file starts n at claim → length file ≤ at →
    (Reply.answered n ≡ check_lines 0 [] (lines file)) × (texts_at claim file ≡ claim_of file)
at-end file starts n at claim passed h = (
  ap (λ (l : List ℕ). check_lines n passed.earlier (lines l)) (sym (drop_of_length-le file h)) ∙ passed.comes,
  claim-end file claim at passed.claimed h,
)

module _
    (file starts : List ℕ)
    (n at : ℕ)
    (claim : Judged)
    (passed : Passed file starts n at claim)
    (last : last_byte file ≡ line_feed)
    (within : at < length file) where
  one_line : lines (drop at file) ≡ first_line (drop at file) ∷ all_but_last (later_pieces (drop at file))
  one_line = lines-first (drop at file) (line-left file at last within)

  pub room : length (lines file) ≤ line_limit → n < line_limit
  room few = let one = ap length one_line in omega (arith, passed.left)

  module _ (few : length (lines file) ≤ line_limit) where
    -- what is wrong with the line that begins there, where the earlier lines' starts were given
    module _
        {outcome : Outcome}
        {front : List ℕ}
        {six : SixFields}
        (cut : front ≡ take n starts)
        (whole : six ≡ six_at file at)
        (judged : outcome ≡ line_fault file front (length front) six) where
      here : outcome ≡ line_fault file (take n starts) n (six_at file at)
      here =
          let size : length (take n starts) ≡ n = omega (arith, length-take n starts, passed.size, room few) in
          judged
          ∙ ap₂ (λ (s : List ℕ) (l : SixFields). line_fault file s (length s) l) cut whole
          ∙ ap (λ (k : ℕ). line_fault file (take n starts) k (six_at file at)) size

      table : Table file (take n starts) passed.earlier
      table m i e = go (dec_le n m)
        where
          go : Dec (n ≤ m) → texts_at (judged_at file (get_or (take n starts) m 0)) file ≡ texts_of i
          go (yes past) =
              let nothing : none ≡ some i = sym (earlier-none passed.earlier m (omega (arith, passed.count))) ∙ e in
              cc
          go (no before) =
              ap (λ (k : ℕ). texts_at (judged_at file k) file) (get_or-take n starts m 0 (omega arith)) ∙ passed.table m i e

      verdict :
          Verdict (texts_at (judged_at file at) file) outcome (found_fields passed.earlier (fields (first_line (drop at file))))
      verdict =
          subst
          (λ (o : Outcome). Verdict (texts_at (judged_at file at) file) o (found_fields passed.earlier (fields (first_line (drop at file)))))
          (sym here)
          (line-verdict file (take n starts) n passed.earlier passed.count (room few) table at)

      -- at a bad line
      pub refused : (fault : Fault) → Err fault ≡ outcome → Reply.refused (number_of fault) (n + 1) ≡ check_lines 0 [] (lines file)
      refused fault wrong =
          refused-whole (texts_at (judged_at file at) file) n fault
          (found_fields passed.earlier (fields (first_line (drop at file))))
          (λ j. check_lines (suc n) (passed.earlier ++ (j ∷ [])) (all_but_last (later_pieces (drop at file)))) verdict wrong ∙
          ap (check_lines n passed.earlier) (sym one_line) ∙ passed.comes

      -- behind a good line
      onwards :
          Ok tt ≡ outcome →
          ((six_at file at).second.to < length file)
          × Passed file (set starts n at) (n + 1) ((six_at file at).second.to + 1) (six_at file at).own
      onwards right =
          let six = follows_six file (take n starts) n (six_at file at) (right ∙ here) in
          let (ends, later) = line-ends file at six (line-left file at last within) in
          let (j, same, good) = found-good (texts_at (judged_at file at) file)
          (found_fields passed.earlier (fields (first_line (drop at file)))) verdict right in
          let rest : lines (drop at file) ≡ first_line (drop at file) ∷ lines (drop ((six_at file at).second.to + 1) file) = one_line
          ∙ ap (λ (ps : List (List ℕ)). first_line (drop at file) ∷ all_but_last ps) later in
          let one = ap length rest in (
            ends,
            record {
              earlier = passed.earlier ++ (j ∷ []);
              count = omega (arith, length-append passed.earlier (j ∷ []), passed.count);
              size = length-set starts n at ∙ passed.size;
              table =
                  table_longer file starts passed.earlier j n at passed.count (omega (arith, passed.size, room few)) same
                  passed.table;
              left = omega (arith, passed.left);
              comes =
                  ap (λ (k : ℕ). check_lines k (passed.earlier ++ (j ∷ [])) (lines (drop ((six_at file at).second.to + 1) file))) (add-one n) ∙
                  sym (ap (λ (found : Found). onward n found
                  (λ i. check_lines (suc n) (passed.earlier ++ (i ∷ [])) (lines (drop ((six_at file at).second.to + 1) file)))) good) ∙
                  ap (check_lines n passed.earlier) (sym rest) ∙ passed.comes;
              claimed = claim-next file claim at ((six_at file at).second.to + 1) six rest passed.claimed;
            },
          )

      pub again : Ok tt ≡ outcome → (six.second.to < length file) × Passed file (set starts n at) (n + 1) (six.second.to + 1) six.own
      again right =
          subst
          (λ (l : SixFields). (l.second.to < length file) × Passed file (set starts n at) (n + 1) (l.second.to + 1) l.own)
          (sym whole) (onwards right)

-- ---- counting lines

-- a line feed is a line more, any other byte none
length_longer :
    (b : ℕ) (pieces : List (List ℕ)) → pieces ≡ head_of pieces ∷ tail_of pieces →
    length (all_but_last (cons_first b pieces)) ≡ length (all_but_last pieces)
length_longer b [] e = let z : ◌≡◌ {A = ℕ} 0 1 = ap length e in absurd (omega arith)
length_longer b (piece ∷ []) e = refl
length_longer b (piece ∷ next ∷ pieces) e = refl

length-feed :
    (pieces : List (List ℕ)) → pieces ≡ head_of pieces ∷ tail_of pieces → length (all_but_last ([] ∷ pieces)) ≡ suc (length (all_but_last pieces))
length-feed [] e = let z : ◌≡◌ {A = ℕ} 0 1 = ap length e in absurd (omega arith)
length-feed (piece ∷ pieces) e = refl

-- each line feed ends a line
pub lines_counted : (s : List ℕ) → length (lines s) ≡ count_by (λ (b : ℕ). b == line_feed) s
lines_counted = is_count_by (λ (s : List ℕ). length (lines s)) (λ (b : ℕ). b == line_feed) refl (λ b s. more b s (eqb b line_feed))
  where
    more :
        (b : ℕ) (s : List ℕ) (t : Bool) →
        length (all_but_last (cut_or t b (split line_feed s))) ≡ cond t (1 + length (lines s)) (length (lines s))
    more b s true =
        let longer = length-feed (split line_feed s) (some-piece line_feed s) in omega arith
    more b s false = length_longer b (split line_feed s) (some-piece line_feed s)

-- ---- the whole file

pub last_byte_lem : (s : List ℕ) → (length s ≡ 0 → ⊥) → last_byte s ≡ get_or s (length s - 1) 0
last_byte_lem [] n = refl
last_byte_lem (b ∷ []) n = refl
last_byte_lem (b ∷ c ∷ s) n =
    let index : length (b ∷ c ∷ s) - 1 ≡ suc (length (c ∷ s) - 1) = omega arith in
    last_byte_lem (c ∷ s) (omega arith) ∙ sym (ap (λ (k : ℕ). get_or (b ∷ c ∷ s) k 0) index)

-- the refusals of the whole file, in their order
abbrev refusals : (long empty unended many : Bool) → Reply ℕ → Reply ℕ
refusals long empty unended many other = refuse_if long 10 (refuse_if empty 11 (refuse_if unended 12 (refuse_if many 13 other)))

module _ (file : List ℕ) where
  whole :
      (long empty is-feed many : Bool) → ltb file_limit (length file) ≡ long → eqb (length file) 0 ≡ empty →
      eqb (last_byte file) line_feed ≡ is-feed →
      ltb line_limit (length (lines file)) ≡ many → refusals long empty (not is-feed) many (check_lines 0 [] (lines file)) ≡ checking_of file
  unfolding checking_of
  whole long empty is-feed many p q r t =
      sym (ap₂ (λ (a b : Bool). refusals a b (not (eqb (last_byte file) line_feed)) (ltb line_limit (length (lines file)))
      (check_lines 0 [] (lines file))) p q ∙
      ap₂ (λ (a b : Bool). refusals long empty (not a) b (check_lines 0 [] (lines file))) r t)

  pub too_long : file_limit < length file → Reply.refused 10 0 ≡ checking_of file
  too_long h =
      whole true (eqb (length file) 0) (eqb (last_byte file) line_feed) (ltb line_limit (length (lines file)))
      (lt-ltb file_limit (length file) h) refl refl refl

  pub is-empty : length file ≤ file_limit → length file ≡ 0 → Reply.refused 11 0 ≡ checking_of file
  is-empty h e =
      whole false true (eqb (last_byte file) line_feed) (ltb line_limit (length (lines file))) (le-ltb file_limit (length file) h)
      (eq-eqb (length file) 0 e) refl refl

  module _ (short : length file ≤ file_limit) (some_byte : length file ≡ 0 → ⊥) where
    pub no_line-end : (last_byte file ≡ line_feed → ⊥) → Reply.refused 12 0 ≡ checking_of file
    no_line-end n =
        whole false false false (ltb line_limit (length (lines file))) (le-ltb file_limit (length file) short)
        (ne_eqb (length file) 0 some_byte) (ne_eqb (last_byte file) line_feed n) refl

    pub too_many : last_byte file ≡ line_feed → line_limit < length (lines file) → Reply.refused 13 0 ≡ checking_of file
    too_many e h =
        whole false false true true (le-ltb file_limit (length file) short) (ne_eqb (length file) 0 some_byte)
        (eq-eqb (last_byte file) line_feed e)
        (lt-ltb line_limit (length (lines file)) h)

    pub line-by-line : last_byte file ≡ line_feed → length (lines file) ≤ line_limit → check_lines 0 [] (lines file) ≡ checking_of file
    line-by-line e h =
        whole false false true false (le-ltb file_limit (length file) short) (ne_eqb (length file) 0 some_byte)
        (eq-eqb (last_byte file) line_feed e)
        (le-ltb line_limit (length (lines file)) h)
