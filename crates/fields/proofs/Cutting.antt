-- The fields that stand in a file from an index on are those of the definition: carried by what one tab, and one line's end, do to the
-- pieces of `split`. Assumes nothing.
use Prim.Native.Nat.{ℕ, suc, ◌+◌, ◌-◌, ◌≤◌, ◌<◌}
use native.Mathlib.Omega.{arith}
use native.Mathlib.Decide.{dec_le}
use mathlib.Core.Path.{◌≡◌, refl, sym, ◌∙◌, ap, ap₂}
use mathlib.Core.Bool.{Bool, true, false, cond, ◌&&◌, ◌||◌, not, false≢true}
use mathlib.Core.List.{List, [], ◌∷◌}
use borrow.Author.Tests.{eqb-true, eqb-false, lt-ltb, not-true}
use lib.Dec.{eqb}
use lib.ListN.{length, get_or, take, drop, get_or-eq_default}
use lib.Seq.{drop-drop, get_or-drop}
use Rattle.slices.specs.Split.{tab, line_feed, cons_first, cut_or, split, fields}
use Rattle.fields.specs.Texts.{text_at}
use Rattle.slices.proofs.Decimal.{and_both}
use Rattle.fields.specs.Fields.{stop_in, stop_at, behind_in, field_at, judged_at, six_at, is_tab, has_six}

-- ---- pieces

abbrev pub head_of : List (List ℕ) → List ℕ
head_of [] = []
head_of (piece ∷ pieces) = piece

abbrev pub tail_of : List (List ℕ) → List (List ℕ)
tail_of [] = []
tail_of (piece ∷ pieces) = pieces

-- the first line, without the byte that ends it, and the pieces behind it
abbrev pub first_line : List ℕ → List ℕ
first_line bytes = head_of (split line_feed bytes)

abbrev pub later_pieces : List ℕ → List (List ℕ)
later_pieces bytes = tail_of (split line_feed bytes)

head_longer : (b : ℕ) (pieces : List (List ℕ)) → head_of (cons_first b pieces) ≡ b ∷ head_of pieces
head_longer b [] = refl
head_longer b (piece ∷ pieces) = refl

tail_longer : (b : ℕ) (pieces : List (List ℕ)) → tail_of (cons_first b pieces) ≡ tail_of pieces
tail_longer b [] = refl
tail_longer b (piece ∷ pieces) = refl

-- there is a piece
pub some-piece : (mark : ℕ) (bytes : List ℕ) → split mark bytes ≡ head_of (split mark bytes) ∷ tail_of (split mark bytes)
some-piece mark [] = refl
some-piece mark (b ∷ bytes) = go (eqb b mark) (split mark bytes)
  where
    go : (t : Bool) (pieces : List (List ℕ)) → cut_or t b pieces ≡ head_of (cut_or t b pieces) ∷ tail_of (cut_or t b pieces)
    go true pieces = refl
    go false [] = refl
    go false (piece ∷ pieces) = refl

-- a byte that is no line feed
first_longer : (b : ℕ) (bytes : List ℕ) → eqb b line_feed ≡ false → first_line (b ∷ bytes) ≡ b ∷ first_line bytes
first_longer b bytes e = ap (λ (t : Bool). head_of (cut_or t b (split line_feed bytes))) e ∙ head_longer b (split line_feed bytes)

later_same : (b : ℕ) (bytes : List ℕ) → eqb b line_feed ≡ false → later_pieces (b ∷ bytes) ≡ later_pieces bytes
later_same b bytes e = ap (λ (t : Bool). tail_of (cut_or t b (split line_feed bytes))) e ∙ tail_longer b (split line_feed bytes)

-- ---- one field

-- up to a tab goes one field, and the line goes on behind it
pub tab_field :
    (bytes : List ℕ) → get_or bytes (stop_in bytes) 0 ≡ tab →
    (fields (first_line bytes) ≡ take (stop_in bytes) bytes ∷ fields (first_line (drop (suc (stop_in bytes)) bytes)))
    × (later_pieces bytes ≡ later_pieces (drop (suc (stop_in bytes)) bytes))
tab_field [] e = absurd (omega arith)
tab_field (b ∷ bytes) e = go (eqb b tab) (eqb b line_feed) refl refl (tab_field bytes) e
  where
    go :
        (is-tab is-feed : Bool) → eqb b tab ≡ is-tab → eqb b line_feed ≡ is-feed →
        (get_or bytes (stop_in bytes) 0 ≡ tab →
        (fields (first_line bytes) ≡ take (stop_in bytes) bytes ∷ fields (first_line (drop (suc (stop_in bytes)) bytes)))
        × (later_pieces bytes ≡ later_pieces (drop (suc (stop_in bytes)) bytes))) →
        get_or (b ∷ bytes) (cond (is-tab || is-feed) 0 (suc (stop_in bytes))) 0 ≡ tab →
        (fields (first_line (b ∷ bytes)) ≡ take (cond (is-tab || is-feed) 0 (suc (stop_in bytes))) (b ∷ bytes)
        ∷ fields (first_line (drop (suc (cond (is-tab || is-feed) 0 (suc (stop_in bytes)))) (b ∷ bytes))))
        × (later_pieces (b ∷ bytes) ≡ later_pieces (drop (suc (cond (is-tab || is-feed) 0 (suc (stop_in bytes)))) (b ∷ bytes)))
    go true feed p q later e =
        let no-feed : eqb b line_feed ≡ false = ap (λ (c : ℕ). eqb c line_feed) (eqb-true b tab p) in
        (ap fields (first_longer b bytes no-feed) ∙ ap (λ (t : Bool). cut_or t b (fields (first_line bytes))) p, later_same b bytes no-feed)
    go false true p q later e = absurd (eqb-false b tab p e)
    go false false p q later e =
        let (first, others) = later e in
        (ap fields (first_longer b bytes q) ∙ ap₂ (λ (t : Bool) (ps : List (List ℕ)). cut_or t b ps) p first, later_same b bytes q ∙ others)

-- where no tab follows, the field is the last
pub last_field : (bytes : List ℕ) → (get_or bytes (stop_in bytes) 0 ≡ tab → ⊥) → fields (first_line bytes) ≡ take (stop_in bytes) bytes ∷ []
last_field [] n = refl
last_field (b ∷ bytes) n = go (eqb b tab) (eqb b line_feed) refl refl (last_field bytes) n
  where
    go :
        (is-tab is-feed : Bool) → eqb b tab ≡ is-tab → eqb b line_feed ≡ is-feed →
        ((get_or bytes (stop_in bytes) 0 ≡ tab → ⊥) → fields (first_line bytes) ≡ take (stop_in bytes) bytes ∷ []) →
        (get_or (b ∷ bytes) (cond (is-tab || is-feed) 0 (suc (stop_in bytes))) 0 ≡ tab → ⊥) →
        fields (first_line (b ∷ bytes)) ≡ take (cond (is-tab || is-feed) 0 (suc (stop_in bytes))) (b ∷ bytes) ∷ []
    go true feed p q later n = absurd (n (eqb-true b tab p))
    go false true p q later n = ap (λ (t : Bool). fields (head_of (cut_or t b (split line_feed bytes)))) q
    go false false p q later n = ap fields (first_longer b bytes q) ∙ ap₂ (λ (t : Bool) (ps : List (List ℕ)). cut_or t b ps) p (later n)

-- a line feed ends the line
pub feed-ends :
    (bytes : List ℕ) → get_or bytes (stop_in bytes) 0 ≡ line_feed → later_pieces bytes ≡ split line_feed (drop (suc (stop_in bytes)) bytes)
feed-ends [] e = absurd (omega arith)
feed-ends (b ∷ bytes) e = go (eqb b tab) (eqb b line_feed) refl refl (feed-ends bytes) e
  where
    go :
        (is-tab is-feed : Bool) → eqb b tab ≡ is-tab → eqb b line_feed ≡ is-feed →
        (get_or bytes (stop_in bytes) 0 ≡ line_feed → later_pieces bytes ≡ split line_feed (drop (suc (stop_in bytes)) bytes)) →
        get_or (b ∷ bytes) (cond (is-tab || is-feed) 0 (suc (stop_in bytes))) 0 ≡ line_feed →
        later_pieces (b ∷ bytes) ≡ split line_feed (drop (suc (cond (is-tab || is-feed) 0 (suc (stop_in bytes)))) (b ∷ bytes))
    go true feed p q later e = let nine = eqb-true b tab p in absurd (omega arith)
    go false true p q later e = ap (λ (t : Bool). tail_of (cut_or t b (split line_feed bytes))) q
    go false false p q later e = later_same b bytes q ∙ later e

-- where neither follows, no line ends
pub nothing_ends :
    (bytes : List ℕ) → (get_or bytes (stop_in bytes) 0 ≡ tab → ⊥) → (get_or bytes (stop_in bytes) 0 ≡ line_feed → ⊥) → later_pieces bytes ≡ []
nothing_ends [] n m = refl
nothing_ends (b ∷ bytes) n m = go (eqb b tab) (eqb b line_feed) refl refl (nothing_ends bytes) n m
  where
    go :
        (is-tab is-feed : Bool) → eqb b tab ≡ is-tab → eqb b line_feed ≡ is-feed →
        ((get_or bytes (stop_in bytes) 0 ≡ tab → ⊥) → (get_or bytes (stop_in bytes) 0 ≡ line_feed → ⊥) → later_pieces bytes ≡ []) →
        (get_or (b ∷ bytes) (cond (is-tab || is-feed) 0 (suc (stop_in bytes))) 0 ≡ tab → ⊥) →
        (get_or (b ∷ bytes) (cond (is-tab || is-feed) 0 (suc (stop_in bytes))) 0 ≡ line_feed → ⊥) → later_pieces (b ∷ bytes) ≡ []
    go true feed p q later n m = absurd (n (eqb-true b tab p))
    go false true p q later n m = absurd (m (eqb-true b line_feed q))
    go false false p q later n m = later_same b bytes q ∙ later n m

-- ---- one field at an index

-- the fields from an index to the end of its line
abbrev fields_from : List ℕ → ℕ → List (List ℕ)
fields_from s from = fields (first_line (drop from s))

-- the text of the field at an index, and where the next begins
abbrev text_from : List ℕ → ℕ → List ℕ
text_from s from = text_at (field_at s from) s

abbrev next_from : List ℕ → ℕ → ℕ
next_from s from = behind_in s (stop_at s from)

module _ (s : List ℕ) (from : ℕ) where
  text-taken : text_from s from ≡ take (stop_in (drop from s)) (drop from s)
  text-taken =
      let size : from + stop_in (drop from s) - from ≡ stop_in (drop from s) = omega arith in
      ap (λ (n : ℕ). take n (drop from s)) size

  byte-at-stop : get_or s (stop_at s from) 0 ≡ get_or (drop from s) (stop_in (drop from s)) 0
  byte-at-stop = sym (get_or-drop from s (stop_in (drop from s)) 0)

  -- a byte that is not 0 stands in the file
  in-file : (b : ℕ) → 0 < b → get_or s (stop_at s from) 0 ≡ b → stop_at s from < length s
  in-file b some-b e = go (dec_le (length s) (stop_at s from))
    where
      go : Dec (length s ≤ stop_at s from) → stop_at s from < length s
      go (yes past) = let none = get_or-eq_default s 0 past in absurd (omega (arith, none, e))
      go (no within) = omega arith

  behind-stop : stop_at s from < length s → drop (next_from s from) s ≡ drop (suc (stop_in (drop from s))) (drop from s)
  behind-stop h =
      let behind : next_from s from ≡ from + suc (stop_in (drop from s)) = ap (λ (t : Bool). cond t (stop_at s from + 1) (stop_at s from))
      (lt-ltb (stop_at s from) (length s) h) ∙ omega arith in
      ap (λ (n : ℕ). drop n s) behind ∙ sym (drop-drop (suc (stop_in (drop from s))) from s)

  field-tab :
      is_tab s (stop_at s from) ≡ true →
      (fields_from s from ≡ text_from s from ∷ fields_from s (next_from s from))
      × (later_pieces (drop from s) ≡ later_pieces (drop (next_from s from) s))
  field-tab e =
      let here-tab : get_or s (stop_at s from) 0 ≡ tab = eqb-true (get_or s (stop_at s from) 0) tab e in
      let (first, others) = tab_field (drop from s) (sym byte-at-stop ∙ here-tab) in
      let behind = behind-stop (in-file tab (omega arith) here-tab) in (
        first ∙ ap₂ (λ (t : List ℕ) (l : List ℕ). t ∷ fields (first_line l)) (sym text-taken) (sym behind),
        others
            ∙ ap later_pieces (sym behind),
      )

  field-last : is_tab s (stop_at s from) ≡ false → fields_from s from ≡ text_from s from ∷ []
  field-last e =
      last_field (drop from s) (λ q. eqb-false (get_or s (stop_at s from) 0) tab e (byte-at-stop ∙ q))
      ∙ ap (λ (t : List ℕ). t ∷ []) (sym text-taken)

  -- the field that ends a line that ends
  field-feed :
      is_tab s (stop_at s from) ≡ false → (later_pieces (drop from s) ≡ [] → ⊥) →
      (stop_at s from < length s) × (later_pieces (drop from s) ≡ split line_feed (drop (stop_at s from + 1) s))
  field-feed e ends = go (eqb (get_or s (stop_at s from) 0) line_feed) refl
    where
      go :
          (t : Bool) → eqb (get_or s (stop_at s from) 0) line_feed ≡ t →
          (stop_at s from < length s) × (later_pieces (drop from s) ≡ split line_feed (drop (stop_at s from + 1) s))
      go true q =
          let here-feed : get_or s (stop_at s from) 0 ≡ line_feed = eqb-true (get_or s (stop_at s from) 0) line_feed q in
          let within = in-file line_feed (omega arith) here-feed in
          let behind : from + suc (stop_in (drop from s)) ≡ stop_at s from + 1 = omega arith in (
            within,
            feed-ends (drop from s) (sym byte-at-stop ∙ here-feed)
                ∙ ap (split line_feed) (drop-drop (suc (stop_in (drop from s))) from s ∙ ap (λ (n : ℕ). drop n s) behind),
          )
      go false q =
          absurd (ends (nothing_ends (drop from s)
          (λ r. eqb-false (get_or s (stop_at s from) 0) tab e (byte-at-stop ∙ r))
          (λ r. eqb-false (get_or s (stop_at s from) 0) line_feed q (byte-at-stop ∙ r))))

-- ---- six fields

-- where the six fields begin
abbrev second : List ℕ → ℕ → ℕ
second s at = next_from s at

abbrev third : List ℕ → ℕ → ℕ
third s at = next_from s (second s at)

abbrev fourth : List ℕ → ℕ → ℕ
fourth s at = next_from s (third s at)

abbrev fifth : List ℕ → ℕ → ℕ
fifth s at = next_from s (fourth s at)

abbrev pub sixth : List ℕ → ℕ → ℕ
sixth s at = next_from s (fifth s at)

abbrev tab_at : List ℕ → ℕ → Bool
tab_at s from = is_tab s (stop_at s from)

abbrev Cons : List ℕ → List (List ℕ) → List (List ℕ)
Cons t ts = t ∷ ts

module _ (s : List ℕ) (at : ℕ) where
  one-tab : tab_at s at ≡ true → fields_from s at ≡ text_from s at ∷ fields_from s (second s at)
  one-tab p = (field-tab s at p).0

  two-tabs :
      tab_at s at ≡ true → tab_at s (second s at) ≡ true →
      fields_from s at ≡ text_from s at ∷ text_from s (second s at) ∷ fields_from s (third s at)
  two-tabs p q = one-tab p ∙ ap (Cons (text_from s at)) (field-tab s (second s at) q).0

  three-tabs :
      tab_at s at ≡ true → tab_at s (second s at) ≡ true → tab_at s (third s at) ≡ true →
      fields_from s at ≡ text_from s at ∷ text_from s (second s at) ∷ text_from s (third s at) ∷ fields_from s (fourth s at)
  three-tabs p q r =
      two-tabs p q ∙ ap (λ (ts : List (List ℕ)). text_from s at ∷ text_from s (second s at) ∷ ts) (field-tab s (third s at) r).0

  four-tabs :
      tab_at s at ≡ true → tab_at s (second s at) ≡ true → tab_at s (third s at) ≡ true → tab_at s (fourth s at) ≡ true →
      fields_from s at ≡ text_from s at ∷ text_from s (second s at) ∷ text_from s (third s at) ∷ text_from s (fourth s at) ∷ fields_from s
      (fifth s at)
  four-tabs p q r t =
      three-tabs p q r ∙
      ap (λ (ts : List (List ℕ)). text_from s at ∷ text_from s (second s at) ∷ text_from s (third s at) ∷ ts) (field-tab s (fourth s at) t).0

  five-tabs :
      tab_at s at ≡ true → tab_at s (second s at) ≡ true → tab_at s (third s at) ≡ true → tab_at s (fourth s at) ≡ true →
      tab_at s (fifth s at) ≡ true →
      fields_from s at
      ≡ text_from s at ∷ text_from s (second s at) ∷ text_from s (third s at) ∷ text_from s (fourth s at) ∷ text_from s (fifth s at) ∷ fields_from
      s (sixth s at)
  five-tabs p q r t u =
      four-tabs p q r t ∙
      ap (λ (ts : List (List ℕ)). text_from s at ∷ text_from s (second s at) ∷ text_from s (third s at) ∷ text_from s (fourth s at) ∷ ts)
      (field-tab s (fifth s at) u).0

  -- the line of six fields
  pub six-found :
      has_six s (six_at s at) ≡ true →
      (fields (first_line (drop at s))
      ≡ text_at (six_at s at).own.context s ∷ text_at (six_at s at).own.term s ∷ text_at (six_at s at).own.ty s
      ∷ text_at (six_at s at).rule s ∷ text_at (six_at s at).first s ∷ text_at (six_at s at).second s ∷ [])
      × (is_tab s (six_at s at).second.to ≡ false) × (later_pieces (drop at s) ≡ later_pieces (drop (six_at s at).second.from s))
  unfolding six_at judged_at
  six-found e =
      let (first-five, f) = and_both
      (tab_at s at && tab_at s (second s at) && tab_at s (third s at) && tab_at s (fourth s at) && tab_at s (fifth s at))
      (not (tab_at s (sixth s at))) e in
      let (first-four, u) = and_both (tab_at s at && tab_at s (second s at) && tab_at s (third s at) && tab_at s (fourth s at))
      (tab_at s (fifth s at)) first-five in
      let (first_three, t) = and_both (tab_at s at && tab_at s (second s at) && tab_at s (third s at)) (tab_at s (fourth s at)) first-four in
      let (first_two, r) = and_both (tab_at s at && tab_at s (second s at)) (tab_at s (third s at)) first_three in
      let (p, q) = and_both (tab_at s at) (tab_at s (second s at)) first_two in
      let last : tab_at s (sixth s at) ≡ false = not-true (tab_at s (sixth s at)) f in (
        five-tabs p q r t u ∙
            ap (λ (ts : List (List ℕ)). text_from s at ∷ text_from s (second s at) ∷ text_from s (third s at) ∷ text_from s
            (fourth s at) ∷ text_from s (fifth s at) ∷ ts) (field-last s (sixth s at) last),
        last,
        (field-tab s at p).1 ∙ (field-tab s (second s at) q).1 ∙ (field-tab s (third s at) r).1 ∙ (field-tab s (fourth s at) t).1
            ∙ (field-tab s (fifth s at) u).1,
      )

  -- a line of fewer fields, or of more
  pub six-missed : has_six s (six_at s at) ≡ false → length (fields (first_line (drop at s))) ≡ 6 → ⊥
  unfolding six_at judged_at
  six-missed =
      go (tab_at s at) (tab_at s (second s at)) (tab_at s (third s at)) (tab_at s (fourth s at)) (tab_at s (fifth s at)) (tab_at s (sixth s at))
      refl refl refl refl refl refl
    where
      go :
          (a b c d e f : Bool) → tab_at s at ≡ a → tab_at s (second s at) ≡ b → tab_at s (third s at) ≡ c → tab_at s (fourth s at) ≡ d →
          tab_at s (fifth s at) ≡ e → tab_at s (sixth s at) ≡ f → (a && b && c && d && e && not f) ≡ false → length (fields_from s at) ≡ 6 → ⊥
      go false b c d e f p q r t u v n six = let one = ap length (field-last s at p) in omega arith
      go true false c d e f p q r t u v n six =
          let one = ap length (one-tab p) in
          let two = ap length (field-last s (second s at) q) in
          omega arith
      go true true false d e f p q r t u v n six =
          let two = ap length (two-tabs p q) in
          let three = ap length (field-last s (third s at) r) in
          omega arith
      go true true true false e f p q r t u v n six =
          let three = ap length (three-tabs p q r) in
          let four = ap length (field-last s (fourth s at) t) in
          omega arith
      go true true true true false f p q r t u v n six =
          let four = ap length (four-tabs p q r t) in
          let five = ap length (field-last s (fifth s at) u) in
          omega arith
      go true true true true true true p q r t u v n six =
          let five = ap length (five-tabs p q r t u) in
          let more = ap length (field-tab s (sixth s at) v).0 in
          let some-field = ap length (some-piece tab (first_line (drop (next_from s (sixth s at)) s))) in
          omega arith
      go true true true true true false p q r t u v n six = absurd (false≢true (sym n))

-- the line of six fields ends with a line feed, where there is one
pub line-ends :
    (s : List ℕ) (at : ℕ) → has_six s (six_at s at) ≡ true → (later_pieces (drop at s) ≡ [] → ⊥) →
    ((six_at s at).second.to < length s) × (later_pieces (drop at s) ≡ split line_feed (drop ((six_at s at).second.to + 1) s))
unfolding six_at
line-ends s at e ends =
    let (texts, last, later) = six-found s at e in
    let (within, behind) = field-feed s (six_at s at).second.from last (λ n. ends (later ∙ n)) in
    (within, later ∙ behind)
