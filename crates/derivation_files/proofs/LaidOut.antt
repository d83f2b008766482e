-- A derivation is laid out as lines, one a judgement, in its order: each of its judgements stands on the line of its place, so the lines of
-- the premises are there to be named. Assumes nothing.
use Prim.Native.Nat.{ℕ, zero, suc, ◌≤◌}
use mathlib.Core.Path.{◌≡◌, refl, sym, ◌∙◌, ap, subst}
use mathlib.Core.Logic.{◌⊎◌, inl, inr}
use mathlib.Core.Option.{some}
use mathlib.Core.List.Memᴰ
use mathlib.Core.List.{
  List,
  [],
  ◌∷◌,
  ◌++◌,
  reverse,
  reverse-cons,
  append-nil,
  append_assoc,
  Memᴰ,
}
use lib.ListN.{length, length-append}
use native.Mathlib.Omega.{arith}
use Rattle.calculus.specs.Typing.{Judgement, Name, Follows}
use Rattle.calculus.specs.Derivation.{Among, Derivation}
use Rattle.derivation_files.specs.Line.{Premise, Line, judgements}
use Rattle.derivation_files.specs.Instance.{Premises}
use Rattle.derivation_files.specs.Checking.{earlier_line}
use Rattle.derivation_files.specs.Accepted.{Names, LineFollows, LinesFollow, claim_of}
use Rattle.derivation_files.specs.LaidOut.{LaidOut}
use Rattle.derivation_files.proofs.Instance.{listed}
use Rattle.derivation_files.proofs.GoodLines.{follows-listed}
use Rattle.derivation_files.proofs.Files.{complete}

-- one line more is one judgement more
judgements-append : (ls : List Line) (l : Line) → judgements (ls ++ (l ∷ [])) ≡ judgements ls ++ (l.judgement ∷ [])
judgements-append [] l = refl
judgements-append (k ∷ ls) l = ap (λ (js : List Judgement). k.judgement ∷ js) (judgements-append ls l)

-- an earlier line is still the one of its number with more behind
line_before : (js more : List Judgement) (n : ℕ) (i : Judgement) → earlier_line js n ≡ some i → earlier_line (js ++ more) n ≡ some i
line_before [] more n i e = cc
line_before (j ∷ js) more zero i e = e
line_before (j ∷ js) more (suc zero) i e = e
line_before (j ∷ js) more (suc (suc n)) i e = line_before js more (suc n) i e

-- the last line has the number of lines for its number
line-last : (js : List Judgement) (j : Judgement) → earlier_line (js ++ (j ∷ [])) (suc (length js)) ≡ some j
line-last [] j = refl
line-last (k ∷ js) j = line-last js j

-- the last line's judgement is the claim
claim-append : (ls : List Line) (l : Line) → claim_of (ls ++ (l ∷ [])) ≡ some l.judgement
claim-append [] l = refl
claim-append (k ∷ []) l = refl
claim-append (k ∷ next ∷ ls) l = claim-append (next ∷ ls) l

-- lines that follow, with one behind them that follows, follow
follow-append :
    {earlier : List Judgement} {ls : List Line} (l : Line) → LinesFollow earlier ls → LineFollows (earlier ++ judgements ls) l →
    LinesFollow earlier (ls ++ (l ∷ []))
follow-append {earlier} l LinesFollow.end g =
    LinesFollow.line (subst (λ (js : List Judgement). LineFollows js l) (append-nil earlier) g) LinesFollow.end
follow-append {earlier} l (LinesFollow.line {l = k} {ls} f rest) g =
    let grouped = append_assoc earlier (k.judgement ∷ []) (judgements ls) in
    LinesFollow.line f (follow-append l rest (subst (λ (js : List Judgement). LineFollows js l) (sym grouped) g))

-- each judgement of a derivation has a place in its order, counted from 1
member_line : (js : List Judgement) (i : Judgement) → Memᴰ i js → (n : ℕ) × (earlier_line (reverse js) n ≡ some i)
member_line [] i m = absurd (Memᴰ.not-nil m)
member_line (j ∷ js) i m = go (Memᴰ.cases_cons m) (member_line js i)
  where
    at : (n : ℕ) → earlier_line (reverse js ++ (j ∷ [])) n ≡ some i → (k : ℕ) × (earlier_line (reverse (j ∷ js)) k ≡ some i)
    at n e = (n, ap (λ (ks : List Judgement). earlier_line ks n) (reverse-cons j js) ∙ e)

    go :
        (i ≡ j) ⊎ Memᴰ i js → (Memᴰ i js → (n : ℕ) × (earlier_line (reverse js) n ≡ some i)) →
        (n : ℕ) × (earlier_line (reverse (j ∷ js)) n ≡ some i)
    go (inl e) later = at (suc (length (reverse js))) (line-last (reverse js) j ∙ ap some (sym e))
    go (inr h) later = let (n, e) = later h in at n (line_before (reverse js) (j ∷ []) n i e)

-- premises that stand on earlier lines are named by fields
placed-names :
    {earlier lines : List Judgement} (ps : Premises) → Among earlier (listed ps) →
    ((i : Judgement) → Memᴰ i earlier → (n : ℕ) × (earlier_line lines n ≡ some i)) →
    (p : Premise) × (q : Premise) × Names lines p q (listed ps)
placed-names Premises.none Among.all placed = (Premise.dash, Premise.dash, Names.no_premise)
placed-names (Premises.one i) (Among.also m Among.all) placed =
    let (n, e) = placed i m in
    (Premise.line n, Premise.dash, Names.one_premise e)
placed-names (Premises.two i k) (Among.also m (Among.also m' Among.all)) placed =
    let (n, e) = placed i m in
    let (n', e') = placed k m' in
    (Premise.line n, Premise.line n', Names.two-premises e e')

-- what follows from earlier judgements is the judgement of a line that follows behind theirs
laid-line :
    {name : Name} {premises earlier : List Judgement} {j : Judgement} → Follows name premises j → Among earlier premises →
    (p : Premise) × (q : Premise) × LineFollows (reverse earlier) (record { judgement = j; name = name; first = p; second = q })
laid-line {name} {earlier} {j} f among =
    let (ps, same, count) = follows-listed f in
    let (p, q, named) = placed-names ps (subst (Among earlier) (sym same) among) (member_line earlier) in
    (p, q, record { premises = listed ps; named = named; follows = subst (λ (js : List Judgement). Follows name js j) (sym same) f })

-- judgements, the last in front, laid out as lines that follow, one a judgement, in their order
record Laid (js : List Judgement) : Type 0 where
  listing : List Line
  one_each : judgements listing ≡ reverse js
  follow : LinesFollow [] listing

-- with one line more its judgement is laid out too
laid_more : {js : List Judgement} (a : Laid js) (l : Line) → LineFollows (reverse js) l → Laid (l.judgement ∷ js)
laid_more {js} a l follows =
    record {
      listing = a.listing ++ (l ∷ []);
      one_each =
          judgements-append a.listing l
          ∙ ap (λ (ks : List Judgement). ks ++ (l.judgement ∷ [])) a.one_each
          ∙ sym (reverse-cons l.judgement js);
      follow = follow-append l a.follow (subst (λ (ks : List Judgement). LineFollows ks l) (sym a.one_each) follows);
    }

-- a derivation can be laid out as lines
derivation-laid : {js : List Judgement} → Derivation js → Laid js
derivation-laid Derivation.start = record { listing = []; one_each = refl; follow = LinesFollow.end }
derivation-laid (Derivation.line f among d) = let (p, q, follows) = laid-line f among in laid_more (derivation-laid d) _ follows

-- a derivation is laid out as lines, one a judgement, in its order; within the limits their text is accepted and its claim is the last
-- judgement
pub laid_out : {j : Judgement} {earlier : List Judgement} → Derivation (j ∷ earlier) → LaidOut j earlier
unfolding laid_more
laid_out {j} (Derivation.line {name} f among d) =
    let (p, q, follows) = laid-line f among in
    let l : Line = record { judgement = j; name = name; first = p; second = q } in
    let before = derivation-laid d in
    let laid = laid_more before l follows in
    let claim : claim_of laid.listing ≡ some j = claim-append before.listing l in
    let some-line : 1 ≤ length laid.listing = omega (arith, length-append before.listing (l ∷ [])) in
    record {
      listed = laid.listing;
      one_each = laid.one_each;
      follow = laid.follow;
      claim = claim;
      accepted =
          λ few short. let (checked, claims) = complete laid.listing laid.follow some-line few short in (checked, claims j claim);
    }
