-- A file is accepted exactly when it is the text of lines that each follow; such a file has one claim, and the claim is derivable. Assumes
-- nothing.
use Prim.Native.Nat.{ℕ, zero, suc, ◌≤◌}
use mathlib.Core.Path.{◌≡◌, refl, sym, ◌∙◌, ap, subst}
use mathlib.Core.Logic.{◌↔◌, ⊎_elim}
use mathlib.Core.Option.{some, none-ne-some}
use mathlib.Core.List.Memᴰ
use mathlib.Core.List.{
  List,
  [],
  ◌∷◌,
  ◌++◌,
  reverse,
  reverse_aux,
  Memᴰ,
}
use lib.ListN.{length}
use native.Mathlib.Omega.{arith}
use Rattle.reading.specs.Reply.{Reply}
use Rattle.calculus.specs.Typing.{Judgement}
use Rattle.calculus.specs.Derivation.{Among, Derivation, Derivable}
use Rattle.derivation_files.specs.Line.{Premise, Line, file_text, judgements}
use Rattle.derivation_files.specs.Checking.{earlier_line, checking_of}
use Rattle.derivation_files.specs.Accepted.{Names, LinesFollow, Accepted, claim_of, Claims}
use Rattle.derivation_files.specs.Checks.{ChecksAs}
use Rattle.derivation_files.proofs.Bodies.{listed_unique}
use Rattle.derivation_files.proofs.Checks.{checks_as, checks_as_only}

-- a file that checks as answered is accepted
answered-accepted : {file : List ℕ} {n : ℕ} → ChecksAs file (Reply.answered n) → Accepted file n
answered-accepted (ChecksAs.accepted a) = a

-- checking answers n exactly when the file is accepted, with n lines
pub accepted_exactly : (file : List ℕ) (n : ℕ) → (checking_of file ≡ Reply.answered n) ↔ Accepted file n
accepted_exactly file n = (
  λ e. answered-accepted (subst (ChecksAs file) e (checks_as file)),
  λ a. sym (checks_as_only file (Reply.answered n) (ChecksAs.accepted a)),
)

-- lines that each follow, within the limits, make a file that is answered with their number and claims what the last line says
pub complete :
    (ls : List Line) → LinesFollow [] ls → 1 ≤ length ls → length ls ≤ 1024 → length (file_text ls) ≤ 65536 →
    (checking_of (file_text ls) ≡ Reply.answered (length ls)) × ((j : Judgement) → claim_of ls ≡ some j → Claims (file_text ls) j)
complete ls follow some-line few short =
    ((accepted_exactly (file_text ls) (length ls)).1 accepted, λ j e. record { lines = length ls; accepted = accepted; claim = e })
  where
    accepted : Accepted (file_text ls) (length ls)
    accepted = record { listed = ls; written = refl; count = refl; some-line = some-line; few-lines = few; short = short; follow = follow }

-- a file has one claim
pub claim_unique : {file : List ℕ} {j k : Judgement} → Claims file j → Claims file k → j ≡ k
claim_unique {j} {k} c d =
    let same : c.accepted.listed ≡ d.accepted.listed =
    listed_unique c.accepted.listed d.accepted.listed (sym c.accepted.written ∙ d.accepted.written) in
    let claims : some j ≡ some k = sym c.claim ∙ ap claim_of same ∙ d.claim in
    cc

-- an earlier line stands among the earlier lines
earlier_member : (earlier : List Judgement) (n : ℕ) (i : Judgement) → earlier_line earlier n ≡ some i → Memᴰ i earlier
earlier_member [] n i e = absurd (none-ne-some _ e)
earlier_member (j ∷ earlier) zero i e = absurd (none-ne-some _ e)
earlier_member (j ∷ earlier) (suc zero) i e = let same : i ≡ j = cc in Memᴰ.head same
earlier_member (j ∷ earlier) (suc (suc n)) i e = Memᴰ.tail (earlier_member earlier (suc n) i e)

-- the premises that fields name stand wherever the earlier lines stand
names-among :
    {earlier before : List Judgement} {p q : Premise} {premises : List Judgement} → Names earlier p q premises →
    ((i : Judgement) → Memᴰ i earlier → Memᴰ i before) → Among before premises
names-among Names.no_premise among = Among.all
names-among {earlier} (Names.one_premise {n} {i} e) among = Among.also (among i (earlier_member earlier n i e)) Among.all
names-among {earlier} (Names.two-premises {m} {n} {i} {k} e f) among =
    Among.also (among i (earlier_member earlier m i e)) (Among.also (among k (earlier_member earlier n k f)) Among.all)

-- what stands in a list or is one more stands in the list with that in front
one_more :
    {earlier before : List Judgement} (j : Judgement) → ((i : Judgement) → Memᴰ i earlier → Memᴰ i before) → (i : Judgement) →
    Memᴰ i (earlier ++ (j ∷ [])) → Memᴰ i (j ∷ before)
one_more {earlier} j among i m =
    ⊎_elim (λ h. Memᴰ.tail (among i h)) (λ h. Memᴰ.head (Memᴰ.eq_of_singleton h)) (Memᴰ.append_cases earlier m)

-- lines that follow go on with a derivation
lines-derivation :
    {earlier : List Judgement} {ls : List Line} → LinesFollow earlier ls → (before : List Judgement) →
    ((i : Judgement) → Memᴰ i earlier → Memᴰ i before) →
    Derivation before → Derivation (reverse_aux (judgements ls) before)
lines-derivation LinesFollow.end before among d = d
lines-derivation (LinesFollow.line {l} f rest) before among d =
    lines-derivation rest (l.judgement ∷ before) (one_more l.judgement among)
    (Derivation.line f.follows (names-among f.named among) d)

-- the judgements of lines that each follow, the last in front, are a derivation
pub file_derivation : (ls : List Line) → LinesFollow [] ls → Derivation (reverse (judgements ls))
file_derivation ls follow = lines-derivation follow [] (λ i m. m) Derivation.start

-- the claim is the last judgement
claim-first :
    (ls : List Line) (before : List Judgement) (j : Judgement) → claim_of ls ≡ some j →
    (rest : List Judgement) × (reverse_aux (judgements ls) before ≡ j ∷ rest)
claim-first [] before j e = absurd (none-ne-some _ e)
claim-first (l ∷ []) before j e = let same : l.judgement ≡ j = cc in (before, ap (λ (k : Judgement). k ∷ before) same)
claim-first (l ∷ next ∷ ls) before j e = claim-first (next ∷ ls) (l.judgement ∷ before) j e

-- what an accepted file claims is derivable
pub accepted-derivable : {file : List ℕ} {j : Judgement} → Claims file j → Derivable j
accepted-derivable {j} c =
    let (rest, same) = claim-first c.accepted.listed [] j c.claim in
    record { earlier = rest; derivation = subst Derivation same (file_derivation c.accepted.listed c.accepted.follow) }

-- some lines have a claim
lines-claim : (ls : List Line) → 1 ≤ length ls → (j : Judgement) × (claim_of ls ≡ some j)
lines-claim [] some-line = absurd (omega arith)
lines-claim (l ∷ []) some-line = (l.judgement, refl)
lines-claim (l ∷ next ∷ ls) some-line = lines-claim (next ∷ ls) (omega arith)

-- an accepted file has a claim
pub claimed : {file : List ℕ} {n : ℕ} → Accepted file n → (j : Judgement) × Claims file j
claimed {n = n} a =
    let (j, claim) = lines-claim a.listed (omega arith) in
    (j, record { lines = n; accepted = a; claim = claim })
