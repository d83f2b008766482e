-- Which files are accepted (REQUIREMENTS, Demands): those whose every line follows, by the rule that it names, from the earlier lines
-- that it names.
use Rattle.std.specs.Prelude.{ℕ, ◌≤◌, ◌≡◌, List, [], ◌∷◌, ◌++◌, length}
use Rattle.std.proofs.Math.Option.{Option, none, some}
use Rattle.calculus.specs.Limits.{file_limit, line_limit}
use Rattle.calculus.specs.Typing.{Judgement, Follows}
use Rattle.derivation_files.specs.Line.{Premise, Line, file_text}
use Rattle.derivation_files.specs.Checking.{earlier_line}

-- `Names earlier p q premises`: the two premise fields name those earlier lines, in the order written
pub data Names (earlier : List Judgement) : Premise → Premise → List Judgement → Type 0 where
  no_premise : Names earlier Premise.dash Premise.dash []
  one_premise : {n : ℕ} {i : Judgement} → earlier_line earlier n ≡ some i → Names earlier (Premise.line n) Premise.dash (i ∷ [])
  two-premises :
      {m n : ℕ} {i k : Judgement} →
      earlier_line earlier m ≡ some i → earlier_line earlier n ≡ some k → Names earlier (Premise.line m) (Premise.line n) (i ∷ k ∷ [])

-- the line follows, by the rule that it names, from the earlier lines that it names
pub record LineFollows (earlier : List Judgement) (l : Line) : Type 0 where
  pub premises : List Judgement
  pub named : Names earlier l.first l.second premises
  pub follows : Follows l.name premises l.judgement

-- each line of the list follows, behind those earlier judgements
pub data LinesFollow : (earlier : List Judgement) → List Line → Type 0 where
  end : {earlier : List Judgement} → LinesFollow earlier []
  line :
      {earlier : List Judgement} {l : Line} {ls : List Line} →
      LineFollows earlier l → LinesFollow (earlier ++ (l.judgement ∷ [])) ls → LinesFollow earlier (l ∷ ls)

-- the file is the text of n lines, within the limits, and each line follows
pub record Accepted (file : List ℕ) (n : ℕ) : Type 0 where
  pub listed : List Line
  pub written : file ≡ file_text listed
  pub count : length listed ≡ n
  pub some-line : 1 ≤ n
  pub few-lines : n ≤ line_limit
  pub short : length file ≤ file_limit
  pub follow : LinesFollow [] listed

-- the judgement of the last line: the claim
abbrev pub claim_of : List Line → Option Judgement
claim_of [] = none
claim_of (l ∷ []) = some l.judgement
claim_of (l ∷ next ∷ ls) = claim_of (next ∷ ls)

-- the file is accepted, and its claim is j
pub record Claims (file : List ℕ) (j : Judgement) : Type 0 where
  pub lines : ℕ
  pub accepted : Accepted file lines
  pub claim : claim_of accepted.listed ≡ some j
