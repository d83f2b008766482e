-- What checking a file answers, as a relation on files and replies (REQUIREMENTS, Checking): each number with its condition, which says
-- that those of the numbers before it do not hold. `proofs/Checks.antt` shows that every file has one such reply, the one of `checking_of`.
use Rattle.std.specs.Prelude.{ℕ, suc, ◌≤◌, ◌<◌, ◌≡◌, List, [], ◌∷◌, ◌++◌, map, length}
use Rattle.reading.specs.Reply.{Reply}
use Rattle.calculus.specs.Limits.{file_limit, line_limit}
use Rattle.calculus.specs.Term.{Term, text}
use Rattle.calculus.specs.Types.{Context, Ty, context_text, ty_text}
use Rattle.calculus.specs.Typing.{Judgement, Name, name_byte, Follows}
use Rattle.slices.specs.Split.{lines, fields}
use Rattle.derivation_files.specs.Line.{Premise, Line, premise_text, body_text, judgements}
use Rattle.derivation_files.specs.Checking.{premise_count}
use Rattle.derivation_files.specs.Accepted.{Names, LinesFollow, Accepted}

-- the line has these six fields
abbrev pub Six : (line context term type rule first second : List ℕ) → Type 0
Six line context term type rule first second = fields line ≡ context ∷ term ∷ type ∷ rule ∷ first ∷ second ∷ []

-- the three fields are the texts of the judgement's context, term and type
pub data Spells (context term type : List ℕ) : Judgement → Type 0 where
  spelt :
      {G : Context} {t : Term} {W : Ty} → context ≡ context_text G → term ≡ text t → type ≡ ty_text W →
      Spells context term type (Judgement.judge G t W)

-- the field is the rule's letter alone
abbrev pub RuleLetter : (rule : List ℕ) → Name → Type 0
RuleLetter rule name = rule ≡ name_byte name ∷ []

-- the two fields name those earlier judgements, in that order, and they are as many as the rule has premises
pub record Cites (earlier : List Judgement) (name : Name) (first second : List ℕ) (premises : List Judgement) : Type 0 where
  pub one : Premise
  pub other : Premise
  pub one_written : first ≡ premise_text one
  pub other-written : second ≡ premise_text other
  pub named : Names earlier one other premises
  pub as_many : length premises ≡ premise_count name

-- `BadLine earlier line number`: behind those earlier judgements the line is bad, by that number
pub data BadLine (earlier : List Judgement) (line : List ℕ) : ℕ → Type 0 where
  not_six_fields :
      ((context term type rule first second : List ℕ) → Six line context term type rule first second → ⊥) → BadLine earlier line 14
  not_well_formed :
      {context term type rule first second : List ℕ} →
      Six line context term type rule first second → ((j : Judgement) → Spells context term type j → ⊥) → BadLine earlier line 15
  unknown_rule :
      {context term type rule first second : List ℕ} {j : Judgement} →
      Six line context term type rule first second → Spells context term type j → ((name : Name) → RuleLetter rule name → ⊥) →
      BadLine earlier line 16
  bad-premises :
      {context term type rule first second : List ℕ} {j : Judgement} {name : Name} →
      Six line context term type rule first second → Spells context term type j → RuleLetter rule name →
      ((premises : List Judgement) → Cites earlier name first second premises → ⊥) → BadLine earlier line 17
  no_instance :
      {context term type rule first second : List ℕ} {j : Judgement} {name : Name} {premises : List Judgement} →
      Six line context term type rule first second → Spells context term type j → RuleLetter rule name →
      Cites earlier name first second premises → (Follows name premises j → ⊥) → BadLine earlier line 18

-- the last byte is 10
abbrev pub EndsLine : List ℕ → Type 0
EndsLine file = (front : List ℕ) × (file ≡ front ++ (10 ∷ []))

-- `ChecksAs file reply`: the first bad line is the one behind lines that all follow
pub data ChecksAs (file : List ℕ) : Reply ℕ → Type 0 where
  too_long : file_limit < length file → ChecksAs file (Reply.refused 10 0)
  empty : file ≡ [] → ChecksAs file (Reply.refused 11 0)
  no_line-end : length file ≤ file_limit → (file ≡ [] → ⊥) → (EndsLine file → ⊥) → ChecksAs file (Reply.refused 12 0)
  too_many-lines : length file ≤ file_limit → EndsLine file → line_limit < length (lines file) → ChecksAs file (Reply.refused 13 0)
  bad-line :
      {number : ℕ} (good : List Line) (line : List ℕ) (rest : List (List ℕ)) →
      length file ≤ file_limit → EndsLine file → length (lines file) ≤ line_limit →
      LinesFollow [] good → lines file ≡ map body_text good ++ (line ∷ rest) → BadLine (judgements good) line number →
      ChecksAs file (Reply.refused number (suc (length good)))
  accepted : {n : ℕ} → Accepted file n → ChecksAs file (Reply.answered n)

-- the numbers of the whole file, and those of a line
abbrev pub file_numbers : List ℕ
file_numbers = 10 ∷ 11 ∷ 12 ∷ 13 ∷ []

abbrev pub line_numbers : List ℕ
line_numbers = 14 ∷ 15 ∷ 16 ∷ 17 ∷ 18 ∷ []
