-- The lines of derivation files, as trees and as text (REQUIREMENTS, Derivation files).
use Rattle.std.specs.Prelude.{ℕ, Bool, true, false, List, [], ◌∷◌, ◌++◌, map, eqb}
use Rattle.std.proofs.Math.Option.{Option, none, some}
use Rattle.calculus.specs.Term.{Term, text}
use Rattle.calculus.specs.Types.{Context, Ty, context_text, ty_text}
use Rattle.calculus.specs.Typing.{Judgement, Name, name_byte}
use Rattle.calculus.specs.Parse.{term_of}
use Rattle.types.specs.Parse.{type_of, context_of}
use Rattle.slices.specs.Numeral.{number_of, numeral}

-- a premise field: `-`, or the number of a line
pub data Premise : Type 0 where
  dash : Premise
  line : ℕ → Premise

pub record Line : Type 0 where
  pub judgement : Judgement
  pub name : Name
  pub first : Premise
  pub second : Premise

abbrev pub premise_text : Premise → List ℕ
premise_text Premise.dash = 45 ∷ []
premise_text (Premise.line n) = numeral n

abbrev pub judgement_text : Judgement → List ℕ
judgement_text (Judgement.judge G t W) = context_text G ++ (9 ∷ text t) ++ (9 ∷ ty_text W)

-- a line without its byte 10
abbrev pub body_text : Line → List ℕ
body_text l = judgement_text l.judgement ++ (9 ∷ name_byte l.name ∷ 9 ∷ premise_text l.first) ++ (9 ∷ premise_text l.second)

-- a line with its byte 10
abbrev pub line_text : Line → List ℕ
line_text l = body_text l ++ (10 ∷ [])

abbrev pub file_text : List Line → List ℕ
file_text [] = []
file_text (l ∷ ls) = line_text l ++ file_text ls

-- the judgements of lines, in the order of the lines
abbrev pub judgements : List Line → List Judgement
judgements ls = map (λ (l : Line). l.judgement) ls

-- the judgement of three fields, if they are well formed
abbrev pub judgement_if : Option Context → Option Term → Option Ty → Option Judgement
judgement_if none t W = none
judgement_if (some G) none W = none
judgement_if (some G) (some t) none = none
judgement_if (some G) (some t) (some W) = some (Judgement.judge G t W)

abbrev pub judgement_of : (context term type : List ℕ) → Option Judgement
judgement_of context term type = judgement_if (context_of context) (term_of term) (type_of type)

abbrev pub names : List Name
names = Name.J ∷ Name.R ∷ Name.H ∷ Name.A ∷ Name.f ∷ Name.I ∷ Name.B ∷ Name.s ∷ Name.K ∷ []

abbrev pub chosen_name : Bool → Name → Option Name → Option Name
chosen_name true name others = some name
chosen_name false name others = others

abbrev pub find_name : ℕ → List Name → Option Name
find_name b [] = none
find_name b (name ∷ others) = chosen_name (eqb b (name_byte name)) name (find_name b others)

-- the rule that a field names, if it is one letter and that of a rule
unfoldable pub name_of : List ℕ → Option Name
name_of [] = none
name_of (b ∷ []) = find_name b names
name_of (b ∷ c ∷ bytes) = none

abbrev pub premise_or : Bool → Option ℕ → Option Premise
premise_or true n = some Premise.dash
premise_or false none = none
premise_or false (some n) = some (Premise.line n)

abbrev pub is_dash : List ℕ → Bool
is_dash [] = false
is_dash (b ∷ []) = eqb b 45
is_dash (b ∷ c ∷ bytes) = false

-- the premise that a field names, if it is well formed
unfoldable pub premise_of : List ℕ → Option Premise
premise_of field = premise_or (is_dash field) (number_of field)
