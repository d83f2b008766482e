-- What checking a file answers (REQUIREMENTS, Checking): four tests of the whole file, each with its number, then the lines in turn up to
-- the first that is bad. It computes; `Checks.antt` says the same as a relation.
use Rattle.std.specs.Prelude.{ℕ, zero, suc, Bool, true, false, not, List, [], ◌∷◌, ◌++◌, ltb, eqb, length}
use Rattle.std.proofs.Math.Option.{Option, none, some}
use Rattle.reading.specs.Reply.{Reply, refuse_if}
use Rattle.calculus.specs.Limits.{file_limit, line_limit}
use Rattle.calculus.specs.Typing.{Judgement, Name}
use Rattle.slices.specs.Split.{lines, fields, last_byte}
use Rattle.derivation_files.specs.Line.{Premise, judgement_of, name_of, premise_of}
use Rattle.derivation_files.specs.Instance.{Premises, is_instance}

-- what is found of a line: bad, by that number, or its judgement
pub data Found : Type 0 where
  bad : (number : ℕ) → Found
  good : Judgement → Found

-- the judgement of an earlier line; lines count from 1
abbrev pub earlier_line : (earlier : List Judgement) → ℕ → Option Judgement
earlier_line [] n = none
earlier_line (j ∷ js) zero = none
earlier_line (j ∷ js) (suc zero) = some j
earlier_line (j ∷ js) (suc (suc n)) = earlier_line js (suc n)

-- no premise: `-`
abbrev pub is_dash_premise : Option Premise → Bool
is_dash_premise none = false
is_dash_premise (some Premise.dash) = true
is_dash_premise (some (Premise.line n)) = false

-- the premise that a field names: the number of an earlier line
abbrev pub named_premise : (earlier : List Judgement) → Option Premise → Option Judgement
named_premise earlier none = none
named_premise earlier (some Premise.dash) = none
named_premise earlier (some (Premise.line n)) = earlier_line earlier n

abbrev pub premises_none : Bool → Bool → Option Premises
premises_none true true = some Premises.none
premises_none true false = none
premises_none false second = none

abbrev pub premises_one : Option Judgement → Bool → Option Premises
premises_one none second = none
premises_one (some i) true = some (Premises.one i)
premises_one (some i) false = none

abbrev pub premises_two : Option Judgement → Option Judgement → Option Premises
premises_two none second = none
premises_two (some i) none = none
premises_two (some i) (some k) = some (Premises.two i k)

-- how many premises a rule has
abbrev pub premise_count : Name → ℕ
premise_count Name.J = 0
premise_count Name.R = 1
premise_count Name.H = 2
premise_count Name.A = 2
premise_count Name.f = 2
premise_count Name.I = 0
premise_count Name.B = 2
premise_count Name.s = 2
premise_count Name.K = 0

-- the premises that the two fields name, if each is what a rule with that many premises has there
abbrev pub premises_of : (count : ℕ) (earlier : List Judgement) (first second : Option Premise) → Option Premises
premises_of zero earlier first second = premises_none (is_dash_premise first) (is_dash_premise second)
premises_of (suc zero) earlier first second = premises_one (named_premise earlier first) (is_dash_premise second)
premises_of (suc (suc n)) earlier first second = premises_two (named_premise earlier first) (named_premise earlier second)

abbrev pub found_if : Bool → Judgement → Found
found_if true j = Found.good j
found_if false j = Found.bad 18

abbrev pub found_instance : Name → Judgement → Option Premises → Found
found_instance name j none = Found.bad 17
found_instance name j (some premises) = found_if (is_instance name premises j) j

abbrev pub found_name : (earlier : List Judgement) → Judgement → Option Name → (first second : List ℕ) → Found
found_name earlier j none first second = Found.bad 16
found_name earlier j (some name) first second =
    found_instance name j (premises_of (premise_count name) earlier (premise_of first) (premise_of second))

abbrev pub found_judgement : (earlier : List Judgement) → Option Judgement → (name first second : List ℕ) → Found
found_judgement earlier none name first second = Found.bad 15
found_judgement earlier (some j) name first second = found_name earlier j (name_of name) first second

-- what is found of a line's fields, behind those earlier lines
abbrev pub found_fields : (earlier : List Judgement) → List (List ℕ) → Found
found_fields earlier [] = Found.bad 14
found_fields earlier (a ∷ []) = Found.bad 14
found_fields earlier (a ∷ b ∷ []) = Found.bad 14
found_fields earlier (a ∷ b ∷ c ∷ []) = Found.bad 14
found_fields earlier (a ∷ b ∷ c ∷ d ∷ []) = Found.bad 14
found_fields earlier (a ∷ b ∷ c ∷ d ∷ e ∷ []) = Found.bad 14
found_fields earlier (context ∷ term ∷ type ∷ name ∷ first ∷ second ∷ []) =
    found_judgement earlier (judgement_of context term type) name first second
found_fields earlier (a ∷ b ∷ c ∷ d ∷ e ∷ f ∷ g ∷ more) = Found.bad 14

-- the first bad line, or the number of lines; n lines went before
abbrev pub onward : ℕ → Found → (Judgement → Reply ℕ) → Reply ℕ
onward n (Found.bad number) rest = Reply.refused number (suc n)
onward n (Found.good j) rest = rest j

abbrev pub check_lines : (n : ℕ) (earlier : List Judgement) → List (List ℕ) → Reply ℕ
check_lines n earlier [] = Reply.answered n
check_lines n earlier (line ∷ rest) = onward n (found_fields earlier (fields line)) (λ j. check_lines (suc n) (earlier ++ (j ∷ [])) rest)

-- the number of lines, or the refusal with its line
unfoldable pub checking_of : List ℕ → Reply ℕ
checking_of file =
    refuse_if (ltb file_limit (length file)) 10
    (refuse_if (eqb (length file) 0) 11
    (refuse_if (not (eqb (last_byte file) 10)) 12
    (refuse_if (ltb line_limit (length (lines file))) 13
    (check_lines 0 [] (lines file)))))
