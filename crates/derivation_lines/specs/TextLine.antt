-- What is wrong with one line, by its texts: the first test that fails names the fault, and where all hold the line follows.
-- `proofs/TextLine.antt` shows that this is what is found of the line by `derivation_files/specs/Checking.antt`.
-- REQUIREMENTS, Checking.
use Rattle.std.specs.Prelude.{ℕ, min, Bool, true, false, ◌&&◌, List, [], Option, Some, None, Result, Ok, Err}
use Rattle.calculus.specs.Limits.{line_limit}
use Rattle.calculus.specs.Parse.{term_of}
use Rattle.types.specs.Parse.{type_of, context_of}
use Rattle.types.specs.Tests.{is_some}
use Rattle.derivation_files.specs.Line.{name_of, premise_of}
use Rattle.fields.specs.Texts.{text_at}
use Rattle.fields.specs.Fields.{judged_at, has_six, Texts, texts_at}
use Rattle.premises.specs.Cited.{cited_of, cited_fit}
use Rattle.rules.specs.Rules.{rule_of, count_of}
use Rattle.instances.specs.TextInstance.{instance_text}
use Rattle.fields.specs.declared.SixFields.{SixFields}
use Rattle.premises.specs.declared.Cited.{Cited}
use Rattle.premises.specs.declared.Cited.TheVariants.{Dash, Line, Nothing}
use Rattle.rules.specs.declared.Rule.{Rule}
use Rattle.derivation_lines.specs.declared.Fault.{Fault}
use Rattle.derivation_lines.specs.declared.Fault.TheVariants.{NotSixFields, Malformed, UnknownRule, BadPremise, NoInstance}

-- the context, the term and the type are well formed
abbrev pub is_well_formed : Texts → Bool
is_well_formed own = is_some (context_of own.context) && is_some (term_of own.term) && is_some (type_of own.type)

abbrev pub no_texts : Texts
no_texts = record { context = []; term = []; type = [] }

-- the texts of the line that is named, and empty ones where none is
abbrev pub named_texts : (file : List ℕ) → Cited → Texts
named_texts file Dash = no_texts
named_texts file (Line start) = texts_at (judged_at file start) file
named_texts file Nothing = no_texts

-- the line is an instance of the rule, with the lines that are named for premises
abbrev pub instance_at : (file : List ℕ) → Rule → Texts → (first second : Cited) → Bool
instance_at file rule own first second = instance_text rule own (named_texts file first) (named_texts file second)

-- what is wrong with a line, if anything is
abbrev pub Outcome : Type 0
Outcome = Result (Unit {0}) Fault

-- that fault where the test fails, else the other
abbrev pub unless : Bool → Fault → Outcome → Outcome
unless true fault other = other
unless false fault other = Err fault

-- what is wrong with a well-formed line of that rule, whose premise fields name those
abbrev pub rule_fault : (file : List ℕ) → Rule → Texts → (first second : Cited) → Outcome
rule_fault file rule own first second =
    unless (cited_fit (count_of rule) first second) BadPremise (unless (instance_at file rule own first second) NoInstance (Ok tt))

-- what is wrong by the rule, where one is named
abbrev pub on_rule : Option Rule → (Rule → Outcome) → Outcome
on_rule None by = Err UnknownRule
on_rule (Some rule) by = by rule

-- what is wrong with a line of six fields, of which these are the rule and what the premise fields name
abbrev pub six_fault : (file : List ℕ) → SixFields → Option Rule → (first second : Cited) → Outcome
six_fault file line named first second =
    unless (is_well_formed (texts_at line.own file)) Malformed
    (on_rule named (λ rule. rule_fault file rule (texts_at line.own file) first second))

abbrev pub rule_in : List ℕ → SixFields → Option Rule
rule_in file line = rule_of (name_of (text_at line.rule file))

-- no premise field names a line past the limit
abbrev pub first_in : (file starts : List ℕ) → ℕ → SixFields → Cited
first_in file starts n line = cited_of starts (min n line_limit) (premise_of (text_at line.first file))

abbrev pub second_in : (file starts : List ℕ) → ℕ → SixFields → Cited
second_in file starts n line = cited_of starts (min n line_limit) (premise_of (text_at line.second file))

-- what is wrong with a line of those fields, where n lines went before, which begin at those starts
unfoldable pub line_fault : (file starts : List ℕ) (n : ℕ) → SixFields → Outcome
line_fault file starts n line =
    unless (has_six file line) NotSixFields
    (six_fault file line (rule_in file line) (first_in file starts n line) (second_in file starts n line))
