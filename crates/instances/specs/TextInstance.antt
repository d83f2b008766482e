-- Whether a line is an instance of the rule that it names, as a test on texts: what the rule asks of contexts and types, and that the
-- term is the one that it builds of the premises' terms. `proofs/TextInstance.antt` shows that on the texts of judgements these are the
-- tests of `derivation_files/specs/Instance.antt`.
-- REQUIREMENTS, Typing.
use Rattle.std.specs.Prelude.{ℕ, Bool, ◌&&◌, List, ◌++◌}
use Rattle.slices.specs.Same.{same}
use Rattle.calculus.specs.Types.{Sign, sign_text, bell_type, simple_text}
use Rattle.types.specs.Parse.{type_of}
use Rattle.types.specs.Tests.{is_simple}
use Rattle.fields.specs.Fields.{Texts}
use Rattle.rules.specs.Rules.{builds_text}
use Rattle.rules.specs.declared.Rule.{Rule}
use Rattle.rules.specs.declared.Rule.TheVariants.{J, R, H, A, F, I, B, S, K}
use Rattle.instances.specs.Behind.{simple_behind}

-- a type's text that a sign makes of two
abbrev pub type_text : Sign → List ℕ → List ℕ → List ℕ
type_text sign a b = sign_text sign ++ (a ++ b)

-- the context is `*` U D, and the type U
abbrev pub asks_text_J : Texts → Bool
asks_text_J own = same (simple_behind own.context) own.type

-- the context is `*` T D with the premise's D, the type is simple, and is the premise's
abbrev pub asks_text_R : (own first : Texts) → Bool
asks_text_R own first =
    same own.context (type_text Sign.bind (simple_behind own.context) first.context)
    && is_simple (type_of own.type)
    && same first.type own.type

-- the contexts are the same, and the first premise's type is `>` with the second's and the line's own
abbrev pub asks_text_H : (own first second : Texts) → Bool
asks_text_H own first second =
    same first.context own.context
    && same second.context own.context
    && same first.type (type_text Sign.arrow second.type own.type)

-- the first premise's context is the same; the type is `>` U with the second premise's, whose context is `*` U with the first's type
abbrev pub asks_text_A : (own first second : Texts) → Bool
asks_text_A own first second =
    same first.context own.context
    && same own.type (type_text Sign.arrow (simple_behind own.type) second.type)
    && same second.context (type_text Sign.bind (simple_behind own.type) first.type)

-- the type is `1`
abbrev pub asks_text_I : Texts → Bool
asks_text_I own = same own.type (sign_text Sign.empty)

-- the contexts are the same, and the type is `*` with the premises' types
abbrev pub asks_text_B : (own first second : Texts) → Bool
asks_text_B own first second =
    same first.context own.context
    && same second.context own.context
    && same own.type (type_text Sign.bind first.type second.type)

-- the first premise's context is the same, the second's is the first's type, and the type is the second's
abbrev pub asks_text_S : (own first second : Texts) → Bool
asks_text_S own first second =
    same first.context own.context
    && same second.context first.type
    && same second.type own.type

-- the type is `b`
abbrev pub asks_text_K : Texts → Bool
asks_text_K own = same own.type (simple_text bell_type)

-- what the rule asks of contexts and types
abbrev pub asks_text : Rule → (own first second : Texts) → Bool
asks_text J own first second = asks_text_J own
asks_text R own first second = asks_text_R own first
asks_text H own first second = asks_text_H own first second
asks_text A own first second = asks_text_A own first second
asks_text F own first second = asks_text_H own first second
asks_text I own first second = asks_text_I own
asks_text B own first second = asks_text_B own first second
asks_text S own first second = asks_text_S own first second
asks_text K own first second = asks_text_K own

-- what the rule asks, and builds
abbrev pub instance_text : Rule → (own first second : Texts) → Bool
instance_text rule own first second = asks_text rule own first second && builds_text rule own.term first.term second.term
