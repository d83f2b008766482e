-- The typing rules as the code has them: by name, with how many premises each has and the term that it builds, as a test on texts.
-- REQUIREMENTS, Typing.
use Rattle.std.specs.Prelude.{ℕ, Bool, true, false, List, [], ◌∷◌, ◌++◌, Some, None}
use Rattle.std.specs.Prelude as std
use Rattle.std.proofs.Math.Option.{Option, none, some}
use Rattle.slices.specs.Same.{same}
use Rattle.calculus.specs.Bell.{is_bell}
use Rattle.calculus.specs.Letter.{Letter, byte}
use Rattle.calculus.specs.Typing.{Name}
use Rattle.rules.specs.declared.Rule.{Rule}
use Rattle.rules.specs.declared.Rule.TheVariants.{J, R, H, A, F, I, B, S, K}

-- the rule of a name
abbrev pub named_rule : Name → Rule
named_rule Name.J = J
named_rule Name.R = R
named_rule Name.H = H
named_rule Name.A = A
named_rule Name.f = F
named_rule Name.I = I
named_rule Name.B = B
named_rule Name.s = S
named_rule Name.K = K

-- the rule that is named, where one is
abbrev pub rule_of : Option Name → std.Option Rule
rule_of none = None
rule_of (some name) = Some (named_rule name)

-- how many premises the rule has
abbrev pub count_of : Rule → ℕ
count_of J = 0
count_of R = 1
count_of H = 2
count_of A = 2
count_of F = 2
count_of I = 0
count_of B = 2
count_of S = 2
count_of K = 0

-- the text is that of a bell: one byte, a bell's letter
abbrev pub is_bell_text : List ℕ → Bool
is_bell_text [] = false
is_bell_text (b ∷ []) = is_bell b
is_bell_text (b ∷ c ∷ bytes) = false

-- the term is the one that the rule builds of the premises' terms; for K, any bell
abbrev pub builds_text : Rule → (term first second : List ℕ) → Bool
builds_text J term first second = same term (byte Letter.J ∷ [])
builds_text R term first second = same term (byte Letter.R ∷ first)
builds_text H term first second = same term (byte Letter.H ∷ (first ++ second))
builds_text A term first second = same term (byte Letter.A ∷ (first ++ second))
builds_text F term first second = same term (byte Letter.stop ∷ (first ++ second))
builds_text I term first second = same term (byte Letter.I ∷ [])
builds_text B term first second = same term (byte Letter.B ∷ (first ++ second))
builds_text S term first second = same term (byte Letter.stop ∷ (first ++ second))
builds_text K term first second = is_bell_text term
