-- `types::is_type` meets its contract: a type is simple, or a context.
use mathlib.Core.Path.{sym, ◌∙◌}
use Rattle.types.proofs.Owed.{type-simple, type-context}
use Rattle.types.proofs.is_type.Goals as goal

pub returns-then-is_simple : goal.returns-then-is_simple
returns-then-is_simple c = type-simple c.args.s.now (sym c.is_simple.ensures ∙ c.if-is_simple.true)

pub returns : goal.returns
returns c = c.is_context.ensures ∙ type-context c.args.s.now (sym c.is_simple.ensures ∙ c.if-is_simple.false)
