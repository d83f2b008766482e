-- `derivation_lines::is_term` meets its contract: reading answers exactly where the bytes are a term.
use mathlib.Core.Path.{◌∙◌}
use Rattle.derivation_lines.proofs.Terms.{reads}
use Rattle.derivation_lines.proofs.is_term.Goals as goal

pub returns : goal.returns
returns c = c.is_ok.ensures.value ∙ reads c.args.s.now c.read.result c.read.ensures
