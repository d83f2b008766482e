-- `instances::asks_j` meets its contract: its test is that of the definition.
use Rattle.std.proofs.Common.{rules, ◌≡◌, ◌∙◌}
use Rattle.slices.specs.Same.{same}
use Rattle.instances.proofs.asks_j.Goals as goal

pub returns : goal.returns
returns c =
    let tested : c.eq.result ≡ same c.simple_behind.result.now c.args.own.ty.now = search rules in
    tested ∙ rw c.simple_behind.ensures
