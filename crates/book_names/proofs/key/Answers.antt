use Rattle.std.proofs.Common.{rules}
use mathlib.Core.Path.{◌≡◌, ◌∙◌}
use mathlib.Core.List.{reverse}
use Rattle.std.specs.List.{fold}
use Rattle.book_names.proofs.Chains.{turn, key-folds}
use Rattle.book_names.proofs.key.Goals as goal

pub returns : goal.returns
returns c = let folds : c.fold.result ≡ fold turn 0 (reverse c.args.name.now) = search rules in folds ∙ key-folds c.args.name.now
