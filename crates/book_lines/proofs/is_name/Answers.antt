-- `book_lines::is_name` meets its contract: its lengths, and whether the library finds every letter small.
use Rattle.std.proofs.Common.{rules}
use Rattle.std.proofs.lemmas.Iterator.{YieldsList-from_slice}
use Rattle.std.proofs.lemmas.Iterator.Search.{all_from_yields_List}
use borrow.Author.Tests.{tests}
use mathlib.Core.Path.{◌∙◌}
use native.Mathlib.Omega.{arith}
use Rattle.books.specs.Name.{is_small}
use Rattle.book_lines.proofs.Naming.{long-name, name-all}
use Rattle.book_lines.proofs.is_name.Goals as goal

pub returns-then-s-gt-NAME_LIMIT : goal.returns-then-s-gt-NAME_LIMIT
returns-then-s-gt-NAME_LIMIT c = long-name c.args.s.now (omega arith)

pub returns : goal.returns
returns c =
    let all = all_from_yields_List is_small _ _ c.all.result c.all.ensures.ran (YieldsList-from_slice c.args.s.now cc) (λ x b q k. search (rules, tests)) in
    all ∙ name-all c.args.s.now (omega arith) (omega arith)
