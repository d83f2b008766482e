-- `slices::find` meets its contract: the library's place of the first byte that passes the test is its index.
use Rattle.std.proofs.Common.{rules}
use Rattle.std.proofs.lemmas.Iterator.{YieldsList-from_slice}
use Rattle.std.proofs.lemmas.Iterator.Search.{position_from_yields_List}
use borrow.Author.Tests.{tests}
use lib.Dec.{eqb}
use Rattle.slices.proofs.Finding.{index_found}
use Rattle.slices.proofs.find.Goals as goal

pub returns : goal.returns
returns c =
    let a = c.args in
    let found =
    position_from_yields_List (λ x. eqb x a.b) _ _ c.position.result c.position.ensures.ran (YieldsList-from_slice a.s.now cc)
    (λ x b q k. search (rules, tests)) in
    index_found a.b a.s.now c.position.result c.unwrap_or.result found c.unwrap_or.ensures
