-- `book_names::index_of` meets its contract: the library's place of the first number that passes the test is its index.
use Rattle.std.proofs.Common.{rules}
use Rattle.std.proofs.lemmas.Iterator.{YieldsList-from_slice}
use Rattle.std.proofs.lemmas.Iterator.Search.{position_from_yields_List}
use borrow.Author.Tests.{tests}
use lib.Dec.{eqb}
use Rattle.slices.proofs.Finding.{index_found}
use Rattle.book_names.proofs.index_of.Goals as goal

pub returns : goal.returns
returns c =
    let a = c.args in
    let found =
    position_from_yields_List (λ k. eqb k a.key) _ _ c.position.result c.position.ensures.ran (YieldsList-from_slice a.keys.now cc)
    (λ x b q k. search (rules, tests)) in
    index_found a.key a.keys.now c.position.result c.unwrap_or.result found c.unwrap_or.ensures
