-- `book_names::find_from` meets its contract: the rest of the slice is what stands behind `at`.
use mathlib.Core.Path.{◌∙◌, ap}
use native.Mathlib.Omega.{arith}
use lib.ListN.{length}
use Rattle.slices.specs.Find.{index_of}
use Rattle.slices.proofs.Finding.{index_within}
use Rattle.slices.proofs.Part.{length_part, part-back}
use Rattle.book_names.proofs.find_from.Goals as goal

pub overflow_add-result : goal.overflow_add-result
overflow_add-result c =
    let s = c.args.s.now in
    omega (arith, c.find.ensures, index_within c.args.b c.cut-rest.result.now, ap length c.cut-rest.ensures, length_part c.args.at (length s) s)

pub returns : goal.returns
returns c =
    let s = c.args.s.now in
    let rest = c.cut-rest.ensures ∙ part-back c.args.at (length s) s (omega arith) in
    omega (arith, c.find.ensures, ap (index_of c.args.b) rest)
