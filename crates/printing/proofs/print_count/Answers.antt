-- `printing::print_count` meets its contract: two fields, with room for both.
use native.Mathlib.Omega.{arith}
use mathlib.Core.List.{[], ◌∷◌}
use Rattle.slices.specs.Numeral.{decimal}
use Rattle.printing.proofs.Writing.{Fields, row_appended}
use Rattle.printing.proofs.print_count.Goals as goal

pub returns : goal.returns
returns c =
    let a = c.args in
    let fields = a.word.now ∷ decimal a.count ∷ [] in
    row_appended fields a.out.now (omega arith)
    (Fields.next c.append_field-a.ensures (Fields.last c.append_number.ensures))
