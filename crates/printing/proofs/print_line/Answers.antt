-- `printing::print_line` meets its contract: three fields, with room for all of them.
use native.Mathlib.Omega.{arith}
use mathlib.Core.List.{[], ◌∷◌}
use Rattle.slices.specs.Numeral.{decimal}
use Rattle.printing.proofs.Writing.{Fields, row_appended}
use Rattle.printing.proofs.print_line.Goals as goal

pub returns : goal.returns
returns c =
    let a = c.args in
    let fields = a.word.now ∷ decimal a.number ∷ a.rest.now ∷ [] in
    row_appended fields a.out.now (omega arith)
    (Fields.next c.append_field-a.ensures
    (Fields.next c.append_number-b.ensures (Fields.last c.append_field.ensures)))
