-- `sweep_answers::print_tally` meets its contract: seven fields, with room for all of them.
-- the seven fields of the line
use Prim.Native.Nat.{ℕ, ◌/◌, ◌%◌}
use native.Mathlib.Omega.{arith}
use mathlib.Core.List.{List, [], ◌∷◌}
use Rattle.slices.specs.Numeral.{decimal}
use Rattle.printing.proofs.Writing.{Fields, row_appended, row-none}
use Rattle.small_terms.specs.declared.Tally.{Tally}
use Rattle.sweep_answers.proofs.print_tally.Goals as goal

abbrev fields_of : (size : ℕ) → Tally → List (List ℕ)
fields_of size t =
    decimal size ∷ decimal t.finished ∷ decimal t.spent ∷ decimal t.no_room ∷ decimal t.steps
    ∷ decimal (t.steps / t.finished) ∷ decimal (t.steps % t.finished) ∷ []

pub returns-then-out-decimal_length : goal.returns-then-out-decimal_length
returns-then-out-decimal_length c =
    let a = c.args in
    row-none (fields_of a.size a.tally) a.out.now (omega arith)

pub returns : goal.returns
returns c =
    let a = c.args in
    row_appended (fields_of a.size a.tally) a.out.now
    (omega (
      arith,
      c.if-out-decimal_length.false,
      c.decimal_length.ensures,
      c.decimal_length-2.ensures,
      c.decimal_length-3.ensures,
      c.decimal_length-4.ensures,
      c.decimal_length-5.ensures,
      c.decimal_length-6.ensures,
      c.decimal_length-7.ensures,
    ))
    (Fields.next c.append_number-a.ensures
    (Fields.next c.append_number-b.ensures
    (Fields.next c.append_number-c.ensures
    (Fields.next c.append_number-d.ensures
    (Fields.next c.append_number-e.ensures
    (Fields.next c.append_number-f.ensures (Fields.last c.append_number.ensures)))))))
