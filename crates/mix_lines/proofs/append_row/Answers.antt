-- `mix_lines::append_row` meets its contract: three fields, with room for all of them.
use native.Mathlib.Omega.{arith}
use mathlib.Core.List.{[], ◌∷◌}
use Rattle.slices.specs.Numeral.{decimal}
use Rattle.printing.proofs.Writing.{Fields, row_appended_at}
use Rattle.mix_lines.proofs.Bars.{bar-cut}
use Rattle.mix_lines.proofs.Rows.{row_cut}
use Rattle.mix_lines.proofs.append_row.Goals as goal

pub returns : goal.returns
returns c =
    let a = c.args in
    let cut = c.cut-bar.result.now in
    let digits = c.decimal_length.ensures in
    row_cut a.rule a.count a.largest a.at a.out.now cut
    c.from-number.ensures
    (bar-cut a.count a.largest c.bar_width.result cut c.bar_width.ensures c.cut-bar.ensures)
    (row_appended_at (decimal a.rule ∷ decimal c.from-number.result ∷ cut ∷ []) a.at a.out.now
    (omega (arith, c.if-out-at.false, c.if-out-at-2.false, digits, c.decimal_length-2.ensures))
    (Fields.next c.append_number-a.ensures
    (Fields.next c.append_number-b.ensures (Fields.last c.append_field.ensures))))
