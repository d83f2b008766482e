-- `mix_lines::append_rows` meets its contract. The invariant: to put the rows that are left from here is to put them all from the start.
use mathlib.Core.Path.{◌≡◌}
use Rattle.mix_lines.specs.Mix.{mix_rows}
use Rattle.mix_lines.specs.PutAll.{put_all}
use Rattle.mix_lines.proofs.Rows.{rows_at}
use Rattle.mix_lines.proofs.append_rows.Given as goal

abbrev pub invariant-loop-i : goal.invariant-loop-i
invariant-loop-i l = put_all (rows_at l.largest l.counts l.i) l.end l.out ≡ put_all (mix_rows l.counts) l.at l.initial.out
