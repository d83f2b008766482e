-- A piece read back from the table. Assumes nothing.
use Prim.Native.Nat.{ℕ, ◌-◌}
use native.Mathlib.Omega.{arith}
use mathlib.Core.Path.{◌≡◌, sym, ◌∙◌, ap}
use mathlib.Core.List.{List, Memᴰ}
use lib.ListN.{length}
use Rattle.calculus.specs.Term.{text}
use Rattle.reading.specs.Reply.{Reply}
use Rattle.bell_rows.specs.Row.{RowOf, laid_out}
use Rattle.bell_rows.proofs.Cutting.{each_long}
use Rattle.bell_rows.proofs.Back.{Laid, row-some, rows_apart, bells_apart, chains_apart}
use Rattle.rows.specs.Ringing.{Rung}
use Rattle.rows.specs.RingsAs.{Written, RingsAs}

-- the rows of a piece may be laid out
laid :
    {n : ℕ} {bytes : List ℕ} {rows : List (List ℕ)} → Written n bytes rows →
    ((row : List ℕ) → Memᴰ row rows → RowOf n row) → Laid rows
laid {n} w good row m =
    let long = each_long n w.cut m in
    record { some = omega (arith, w.enough); few = omega (arith, w.not_more); bells = row-some n row (good row m) }

-- the same table comes from the same piece
pub read_back :
    {bytes bytes' table table' left left' : List ℕ} {n n' : ℕ} {r r' : Rung} →
    RingsAs bytes n table (Reply.answered r) left → RingsAs bytes' n' table' (Reply.answered r') left' → left ≡ left' → bytes ≡ bytes'
read_back
    {table = table}
    {table' = table'}
    (RingsAs.rung {rows = xs} w limited room good d)
    (RingsAs.rung {rows = ys} w' limited' room' good' d')
    e =
    let rows =
    rows_apart xs ys (length table - length (laid_out xs)) (length table' - length (laid_out ys)) (laid w good) (laid w' good') e in
    w.spelt ∙ ap text (chains_apart w.chain w'.chain (bells_apart w.cut w'.cut rows)) ∙ sym w'.spelt
