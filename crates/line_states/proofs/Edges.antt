-- What each row of the table holds is what stands beside it, by one computation. Assumes nothing.
use mathlib.Core.Path.{◌≡◌, refl}
use mathlib.Core.List.{map}
use Rattle.calculus.specs.Ascii.{ascii}
use Rattle.slices.specs.Numeral.{number_of, decimal_of}
use Rattle.line_states.specs.Parts.{parts_of}
use Rattle.line_states.specs.Edges.{Row, rows}

pub rows_hold : map (λ (r : Row). parts_of (ascii r.input)) rows ≡ map (λ (r : Row). r.expected) rows
unfolding parts_of decimal_of number_of
rows_hold = refl
