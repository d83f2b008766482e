-- Each line of the table has its text, by one computation. Assumes nothing.
use mathlib.Core.Path.{◌≡◌, refl}
use mathlib.Core.List.{map}
use Rattle.calculus.specs.Ascii.{ascii}
use Rattle.slices.specs.Numeral.{numeral, decimal}
use Rattle.printing.specs.Examples.{Print, prints}

pub prints_hold : map (λ (p : Print). p.line) prints ≡ map (λ (p : Print). ascii p.expected) prints
unfolding decimal numeral
prints_hold = refl
