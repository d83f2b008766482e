-- Lines of counts, written by hand: a third of the largest is 13 marks and a bit, so it has 14. Assumes nothing.
use mathlib.Core.Path.{◌≡◌, refl}
use mathlib.Core.List.{[], ◌∷◌}
use Rattle.calculus.specs.Ascii.{ascii}
use Rattle.slices.specs.Numeral.{numeral, decimal}
use Rattle.mix_lines.specs.Mix.{mix_rows}
use Rattle.mix_lines.specs.PutAll.{joined}

pub thirds : joined (mix_rows (1 ∷ 0 ∷ 3 ∷ [])) ≡ ascii "1\t1\t##############\n2\t0\t\n3\t3\t########################################\n"
unfolding decimal numeral
thirds = refl

pub nothing-used : joined (mix_rows (0 ∷ 0 ∷ [])) ≡ ascii "1\t0\t\n2\t0\t\n"
unfolding decimal numeral
nothing-used = refl
