-- What the lent areas hold after a call that is not refused (REQUIREMENTS, Replies and areas), whichever operation wrote into them.
use Rattle.std.specs.Prelude.{ℕ, ◌-◌, List, ◌++◌, length, replicate}
use Rattle.calculus.specs.Term.{Term, text, size}

-- the term, and zeros behind it as far as the area goes
abbrev pub holding : Term → (area : List ℕ) → List ℕ
holding t area = text t ++ replicate (length area - size t) 0

-- zeros
abbrev pub cleared : List ℕ → List ℕ
cleared work = replicate (length work) 0
