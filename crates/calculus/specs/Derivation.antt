-- Derivable (REQUIREMENTS, Typing): the last of a finite list, of any length, in which each judgement follows from ones before it. No limit on
-- files plays a part.
use mathlib.Core.List.{List, [], ◌∷◌, Memᴰ}
use Rattle.calculus.specs.Typing.{Judgement, Name, Follows}

-- each judgement of the second list stands in the first
pub data Among (earlier : List Judgement) : List Judgement → Type 0 where
  all : Among earlier []
  also : {j : Judgement} {js : List Judgement} → Memᴰ j earlier → Among earlier js → Among earlier (j ∷ js)

-- each judgement of the list follows from earlier ones; the list is written with its last judgement in front
pub data Derivation : List Judgement → Type 0 where
  start : Derivation []
  line :
      {name : Name} {premises earlier : List Judgement} {j : Judgement} →
      Follows name premises j → Among earlier premises → Derivation earlier → Derivation (j ∷ earlier)

-- some finite list ends with the judgement
pub record Derivable (j : Judgement) : Type 0 where
  pub earlier : List Judgement
  pub derivation : Derivation (j ∷ earlier)
