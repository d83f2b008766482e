-- What joining answers and leaves, as a relation (REQUIREMENTS, Joining); proofs/Calls.antt shows that it agrees with the function.
use Rattle.std.specs.Prelude.{ℕ, ◌≤◌, ◌<◌, ◌≡◌, List, length}
use Rattle.calculus.specs.Term.{Term, text, size}
use Rattle.reading.specs.Reply.{Reply}
use Rattle.reading.specs.Reading.{ReadsAs}
use Rattle.reading.specs.Area.{holding}
use Rattle.joining.specs.Join.{join}

-- `JoinsAs f g area reply area'`: by what reading says of f and of g, and by the sizes of their join and of the area
pub data JoinsAs (f g area : List ℕ) : Reply ℕ → List ℕ → Type 0 where
  first-refused : {number place : ℕ} → ReadsAs f (Reply.refused number place) → JoinsAs f g area (Reply.refused number place) area
  second-refused :
      {number place : ℕ} (t : Term) → f ≡ text t → ReadsAs g (Reply.refused number place) →
      JoinsAs f g area (Reply.refused number place) area
  too_large : (t u : Term) → f ≡ text t → g ≡ text u → length area < size (join t u) → JoinsAs f g area (Reply.refused 31 0) area
  joined :
      (t u : Term) → f ≡ text t → g ≡ text u → size (join t u) ≤ length area →
      JoinsAs f g area (Reply.answered (size (join t u))) (holding (join t u) area)
