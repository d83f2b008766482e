-- The dearest small term (REQUIREMENTS, Small terms): of those whose runs finish, the one that makes the most steps, and the earliest in
-- byte order where several do. As a function, and as a relation over the loop of finishing. proofs/Dearer.antt shows that they agree.
use Rattle.std.specs.Prelude.{ℕ, ◌≤◌, ◌≡◌, cond, List, [], ◌∷◌, leb}
use Rattle.std.proofs.Math.Option.{Option, none, some}
use Rattle.calculus.specs.Term.{Term, text}
use Rattle.calculus.specs.Run.{Outcome, Run, Runs, run, outcome, count}
use Rattle.reading.specs.Reply.{Reply}
use Rattle.small_texts.specs.Small.{Small, Before}
use Rattle.small_texts.specs.Texts.{small_terms}
use Rattle.small_admission.specs.Admission.{admitted, if_admitted, Refused, Admitted}

-- a term, and the steps that its run makes
pub data Dear : Type 0 where
  dear : (term : Term) (steps : ℕ) → Dear

-- ---- as a function

-- a term whose run finishes, in front of the dearest of others: it is the dearest if none of them makes more steps
abbrev pub dearer : Dear → Option Dear → Option Dear
dearer d none = some d
dearer (Dear.dear t k) (some (Dear.dear u m)) = cond (leb m k) (some (Dear.dear t k)) (some (Dear.dear u m))

-- one whose run does not finish is left out
abbrev pub if_finished : Outcome → Dear → Option Dear → Option Dear
if_finished Outcome.finished d others = dearer d others
if_finished Outcome.spent d others = others
if_finished Outcome.no_room d others = others

-- the dearest of these terms; none where no run finishes
abbrev pub dearest_in : (fuel area : ℕ) → List Term → Option Dear
dearest_in fuel area [] = none
dearest_in fuel area (t ∷ ts) =
    let rest = dearest_in fuel area ts in
    let r = run fuel area t in
    if_finished (outcome r) (Dear.dear t (count r)) rest

-- `J` and 0 where there is none; proofs/Dearer.antt shows that every size from 1 on has one
abbrev pub or_none : Option Dear → Dear
or_none none = Dear.dear Term.J 0
or_none (some d) = d

-- the answer to any three numbers
unfoldable pub dearest_of : (n fuel area : ℕ) → Reply Dear
dearest_of n fuel area = if_admitted (admitted n fuel area) (or_none (dearest_in fuel area (small_terms n)))

-- ---- as a relation

-- `Finishes fuel area t k`: the run of t finishes, and makes k steps
pub record Finishes (fuel area : ℕ) (t : Term) (k : ℕ) : Type 0 where
  pub made : Run
  pub runs : Runs fuel area 0 t made
  pub ends : outcome made ≡ Outcome.finished
  pub counts : count made ≡ k

-- `Dearest n fuel area t k`: t is the dearest small term of n letters, and its run makes k steps
pub record Dearest (n fuel area : ℕ) (t : Term) (k : ℕ) : Type 0 where
  pub small : Small n t
  pub finishes : Finishes fuel area t k
  -- none makes more
  pub none_more : (u : Term) (m : ℕ) → Small n u → Finishes fuel area u m → m ≤ k
  -- and no earlier one as many
  pub none-earlier : (u : Term) → Small n u → Before (text u) (text t) → ¬ Finishes fuel area u k

-- `FindsAs n fuel area reply`: each reply and when it is given
pub data FindsAs (n fuel area : ℕ) : Reply Dear → Type 0 where
  refuses : {number : ℕ} → Refused n fuel area number → FindsAs n fuel area (Reply.refused number 0)
  finds :
      {t : Term} {k : ℕ} → Admitted n fuel area → Dearest n fuel area t k → FindsAs n fuel area (Reply.answered (Dear.dear t k))
