-- The lines of the answer on the dearest small term, case by case. Carried by what the library function answers (`found_as`), and by its
-- term having as many letters as were asked for. Assumes nothing.
use Prim.Native.Nat.{ℕ}
use mathlib.Core.Path.{◌≡◌, ◌∙◌, ap, ap₂}
use mathlib.Core.List.{List}
use lib.ListN.{take}
use lib.Seq.{take_at}
use Rattle.slices.specs.Part.{part}
use Rattle.slices.proofs.Part.{part-front}
use Rattle.calculus.specs.Term.{text}
use Rattle.calculus.proofs.PrefixCode.{length-text}
use Rattle.reading.specs.Reply.{Reply, passed_on}
use Rattle.reading.specs.Area.{holding}
use Rattle.printing.specs.Printed.{count_of}
use Rattle.answer_lines.specs.Shown.{refusal_line}
use Rattle.small_terms.specs.Dearest.{Dear, dearest_of, FindsAs}
use Rattle.small_terms.specs.Answer.{Found, no_text, found_as}
use Rattle.small_terms.proofs.Dearer.{found_as_lem}
use Rattle.dearest_answers.specs.Shown.{shown_dearest}

module _ (n fuel area : ℕ) where
  -- a refusal's line is the answer's
  pub refusal-shown :
      (refusal : Reply ⊥) → Found.found (passed_on refusal) no_text 0 ≡ found_as (dearest_of n fuel area) →
      refusal_line refusal ≡ shown_dearest (dearest_of n fuel area)
  refusal-shown refusal says = go (dearest_of n fuel area) says
    where
      go : (reply : Reply Dear) → Found.found (passed_on refusal) no_text 0 ≡ found_as reply → refusal_line refusal ≡ shown_dearest reply
      go (Reply.refused number place) e =
          let same : passed_on refusal ≡ Reply.refused number place = cc in ap (λ (r : Reply Unit). refusal_line r) same
      go (Reply.answered (Dear.dear t m)) e = cc

  -- and so is that of the term and the steps
  pub found-shown :
      (s : List ℕ) (k : ℕ) → Found.found (Reply.answered tt) s k ≡ found_as (dearest_of n fuel area) →
      count_of (part 0 n s) k ≡ shown_dearest (dearest_of n fuel area)
  found-shown s k says = go (found_as_lem n fuel area) says
    where
      go : {reply : Reply Dear} → FindsAs n fuel area reply → Found.found (Reply.answered tt) s k ≡ found_as reply → count_of (part 0 n s) k ≡ shown_dearest reply
      go (FindsAs.refuses r) e = cc
      go (FindsAs.finds {t = t} {k = m} allowed d) e =
          let held : s ≡ holding t no_text = cc in
          let steps : k ≡ m = cc in
          ap₂ count_of (part-front n s ∙ ap (take n) held ∙ take_at (text t) _ n (length-text t ∙ d.small.sized)) steps
