-- What the finishing program's line asks for is answered as `printed_run` says. Carried by finishing's promise on the fronts of the
-- two buffers. Assumes nothing.
use Prim.Native.Nat.{ℕ, ◌≤◌, min}
use native.Mathlib.Decide.{dec_le}
use native.Mathlib.Omega.{arith}
use mathlib.Core.Path.{◌≡◌, sym, ◌∙◌, ap, ap₂}
use mathlib.Core.List.{List, ◌++◌}
use Rattle.std.specs.Prelude.{Option}
use lib.ListN.{length, take, drop, length-take, drop_of_length-le}
use lib.Seq.{take_all, take_at}
use Rattle.slices.proofs.Appending.{Appends}
use Rattle.reading.specs.Reply.{Reply}
use Rattle.finishing.specs.Finishing.{Ran, After, finishing_of}
use Rattle.answer_lines.specs.Shown.{reply_line, shown_run}
use Rattle.answering.specs.Answer.{finished_in, area_in, work_in, used_with, used_in}
use Rattle.answer_lines.proofs.Printing.{prints}

-- a front is cut at the end of a list that is shorter
pub take_min : (n : ℕ) (s : List ℕ) → take (min n (length s)) s ≡ take n s
take_min n s = go (dec_le n (length s))
  where
    go : Dec (n ≤ length s) → take (min n (length s)) s ≡ take n s
    go (yes h) =
        let e : min n (length s) ≡ n = omega arith in
        ap (λ (k : ℕ). take k s) e
    go (no h) = take_all (min n (length s)) s (omega arith) ∙ sym (take_all n s (omega arith))

pub drop_min : (n : ℕ) (s : List ℕ) → drop (min n (length s)) s ≡ drop n s
drop_min n s = go (dec_le n (length s))
  where
    go : Dec (n ≤ length s) → drop (min n (length s)) s ≡ drop n s
    go (yes h) =
        let e : min n (length s) ≡ n = omega arith in
        ap (λ (k : ℕ). drop k s) e
    go (no h) =
        let past : length s ≤ min n (length s) = omega arith in
        let beyond : length s ≤ n = omega arith in
        drop_of_length-le s past ∙ sym (drop_of_length-le s beyond)

-- the front of a buffer behind the call is as long as before
pub front_length :
    (area : ℕ) (term : List ℕ) (n : ℕ) (area' : List ℕ) → n ≡ min area (length term) → length area' ≡ length (take n term) →
    n ≡ length (take n (area' ++ drop n term))
front_length area term n area' en kept =
    let long : length area' ≡ n = omega (arith, kept, en, length-take n term) in
    sym long ∙ sym (ap length (take_at area' (drop n term) n long))

-- what a call leaves: the printed line, the two buffers, and how often a run used each rule
abbrev pub Leaves :
    (line term work : List ℕ) (used : Option (List ℕ)) (out : List ℕ) (n : ℕ) (used' : Option (List ℕ)) (term' work' out' : List ℕ) → Type 0
Leaves line term work used out n used' term' work' out' =
    Appends 0 line out n out' × (((term' ≡ term) × (work' ≡ work)) × (used' ≡ used))

-- a request: finishing in the fronts of the buffers
pub request_answers :
    (fuel area len : ℕ) (term work : List ℕ) (n m : ℕ) (reply : Reply Unit) (r : Ran) (area' work' out : List ℕ) (k : ℕ) (out' : List ℕ)
    (used : Option (List ℕ)) →
    n ≡ min area (length term) → m ≡ min area (length work) → length area' ≡ length (take n term) →
    After.after reply r area' work' ≡ finishing_of (take n term) len (take m work) fuel →
    Appends 0 (reply_line reply r (take n (area' ++ drop n term))) out k out' → used ≡ used_with reply r →
    Leaves (shown_run (finished_in fuel area len term work)) (area_in (finished_in fuel area len term work) ++ drop area term)
    (work_in (finished_in fuel area len term work) ++ drop area work) (used_in (finished_in fuel area len term work)) out k used
    (area' ++ drop n term) (work' ++ drop m work) out'
request_answers fuel area len term work n m reply r area' work' out k out' used en em kept e printed made =
    let fronts : After.after reply r area' work' ≡ finished_in fuel area len term work =
    e
    ∙ ap₂ (λ (t w : List ℕ). finishing_of t len w fuel)
    (ap (λ (i : ℕ). take i term) en ∙ take_min area term)
    (ap (λ (i : ℕ). take i work) em ∙ take_min area work) in
    let front : take n (area' ++ drop n term) ≡ area' = take_at area' (drop n term) n (omega (arith, kept, en, length-take n term)) in (
      prints out k out' (ap (reply_line reply r) front ∙ ap shown_run fronts) printed,
      (
        (
          ap₂ (λ (a b : List ℕ). a ++ b) (ap area_in fronts) (ap (λ (i : ℕ). drop i term) en ∙ drop_min area term),
          ap₂ (λ (a b : List ℕ). a ++ b) (ap work_in fronts) (ap (λ (i : ℕ). drop i work) em ∙ drop_min area work),
        ),
        made ∙ ap used_in fronts,
      ),
    )
