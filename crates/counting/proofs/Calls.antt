-- What a call of finishing with counts comes to: a refusal with the areas as they were, or the run and its counts. Assumes nothing.
use Prim.Native.Nat.{ℕ, ◌≤◌}
use mathlib.Core.Path.{◌≡◌, refl}
use mathlib.Core.Bool.{Bool, true, false}
use mathlib.Core.List.Memᴰ
use mathlib.Core.List.{List}
use borrow.Author.Tests.{ltb-false}
use lib.Dec.{ltb}
use lib.ListN.{length}
use Rattle.calculus.specs.Term.{Term}
use Rattle.calculus.specs.Run.{run}
use Rattle.reading.specs.Reply.{Reply, Refuses}
use Rattle.admission.proofs.Calls.{Admits, Refused}
use Rattle.finishing.specs.Finishing as finishing
use Rattle.finishing.specs.Finishing.{ran_from}
use Rattle.finishing.proofs.Calls as finish
use Rattle.counting.specs.Counting.{counts_size, After, with_counts, unless_short, counting_of}

pub data Call (area : List ℕ) (len : ℕ) (work : List ℕ) (fuel : ℕ) (counts : List ℕ) : After → Type 0 where
  refused :
      {number place : ℕ} → Refused len number place →
      Call area len work fuel counts (After.after (Reply.refused number place) finishing.no_run area work counts)
  made :
      (t : Term) → counts_size ≤ length counts → Admits area len work fuel t →
      Call area len work fuel counts (with_counts (ran_from t (run fuel (length area) t) area work) counts)

pub call :
    (area : List ℕ) (len : ℕ) (work : List ℕ) (fuel : ℕ) (counts : List ℕ) →
    Call area len work fuel counts (counting_of area len work fuel counts)
unfolding counting_of
call area len work fuel counts = go (ltb (length counts) counts_size) refl
  where
    long :
        {after : finishing.After} → counts_size ≤ length counts → finish.Call area len work fuel after →
        Call area len work fuel counts (with_counts after counts)
    long room (finish.Call.refused found) = Call.refused found
    long room (finish.Call.made t admits) = Call.made t room admits

    go :
        (short : Bool) → ltb (length counts) counts_size ≡ short →
        Call area len work fuel counts (unless_short short area len work fuel counts)
    go true e = Call.refused (Refuses.at_zero (Memᴰ.tail (Memᴰ.head refl)) refl)
    go false e = long (ltb-false (length counts) counts_size e) (finish.call area len work fuel)
