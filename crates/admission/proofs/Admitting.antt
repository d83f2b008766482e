-- From the tests of `admit` and what reading answered to what finishing refuses. Assumes nothing.
use Prim.Native.Nat.{ℕ, ◌≤◌}
use mathlib.Core.Path.{◌≡◌, sym, ap}
use mathlib.Core.List.{List}
use borrow.Author.Tests.{le-ltb}
use lib.ListN.{length, take}
use Rattle.calculus.specs.Term.{Term}
use Rattle.reading.specs.declared.Misread.{Misread}
use Rattle.reading.specs.Reply.{Reply, passed_on}
use Rattle.reading.specs.Reading.{reading_of, term_read}
use Rattle.reading.specs.Answer.{refusal_of}
use Rattle.reading.proofs.Terms.{whole-read, unread}
use Rattle.admission.specs.Admission.{admitted, admission}

module _
    (area : List ℕ) (len : ℕ) (work : List ℕ) (fuel : ℕ)
    (short : length area ≤ 16384) (room : length area ≤ length work) (within : len ≤ length area) (fuelled : fuel ≤ 1000000)
  where
    -- what is read decides
    pub read-decides : (r : Reply Term) → term_read (take len area) ≡ r → admitted area len work fuel ≡ r
    read-decides r e = rw (le-ltb _ _ short, le-ltb _ _ room, le-ltb _ _ within, le-ltb _ _ fuelled) e

    -- what reading refuses
    pub reading_refused :
        (r : Misread) → passed_on (refusal_of r) ≡ reading_of (take len area) →
        passed_on (refusal_of r) ≡ admission (admitted area len work fuel)
    reading_refused r e = sym (ap admission (read-decides (passed_on (refusal_of r)) (unread (take len area) r e)))

    -- what is whole is admitted
    pub whole : (n : ℕ) → Reply.answered n ≡ reading_of (take len area) → Reply.answered tt ≡ admission (admitted area len work fuel)
    whole n e =
        let (t, same, sized, read) = whole-read (take len area) n e in
        sym (ap admission (read-decides (Reply.answered t) read))
