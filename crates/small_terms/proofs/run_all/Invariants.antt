-- `small_terms::run_all` meets its contract. The invariant: the runs of the first i terms come to the tally (`Summed`), and the lead is the
-- dearest of them (`Leads`).
use lib.ListN.{length}
use Rattle.small_terms.specs.Answer.{swept_in, lead_in}
use Rattle.small_terms.specs.Loop.{Summed, Leads}
use Rattle.small_terms.proofs.run_all.Given as goal

abbrev pub invariant-loop-i : goal.invariant-loop-i
invariant-loop-i l =
    Summed l.n l.fuel (length l.initial.area) l.i (swept_in l.tally) × Leads l.n l.fuel (length l.initial.area) l.i (lead_in l.lead)
