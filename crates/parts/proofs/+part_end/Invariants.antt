-- The measure is the number of unread bytes. The loop's invariant: the parts up to the code's `end`, here `end-2`, are stored, and the
-- terms that are left end where the part does; `end` is that of the loop's range.
use Rattle.std.proofs.Common.{◌≡◌, ◌<◌, length, drop, ◌+◌, ◌-◌}
use Rattle.parts.specs.Skip.{skip, end_at}
use Rattle.parts.specs.Ends.{Stored}
use Rattle.parts.proofs.+part_end.Given as goal

abbrev pub decreases-part_end : goal.decreases-part_end
decreases-part_end l = length l.s.now.now - l.at

abbrev pub invariant-loop : goal.invariant-loop
invariant-loop l = record {
  after : l.at < l.end-2;
  ends_there : l.end-2 + skip (l.end - l.counter) (drop l.end-2 l.s.now) ≡ end_at l.s.now l.at;
  stores : Stored l.s.now (l.at + 1) l.end-2 l.initial.ends.now l.ends.now;
}
