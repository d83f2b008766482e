-- What finishing with counts answers and leaves in the areas, for any call (REQUIREMENTS, Counts).
use Rattle.std.specs.Prelude.{ℕ, ◌*◌, Bool, true, false, List, ◌++◌, ltb, length, drop}
use Rattle.calculus.specs.Rule.{rule_numbers}
use Rattle.reading.specs.Reply.{Reply}
use Rattle.finishing.specs.Finishing as finishing
use Rattle.words.specs.Word.{words_of}

-- the bytes that the counts take: four for each rule
abbrev pub counts_size : ℕ
counts_size = 4 * length rule_numbers

-- whether the call is refused, the record, and the three areas at exit
pub data After : Type 0 where
  after : Reply Unit → finishing.Ran → (area work counts : List ℕ) → After

-- finishing's answer; unless it refuses, the counts of the record stand in front of what stood behind them
abbrev pub with_counts : finishing.After → (counts : List ℕ) → After
with_counts (finishing.After.after (Reply.refused number place) r area work) counts =
    After.after (Reply.refused number place) r area work counts
with_counts (finishing.After.after (Reply.answered done) r area work) counts =
    After.after (Reply.answered done) r area work (words_of (finishing.counts_of r) ++ drop counts_size counts)

-- fewer bytes than the counts take are refused ahead of all else
abbrev pub unless_short : Bool → (area : List ℕ) (len : ℕ) (work : List ℕ) (fuel : ℕ) (counts : List ℕ) → After
unless_short true area len work fuel counts = After.after (Reply.refused 2 0) finishing.no_run area work counts
unless_short false area len work fuel counts = with_counts (finishing.finishing_of area len work fuel) counts

unfoldable pub counting_of : (area : List ℕ) (len : ℕ) (work : List ℕ) (fuel : ℕ) (counts : List ℕ) → After
counting_of area len work fuel counts = unless_short (ltb (length counts) counts_size) area len work fuel counts
