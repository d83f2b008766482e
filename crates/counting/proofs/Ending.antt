-- From what finishing left to what finishing with counts leaves: each way out of `finish_counted` as one law. Assumes nothing.
use Prim.Native.Nat.{ℕ, ◌+◌, ◌≤◌}
use native.Mathlib.Omega.{arith}
use mathlib.Core.Path.{◌≡◌, refl, sym, ◌∙◌, ap, subst}
use mathlib.Core.Bool.{Bool}
use mathlib.Core.List.{List, ◌++◌}
use borrow.Author.Tests.{le-ltb}
use lib.ListN.{length, drop}
use Rattle.calculus.specs.Rule.{rule_numbers}
use Rattle.slices.specs.Put.{put}
use Rattle.slices.proofs.Put.{put-fits}
use Rattle.words.specs.Word.{words_of}
use Rattle.words.proofs.Words.{words_length}
use Rattle.reading.specs.Reply.{Reply}
use Rattle.finishing.specs.Finishing as finishing
use Rattle.finishing.specs.Finishing.{counts_of}
use Rattle.finishing.proofs.Calls as finish
use Rattle.counting.specs.Counting.{counts_size, After, with_counts, unless_short, counting_of}

-- ---- how many counts a record has

abbrev record_in : finishing.After → finishing.Ran
record_in (finishing.After.after reply r area work) = r

thirteen :
    {area work : List ℕ} {len fuel : ℕ} {x : finishing.After} → finish.Call area len work fuel x →
    length (counts_of (record_in x)) ≡ length rule_numbers
thirteen (finish.Call.refused found) = refl
thirteen (finish.Call.made t admits) = refl

-- ---- the ways out

module _ (area : List ℕ) (len : ℕ) (work : List ℕ) (fuel : ℕ) (counts : List ℕ) where
  -- with enough of them finishing decides
  pub counts-long :
      52 ≤ length counts → (x : finishing.After) → x ≡ finishing.finishing_of area len work fuel →
      with_counts x counts ≡ counting_of area len work fuel counts
  unfolding counting_of
  counts-long enough x ended =
      ap (λ (x : finishing.After). with_counts x counts) ended
      ∙ sym (ap (λ (b : Bool). unless_short b area len work fuel counts) (le-ltb (length counts) counts_size enough))

  -- what it answers, with the counts written
  pub counts-made :
      52 ≤ length counts → (r : finishing.Ran) (area' work' : List ℕ) →
      finishing.After.after (Reply.answered tt) r area' work' ≡ finishing.finishing_of area len work fuel →
      (counts' : List ℕ) → counts' ≡ put 0 (words_of (counts_of r)) counts →
      After.after (Reply.answered tt) r area' work' counts' ≡ counting_of area len work fuel counts
  counts-made enough r area' work' ended counts' wrote =
      let all : length (counts_of r) ≡ length rule_numbers =
      subst (λ (x : finishing.After). length (counts_of (record_in x)) ≡ length rule_numbers) (sym ended)
      (thirteen (finish.call area len work fuel)) in
      let size : length (words_of (counts_of r)) ≡ 52 = omega (arith, words_length (counts_of r)) in
      let behind : 0 + length (words_of (counts_of r)) ≡ counts_size = omega arith in
      let front : counts' ≡ words_of (counts_of r) ++ drop counts_size counts =
      wrote ∙ put-fits 0 (words_of (counts_of r)) counts (omega arith) ∙ ap (λ (n : ℕ). words_of (counts_of r) ++ drop n counts) behind in
      ap (After.after (Reply.answered tt) r area' work') front
      ∙ counts-long enough (finishing.After.after (Reply.answered tt) r area' work') ended
