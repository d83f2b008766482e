-- A caller decodes what the operation answers. Carried by: refusals' numbers are below 100, and places, lines, rules, counts and sizes are
-- within limits that fit their bits. Assumes nothing.
use Prim.Native.Nat.{ℕ, suc, ◌%◌, ◌≤◌, ◌<◌}
use native.Mathlib.Omega.{arith}
use mathlib.Core.Path.{◌≡◌, refl, ◌∙◌, ap}
use mathlib.Core.Bool.{Bool}
use mathlib.Core.Logic.{⊎_elim}
use mathlib.Core.List.{List, ◌∷◌, ◌++◌}
use lib.ListN.{length, drop, length-append}
use Rattle.calculus.specs.Term.{text, size}
use Rattle.calculus.specs.Run.{run, outcome, rules, count, reached}
use Rattle.calculus.specs.Counts.{uses}
use Rattle.calculus.proofs.PrefixCode.{length-text}
use Rattle.calculus.proofs.Ranges.{change_range}
use Rattle.calculus.proofs.Runs.{count-fuel, reached-fits}
use Rattle.calculus.proofs.Counts.{tally-below}
use Rattle.words.specs.Word.{word_limit, words_of}
use Rattle.words.proofs.Words.{words_back}
use Rattle.reading.specs.Reply.{Reply}
use Rattle.reading.specs.Reading.{reading_of}
use Rattle.reading.proofs.Numbers.{reading_refused}
use Rattle.reading.proofs.Whole.{whole-term, reads_as_only}
use Rattle.stepping.specs.Stepping as stepping
use Rattle.stepping.proofs.Calls as step
use Rattle.finishing.specs.Finishing as finishing
use Rattle.finishing.proofs.Calls as finish
use Rattle.finishing.proofs.Lending.{held-size}
use Rattle.counting.specs.Counting as counting
use Rattle.counting.proofs.Calls as counted
use Rattle.verdicts.specs.Comparing as comparing
use Rattle.verdicts.proofs.Calls as compare
use Rattle.joining.specs.Join.{join, join_size}
use Rattle.joining.specs.Joining as joining
use Rattle.joining.specs.Joins.{JoinsAs}
use Rattle.joining.proofs.Text.{length-join}
use Rattle.joining.proofs.Calls.{JoinsTo, joins-to}
use Rattle.repeats.specs.Repeats.{Different}
use Rattle.repeats.proofs.Repeats.{fits}
use Rattle.rows.specs.Ringing as ringing
use Rattle.rows.specs.RingsAs.{RingsAs}
use Rattle.rows.proofs.Exactly.{RingsTo, rings-to}
use Rattle.entries.specs.Entering as entering
use Rattle.entries.proofs.Numbers.{numbered-most, catalogue-fits}
use Rattle.entries.proofs.Exactly.{entering_refuses}
use Rattle.entries.proofs.Calls.{answered-numbered}
use Rattle.books.specs.Book.{line_limit}
use Rattle.books.specs.Playing as playing
use Rattle.books.proofs.Exactly.{playing_refuses}
use Rattle.books.proofs.Answers.{call_answers}
use Rattle.derivation_files.specs.Checking.{checking_of}
use Rattle.derivation_files.proofs.Listed.{checking_refused}
use Rattle.derivation_files.proofs.Files.{accepted_exactly}
use Rattle.matching.specs.Matching.{matching_of}
use Rattle.matching.proofs.Calls.{match_refused}
use Rattle.codes.specs.Encoding.{
  place_limit,
  size_limit,
  read_number,
  step_number,
  finish_number,
  compare_number,
  join_number,
  rows_number,
  enter_number,
  book_number,
  check_number,
  match_number,
  coded_step,
  coded_finish,
  coded_count,
  coded_compare,
  coded_join,
  coded_rows,
  coded_enter,
  coded_book,
}
use Rattle.codes.specs.Decoding.{
  place_part,
  value_part,
  size_part,
  stepped_in,
  admitted_in,
  compared_in,
  rung_in,
  played_in,
  match_in,
  decoded_read,
  decoded_step,
  without_counts,
  counts_in,
  decoded_finish,
  decoded_count,
  decoded_compare,
  decoded_join,
  size_cut,
  decoded_rows,
  decoded_enter,
  number_seen,
  decoded_book,
  decoded_check,
  decoded_match,
  InC,
}
use Rattle.codes.proofs.Decoding.{
  wide-refused,
  refused_range,
  refused-decoded,
  whole-decoded,
  normal-decoded,
  no_room-decoded,
  stepped-decoded,
  run-decoded,
  ran-decoded,
  no_run-decoded,
  compared-decoded,
  joined-decoded,
  rung-decoded,
  entered-decoded,
  played-decoded,
  accepted-decoded,
  matched-decoded,
}

read-decoded : (bytes : List ℕ) → length bytes < place_limit → (r : Reply ℕ) → reading_of bytes ≡ r → decoded_read (read_number r) ≡ r
unfolding read_number
read-decoded bytes short (Reply.refused n p) e = refused-decoded place_part (omega arith) (omega arith) short (reading_refused bytes n p e)
read-decoded bytes short (Reply.answered n) e =
    let (t, same, sized) = whole-term bytes n e in
    whole-decoded n (omega (arith, ap length same, length-text t, sized))

step-decoded :
    {area work : List ℕ} {len : ℕ} {after : stepping.After} →
    step.Call area len work after → decoded_step (coded_step after) ≡ after
unfolding step_number
step-decoded (step.Call.refused found) = cc (refused-decoded stepped_in (omega arith) (omega arith) (omega arith) found)
step-decoded (step.Call.made t areas held (step.Answers.normal n)) =
    cc (normal-decoded (size t) (omega (arith, areas.short, areas.within, held-size held)))
step-decoded (step.Call.made t areas held (step.Answers.no_room s larger)) =
    cc (no_room-decoded (size t) (omega (arith, areas.short, areas.within, held-size held)))
step-decoded (step.Call.made t areas held (step.Answers.stepped {rule = rule} {u = u} s fits)) =
    cc (stepped-decoded rule (size u) (omega (arith, change_range s.change)) (omega (arith, areas.short, fits)))

finish-decoded :
    {area work : List ℕ} {len fuel : ℕ} {after : finishing.After} →
    finish.Call area len work fuel after → decoded_finish (coded_finish after) ≡ without_counts after
unfolding finish_number
finish-decoded (finish.Call.refused {number = n} {place = p} found) =
    let (low, fits) = refused_range (omega arith) (omega arith) (omega arith) found in
    cc (wide-refused admitted_in n p low fits, no_run-decoded n p finishing.no_uses low fits)
finish-decoded {area = area} {fuel = fuel} (finish.Call.made t admits) =
    let r = run fuel (length area) t in
    let end = reached t r in
    let held : size t ≤ length area = omega (arith, admits.areas.within, held-size admits.held) in
    let small : count r < 16777216 = omega (arith, count-fuel fuel (length area) t, admits.fuelled) in
    let fits : size end < 4294967296 = omega (arith, reached-fits fuel (length area) t held, admits.areas.short) in
    let uses = finishing.no_uses in
    cc (run-decoded (count r) uses (size end) small fits (outcome r), ran-decoded (count r) uses (size end) small fits (outcome r))

count-decoded :
    {area work counts : List ℕ} {len fuel : ℕ} {after : counting.After} →
    counted.Call area len work fuel counts after → decoded_count (coded_count after) ≡ after
unfolding finish_number
count-decoded {counts = counts} (counted.Call.refused {number = n} {place = p} found) =
    let (low, fits) = refused_range (omega arith) (omega arith) (omega arith) found in
    cc (wide-refused admitted_in n p low fits, no_run-decoded n p (counts_in counts) low fits)
count-decoded {area = area} {counts = counts} {fuel = fuel} (counted.Call.made t room admits) =
    let r = run fuel (length area) t in
    let end = reached t r in
    let held : size t ≤ length area = omega (arith, admits.areas.within, held-size admits.held) in
    let small : count r < 16777216 = omega (arith, count-fuel fuel (length area) t, admits.fuelled) in
    let fits : size end < 4294967296 = omega (arith, reached-fits fuel (length area) t held, admits.areas.short) in
    let left : List ℕ = words_of (uses r) ++ drop counting.counts_size counts in
    let back : counts_in left ≡ uses r =
    words_back (uses r) (drop counting.counts_size counts) (tally-below word_limit (rules r) (omega arith)) in
    let seen = counts_in left in
    cc (run-decoded (count r) seen (size end) small fits (outcome r), ran-decoded (count r) seen (size end) small fits (outcome r), back)

compare-decoded :
    {first second work : List ℕ} {len₁ len₂ fuel : ℕ} {after : comparing.After} →
    compare.Call first len₁ second len₂ work fuel after → decoded_compare (coded_compare after) ≡ after
unfolding compare_number
compare-decoded (compare.Call.first-refused found) = cc (refused-decoded compared_in (omega arith) (omega arith) (omega arith) found)
compare-decoded (compare.Call.second-refused found) = cc (refused-decoded compared_in (omega arith) (omega arith) (omega arith) found)
compare-decoded {first} {second} {fuel = fuel} (compare.Call.made t u admits₁ admits₂) =
    let r = run fuel (length first) t in
    let s = run fuel (length second) u in
    cc (compared-decoded (comparing.verdict (outcome r) (outcome s) (text (reached t r)) (text (reached u s))))

module _ (f g area : List ℕ) (short₁ : length f < place_limit) (short₂ : length g < place_limit) where
  join-decoded : (after : joining.After) → JoinsTo f g area after → decoded_join (coded_join after) ≡ size_cut after
  unfolding join_number
  join-decoded (joining.After.after reply area') (JoinsAs.first-refused {number = n} {place = p} r) =
      cc (refused-decoded size_part (omega arith) (omega arith) short₁ (reading_refused f n p (reads_as_only r)))
  join-decoded (joining.After.after reply area') (JoinsAs.second-refused {number = n} {place = p} t e r) =
      cc (refused-decoded size_part (omega arith) (omega arith) short₂ (reading_refused g n p (reads_as_only r)))
  join-decoded (joining.After.after reply area') (JoinsAs.too_large t u d e large) =
      cc (wide-refused size_part 31 0 (omega arith) (omega arith))
  join-decoded (joining.After.after reply area') (JoinsAs.joined t u d e fits) = cc (joined-decoded (size (join t u)))

-- a size that 32 bits hold is not cut
size-whole :
    (f g area : List ℕ) (after : joining.After) → JoinsTo f g area after → join_size (length f) (length g) < size_limit →
    size_cut after ≡ after
size-whole f g area (joining.After.after (Reply.refused n p) area') found small = refl
size-whole f g area (joining.After.after (Reply.answered s) area') (JoinsAs.joined t u d e fits) small =
    let whole : s % size_limit ≡ s = omega (arith, length-join t u, ap length d, ap length e) in
    ap (λ (n : ℕ). joining.After.after (Reply.answered n) area') whole

-- of some rows no more are different
few-different : {rows : List (List ℕ)} {k : ℕ} → Different rows k → k ≤ length rows
few-different d = omega (arith, fits d.none-twice d.no_other, d.counted)

module _ (bytes : List ℕ) (n : ℕ) (table : List ℕ) (short : length bytes < place_limit) where
  rows-decoded : (after : ringing.After) → RingsTo bytes n table after → decoded_rows (coded_rows after) ≡ after
  unfolding rows_number
  rows-decoded (ringing.After.after reply table') (RingsAs.unread {number = m} {place = p} r) =
      cc (refused-decoded rung_in (omega arith) (omega arith) short (reading_refused bytes m p (reads_as_only r)))
  rows-decoded (ringing.After.after reply table') (RingsAs.too_few t e few) = cc (wide-refused rung_in 20 0 (omega arith) (omega arith))
  rows-decoded (ringing.After.after reply table') (RingsAs.too_many t e many) = cc (wide-refused rung_in 20 0 (omega arith) (omega arith))
  rows-decoded (ringing.After.after reply table') (RingsAs.no_chain t e none) = cc (wide-refused rung_in 20 0 (omega arith) (omega arith))
  rows-decoded (ringing.After.after reply table') (RingsAs.uneven t bells e c low high none) =
      cc (wide-refused rung_in 21 0 (omega arith) (omega arith))
  rows-decoded (ringing.After.after reply table') (RingsAs.past_limit w large) = cc (wide-refused rung_in 21 0 (omega arith) (omega arith))
  rows-decoded (ringing.After.after reply table') (RingsAs.past_table w large) = cc (wide-refused rung_in 21 0 (omega arith) (omega arith))
  rows-decoded (ringing.After.after reply table') (RingsAs.bad-row good bad others w limited room all-good is-bad) =
      let before = length-append good (bad ∷ others) in
      cc (wide-refused rung_in 22 (suc (length good)) (omega arith) (omega arith))
  rows-decoded (ringing.After.after reply table') (RingsAs.rung {rows = rows} {different = k} w limited room all-good d) =
      cc (rung-decoded (length rows) k (omega arith) (omega (arith, few-different d)))

module _ (bytes store : List ℕ) (short : length bytes < place_limit) where
  enter-decoded : (after : entering.After) → entering.entering_of bytes store ≡ after → decoded_enter (coded_enter after) ≡ number_seen after
  unfolding enter_number
  enter-decoded (entering.After.after (Reply.refused n p) store') e =
      let (listed, same) = entering_refuses bytes store store' n p e in
      cc (refused-decoded value_part (omega arith) (omega arith) short listed)
  enter-decoded (entering.After.after (Reply.answered x) store') e =
      let (t, results, spelt, normal, kept, numbered, long) = answered-numbered bytes store store' x e in
      let (few, fit) = catalogue-fits kept.catalogue in
      cc (entered-decoded (entering.entered_number x) (omega (arith, numbered-most numbered, few)))

module _ (book area work store : List ℕ) (fuel : ℕ) where
  book-decoded :
      (after : playing.After) → playing.playing_of book area work store fuel ≡ after → decoded_book (coded_book after) ≡ after
  unfolding book_number
  book-decoded (playing.After.after (Reply.refused n p) area' work' store') e =
      let listed = (playing_refuses book area work store area' work' store' fuel n p e).0 in
      cc (refused-decoded played_in (omega arith) (omega arith) (omega arith) listed)
  book-decoded (playing.After.after (Reply.answered (playing.Played.played o line n)) area' work' store') e =
      let found = call_answers book area work store area' work' store' fuel line n o e in
      let few : line ≤ line_limit = omega (arith, found.most, found.few) in
      cc (played-decoded line n (omega (arith, few)) (omega (arith, found.small)) o)

check-decoded : (file : List ℕ) (r : Reply ℕ) → checking_of file ≡ r → decoded_check (check_number r) ≡ r
unfolding check_number
check-decoded file (Reply.refused n p) e =
    refused-decoded value_part (omega arith) (omega arith) (omega arith) (checking_refused file n p e)
check-decoded file (Reply.answered n) e = accepted-decoded n (omega (arith, ((accepted_exactly file n).0 e).few-lines))

match_decoded : (first second : List ℕ) (r : Reply Bool) → matching_of first second ≡ r → decoded_match (match_number r) ≡ r
unfolding match_number
match_decoded first second (Reply.refused n p) e =
    ⊎_elim (λ f. of-file first f) (λ f. of-file second f) (match_refused first second n p e)
  where
    of-file : (file : List ℕ) → checking_of file ≡ Reply.refused n p → decoded_match (match_number (Reply.refused n p)) ≡ Reply.refused n p
    of-file file f = refused-decoded match_in (omega arith) (omega arith) (omega arith) (checking_refused file n p f)
match_decoded first second (Reply.answered b) e = matched-decoded b

pub in_c : InC
in_c =
    record {
      read = λ bytes short. read-decoded bytes short (reading_of bytes) refl;
      step = λ area len work. step-decoded (step.call area len work);
      finish = λ area len work fuel. finish-decoded (finish.call area len work fuel);
      finish-counted = λ area len work fuel counts. count-decoded (counted.call area len work fuel counts);
      compare = λ first len₁ second len₂ work fuel. compare-decoded (compare.call first len₁ second len₂ work fuel);
      join = λ f g area short₁ short₂. join-decoded f g area short₁ short₂ (joining.joining_of f g area) (joins-to f g area);
      join-whole =
          λ f g area small.
          join-decoded f g area (omega arith) (omega arith) (joining.joining_of f g area) (joins-to f g area)
          ∙ size-whole f g area (joining.joining_of f g area) (joins-to f g area) small;
      rows = λ bytes n table short. rows-decoded bytes n table short (ringing.ringing_of bytes n table) (rings-to bytes n table);
      enter = λ bytes store short. enter-decoded bytes store short (entering.entering_of bytes store) refl;
      book = λ book area work store fuel. book-decoded book area work store fuel (playing.playing_of book area work store fuel) refl;
      check = λ file. check-decoded file (checking_of file) refl;
      match_claims = λ first second. match_decoded first second (matching_of first second) refl;
    }
