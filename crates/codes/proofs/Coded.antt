-- The number of an answer, with what the operation leaves in the areas, is the coded reply. Assumes nothing.
use Prim.Native.Nat.{ℕ}
use mathlib.Core.Path.{◌≡◌, ◌∙◌, ap}
use mathlib.Core.List.{List}
use Rattle.reading.specs.Reply.{Reply}
use Rattle.stepping.specs.Stepping as stepping
use Rattle.finishing.specs.Finishing as finishing
use Rattle.counting.specs.Counting as counting
use Rattle.verdicts.specs.Comparing as comparing
use Rattle.joining.specs.Joining as joining
use Rattle.rows.specs.Ringing as ringing
use Rattle.entries.specs.Entering as entering
use Rattle.books.specs.Playing as playing
use Rattle.codes.specs.Encoding.{
  step_number,
  finish_number,
  compare_number,
  join_number,
  rows_number,
  enter_number,
  book_number,
  coded_step,
  coded_finish,
  coded_count,
  coded_compare,
  coded_join,
  coded_rows,
  coded_enter,
  coded_book,
}

pub coded_step_lem :
    {n : ℕ} {reply : Reply stepping.Stepped} {area work : List ℕ} {end : stepping.After} →
    n ≡ step_number reply → stepping.After.after reply area work ≡ end → (n, area, work) ≡ coded_step end
coded_step_lem {n} {reply} {area} {work} number ended = ap (λ (m : ℕ). (m, area, work)) number ∙ ap coded_step ended

pub coded_finish_lem :
    {n : ℕ} {reply : Reply Unit} {run : finishing.Ran} {area work : List ℕ} {end : finishing.After} →
    n ≡ finish_number reply run → finishing.After.after reply run area work ≡ end → (n, area, work) ≡ coded_finish end
coded_finish_lem {n} {reply} {run} {area} {work} number ended = ap (λ (m : ℕ). (m, area, work)) number ∙ ap coded_finish ended

pub coded_count_lem :
    {n : ℕ} {reply : Reply Unit} {run : finishing.Ran} {area work counts : List ℕ} {end : counting.After} →
    n ≡ finish_number reply run → counting.After.after reply run area work counts ≡ end → (n, area, work, counts) ≡ coded_count end
coded_count_lem {n} {reply} {run} {area} {work} {counts} number ended = ap (λ (m : ℕ). (m, area, work, counts)) number ∙ ap coded_count ended

pub coded_compare_lem :
    {n : ℕ} {reply : Reply comparing.Compared} {first second work : List ℕ} {end : comparing.After} →
    n ≡ compare_number reply → comparing.After.after reply first second work ≡ end → (n, first, second, work) ≡ coded_compare end
coded_compare_lem {n} {reply} {first} {second} {work} number ended =
    ap (λ (m : ℕ). (m, first, second, work)) number ∙ ap coded_compare ended

pub coded_join_lem :
    {n : ℕ} {reply : Reply ℕ} {area : List ℕ} {end : joining.After} →
    n ≡ join_number reply → joining.After.after reply area ≡ end → (n, area) ≡ coded_join end
coded_join_lem {n} {reply} {area} number ended = ap (λ (m : ℕ). (m, area)) number ∙ ap coded_join ended

pub coded_rows_lem :
    {n : ℕ} {reply : Reply ringing.Rung} {table : List ℕ} {end : ringing.After} →
    n ≡ rows_number reply → ringing.After.after reply table ≡ end → (n, table) ≡ coded_rows end
coded_rows_lem {n} {reply} {table} number ended = ap (λ (m : ℕ). (m, table)) number ∙ ap coded_rows ended

pub coded_enter_lem :
    {n : ℕ} {reply : Reply entering.Entered} {store : List ℕ} {end : entering.After} →
    n ≡ enter_number reply → entering.After.after reply store ≡ end → (n, store) ≡ coded_enter end
coded_enter_lem {n} {reply} {store} number ended = ap (λ (m : ℕ). (m, store)) number ∙ ap coded_enter ended

pub coded_book_lem :
    {n : ℕ} {reply : Reply playing.Played} {area work store : List ℕ} {end : playing.After} →
    n ≡ book_number reply → playing.After.after reply area work store ≡ end → (n, area, work, store) ≡ coded_book end
coded_book_lem {n} {reply} {area} {work} {store} number ended = ap (λ (m : ℕ). (m, area, work, store)) number ∙ ap coded_book ended
