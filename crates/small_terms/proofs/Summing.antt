-- Runs summed one after the other: what one more adds, and that the sum of all is what the definition says. Carried by the laws of lists
-- one behind the other. Assumes nothing.
use Prim.Native.Nat.{ℕ, zero, suc, ◌+◌, ◌≤◌, ◌<◌}
use native.Mathlib.Numerals.{add-one}
use native.Mathlib.Omega.{arith}
use mathlib.Core.Path.{◌≡◌, refl, sym, ◌∙◌, ap, ap₂}
use mathlib.Core.Bool.{Bool, true, false, cond}
use mathlib.Core.List.{List, [], ◌∷◌, ◌++◌, map, map-append}
use lib.ListN.{length, get_or, take, length-append}
use lib.Seq.{take-suc, take_all}
use Rattle.calculus.specs.Limits.{fuel_limit}
use Rattle.calculus.specs.Term.{Term}
use Rattle.calculus.specs.Run.{Outcome, Run, run, outcome, count}
use Rattle.small_texts.specs.Texts.{largest_size, term_in, term_at, small_terms, ways}
use Rattle.small_terms.specs.Sweep.{Swept, is_outcome, ending, steps_of, swept_of}
use Rattle.small_terms.specs.Loop.{Ran, with_run, most_terms, Few, Summed}
use Rattle.small_texts.proofs.Indexed.{length-small, small_at}

-- ---- one run more

-- the runs that end so, with one in front that ends so
abbrev pub held_by : Run → List Run → (o end : Outcome) → List Run
held_by r rs o end = cond (is_outcome o end) (r ∷ ending o rs) (ending o rs)

ending-append : (o : Outcome) (rs us : List Run) → ending o (rs ++ us) ≡ ending o rs ++ ending o us
ending-append o [] us = refl
ending-append o (r ∷ rs) us = go (is_outcome o (outcome r)) (ending-append o rs us)
  where
    go :
        (b : Bool) → ending o (rs ++ us) ≡ ending o rs ++ ending o us →
        cond b (r ∷ ending o (rs ++ us)) (ending o (rs ++ us)) ≡ cond b (r ∷ ending o rs) (ending o rs) ++ ending o us
    go true e = ap (λ (xs : List Run). r ∷ xs) e
    go false e = e

steps-append : (rs us : List Run) → steps_of (rs ++ us) ≡ steps_of rs + steps_of us
steps-append [] us = omega arith
steps-append (r ∷ rs) us = omega (arith, steps-append rs us)

-- the runs that end so, with one more
more : (o : Outcome) (rs : List Run) (r : Run) (b : Bool) → is_outcome o (outcome r) ≡ b
    → ending o (rs ++ (r ∷ [])) ≡ ending o rs ++ cond b (r ∷ []) []
more o rs r b e = ending-append o rs (r ∷ []) ∙ ap (λ (c : Bool). ending o rs ++ cond c (r ∷ []) []) e

one_more : (o : Outcome) (rs : List Run) (r : Run) (b : Bool) → is_outcome o (outcome r) ≡ b
    → length (ending o (rs ++ (r ∷ []))) ≡ length (ending o rs) + length (cond b (r ∷ []) [])
one_more o rs r b e = ap length (more o rs r b e) ∙ length-append (ending o rs) (cond b (r ∷ []) [])

steps-more : (o : Outcome) (rs : List Run) (r : Run) (b : Bool) → is_outcome o (outcome r) ≡ b
    → steps_of (ending o (rs ++ (r ∷ []))) ≡ steps_of (ending o rs) + steps_of (cond b (r ∷ []) [])
steps-more o rs r b e = ap steps_of (more o rs r b e) ∙ steps-append (ending o rs) (cond b (r ∷ []) [])

same_four : {f f' s s' n n' k k' : ℕ} → f ≡ f' → s ≡ s' → n ≡ n' → k ≡ k' → Swept.swept f s n k ≡ Swept.swept f' s' n' k'
same_four a b c d = cc (a, b, c, d)

-- what runs come to with one more behind them
pub swept-more : (rs : List Run) (r : Run) → swept_of (rs ++ (r ∷ [])) ≡ with_run (outcome r) (count r) (swept_of rs)
swept-more rs r = go (outcome r) refl
  where
    fin : Outcome
    fin = Outcome.finished

    go : (o : Outcome) → outcome r ≡ o → swept_of (rs ++ (r ∷ [])) ≡ with_run o (count r) (swept_of rs)
    go Outcome.finished e =
        same_four
        (one_more fin rs r true (ap (is_outcome fin) e))
        (one_more Outcome.spent rs r false (ap (is_outcome Outcome.spent) e) ∙ omega arith)
        (one_more Outcome.no_room rs r false (ap (is_outcome Outcome.no_room) e) ∙ omega arith)
        (steps-more fin rs r true (ap (is_outcome fin) e) ∙ omega arith)
    go Outcome.spent e =
        same_four
        (one_more fin rs r false (ap (is_outcome fin) e) ∙ omega arith)
        (one_more Outcome.spent rs r true (ap (is_outcome Outcome.spent) e))
        (one_more Outcome.no_room rs r false (ap (is_outcome Outcome.no_room) e) ∙ omega arith)
        (steps-more fin rs r false (ap (is_outcome fin) e) ∙ omega arith)
    go Outcome.no_room e =
        same_four
        (one_more fin rs r false (ap (is_outcome fin) e) ∙ omega arith)
        (one_more Outcome.spent rs r false (ap (is_outcome Outcome.spent) e) ∙ omega arith)
        (one_more Outcome.no_room rs r true (ap (is_outcome Outcome.no_room) e))
        (steps-more fin rs r false (ap (is_outcome fin) e) ∙ omega arith)

-- ---- all of them

few-more : (i k : ℕ) (o : Outcome) (w : Swept) → k ≤ fuel_limit → Few i w → Few (i + 1) (with_run o k w)
few-more i k Outcome.finished (Swept.swept f s n steps) h (a, b, c, d) = (omega arith, omega arith, omega arith, omega arith)
few-more i k Outcome.spent (Swept.swept f s n steps) h (a, b, c, d) = (omega arith, omega arith, omega arith, omega arith)
few-more i k Outcome.no_room (Swept.swept f s n steps) h (a, b, c, d) = (omega arith, omega arith, omega arith, omega arith)

module _ (n fuel area i : ℕ) where
  abbrev runs : List Term → List Run
  runs ts = map (run fuel area) ts

  -- the run of small term i, behind those before it
  pub summed-more :
      (w : Swept) (o : Outcome) (k : ℕ) → Summed n fuel area i w → i < ways 1 n → Ran n i fuel area o k →
      Summed n fuel area (i + 1) (with_run o k w)
  summed-more w o k r inside ran =
      record {
        sums =
            ap₂ (λ (x : Outcome) (j : ℕ). with_run x j w) ran.ends ran.counts
            ∙ ap (with_run (outcome one) (count one)) r.sums
            ∙ sym (swept-more (runs (take i (small_terms n))) one)
            ∙ ap swept_of (sym longer);
        few = few-more i k o w ran.bounded r.few;
      }
    where
      t : Term
      t = term_at n i

      one : Run
      one = run fuel area t

      longer : runs (take (i + 1) (small_terms n)) ≡ runs (take i (small_terms n)) ++ (one ∷ [])
      longer =
          ap (λ (j : ℕ). runs (take j (small_terms n))) (add-one i)
          ∙ ap runs (take-suc (small_terms n) i (term_in []) (omega (arith, length-small n)))
          ∙ map-append (run fuel area) (take i (small_terms n)) (get_or (small_terms n) i (term_in []) ∷ [])
          ∙ ap (λ (u : Term). runs (take i (small_terms n)) ++ (run fuel area u ∷ [])) (small_at n i)

  -- where none is left, the runs of all come to that
  pub summed-all : (w : Swept) → Summed n fuel area i w → ways 1 n ≤ i → w ≡ swept_of (runs (small_terms n))
  summed-all w r h = r.sums ∙ ap (λ (ts : List Term). swept_of (runs ts)) (take_all i (small_terms n) (omega (arith, length-small n)))

-- no size has more than 9,202 small terms
pub at_most : (n : ℕ) → n ≤ largest_size → ways 1 n ≤ most_terms
at_most zero h = omega arith
at_most (suc zero) h = omega arith
at_most (suc (suc zero)) h = omega arith
at_most (suc (suc (suc zero))) h = omega arith
at_most (suc (suc (suc (suc zero)))) h = omega arith
at_most (suc (suc (suc (suc (suc zero))))) h = omega arith
at_most (suc (suc (suc (suc (suc (suc zero)))))) h = omega arith
at_most (suc (suc (suc (suc (suc (suc (suc zero))))))) h = omega arith
at_most (suc (suc (suc (suc (suc (suc (suc (suc n)))))))) h = absurd (omega arith)

-- so a tally of fewer runs has room for one more
pub few-enough : (n i : ℕ) (w : Swept) → n ≤ largest_size → i < ways 1 n → Few i w → Few most_terms w
few-enough n i (Swept.swept f s o k) small h (a, b, c, d) =
    let most = at_most n small in
    (omega (arith, most), omega (arith, most), omega (arith, most), omega (arith, most))
