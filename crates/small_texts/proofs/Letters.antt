-- The text with an index, letter by letter: the turns of the loop of `write_letters`. The invariant: the letters written and, behind them,
-- what `left` says of the terms still owed, are the text. Assumes nothing.
use Prim.Native.Nat.{ℕ, zero, suc, ◌+◌, ◌-◌, ◌≤◌, ◌<◌}
use native.Mathlib.Numerals.{add-one}
use native.Mathlib.Omega.{arith}
use mathlib.Core.Path.{◌≡◌, refl, sym, ◌∙◌, ap, ap₂, subst}
use mathlib.Core.List.{List, [], ◌∷◌, ◌++◌, append-nil}
use lib.ListN.{length, get_or, take, set, length-set}
use lib.Seq.{take-suc-set, take_all, append_snoc}
use Rattle.small_texts.specs.Texts.{texts, ways}
use Rattle.small_texts.specs.Writing.{Chosen}

-- `Written n index owing left at text`: the first `at` letters of the text with that index are written
pub record Written (n index owing left at : ℕ) (text : List ℕ) : Type 0 where
  pub long : length text ≡ n
  pub says : get_or (texts 1 n) index [] ≡ take at text ++ get_or (texts owing (n - at)) left []
  pub within : left < ways owing (n - at)

module _ (n index owing left at : ℕ) (text : List ℕ) (w : Written n index owing left at text) where
  -- the letters behind the next one
  abbrev rest : ℕ
  rest = n - at - 1

  one_fewer : at < n → n - at ≡ suc rest
  one_fewer h = omega arith

  -- there is a next letter
  pub can-choose : at < n → left < ways owing (suc rest)
  can-choose h = subst (λ (m : ℕ). left < ways owing m) (one_fewer h) w.within

  -- one letter more is written
  pub one_written :
      (b behind j : ℕ) → at < n → Chosen owing rest left b behind j → Written n index behind j (at + 1) (set text at b)
  one_written b behind j h chosen =
      let fewer : rest ≡ n - (at + 1) = omega arith in
      let others : List ℕ = get_or (texts behind rest) j [] in
      record {
        long = length-set text at b ∙ w.long;
        says =
            w.says
            ∙ ap (λ (m : ℕ). take at text ++ get_or (texts owing m) left []) (one_fewer h)
            ∙ ap (λ (s : List ℕ). take at text ++ s) chosen.says
            ∙ sym (append_snoc (take at text) b others)
            ∙ ap (λ (s : List ℕ). s ++ others) (sym (take-suc-set text at b (omega (arith, w.long))) ∙ ap (λ (i : ℕ). take i (set text at b)) (sym (add-one at)))
            ∙ ap (λ (m : ℕ). take (at + 1) (set text at b) ++ get_or (texts behind m) j []) fewer;
        within = subst (λ (m : ℕ). j < ways behind m) fewer chosen.within;
      }

  -- where no letter is left, the text is written
  pub all-written : n ≤ at → text ≡ get_or (texts 1 n) index []
  all-written h =
      sym
      (w.says
      ∙ ap₂ (λ (s : List ℕ) (m : ℕ). s ++ get_or (texts owing m) left []) (take_all at text (omega (arith, w.long))) none_left
      ∙ ap (λ (s : List ℕ). text ++ s) (nothing owing (subst (λ (m : ℕ). left < ways owing m) none_left w.within))
      ∙ append-nil text)
    where
      none_left : n - at ≡ 0
      none_left = omega arith

      first : (j : ℕ) → j < 1 → get_or {A = List ℕ} ([] ∷ []) j [] ≡ []
      first zero h = refl
      first (suc j) h = absurd (omega arith)

      nothing : (k : ℕ) → left < ways k 0 → get_or (texts k 0) left [] ≡ []
      nothing zero h = first left h
      nothing (suc k) h = absurd (omega arith)
