-- From what reading says and what was written to the reply and the area: each way out of `join` as one law. Assumes nothing.
use Prim.Native.Nat.{ℕ, ◌-◌, ◌≤◌, ◌<◌}
use native.Mathlib.Omega.{arith}
use mathlib.Core.Path.{◌≡◌, sym, ◌∙◌, ap, ap₂}
use mathlib.Core.List.{List, ◌++◌}
use Rattle.std.specs.Prelude.{Err}
use lib.ListN.{length, take, replicate}
use Rattle.calculus.specs.Term.{text, size}
use Rattle.calculus.proofs.PrefixCode.{length-text}
use Rattle.slices.specs.Wrote.{Wrote}
use Rattle.slices.proofs.Wrote.{wrote-zeros}
use Rattle.reading.specs.Reply.{Reply}
use Rattle.reading.specs.Reading.{reading_of}
use Rattle.reading.specs.Answer.{answer_of as readingAnswer}
use Rattle.reading.specs.declared.Misread.{Misread}
use Rattle.joining.specs.declared.Refused.TheVariants.{Unread}
use Rattle.joining.specs.Answer.{answer_of}
use Rattle.reading.proofs.Terms.{whole-read, unread}
use Rattle.joining.specs.Join.{join, join_text, join_size}
use Rattle.joining.specs.Joining.{After, joining_of}
use Rattle.joining.proofs.Text.{size-join, text-join}
use Rattle.joining.proofs.Calls.{first-decides, read-decides, large-decides, small-decides}

module _ (f g area : List ℕ) where
  -- what reading refuses of f
  pub first-refused :
      (m : Misread) → readingAnswer (Err m) ≡ reading_of f → After.after (answer_of (Err (Unread m))) area ≡ joining_of f g area
  first-refused m e = sym (first-decides f g area (unread f m e))

  module _ (n : ℕ) (first : Reply.answered n ≡ reading_of f) where
    -- what it refuses of g
    pub second-refused :
        (m : Misread) → readingAnswer (Err m) ≡ reading_of g → After.after (answer_of (Err (Unread m))) area ≡ joining_of f g area
    second-refused m e =
        let (t, same, sized, read) = whole-read f n first in
        sym (read-decides f g area read (unread g m e))

    module _ (m : ℕ) (second : Reply.answered m ≡ reading_of g) where
      -- 31
      pub too_large : length area < join_size n m → After.after (Reply.refused 31 0) area ≡ joining_of f g area
      too_large h =
          let (t, same₁, sized₁, read₁) = whole-read f n first in
          let (u, same₂, sized₂, read₂) = whole-read g m second in
          let large : length area < size (join t u) = omega (arith, size-join t u, sized₁, sized₂) in
          sym (large-decides f g area read₁ read₂ large)

      module _ (fits : join_size n m ≤ length area) where
        -- there is room for the text
        pub room : join_size (length f) (length g) ≤ length area
        room =
            let (t, same₁, sized₁, read₁) = whole-read f n first in
            let (u, same₂, sized₂, read₂) = whole-read g m second in
            omega (arith, ap length same₁, ap length same₂, length-text t, length-text u, sized₁, sized₂)

        -- the text, and zeros behind it
        pub joined :
            (s : ℕ) (area₁ area₂ : List ℕ) → Wrote 0 s (join_text f g) area area₁ →
            area₂ ≡ take s area₁ ++ replicate (length area₁ - s) 0 → After.after (Reply.answered s) area₂ ≡ joining_of f g area
        joined s area₁ area₂ w z =
            let (t, same₁, sized₁, read₁) = whole-read f n first in
            let (u, same₂, sized₂, read₂) = whole-read g m second in
            let spelt : join_text f g ≡ text (join t u) = ap₂ join_text same₁ same₂ ∙ text-join t u in
            let small : size (join t u) ≤ length area = omega (arith, size-join t u, sized₁, sized₂) in
            let ends : s ≡ size (join t u) = omega (arith, w.ends, ap length spelt, length-text (join t u)) in
            ap₂ (λ (k : ℕ) (l : List ℕ). After.after (Reply.answered k) l) ends
            (wrote-zeros w z ∙ ap₂ (λ (l : List ℕ) (k : ℕ). l ++ replicate (length area - k) 0) spelt ends)
            ∙ sym (small-decides f g area read₁ read₂ small)
