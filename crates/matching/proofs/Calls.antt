-- What matching refuses is what checking refuses, of the first file or of the second. Assumes nothing.
use Prim.Native.Nat.{ℕ}
use native.Mathlib.Omega.{arith}
use mathlib.Core.Path.{◌≡◌, ap₂}
use mathlib.Core.Bool.{Bool}
use mathlib.Core.Logic.{◌⊎◌, inl, inr}
use mathlib.Core.List.{List}
use Rattle.reading.specs.Reply.{Reply}
use Rattle.slices.specs.Split.{lines}
use Rattle.derivation_files.specs.Checking.{checking_of}
use Rattle.derivation_files.specs.Claim.{last_line}
use Rattle.matching.specs.Matching.{same_claim, after_both, matching_of}

pub match_refused :
    (first second : List ℕ) (number line : ℕ) →
    matching_of first second ≡ Reply.refused number line →
    (checking_of first ≡ Reply.refused number line) ⊎ (checking_of second ≡ Reply.refused number line)
unfolding matching_of
match_refused first second number line =
    go (checking_of first) (checking_of second) (same_claim (last_line (lines first)) (last_line (lines second)))
  where
    go :
        (x y : Reply ℕ) (verdict : Bool) → after_both x y verdict ≡ Reply.refused number line →
        (x ≡ Reply.refused number line) ⊎ (y ≡ Reply.refused number line)
    go (Reply.refused n l) y verdict e =
        let same_number : n ≡ number = cc in
        let same_line : l ≡ line = cc in
        inl (ap₂ Reply.refused same_number same_line)
    go (Reply.answered m) (Reply.refused n l) verdict e =
        let same_number : n ≡ number = cc in
        let same_line : l ≡ line = cc in
        inr (ap₂ Reply.refused same_number same_line)
    go (Reply.answered m) (Reply.answered k) verdict e = let z : ◌≡◌ {A = ℕ} 0 1 = cc in absurd (omega arith)
