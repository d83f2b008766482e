-- From what checking answered of both files, and the texts of their claims, to the reply: each way out of `match_claims` as one law.
-- Assumes nothing.
use Prim.Native.Nat.{ℕ}
use mathlib.Core.Path.{◌≡◌, ◌∙◌, ap, ap₂}
use mathlib.Core.Bool.{Bool}
use mathlib.Core.List.{List}
use Rattle.reading.specs.Reply.{Reply, passed_on}
use Rattle.slices.specs.Split.{lines}
use Rattle.derivation_files.specs.Checking.{checking_of}
use Rattle.checking.specs.Answer.{refusal_of}
use Rattle.checking.specs.declared.Refused.{Refused}
use Rattle.fields.specs.Fields.{Texts}
use Rattle.derivation_files.specs.Claim.{last_line}
use Rattle.checking.specs.Claim.{claim_of}
use Rattle.matching.specs.Matching.{same_claim, same_texts, after_both, matching_of}

-- ---- two files

module _ (first second : List ℕ) where
  abbrev verdict : Bool
  verdict = same_claim (last_line (lines first)) (last_line (lines second))

  -- the first file is refused
  pub first_refused : (refused : Refused) → passed_on (refusal_of refused) ≡ checking_of first → passed_on (refusal_of refused) ≡ matching_of first second
  unfolding matching_of
  first_refused refused said = ap (λ (r : Reply ℕ). after_both r (checking_of second) verdict) said

  module _ {n : ℕ} (good : Reply.answered n ≡ checking_of first) where
    -- the first is not, and the second is
    pub second_refused :
        (refused : Refused) → passed_on (refusal_of refused) ≡ checking_of second → passed_on (refusal_of refused) ≡ matching_of first second
    unfolding matching_of
    second_refused refused said = ap₂ (λ (r s : Reply ℕ). after_both r s verdict) good said

    -- neither is
    pub both_answered :
        {m : ℕ} → Reply.answered m ≡ checking_of second → (x y : Texts) (r : Bool) → x ≡ claim_of first → y ≡ claim_of second →
        r ≡ same_texts x y → Reply.answered r ≡ matching_of first second
    unfolding matching_of
    both_answered {m} well x y r p q e =
        ap Reply.answered (e ∙ ap₂ same_texts p q) ∙ ap₂ (λ (r s : Reply ℕ). after_both r s verdict) good well
