-- Accepted files match exactly when the contexts and the types of their claims are equal. Carried by the law that the last line's fields
-- are the texts of the claim, and that contexts and types of the same text are the same. Assumes nothing.
use Prim.Native.Nat.{ℕ}
use mathlib.Core.Path.{◌≡◌, refl, sym, ◌∙◌, ap, ap₂}
use mathlib.Core.Logic.{◌↔◌}
use mathlib.Core.Bool.{Bool, true, false, ◌&&◌, false≢true}
use mathlib.Core.List.{List}
use Rattle.calculus.specs.Term.{Term}
use Rattle.calculus.specs.Types.{Context, Ty, context_text, ty_text}
use Rattle.calculus.specs.Typing.{Judgement}
use Rattle.types.proofs.Parse.{ty_injective, context_injective}
use Rattle.reading.specs.Reply.{Reply}
use Rattle.slices.specs.Same.{same}
use Rattle.slices.specs.Split.{lines}
use Rattle.slices.proofs.Same.{same_equal, equal_same}
use Rattle.derivation_files.specs.Checking.{checking_of}
use Rattle.derivation_files.specs.Accepted.{Claims}
use Rattle.derivation_files.specs.Claim.{last_line}
use Rattle.derivation_files.proofs.Claim.{claim-fields}
use Rattle.derivation_files.proofs.Files.{accepted_exactly}
use Rattle.matching.specs.Matching.{context_field, type_field, same_claim, after_both, matching_of}

-- ---- the claim of one file

-- the texts compared are those of the claim's context and type
pub claim-texts :
    {file : List ℕ} {G : Context} {t : Term} {W : Ty} → Claims file (Judgement.judge G t W) →
    (context_field (last_line (lines file)) ≡ context_text G) × (type_field (last_line (lines file)) ≡ ty_text W)
claim-texts c = ((claim-fields c).0, (claim-fields c).2)

-- a file with a claim is not refused
claim-answered : {file : List ℕ} {j : Judgement} (c : Claims file j) → checking_of file ≡ Reply.answered c.lines
claim-answered {file} c = (accepted_exactly file c.lines).1 c.accepted

-- ---- the claims of two

answered-same : {a b : Bool} → Reply.answered a ≡ Reply.answered b → a ≡ b
answered-same e = cc

both_true : (a b : Bool) → (a && b) ≡ true → (a ≡ true) × (b ≡ true)
both_true true b e = (refl, e)
both_true false b e = absurd (false≢true e)

module _
    {first second : List ℕ}
    {G D : Context}
    {t u : Term}
    {W X : Ty}
    (c : Claims first (Judgement.judge G t W))
    (d : Claims second (Judgement.judge D u X)) where
  -- the answer tells whether the claims' texts are the same
  claims-compared : matching_of first second ≡ Reply.answered (same (context_text G) (context_text D) && same (ty_text W) (ty_text X))
  unfolding matching_of
  claims-compared =
      let (context₁, type₁) = claim-texts c in
      let (context₂, type₂) = claim-texts d in
      ap₂ (λ (r s : Reply ℕ). after_both r s (same_claim (last_line (lines first)) (last_line (lines second)))) (claim-answered c)
      (claim-answered d)
      ∙ ap Reply.answered (ap₂ ◌&&◌ (ap₂ same context₁ context₂) (ap₂ same type₁ type₂))

  -- two accepted files match exactly when their claims have the same context and the same type
  pub match-exactly : (matching_of first second ≡ Reply.answered true) ↔ ((G ≡ D) × (W ≡ X))
  match-exactly = (there, back)
    where
      there : matching_of first second ≡ Reply.answered true → (G ≡ D) × (W ≡ X)
      there e =
          let (contexts, types) = both_true (same (context_text G) (context_text D)) (same (ty_text W) (ty_text X))
          (answered-same (sym claims-compared ∙ e)) in (
            context_injective G D (same_equal (context_text G) (context_text D) contexts),
            ty_injective W X (same_equal (ty_text W) (ty_text X) types),
          )

      back : (G ≡ D) × (W ≡ X) → matching_of first second ≡ Reply.answered true
      back e =
          claims-compared
          ∙ ap Reply.answered
          (ap₂ ◌&&◌ (equal_same (context_text G) (context_text D) (ap context_text e.0))
          (equal_same (ty_text W) (ty_text X) (ap ty_text e.1)))
