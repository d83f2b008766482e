-- The first three fields of the last line are the texts of the claim. Carried by the laws that a file is cut into its lines and a line
-- into its fields. Assumes nothing.
use Prim.Native.Nat.{ℕ}
use mathlib.Core.Path.{◌≡◌, ◌∙◌, ap}
use mathlib.Core.List.{List, [], ◌∷◌, ◌++◌}
use mathlib.Core.Option.{some, none-ne-some}
use Rattle.calculus.specs.Term.{Term, text}
use Rattle.calculus.specs.Types.{Context, Ty, context_text, ty_text}
use Rattle.calculus.specs.Typing.{Judgement}
use Rattle.slices.specs.Split.{lines, fields}
use Rattle.derivation_files.specs.Line.{Line}
use Rattle.derivation_files.specs.Accepted.{claim_of, Claims}
use Rattle.derivation_files.specs.Claim.{last_line, field_behind}
use Rattle.derivation_files.proofs.GoodLines.{judgement_fields, rest_fields, fields-body}
use Rattle.derivation_files.proofs.Bodies.{bodies, lines_file}

-- the last line's fields begin with those of the claim
last-fields :
    (ls : List Line) (j : Judgement) → claim_of ls ≡ some j →
    (rest : List (List ℕ)) × (fields (last_line (bodies ls)) ≡ judgement_fields j ++ rest)
last-fields [] j e = absurd (none-ne-some _ e)
last-fields (l ∷ []) j e =
    let claim : l.judgement ≡ j = cc in
    (rest_fields l, fields-body l ∙ ap (λ (k : Judgement). judgement_fields k ++ rest_fields l) claim)
last-fields (l ∷ next ∷ ls) j e = last-fields (next ∷ ls) j e

-- the context, the term and the type of the claim stand in the first three fields of the last line
pub claim-fields :
    {file : List ℕ} {G : Context} {t : Term} {W : Ty} → Claims file (Judgement.judge G t W) →
    (field_behind 0 (fields (last_line (lines file))) ≡ context_text G) × (field_behind 1 (fields (last_line (lines file))) ≡ text t)
    × (field_behind 2 (fields (last_line (lines file))) ≡ ty_text W)
claim-fields {file} {G} {t} {W} c =
    let (rest, found) = last-fields c.accepted.listed (Judgement.judge G t W) c.claim in
    let cut : fields (last_line (lines file)) ≡ judgement_fields (Judgement.judge G t W) ++ rest =
    ap (λ (s : List ℕ). fields (last_line (lines s))) c.accepted.written
    ∙ ap (λ (ps : List (List ℕ)). fields (last_line ps)) (lines_file c.accepted.listed) ∙ found in
    (ap (field_behind 0) cut, ap (field_behind 1) cut, ap (field_behind 2) cut)
