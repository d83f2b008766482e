-- The claim that the walk keeps: the texts of the last line passed decide those of the last line of all. Assumes nothing.
use Prim.Native.Nat.{ℕ, ◌≤◌}
use mathlib.Core.Path.{◌≡◌, refl, sym, ◌∙◌, ap}
use mathlib.Core.List.{List, [], ◌∷◌}
use lib.ListN.{length, drop, drop_of_length-le}
use Rattle.slices.specs.Split.{lines, fields}
use Rattle.fields.specs.Fields.{six_at, has_six, Texts, texts_at}
use Rattle.fields.specs.declared.Judged.{Judged}
use Rattle.fields.proofs.Cutting.{first_line, six-found}
use Rattle.derivation_files.specs.Claim.{last_line}
use Rattle.checking.specs.Claim.{first_three, claim_of}
use mathlib.Core.Bool.{true}

-- the first three fields of the last of some lines, and other texts where there is none
abbrev pub last_texts : Texts → List (List ℕ) → Texts
last_texts other [] = other
last_texts other (line ∷ rest) = last_texts (first_three (fields line)) rest

last-texts :
    (line : List ℕ) (rest : List (List ℕ)) → last_texts (first_three (fields line)) rest ≡ first_three (fields (last_line (line ∷ rest)))
last-texts line [] = refl
last-texts line (next ∷ rest) = last-texts next rest

-- the places of empty texts
abbrev pub nowhere : Judged
nowhere = record { context = record { from = 0; to = 0 }; term = record { from = 0; to = 0 }; ty = record { from = 0; to = 0 } }

all-texts : (ls : List (List ℕ)) → last_texts (first_three []) ls ≡ first_three (fields (last_line ls))
all-texts [] = refl
all-texts (line ∷ rest) = last-texts line rest

-- the lines from `at` on decide the claim of the file, with those texts where there is none
abbrev pub Claimed : (file : List ℕ) (claim : Judged) (at : ℕ) → Type 0
Claimed file claim at = last_texts (texts_at claim file) (lines (drop at file)) ≡ claim_of file

pub claim-start : (file : List ℕ) → Claimed file nowhere 0
claim-start file = all-texts (lines file)

-- behind a line of six fields
pub claim-next :
    (file : List ℕ) (claim : Judged) (at next : ℕ) → has_six file (six_at file at) ≡ true →
    lines (drop at file) ≡ first_line (drop at file) ∷ lines (drop next file) → Claimed file claim at →
    Claimed file (six_at file at).own next
claim-next file claim at next six cut claimed =
    sym (ap (last_texts (texts_at claim file)) cut
    ∙ ap (λ (t : List (List ℕ)). last_texts (first_three t) (lines (drop next file))) (six-found file at six).0) ∙ claimed

pub claim-end :
    (file : List ℕ) (claim : Judged) (at : ℕ) → Claimed file claim at → length file ≤ at → texts_at claim file ≡ claim_of file
claim-end file claim at claimed h =
    ap (λ (l : List ℕ). last_texts (texts_at claim file) (lines l)) (sym (drop_of_length-le file h)) ∙ claimed
