-- What checking refuses: by 10 to 13 at line 0, by 14 to 18 at a line from 1 to the number of lines. Assumes nothing.
use Prim.Native.Nat.{ℕ, suc, ◌+◌, min}
use native.Mathlib.Omega.{arith}
use mathlib.Core.Path.{◌≡◌, refl, ◌∙◌, ap, subst}
use mathlib.Core.List.{List, ◌∷◌, map, Memᴰ}
use lib.ListN.{length, length-append, length-map}
use Rattle.calculus.specs.Limits.{line_limit}
use Rattle.calculus.specs.Typing.{Judgement}
use Rattle.reading.specs.Reply.{Reply, Refuses}
use Rattle.slices.specs.Split.{lines}
use Rattle.derivation_files.specs.Line.{body_text}
use Rattle.derivation_files.specs.Checking.{checking_of}
use Rattle.derivation_files.specs.Checks.{BadLine, ChecksAs, file_numbers, line_numbers}
use Rattle.derivation_files.proofs.Checks.{checks_as}

-- the number of a bad line is one of a line's
bad-number : {earlier : List Judgement} {line : List ℕ} {number : ℕ} → BadLine earlier line number → Memᴰ number line_numbers
bad-number (BadLine.not_six_fields no_six) = Memᴰ.head refl
bad-number (BadLine.not_well_formed six no-judgement) = Memᴰ.tail (Memᴰ.head refl)
bad-number (BadLine.unknown_rule six spells no_name) = Memᴰ.tail (Memᴰ.tail (Memᴰ.head refl))
bad-number (BadLine.bad-premises six spells letter no-premises) = Memᴰ.tail (Memᴰ.tail (Memᴰ.tail (Memᴰ.head refl)))
bad-number (BadLine.no_instance six spells letter c no_way) =
    Memᴰ.tail (Memᴰ.tail (Memᴰ.tail (Memᴰ.tail (Memᴰ.head refl))))

-- a refusal of a file, at its line
abbrev pub Refused : (file : List ℕ) (number line : ℕ) → Type 0
Refused file number line = Refuses file_numbers line_numbers 1 (min line_limit (length (lines file))) number line

refusal-placed : {file : List ℕ} {number line : ℕ} → ChecksAs file (Reply.refused number line) → Refused file number line
refusal-placed (ChecksAs.too_long long) = Refuses.at_zero (Memᴰ.head refl) refl
refusal-placed (ChecksAs.empty e) = Refuses.at_zero (Memᴰ.tail (Memᴰ.head refl)) refl
refusal-placed (ChecksAs.no_line-end short filled unended) = Refuses.at_zero (Memᴰ.tail (Memᴰ.tail (Memᴰ.head refl))) refl
refusal-placed (ChecksAs.too_many-lines short ends many) =
    Refuses.at_zero (Memᴰ.tail (Memᴰ.tail (Memᴰ.tail (Memᴰ.head refl)))) refl
refusal-placed {file} (ChecksAs.bad-line good line rest short ends few follow texts bad) =
    let counted : length (lines file) ≡ length good + suc (length rest) =
    ap length texts ∙ length-append (map body_text good) (line ∷ rest) ∙ ap (λ (n : ℕ). n + suc (length rest)) (length-map good body_text) in
    Refuses.at_place (bad-number bad) (omega arith) (omega arith)

-- what checking refuses is listed, and a line of the file
pub checking_refused : (file : List ℕ) (number line : ℕ) → checking_of file ≡ Reply.refused number line → Refused file number line
checking_refused file number line e = refusal-placed (subst (ChecksAs file) e (checks_as file))
