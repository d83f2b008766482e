-- A file is cut at its bytes 10 into its lines, so it is the text of one list of lines. Carried by the laws on cutting. Assumes nothing.
use Prim.Native.Nat.{ℕ, suc}
use mathlib.Core.Path.{◌≡◌, refl, sym, ◌∙◌, ap, ap₂}
use mathlib.Core.List.{List, [], ◌∷◌, ◌++◌, map, append_assoc}
use lib.ListN.{length}
use Rattle.slices.specs.Split.{lines}
use Rattle.derivation_files.specs.Line.{Line, body_text, file_text}
use Rattle.derivation_files.proofs.Split.{AllFree, ended, lines-ended}
use Rattle.derivation_files.proofs.GoodLines.{body, body-text, free-body, body_injective}

-- the lines of a file without their bytes 10
abbrev pub bodies : List Line → List (List ℕ)
bodies [] = []
bodies (l ∷ ls) = body l ∷ bodies ls

-- they are the texts of the lines
pub bodies-texts : (ls : List Line) → map body_text ls ≡ bodies ls
bodies-texts [] = refl
bodies-texts (l ∷ ls) = ap₂ (λ (s : List ℕ) (ps : List (List ℕ)). s ∷ ps) (body-text l) (bodies-texts ls)

-- a file is its lines, each ended by byte 10
pub file_ended : (ls : List Line) → file_text ls ≡ ended 10 (bodies ls)
file_ended [] = refl
file_ended (l ∷ ls) =
    ap₂ ◌++◌ (ap (λ (s : List ℕ). s ++ (10 ∷ [])) (body-text l)) (file_ended ls) ∙ append_assoc (body l) (10 ∷ []) (ended 10 (bodies ls))

-- no line feed stands in the lines of a file without their bytes 10
free-bodies : (ls : List Line) → AllFree 10 (bodies ls)
free-bodies [] = tt
free-bodies (l ∷ ls) = (free-body l, free-bodies ls)

-- a file is cut at its bytes 10 into its lines
pub lines_file : (ls : List Line) → lines (file_text ls) ≡ bodies ls
lines_file ls = ap lines (file_ended ls) ∙ lines-ended 10 (bodies ls) (free-bodies ls)

-- there are as many as there are lines
pub length-bodies : (ls : List Line) → length (bodies ls) ≡ length ls
length-bodies [] = refl
length-bodies (l ∷ ls) = ap suc (length-bodies ls)

-- lines of the same bodies are the same
bodies_injective : (ls ms : List Line) → bodies ls ≡ bodies ms → ls ≡ ms
bodies_injective [] [] e = refl
bodies_injective [] (m ∷ ms) e = cc
bodies_injective (l ∷ ls) [] e = cc
bodies_injective (l ∷ ls) (m ∷ ms) e = ap₂ (λ (k : Line) (ks : List Line). k ∷ ks) (body_injective l m (cc)) (bodies_injective ls ms (cc))

-- a file is the text of one list of lines
pub listed_unique : (ls ms : List Line) → file_text ls ≡ file_text ms → ls ≡ ms
listed_unique ls ms e = bodies_injective ls ms (sym (lines_file ls) ∙ ap lines e ∙ lines_file ms)
