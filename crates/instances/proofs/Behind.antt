-- The simple type behind a text's first byte: what `simple_behind` finds in the texts of trees. Assumes nothing.
use Prim.Native.Nat.{ℕ, ◌+◌, ◌-◌, ◌≤◌}
use native.Mathlib.Omega.{arith}
use mathlib.Core.Path.{◌≡◌, ◌∙◌, ap}
use mathlib.Core.Bool.{Bool, cond}
use mathlib.Core.List.{List, [], ◌∷◌, ◌++◌}
use borrow.Author.Tests.{le-leb}
use lib.Dec.{leb}
use lib.ListN.{length, take, length-append}
use lib.Seq.{take-append_seam}
use Rattle.slices.specs.Part.{part}
use Rattle.calculus.specs.Types.{Simple, simple_text}
use Rattle.types.specs.Scan.{simple_end}
use Rattle.types.proofs.Scan.{simple_end-text}
use Rattle.instances.specs.Behind.{simple_behind}

-- the simple type behind a byte is the one whose text stands there
pub behind-text : (b : ℕ) (U : Simple) (rest : List ℕ) → simple_behind (b ∷ (simple_text U ++ rest)) ≡ simple_text U
unfolding simple_behind
behind-text b U rest =
    let end : simple_end (b ∷ (simple_text U ++ rest)) 1 ≡ 1 + length (simple_text U) = simple_end-text (b ∷ []) U rest in
    let fits : 1 + length (simple_text U) ≤ length (b ∷ (simple_text U ++ rest)) = omega (arith, length-append (simple_text U) rest) in
    let size : 1 + length (simple_text U) - 1 ≡ length (simple_text U) = omega arith in
    ap (λ (n : ℕ). cond (leb n (length (b ∷ (simple_text U ++ rest)))) (part 1 n (b ∷ (simple_text U ++ rest))) []) end
    ∙ ap (λ (t : Bool). cond t (part 1 (1 + length (simple_text U)) (b ∷ (simple_text U ++ rest))) [])
    (le-leb (1 + length (simple_text U)) (length (b ∷ (simple_text U ++ rest))) fits)
    ∙ ap (λ (n : ℕ). take n (simple_text U ++ rest)) size
    ∙ take-append_seam (simple_text U) rest
