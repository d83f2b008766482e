-- Five appends, one behind the other, write the text of a join. Assumes nothing.
use Prim.Native.Nat.{ℕ, ◌≤◌}
use native.Mathlib.Omega.{arith}
use mathlib.Core.Path.{◌≡◌, ◌∙◌, ap, subst}
use mathlib.Core.List.{List, [], ◌∷◌, ◌++◌, append_assoc}
use lib.ListN.{length}
use Rattle.calculus.specs.Letter.{Letter, byte}
use Rattle.calculus.specs.Term.{Term, text}
use Rattle.slices.specs.Part.{part}
use Rattle.slices.specs.Wrote.{Wrote}
use Rattle.slices.proofs.Appending.{Appends, wrote, appends-whole}
use Rattle.slices.proofs.Wrote.{wrote_then}
use Rattle.joining.specs.Join.{in_turn, join_text, join_size}

-- what stands in front of f, and behind g
abbrev front : List ℕ
front = byte Letter.A ∷ byte Letter.B ∷ []

abbrev rest : List ℕ
rest = text Term.I ++ text in_turn

-- the pieces, one behind the other
pieces_join : (f g : List ℕ) → (((front ++ f) ++ (byte Letter.B ∷ [])) ++ g) ++ rest ≡ join_text f g
pieces_join f g =
    let b = byte Letter.B in
    ap (λ (l : List ℕ). byte Letter.A ∷ b ∷ l)
    (append_assoc (f ++ (b ∷ [])) g rest ∙ append_assoc f (b ∷ []) (g ++ rest))

module _
    (f g : List ℕ) {a₀ a₁ a₂ a₃ a₄ a₅ : List ℕ} {n₁ n₂ n₃ n₄ n₅ : ℕ} (room : join_size (length f) (length g) ≤ length a₀)
    (opened : Appends 0 (part 0 2 front) a₀ n₁ a₁)
    (one : Appends n₁ (part 0 (length f) f) a₁ n₂ a₂)
    (paired : Appends n₂ (byte Letter.B ∷ []) a₂ n₃ a₃)
    (two : Appends n₃ (part 0 (length g) g) a₃ n₄ a₄)
    (closed : Appends n₄ (part 0 9 rest) a₄ n₅ a₅)
  where
    pub join-wrote : Wrote 0 n₅ (join_text f g) a₀ a₅
    join-wrote =
        let w₁ = wrote 0 front a₀ (omega arith) (appends-whole 0 front a₀ opened) in
        let w₂ = wrote n₁ f a₁ (omega (arith, w₁.ends, w₁.size)) (appends-whole n₁ f a₁ one) in
        let w₃ = wrote n₂ (byte Letter.B ∷ []) a₂ (omega (arith, w₁.ends, w₁.size, w₂.ends, w₂.size)) paired in
        let w₄ = wrote n₃ g a₃ (omega (arith, w₁.ends, w₁.size, w₂.ends, w₂.size, w₃.ends, w₃.size)) (appends-whole n₃ g a₃ two) in
        let w₅ =
        wrote n₄ rest a₄
        (omega (arith, w₁.ends, w₁.size, w₂.ends, w₂.size, w₃.ends, w₃.size, w₄.ends, w₄.size))
        (appends-whole n₄ rest a₄ closed) in
        subst (λ (l : List ℕ). Wrote 0 n₅ l a₀ a₅) (pieces_join f g) (wrote_then (wrote_then (wrote_then (wrote_then w₁ w₂) w₃) w₄) w₅)
