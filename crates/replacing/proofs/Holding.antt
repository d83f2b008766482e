-- What the store holds for a name, from the place of its number among the numbers. Assumes nothing.
use Prim.Native.Nat.{ℕ, suc, ◌+◌}
use native.Mathlib.Numerals.{add-one}
use mathlib.Core.Path.{◌≡◌, ap, ap₂, ◌∙◌}
use mathlib.Core.List.{List}
use lib.ListN.{get_or}
use Rattle.slices.specs.Find.{index_of}
use Rattle.slices.specs.Part.{part}
use Rattle.replacing.specs.Spelled.{held_by}

-- the part between the end at that place and the next one is what the store holds
pub held-between :
    (key : ℕ) (keys ends store : List ℕ) {i from to : ℕ} {held : List ℕ} → i ≡ index_of key keys → from ≡ get_or ends i 0 →
    to ≡ get_or ends (i + 1) 0 → held ≡ part from to store → held ≡ held_by key keys ends store
unfolding held_by
held-between key keys ends store {i} at first last cut =
    cut
    ∙ ap₂ (λ (m n : ℕ). part m n store) first (last ∙ ap (λ (n : ℕ). get_or ends n 0) (add-one i))
    ∙ ap (λ (n : ℕ). part (get_or ends n 0) (get_or ends (suc n) 0) store) at
