-- What the library's chain over a name's letters answers, in the words of the definition. Assumes nothing.
use Prim.Native.Nat.{ℕ, ◌+◌, ◌*◌, ◌%◌}
use mathlib.Core.Path.{◌≡◌, refl, ◌∙◌, ap}
use mathlib.Core.List.{List, [], ◌∷◌, reverse}
use Rattle.std.specs.List.{fold}
use Rattle.std.proofs.lemmas.List.{reverse-append}
use Rattle.std.proofs.lemmas.List.Sums.{fold-append}
use Rattle.book_names.specs.Key.{key_of}

-- one letter in front of others
abbrev pub turn : (key b : ℕ) → ℕ
turn key b = key % 34359738368 * 32 + b % 32

-- the letters, from the last on
pub key-folds : (name : List ℕ) → fold turn 0 (reverse name) ≡ key_of name
key-folds [] = refl
key-folds (b ∷ name) = ap (fold turn 0) (reverse-append (b ∷ []) name) ∙ fold-append turn 0 (reverse name) (b ∷ []) ∙ ap (λ (key : ℕ). turn key b) (key-folds name)
