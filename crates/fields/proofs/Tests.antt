-- Tests joined by `&&`, as the code goes through them: the second is made where the first held, and the third where both did.
-- Assumes nothing.
use mathlib.Core.Path.{◌≡◌, sym, ◌∙◌, ap}
use mathlib.Core.Bool.{Bool, true, false, ◌&&◌}
use mathlib.Core.Logic.{◌⊎◌, ⊎_elim}

-- what the first test says, made or not the second
abbrev pub Second : (first second flag : Bool) → Type 0
Second first second flag = ((first ≡ true) × (flag ≡ second)) ⊎ ((first ≡ false) × (flag ≡ false))

both : (a b flag : Bool) → Second a b flag → flag ≡ (a && b)
both a b flag came =
    ⊎_elim
    (λ (w : (a ≡ true) × (flag ≡ b)). w.1 ∙ sym (ap (λ (t : Bool). t && b) w.0))
    (λ (w : (a ≡ false) × (flag ≡ false)). w.1 ∙ sym (ap (λ (t : Bool). t && b) w.0))
    came

-- two tests
pub two_made : (a b r : Bool) → a ≡ true → r ≡ b → r ≡ (a && b)
two_made a b r held made = made ∙ sym (ap (λ (t : Bool). t && b) held)

pub two_missed : (a b : Bool) → a ≡ false → false ≡ (a && b)
two_missed a b missed = sym (ap (λ (t : Bool). t && b) missed)

-- three tests
pub three_made : (a b c flag r : Bool) → Second a b flag → flag ≡ true → r ≡ c → r ≡ ((a && b) && c)
three_made a b c flag r came held made = two_made (a && b) c r (sym (both a b flag came) ∙ held) made

pub three_missed : (a b c flag : Bool) → Second a b flag → flag ≡ false → flag ≡ ((a && b) && c)
three_missed a b c flag came missed = missed ∙ two_missed (a && b) c (sym (both a b flag came) ∙ missed)
