-- The text of a type that a sign makes of two is the sign's and the two texts. Assumes nothing.
use Prim.Native.Nat.{ℕ}
use mathlib.Core.Path.{◌≡◌, refl, sym, ◌∙◌, ap}
use mathlib.Core.List.{List, [], ◌∷◌, ◌++◌, append_assoc}
use Rattle.calculus.specs.Types.{Simple, Context, Sign, sign_text, simple_signs, context_signs, written, simple_text, context_text}

-- signs that stand together are written one behind the other
written-append : (a b : List Sign) → written (a ++ b) ≡ written a ++ written b
written-append [] b = refl
written-append (g ∷ a) b = ap (λ (s : List ℕ). sign_text g ++ s) (written-append a b) ∙ sym (append_assoc (sign_text g) (written a) (written b))

pub arrow-text : (U T : Simple) → simple_text (Simple.arrow U T) ≡ sign_text Sign.arrow ++ (simple_text U ++ simple_text T)
arrow-text U T = ap (λ (s : List ℕ). sign_text Sign.arrow ++ s) (written-append (simple_signs U) (simple_signs T))

pub bind-text : (U : Simple) (G : Context) → context_text (Context.bind U G) ≡ sign_text Sign.bind ++ (simple_text U ++ context_text G)
bind-text U G = ap (λ (s : List ℕ). sign_text Sign.bind ++ s) (written-append (simple_signs U) (context_signs G))
