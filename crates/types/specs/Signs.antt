-- The signs that bytes are written in, as a function on any bytes: what `written` undoes.
-- REQUIREMENTS, Types.
use Rattle.std.specs.Prelude.{ℕ, ◌≤◌, List, [], ◌∷◌, eqb, Bool, true, false}
use Rattle.std.proofs.Math.Option.{Option, none, some}
use Rattle.std.proofs.Math.Decide.{dec_le}
use Rattle.calculus.specs.Types.{Sign}

-- the atom of a byte, if it is a letter `a` to `z`
abbrev pub atom_if : (b : ℕ) → Dec (97 ≤ b) → Dec (b ≤ 122) → Option Sign
atom_if b (yes low) (yes high) = some (Sign.name (record { letter = b; from_a = low; up_to_z = high }))
atom_if b (yes low) (no high) = none
atom_if b (no low) high = none

abbrev pub chosen : Bool → Sign → Option Sign → Option Sign
chosen true sign other = some sign
chosen false sign other = other

-- the sign of a byte, if it is one
unfoldable pub sign_of : ℕ → Option Sign
sign_of b =
    chosen (eqb b 62) Sign.arrow
    (chosen (eqb b 42) Sign.bind
    (chosen (eqb b 49) Sign.empty
    (atom_if b (dec_le 97 b) (dec_le b 122))))

abbrev pub cons_sign : Option Sign → Option (List Sign) → Option (List Sign)
cons_sign none rest = none
cons_sign (some sign) none = none
cons_sign (some sign) (some signs) = some (sign ∷ signs)

-- the signs that the bytes are written in, if they are
unfoldable pub signs_of : List ℕ → Option (List Sign)
signs_of [] = some []
signs_of (b ∷ bytes) = cons_sign (sign_of b) (signs_of bytes)
