-- A line that is fed the whole input, in chunks cut anywhere, has ended with what `parts_of` says of the input, and its buffer holds the
-- third field's first bytes. Carried by what the line has reached (`reached`), field by field. Assumes nothing.
use Prim.Native.Nat.{ℕ, min}
use mathlib.Core.Path.{◌≡◌, refl, sym, ◌∙◌, ap, ap₂, subst}
use mathlib.Core.Option.{Option, none, some}
use mathlib.Core.List.{List, [], ◌∷◌, ◌++◌, append-nil}
use lib.ListN.{length, take}
use Rattle.slices.specs.Split.{line_feed}
use Rattle.decimals.specs.declared.Decimal.{Decimal}
use Rattle.decimals.specs.Parsed as decimals
use Rattle.line_states.specs.declared.Line.{Line}
use Rattle.line_states.specs.declared.Line.TheVariants.{InFirst, InSecond, InThird, Ended, Other}
use Rattle.line_states.specs.Parts.{Parts, parts_of}
use Rattle.line_states.specs.Fed.{number_cap, length_cap, start_line}
use Rattle.line_states.specs.Kept.{kept_in}
use Rattle.line_states.specs.State.{State, state, fed_byte, fed}
use Rattle.line_states.specs.End.{end_of}
use Rattle.line_states.proofs.Shape.{first_open, second-open, third-open, ended-parts}
use Rattle.line_states.proofs.Reached.{numbered_field, first_field, second-field, Reached, reached}

-- what an input of such parts leaves in the line and in the buffer
abbrev pub Says : (buffer : List ℕ) → Option Parts → Line → (buffer' : List ℕ) → Type 0
Says buffer none line buffer' = end_of line ≡ none
Says buffer (some (Parts.parts first second third)) line buffer' =
    (line ≡ Ended (min first number_cap) (min second number_cap) (decimals.state_of number_cap third) (min (length third) length_cap))
    × (buffer' ≡ kept_in buffer (take length_cap third))

module _ (d p buffer : List ℕ) where
  -- bytes of another shape
  unparted : (line : Line) → end_of line ≡ none → parts_of p ≡ none → Says d (parts_of p) line buffer
  unparted line e shapeless = subst (λ (o : Option Parts). Says d o line buffer) (sym shapeless) e

  says : (line : Line) → Reached d p line buffer → Says d (parts_of p) line buffer
  says (InFirst number) (free, st, kept) = unparted (InFirst number) refl (first_open p free)
  says (InSecond n number) (r, kept) =
      unparted (InSecond n number) refl
      (ap parts_of r.parted
      ∙ second-open r.first (numbered_field r.first n r.first-number) r.second r.tabless)
  says (InThird n m number len) r =
      unparted (InThird n m number len) refl
      (ap parts_of r.parted ∙ third-open r.first (first_field r) r.second r.third (second-field r) r.third_field)
  says (Ended n m number len) (line, whole, r) =
      let first = r.first-number in
      let second = r.second-number in
      let n' : ℕ = min first.number number_cap in
      let m' : ℕ = min second.number number_cap in
      let parts : parts_of p ≡ some (Parts.parts first.number second.number r.third) =
      ap parts_of (whole ∙ ap (λ (s : List ℕ). s ++ (line_feed ∷ [])) r.parted)
      ∙ ended-parts r.first (first_field r) r.second r.third (second-field r) r.third_field
      first.number second.number first.reads second.reads in
      subst (λ (o : Option Parts). Says d o (Ended n m number len) buffer) (sym parts) (
        ap₂ (λ (x y : ℕ). Ended x y number len) first.capped second.capped
            ∙ ap₂ (λ (t : Decimal) (k : ℕ). Ended n' m' t k) r.state r.counted,
        r.kept,
      )
  says Other h = unparted Other refl (ap parts_of (sym (append-nil p)) ∙ h [])

-- a line before its first byte, with the buffer that is lent
abbrev pub begun : List ℕ → State
begun buffer = state start_line buffer

-- chunks fed one after the other
abbrev pub fed_chunks : State → List (List ℕ) → State
fed_chunks s [] = s
fed_chunks s (chunk ∷ chunks) = fed_chunks (fed s chunk) chunks

-- the input that chunks are cut from
abbrev pub input_of : List (List ℕ) → List ℕ
input_of [] = []
input_of (chunk ∷ chunks) = chunk ++ input_of chunks

fed-append : (s : State) (a b : List ℕ) → fed s (a ++ b) ≡ fed (fed s a) b
fed-append s [] b = refl
fed-append s (x ∷ a) b = fed-append (fed_byte s x) a b

-- however the input is cut, the line comes to the same
pub fed_chunks_lem : (s : State) (chunks : List (List ℕ)) → fed_chunks s chunks ≡ fed s (input_of chunks)
fed_chunks_lem s [] = refl
fed_chunks_lem s (chunk ∷ chunks) = fed_chunks_lem (fed s chunk) chunks ∙ sym (fed-append s chunk (input_of chunks))

module _ (buffer : List ℕ) (chunks : List (List ℕ)) where
  -- the line and the buffer once the whole input was fed
  abbrev pub after : State
  after = fed_chunks (begun buffer) chunks

  -- for every input, in chunks cut anywhere
  pub line-says : Says buffer (parts_of (input_of chunks)) after.line after.buffer
  line-says =
      subst (λ (s : State). Says buffer (parts_of (input_of chunks)) s.line s.buffer)
      (sym (fed_chunks_lem (begun buffer) chunks))
      (let s : State = fed (begun buffer) (input_of chunks) in
      says buffer (input_of chunks) s.buffer s.line (reached buffer [] (input_of chunks) (begun buffer) (tt, refl, refl)))
