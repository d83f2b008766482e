-- What a line has read when it is in a field: the invariant that each byte keeps, field by field. Where it is at `Other`, no line of
-- three fields begins with what it has read. Assumes nothing.
use Prim.Native.Nat.{ℕ, suc, ◌+◌, ◌≤◌, ◌<◌, min}
use native.Mathlib.Omega.{arith}
use mathlib.Core.Path.{◌≡◌, refl, sym, ◌∙◌, ap, ap₂, subst}
use mathlib.Core.Bool.{Bool, true, false, cond}
use mathlib.Core.Option.{none, some}
use mathlib.Core.List.{List, [], ◌∷◌, ◌++◌, append_assoc, append-nil}
use lib.Dec.{ltb, eqb}
use borrow.Author.Tests.{eqb-true, eqb-false, ltb-true, ltb-false}
use lib.ListN.{length, take, set, length-append}
use lib.Seq.{append_snoc, take_all, take-append-le}
use Rattle.slices.specs.Split.{tab, line_feed}
use Rattle.slices.specs.Numeral.{decimal_of}
use Rattle.slices.proofs.Splitting.{Free, free-append}
use Rattle.slices.proofs.Decimal.{decimal-free}
use Rattle.decimals.specs.declared.Decimal.{Decimal}
use Rattle.std.specs.Prelude.{Option, Some, None}
use Rattle.decimals.specs.Parsed as decimals
use Rattle.decimals.proofs.Parsing.{Numbered, state-numbered, state-unnumbered, state-fed}
use Rattle.line_states.specs.declared.Line.{Line}
use Rattle.line_states.specs.declared.Line.TheVariants.{InFirst, InSecond, InThird, Ended, Other}
use Rattle.line_states.specs.Parts.{parts_of}
use Rattle.line_states.specs.Fed.{number_cap, length_cap, first_read, in_first_if, second_read, in_second_if, in_third_if}
use Rattle.line_states.specs.Kept.{is_kept_if, kept_in}
use Rattle.line_states.specs.State.{State, state, fed_byte, fed}
use Rattle.line_states.proofs.Shape.{three_fields, Field, first_dead, second-dead, tab-dead, ended-dead}
use Rattle.line_states.proofs.Buffer.{kept-none, kept_byte}

-- a number is a field
pub number_field : (s : List ℕ) (n : ℕ) → decimal_of s ≡ some n → Field s
number_field s n e = (decimal-free tab s n (omega arith) e, decimal-free line_feed s n (omega arith) e)

-- bytes of which a number is kept are a field
pub numbered_field : (s : List ℕ) (n : ℕ) → Numbered number_cap s n → Field s
numbered_field s n d = number_field s d.number d.reads

-- the first field is read, and a part of the second
pub record Two (read : List ℕ) (n : ℕ) (number : Decimal) : Type 0 where
  pub first : List ℕ
  pub second : List ℕ
  pub parted : read ≡ first ++ (tab ∷ second)
  pub first-number : Numbered number_cap first n
  pub tabless : Free tab second
  pub state : number ≡ decimals.state_of number_cap second

-- two fields are read, and a part of the third, which the buffer holds up to the cap
pub record Three (buffer₀ read : List ℕ) (n m : ℕ) (number : Decimal) (len : ℕ) (buffer : List ℕ) : Type 0 where
  pub first : List ℕ
  pub second : List ℕ
  pub third : List ℕ
  pub parted : read ≡ three_fields first second third
  pub first-number : Numbered number_cap first n
  pub second-number : Numbered number_cap second m
  pub third_field : Field third
  pub state : number ≡ decimals.state_of number_cap third
  pub counted : len ≡ min (length third) length_cap
  pub kept : buffer ≡ kept_in buffer₀ (take length_cap third)

-- the first two are fields
module _ {buffer₀ read : List ℕ} {n m : ℕ} {number : Decimal} {len : ℕ} {buffer : List ℕ}
    (r : Three buffer₀ read n m number len buffer) where
  pub first_field : Field r.first
  first_field = numbered_field r.first n r.first-number

  pub second-field : Field r.second
  second-field = numbered_field r.second m r.second-number

abbrev pub Reached : (buffer₀ read : List ℕ) → Line → (buffer : List ℕ) → Type 0
Reached buffer₀ read (InFirst number) buffer = Free tab read × (number ≡ decimals.state_of number_cap read) × (buffer ≡ buffer₀)
Reached buffer₀ read (InSecond n number) buffer = Two read n number × (buffer ≡ buffer₀)
Reached buffer₀ read (InThird n m number len) buffer = Three buffer₀ read n m number len buffer
Reached buffer₀ read (Ended n m number len) buffer =
    (line : List ℕ) × (read ≡ line ++ (line_feed ∷ [])) × Three buffer₀ line n m number len buffer
Reached buffer₀ read Other buffer = (rest : List ℕ) → parts_of (read ++ rest) ≡ none

abbrev pub ReachedState : (buffer₀ read : List ℕ) → State → Type 0
ReachedState buffer₀ read s = Reached buffer₀ read s.line s.buffer

-- ---- a byte more

-- no line begins with bytes that none goes on from
dies_at :
    (p s : List ℕ) (b : ℕ) → p ≡ s → ((rest : List ℕ) → parts_of (s ++ (b ∷ rest)) ≡ none) →
    (rest : List ℕ) → parts_of (p ++ (b ∷ []) ++ rest) ≡ none
dies_at p s b e h rest = ap parts_of (append_snoc p b rest ∙ ap (λ (q : List ℕ). q ++ (b ∷ rest)) e) ∙ h rest

module _ (d p buffer : List ℕ) (b : ℕ) where
  abbrev Next : Line → Type 0
  Next line = ReachedState d (p ++ (b ∷ [])) (fed_byte (state line buffer) b)

  from_first : (number : Decimal) → Reached d p (InFirst number) buffer → Next (InFirst number)
  from_first number (free, st, kept) = go (eqb b tab) refl
    where
      ended : b ≡ tab → (a : Option ℕ) → decimals.parsed_of number ≡ a → Reached d (p ++ (b ∷ [])) (first_read a) buffer
      ended here (Some n) e = (
        record {
          first = p;
          second = [];
          parted = ap (λ (c : ℕ). p ++ (c ∷ [])) here;
          first-number = state-numbered number_cap p number st e;
          tabless = tt;
          state = refl;
        },
        kept,
      )
      ended here None e =
          dies_at p p b refl
          (λ rest. ap (λ (c : ℕ). parts_of (p ++ (c ∷ rest))) here ∙ first_dead p rest free (state-unnumbered number_cap p number st e))

      go : (t : Bool) → eqb b tab ≡ t → Reached d (p ++ (b ∷ [])) (in_first_if t number b) buffer
      go true e = ended (eqb-true b tab e) (decimals.parsed_of number) refl
      go false e = (free-append tab p (b ∷ []) free (eqb-false b tab e, tt), state-fed number_cap p number st b, kept)

  from_second : (n : ℕ) (number : Decimal) → Reached d p (InSecond n number) buffer → Next (InSecond n number)
  from_second n number (r, kept) = go (eqb b tab) refl
    where
      parted : (s : List ℕ) → r.first ++ (tab ∷ r.second) ++ s ≡ r.first ++ (tab ∷ (r.second ++ s))
      parted s = append_assoc r.first (tab ∷ r.second) s

      ended : b ≡ tab → (a : Option ℕ) → decimals.parsed_of number ≡ a → Reached d (p ++ (b ∷ [])) (second_read n a) buffer
      ended here (Some m) e =
          record {
            first = r.first;
            second = r.second;
            third = [];
            parted = ap₂ (λ (s : List ℕ) (c : ℕ). s ++ (c ∷ [])) r.parted here ∙ parted (tab ∷ []);
            first-number = r.first-number;
            second-number = state-numbered number_cap r.second number r.state e;
            third_field = (tt, tt);
            state = refl;
            counted = omega arith;
            kept = kept ∙ sym (kept-none d);
          }
      ended here None e =
          dies_at p (r.first ++ (tab ∷ r.second)) b r.parted
          (λ rest.
          ap parts_of (ap (λ (c : ℕ). r.first ++ (tab ∷ r.second) ++ (c ∷ rest)) here ∙ parted (tab ∷ rest))
          ∙ second-dead r.first (numbered_field r.first n r.first-number) r.second rest r.tabless
          (state-unnumbered number_cap r.second number r.state e))

      go : (t : Bool) → eqb b tab ≡ t → Reached d (p ++ (b ∷ [])) (in_second_if t n number b) buffer
      go true e = ended (eqb-true b tab e) (decimals.parsed_of number) refl
      go false e = (
        record {
          first = r.first;
          second = r.second ++ (b ∷ []);
          parted = ap (λ (s : List ℕ). s ++ (b ∷ [])) r.parted ∙ parted (b ∷ []);
          first-number = r.first-number;
          tabless = free-append tab r.second (b ∷ []) r.tabless (eqb-false b tab e, tt);
          state = state-fed number_cap r.second number r.state b;
        },
        kept,
      )

  from-third : (n m : ℕ) (number : Decimal) (len : ℕ) → Reached d p (InThird n m number len) buffer → Next (InThird n m number len)
  from-third n m number len r = go (eqb b line_feed) (eqb b tab) (ltb len length_cap) refl refl refl
    where
      longer : length (r.third ++ (b ∷ [])) ≡ length r.third + 1
      longer = length-append r.third (b ∷ [])

      grown : (len' : ℕ) (buffer' : List ℕ) → (b ≡ line_feed → ⊥) → (b ≡ tab → ⊥) → len' ≡ min (length (r.third ++ (b ∷ []))) length_cap
          → buffer' ≡ kept_in d (take length_cap (r.third ++ (b ∷ [])))
          → Three d (p ++ (b ∷ [])) n m (decimals.fed number_cap number b) len' buffer'
      grown len' buffer' no-feed no-tab counted kept =
          record {
            first = r.first;
            second = r.second;
            third = r.third ++ (b ∷ []);
            parted =
                ap (λ (s : List ℕ). s ++ (b ∷ [])) r.parted
                ∙ append_assoc r.first (tab ∷ (r.second ++ (tab ∷ r.third))) (b ∷ [])
                ∙ ap (λ (s : List ℕ). r.first ++ (tab ∷ s)) (append_assoc r.second (tab ∷ r.third) (b ∷ []));
            first-number = r.first-number;
            second-number = r.second-number;
            third_field = (
              free-append tab r.third (b ∷ []) r.third_field.0 (no-tab, tt),
              free-append line_feed r.third (b ∷ []) r.third_field.1 (no-feed, tt),
            );
            state = state-fed number_cap r.third number r.state b;
            counted = counted;
            kept = kept;
          }

      go : (t u v : Bool) → eqb b line_feed ≡ t → eqb b tab ≡ u → ltb len length_cap ≡ v
          → Reached d (p ++ (b ∷ [])) (in_third_if t u n m number len b) (cond (is_kept_if t u v) (set buffer len b) buffer)
      go true u v e w q = (p, ap (λ (c : ℕ). p ++ (c ∷ [])) (eqb-true b line_feed e), r)
      go false true v e w q =
          dies_at p (three_fields r.first r.second r.third) b r.parted
          (λ rest.
          ap (λ (c : ℕ). parts_of (three_fields r.first r.second r.third ++ (c ∷ rest))) (eqb-true b tab w)
          ∙ tab-dead r.first (first_field r) r.second r.third (second-field r) r.third_field rest)
      go false false true e w q =
          let room : len < length_cap = ltb-true len length_cap q in
          let count : len ≡ length r.third = omega (arith, r.counted) in
          grown (min (suc len) length_cap) (set buffer len b) (eqb-false b line_feed e) (eqb-false b tab w)
          (omega (arith, longer))
          (ap₂ (λ (s : List ℕ) (n : ℕ). set s n b) (r.kept ∙ ap (kept_in d) (take_all length_cap r.third (omega arith))) count
          ∙ kept_byte d r.third b
          ∙ sym (ap (kept_in d) (take_all length_cap (r.third ++ (b ∷ [])) (omega (arith, longer)))))
      go false false false e w q =
          let full : length_cap ≤ len = ltb-false len length_cap q in
          grown (min (suc len) length_cap) buffer (eqb-false b line_feed e) (eqb-false b tab w)
          (omega (arith, longer, r.counted))
          (r.kept ∙ sym (ap (kept_in d) (take-append-le length_cap r.third (b ∷ []) (omega (arith, r.counted)))))

  from-ended : (n m : ℕ) (number : Decimal) (len : ℕ) → Reached d p (Ended n m number len) buffer → Next (Ended n m number len)
  from-ended n m number len (line, whole, r) =
      dies_at p (three_fields r.first r.second r.third ++ (line_feed ∷ [])) b
      (whole ∙ ap (λ (s : List ℕ). s ++ (line_feed ∷ [])) r.parted)
      (λ rest.
      ap parts_of (append_snoc (three_fields r.first r.second r.third) line_feed (b ∷ rest))
      ∙ ended-dead r.first (first_field r) r.second r.third (second-field r) r.third_field b rest)

  -- a byte more
  pub reached-byte : (line : Line) → Reached d p line buffer → Next line
  reached-byte (InFirst number) r = from_first number r
  reached-byte (InSecond n number) r = from_second n number r
  reached-byte (InThird n m number len) r = from-third n m number len r
  reached-byte (Ended n m number len) r = from-ended n m number len r
  reached-byte Other h = dies_at p p b refl (λ rest. h (b ∷ rest))

-- and any number of bytes more
pub reached : (d p bytes : List ℕ) (s : State) → ReachedState d p s → ReachedState d (p ++ bytes) (fed s bytes)
reached d p [] s r = subst (λ (q : List ℕ). ReachedState d q s) (sym (append-nil p)) r
reached d p (b ∷ bytes) s r =
    subst (λ (q : List ℕ). ReachedState d q (fed (fed_byte s b) bytes)) (append_snoc p b bytes)
    (reached d (p ++ (b ∷ [])) bytes (fed_byte s b) (reached-byte d p s.buffer b s.line r))
