-- What a cell says of the term that it stands for: its place, its size, its first letter, and by that letter its parts; and of the list
-- that begins at it: its place. Assumes nothing.
use Prim.Native.Nat.{ℕ, ◌<◌}
use native.Mathlib.Omega.{arith}
use mathlib.Core.Path.{◌≡◌, refl, sym, ◌∙◌, subst}
use mathlib.Core.List.{List}
use lib.ListN.{get_or}
use Rattle.calculus.specs.Bell.{Bell}
use Rattle.calculus.specs.Letter.{Letter, byte}
use Rattle.calculus.specs.Term.{Term, size}
use Rattle.calculus.proofs.PrefixCode.{byte_injective}
use Rattle.calculus.proofs.Heads.{head_of}
use Rattle.contexts.specs.Frames.{Frame}
use Rattle.cells.specs.Cell.{letter_in, first_in, second_in, size_in, Cell}
use Rattle.cells.specs.Stands.{Stands, Two}
use Rattle.cells.specs.Chain.{Pending, Chain}

module _ {cells : List ℕ} {top : ℕ} where
  -- a cell that stands for a term is below the top
  pub stands-inside : {i : ℕ} {t : Term} → Stands cells top i t → i < top
  stands-inside (Stands.J c) = c.inside
  stands-inside (Stands.R c x) = c.inside
  stands-inside (Stands.H c x y) = c.inside
  stands-inside (Stands.A c x y) = c.inside
  stands-inside (Stands.I c) = c.inside
  stands-inside (Stands.B c x y) = c.inside
  stands-inside (Stands.app c x y) = c.inside
  stands-inside (Stands.bell c) = c.inside

  -- its size is the term's
  pub stands-size : {i : ℕ} {t : Term} → Stands cells top i t → size_in (get_or cells i 0) ≡ size t
  stands-size (Stands.J c) = c.sized
  stands-size (Stands.R c x) = c.sized
  stands-size (Stands.H c x y) = c.sized
  stands-size (Stands.A c x y) = c.sized
  stands-size (Stands.I c) = c.sized
  stands-size (Stands.B c x y) = c.sized
  stands-size (Stands.app c x y) = c.sized
  stands-size (Stands.bell c) = c.sized

  -- its letter is the term's first
  pub stands-letter : {i : ℕ} {t : Term} → Stands cells top i t → letter_in (get_or cells i 0) ≡ byte (head_of t)
  stands-letter (Stands.J c) = c.lettered
  stands-letter (Stands.R c x) = c.lettered
  stands-letter (Stands.H c x y) = c.lettered
  stands-letter (Stands.A c x y) = c.lettered
  stands-letter (Stands.I c) = c.lettered
  stands-letter (Stands.B c x y) = c.lettered
  stands-letter (Stands.app c x y) = c.lettered
  stands-letter (Stands.bell c) = c.lettered

  -- ---- by its letter

  -- the cell of the first part, by what is read from the whole's
  pub at_first :
      {i letter x y n : ℕ} {t : Term} → Cell cells top i letter x y n → Stands cells top x t →
      Stands cells top (first_in (get_or cells i 0)) t
  at_first {t = t} c s = subst (λ (k : ℕ). Stands cells top k t) (sym c.first-is) s

  -- the cell of the second
  pub at_second :
      {i letter x y n : ℕ} {t : Term} → Cell cells top i letter x y n → Stands cells top y t →
      Stands cells top (second_in (get_or cells i 0)) t
  at_second {t = t} c s = subst (λ (k : ℕ). Stands cells top k t) (sym c.second_is) s

  -- the letter J: the term J
  pub opened-J : {i : ℕ} {t : Term} → Stands cells top i t → letter_in (get_or cells i 0) ≡ byte Letter.J → t ≡ Term.J
  opened-J (Stands.J c) e = refl
  opened-J (Stands.R c x) e = absurd (omega (arith, c.lettered))
  opened-J (Stands.H c x y) e = absurd (omega (arith, c.lettered))
  opened-J (Stands.A c x y) e = absurd (omega (arith, c.lettered))
  opened-J (Stands.I c) e = absurd (omega (arith, c.lettered))
  opened-J (Stands.B c x y) e = absurd (omega (arith, c.lettered))
  opened-J (Stands.app c x y) e = absurd (omega (arith, c.lettered))
  opened-J (Stands.bell {k = k} c) e =
      let z : ◌≡◌ {A = ℕ} 0 1 = cc (byte_injective (Letter.bell k) Letter.J (sym c.lettered ∙ e)) in
      absurd (omega arith)

  -- the letter I: the term I
  pub opened-I : {i : ℕ} {t : Term} → Stands cells top i t → letter_in (get_or cells i 0) ≡ byte Letter.I → t ≡ Term.I
  opened-I (Stands.J c) e = absurd (omega (arith, c.lettered))
  opened-I (Stands.R c x) e = absurd (omega (arith, c.lettered))
  opened-I (Stands.H c x y) e = absurd (omega (arith, c.lettered))
  opened-I (Stands.A c x y) e = absurd (omega (arith, c.lettered))
  opened-I (Stands.I c) e = refl
  opened-I (Stands.B c x y) e = absurd (omega (arith, c.lettered))
  opened-I (Stands.app c x y) e = absurd (omega (arith, c.lettered))
  opened-I (Stands.bell {k = k} c) e =
      let z : ◌≡◌ {A = ℕ} 0 1 = cc (byte_injective (Letter.bell k) Letter.I (sym c.lettered ∙ e)) in
      absurd (omega arith)

  -- the letter R: the term at the first index behind it
  pub opened-R :
      {i : ℕ} {t : Term} → Stands cells top i t → letter_in (get_or cells i 0) ≡ byte Letter.R →
      (u : Term) × (t ≡ Term.R u) × Stands cells top (first_in (get_or cells i 0)) u
  opened-R (Stands.J c) e = absurd (omega (arith, c.lettered))
  opened-R (Stands.R c x) e = (_, refl, at_first c x)
  opened-R (Stands.H c x y) e = absurd (omega (arith, c.lettered))
  opened-R (Stands.A c x y) e = absurd (omega (arith, c.lettered))
  opened-R (Stands.I c) e = absurd (omega (arith, c.lettered))
  opened-R (Stands.B c x y) e = absurd (omega (arith, c.lettered))
  opened-R (Stands.app c x y) e = absurd (omega (arith, c.lettered))
  opened-R (Stands.bell {k = k} c) e =
      let z : ◌≡◌ {A = ℕ} 0 1 = cc (byte_injective (Letter.bell k) Letter.R (sym c.lettered ∙ e)) in
      absurd (omega arith)

  -- a letter that takes two terms
  pub opened-two :
      {i l : ℕ} {t : Term} {node : Term → Term → Term} → Two l node → Stands cells top i t → letter_in (get_or cells i 0) ≡ l →
      (u : Term) × (v : Term) × (t ≡ node u v)
      × Stands cells top (first_in (get_or cells i 0)) u × Stands cells top (second_in (get_or cells i 0)) v
  opened-two Two.two-H (Stands.J c) e = absurd (omega (arith, c.lettered))
  opened-two Two.two-H (Stands.R c x) e = absurd (omega (arith, c.lettered))
  opened-two Two.two-H (Stands.H c x y) e = (_, _, refl, at_first c x, at_second c y)
  opened-two Two.two-H (Stands.A c x y) e = absurd (omega (arith, c.lettered))
  opened-two Two.two-H (Stands.I c) e = absurd (omega (arith, c.lettered))
  opened-two Two.two-H (Stands.B c x y) e = absurd (omega (arith, c.lettered))
  opened-two Two.two-H (Stands.app c x y) e = absurd (omega (arith, c.lettered))
  opened-two Two.two-H (Stands.bell {k = k} c) e =
      let z : ◌≡◌ {A = ℕ} 0 1 = cc (byte_injective (Letter.bell k) Letter.H (sym c.lettered ∙ e)) in
      absurd (omega arith)
  opened-two Two.two-A (Stands.J c) e = absurd (omega (arith, c.lettered))
  opened-two Two.two-A (Stands.R c x) e = absurd (omega (arith, c.lettered))
  opened-two Two.two-A (Stands.H c x y) e = absurd (omega (arith, c.lettered))
  opened-two Two.two-A (Stands.A c x y) e = (_, _, refl, at_first c x, at_second c y)
  opened-two Two.two-A (Stands.I c) e = absurd (omega (arith, c.lettered))
  opened-two Two.two-A (Stands.B c x y) e = absurd (omega (arith, c.lettered))
  opened-two Two.two-A (Stands.app c x y) e = absurd (omega (arith, c.lettered))
  opened-two Two.two-A (Stands.bell {k = k} c) e =
      let z : ◌≡◌ {A = ℕ} 0 1 = cc (byte_injective (Letter.bell k) Letter.A (sym c.lettered ∙ e)) in
      absurd (omega arith)
  opened-two Two.two-B (Stands.J c) e = absurd (omega (arith, c.lettered))
  opened-two Two.two-B (Stands.R c x) e = absurd (omega (arith, c.lettered))
  opened-two Two.two-B (Stands.H c x y) e = absurd (omega (arith, c.lettered))
  opened-two Two.two-B (Stands.A c x y) e = absurd (omega (arith, c.lettered))
  opened-two Two.two-B (Stands.I c) e = absurd (omega (arith, c.lettered))
  opened-two Two.two-B (Stands.B c x y) e = (_, _, refl, at_first c x, at_second c y)
  opened-two Two.two-B (Stands.app c x y) e = absurd (omega (arith, c.lettered))
  opened-two Two.two-B (Stands.bell {k = k} c) e =
      let z : ◌≡◌ {A = ℕ} 0 1 = cc (byte_injective (Letter.bell k) Letter.B (sym c.lettered ∙ e)) in
      absurd (omega arith)
  opened-two Two.two-app (Stands.J c) e = absurd (omega (arith, c.lettered))
  opened-two Two.two-app (Stands.R c x) e = absurd (omega (arith, c.lettered))
  opened-two Two.two-app (Stands.H c x y) e = absurd (omega (arith, c.lettered))
  opened-two Two.two-app (Stands.A c x y) e = absurd (omega (arith, c.lettered))
  opened-two Two.two-app (Stands.I c) e = absurd (omega (arith, c.lettered))
  opened-two Two.two-app (Stands.B c x y) e = absurd (omega (arith, c.lettered))
  opened-two Two.two-app (Stands.app c x y) e = (_, _, refl, at_first c x, at_second c y)
  opened-two Two.two-app (Stands.bell {k = k} c) e =
      let z : ◌≡◌ {A = ℕ} 0 1 = cc (byte_injective (Letter.bell k) Letter.stop (sym c.lettered ∙ e)) in
      absurd (omega arith)

  -- none of the other letters: a bell
  pub opened-bell :
      {i : ℕ} {t : Term} → Stands cells top i t →
      ¬ (letter_in (get_or cells i 0) ≡ byte Letter.J) → ¬ (letter_in (get_or cells i 0) ≡ byte Letter.R) →
      ¬ (letter_in (get_or cells i 0) ≡ byte Letter.H) → ¬ (letter_in (get_or cells i 0) ≡ byte Letter.A) →
      ¬ (letter_in (get_or cells i 0) ≡ byte Letter.I) → ¬ (letter_in (get_or cells i 0) ≡ byte Letter.B) →
      ¬ (letter_in (get_or cells i 0) ≡ byte Letter.stop) → (k : Bell) × (t ≡ Term.bell k)
  opened-bell (Stands.J c) j r h a i b s = absurd (j c.lettered)
  opened-bell (Stands.R c x) j r h a i b s = absurd (r c.lettered)
  opened-bell (Stands.H c x y) j r h a i b s = absurd (h c.lettered)
  opened-bell (Stands.A c x y) j r h a i b s = absurd (a c.lettered)
  opened-bell (Stands.I c) j r h a i b s = absurd (i c.lettered)
  opened-bell (Stands.B c x y) j r h a i b s = absurd (b c.lettered)
  opened-bell (Stands.app c x y) j r h a i b s = absurd (s c.lettered)
  opened-bell (Stands.bell c) j r h a i b s = (_, refl)

  -- ---- the list

  -- the terms behind begin below the top
  pub pending-inside : {i : ℕ} {terms : List Term} → Pending cells top i terms → i < top
  pending-inside (Pending.end h k) = h
  pending-inside (Pending.more c before s rest) = c.inside

  -- so does the list with its frames
  pub chain-inside : {i : ℕ} {terms : List Term} {frames : List Frame} → Chain cells top terms i frames → i < top
  chain-inside (Chain.none p) = pending-inside p
  chain-inside (Chain.argument c before s rest) = c.inside
  chain-inside (Chain.function c before s rest) = c.inside
