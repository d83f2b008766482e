-- Of the text of a piece, what is spelled is the text of the piece with its uses replaced. One induction over the piece; no letter of a
-- term opens a use, and no letter of a name closes one. Assumes nothing.
use Prim.Native.Nat.{ℕ, suc, ◌≤◌}
use native.Mathlib.Numerals.{add-one}
use native.Mathlib.Omega.{arith}
use mathlib.Core.Path.{◌≡◌, refl, sym, ◌∙◌, ap, ap₂}
use mathlib.Core.Bool.{Bool, cond, not}
use mathlib.Core.List.{List, [], ◌∷◌, ◌++◌, append_assoc, append-nil}
use mathlib.Core.List.Memᴰ
use mathlib.Core.List.{Memᴰ}
use mathlib.Core.Option.{none, some}
use borrow.Author.Tests.{ne_eqb, not-true}
use lib.Dec.{eqb}
use lib.ListN.{length, take, drop}
use lib.Seq.{take_at, drop-append-add}
use Rattle.slices.specs.Find.{index_of}
use Rattle.slices.proofs.Finding.{Lacks, index_behind}
use Rattle.calculus.specs.Letter.{Letter, byte}
use Rattle.calculus.specs.Term.{Term, text}
use Rattle.calculus.proofs.Bells.{each-bell}
use Rattle.books.specs.Name.{first_small, last_small, IsName}
use Rattle.books.specs.Piece.{Piece, open_mark, close_mark, piece_text, uses, WellNamed, replaced}
use Rattle.replacing.specs.Spelled.{spelled_from}
use Rattle.replacing.proofs.Spelling.{spelled-inside}

-- small letters close no use
small_lacks : (name : List ℕ) → ((b : ℕ) → Memᴰ b name → (first_small ≤ b) × (b ≤ last_small)) → Lacks close_mark name
small_lacks [] small = tt
small_lacks (b ∷ name) small =
    let (least, most) = small b (Memᴰ.head refl) in
    (ne_eqb b close_mark (λ e. omega arith), small_lacks name (λ c m. small c (Memᴰ.tail m)))

module _ (bytes_of : List ℕ → List ℕ) (term : List ℕ → Term) where
  -- a use spells what its name stands for
  spelled-name :
      (name rest : List ℕ) → Lacks close_mark name →
      spelled_from bytes_of (some []) ((name ++ (close_mark ∷ [])) ++ rest) ≡ bytes_of name ++ spelled_from bytes_of none rest
  spelled-name name rest lacks =
      let bytes = name ++ (close_mark ∷ rest) in
      let ends : index_of close_mark bytes ≡ length name = omega (arith, index_behind close_mark name (close_mark ∷ rest) lacks) in
      let front : take (length name) bytes ≡ name = take_at name (close_mark ∷ rest) (length name) refl in
      let behind : drop (suc (length name)) bytes ≡ rest =
      ap (λ (n : ℕ). drop n bytes) (sym (add-one (length name))) ∙ drop-append-add name (close_mark ∷ rest) 1 in
      ap (spelled_from bytes_of (some [])) (append_assoc name (close_mark ∷ []) rest)
      ∙ spelled-inside bytes_of [] bytes
      ∙ ap (λ (n : ℕ). bytes_of (take n bytes) ++ spelled_from bytes_of none (drop (suc n) bytes)) ends
      ∙ ap₂ (λ (front back : List ℕ). bytes_of front ++ spelled_from bytes_of none back) front behind

  -- a piece spells a term, whatever stands behind it
  abbrev Spells : (bytes written : List ℕ) → Type 0
  Spells bytes written = (rest : List ℕ) → spelled_from bytes_of none (bytes ++ rest) ≡ written ++ spelled_from bytes_of none rest

  -- each use stands for a term
  abbrev Stand : Piece → Type 0
  Stand p = (name : List ℕ) → Memᴰ name (uses p) → bytes_of name ≡ text (term name)

  -- two pieces, one behind the other
  spells-two :
      (p q : Piece) → ((name : List ℕ) → Memᴰ name (uses p ++ uses q) → IsName name) →
      ((name : List ℕ) → Memᴰ name (uses p ++ uses q) → bytes_of name ≡ text (term name)) →
      (WellNamed p → Stand p → Spells (piece_text p) (text (replaced term p))) →
      (WellNamed q → Stand q → Spells (piece_text q) (text (replaced term q))) →
      Spells (piece_text p ++ piece_text q) (text (replaced term p) ++ text (replaced term q))
  spells-two p q named stand first second rest =
      let left = first (λ name m. named name (Memᴰ.append_left (uses q) m)) (λ name m. stand name (Memᴰ.append_left (uses q) m)) in
      let right = second (λ name m. named name (Memᴰ.append_right (uses p) m)) (λ name m. stand name (Memᴰ.append_right (uses p) m)) in
      ap (spelled_from bytes_of none) (append_assoc (piece_text p) (piece_text q) rest)
      ∙ left (piece_text q ++ rest)
      ∙ ap (λ (l : List ℕ). text (replaced term p) ++ l) (right rest)
      ∙ sym (append_assoc (text (replaced term p)) (text (replaced term q)) (spelled_from bytes_of none rest))

  -- where names spell the texts of terms, a piece spells the text of the term that is made of it
  pub spelled-piece :
      (p : Piece) → WellNamed p → ((name : List ℕ) → Memᴰ name (uses p) → bytes_of name ≡ text (term name)) → (rest : List ℕ) →
      spelled_from bytes_of none (piece_text p ++ rest) ≡ text (replaced term p) ++ spelled_from bytes_of none rest
  spelled-piece Piece.J named stand rest = refl
  spelled-piece (Piece.R p) named stand rest = ap (λ (l : List ℕ). byte Letter.R ∷ l) (spelled-piece p named stand rest)
  spelled-piece (Piece.H p q) named stand rest =
      ap (λ (l : List ℕ). byte Letter.H ∷ l) (spells-two p q named stand (spelled-piece p) (spelled-piece q) rest)
  spelled-piece (Piece.A p q) named stand rest =
      ap (λ (l : List ℕ). byte Letter.A ∷ l) (spells-two p q named stand (spelled-piece p) (spelled-piece q) rest)
  spelled-piece Piece.I named stand rest = refl
  spelled-piece (Piece.B p q) named stand rest =
      ap (λ (l : List ℕ). byte Letter.B ∷ l) (spells-two p q named stand (spelled-piece p) (spelled-piece q) rest)
  spelled-piece (Piece.app p q) named stand rest =
      ap (λ (l : List ℕ). byte Letter.stop ∷ l) (spells-two p q named stand (spelled-piece p) (spelled-piece q) rest)
  spelled-piece (Piece.bell k) named stand rest =
      ap
      (λ (t : Bool). cond t (spelled_from bytes_of (some []) rest) (byte (Letter.bell k) ∷ spelled_from bytes_of none rest))
      (not-true (eqb (byte (Letter.bell k)) open_mark) (each-bell (λ b. not (eqb b open_mark)) refl k))
  spelled-piece (Piece.use_of name) named stand rest =
      spelled-name name rest (small_lacks name (named name (Memᴰ.head refl)).small)
      ∙ ap (λ (l : List ℕ). l ++ spelled_from bytes_of none rest) (stand name (Memᴰ.head refl))

  -- so with nothing behind it
  pub spelled-text :
      (p : Piece) → WellNamed p → ((name : List ℕ) → Memᴰ name (uses p) → bytes_of name ≡ text (term name)) →
      spelled_from bytes_of none (piece_text p) ≡ text (replaced term p)
  spelled-text p named stand =
      ap (spelled_from bytes_of none) (sym (append-nil (piece_text p)))
      ∙ spelled-piece p named stand []
      ∙ append-nil (text (replaced term p))
