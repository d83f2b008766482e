-- The first letter of the part in focus goes into the area, by what it is: `R`, a letter that takes two terms, or one that stands alone.
-- Assumes nothing.
use Prim.Native.Nat.{ℕ, suc, ◌+◌, ◌≤◌, ◌<◌}
use native.Mathlib.Omega.{arith}
use mathlib.Core.Path.{◌≡◌, refl, sym, ◌∙◌, ap, subst}
use mathlib.Core.Bool.{Bool, true, false}
use mathlib.Core.List.{List, [], ◌∷◌, ◌++◌, append_assoc}
use lib.ListN.{length, get_or, set, take}
use lib.Seq.{take-suc-set, append_snoc}
use Rattle.calculus.specs.Letter.{Letter, byte}
use Rattle.calculus.specs.Term.{Term, text}
use Rattle.contexts.specs.Frames.{Frame, plugged, texts}
use Rattle.std.specs.Prelude.{Option, Some}
use Rattle.reading.specs.Arity.{arity_of}
use Rattle.cells.specs.Cell.{letter_in, first_in, second_in, packed, Kept}
use Rattle.cells.specs.Stands.{Stands}
use Rattle.cells.specs.Chain.{pending_kind, Pending, Chain}
use Rattle.cells.specs.Stage.{Stage, At}
use Rattle.cells.proofs.Keeping.{kept_set, stands-kept}
use Rattle.cells.proofs.Opening.{stands-inside, pending-inside, chain-inside}
use Rattle.cells.proofs.Building.{pending-more}
use Rattle.emitting.specs.Emitting.{Emittable, Emitted}
use Rattle.emitting.proofs.Listing.{no-frame, pending-kind, none-behind, next-behind}
use Rattle.emitting.proofs.Heads.{one-part, two-parts, no_part}

module _ {cells : List ℕ} {top cur list : ℕ} {area : List ℕ} {written : ℕ} (given : Emittable cells top cur list area written) where
  -- ---- where it reads

  -- the part is in the arena
  pub cur-inside : cur < length cells
  cur-inside = omega (arith, stands-inside given.stage.stands, given.room.free)

  -- and so is the list
  pub list_inside : list < length cells
  list_inside = omega (arith, chain-inside given.stage.chain, given.room.free)

  -- ---- what it writes

  -- the first letter of the part
  abbrev letter : ℕ
  letter = letter_in (get_or cells cur 0)

  -- the text of a term of this stage goes on with the part, and the terms behind it
  spelt-bare :
      {t : Term} (s : Stage cells top cur list (take written area) t) →
      (text t ≡ take written area ++ (text s.focus ++ texts s.pending)) × Pending cells top list s.pending
  spelt-bare s =
      let (none, behind) = no-frame s.chain given.bare in
      (s.spelt ∙ ap (λ (frames : List Frame). take written area ++ (text (plugged s.focus frames) ++ texts s.pending)) none, behind)

  -- the stage behind one letter more
  stage-on :
      {cells' : List ℕ} {top' cur' list' : ℕ} {t : Term} (focus : Term) (pending : List Term) →
      Stands cells' top' cur' focus → Pending cells' top' list' pending →
      text t ≡ take written area ++ (letter ∷ (text focus ++ texts pending)) →
      Stage cells' top' cur' list' (take written area ++ (letter ∷ [])) t
  stage-on focus pending stands behind e =
      record {
        focus = focus;
        frames = [];
        pending = pending;
        stands = stands;
        chain = Chain.none behind;
        spelt = e ∙ sym (append_snoc (take written area) letter (text focus ++ texts pending));
      }

  module _ (b : ℕ) (read : b ≡ letter) where
    -- the area with the letter
    front-on : take (written + 1) (set area written b) ≡ take written area ++ (letter ∷ [])
    front-on =
        let more : written + 1 ≡ suc written = omega arith in
        ap (λ (k : ℕ). take k (set area written b)) more
        ∙ take-suc-set area written b given.inside
        ∙ ap (λ (k : ℕ). take written area ++ (k ∷ [])) read

    -- one letter more stands in the area, whatever comes behind it
    emitted :
        {t : Term} {cells' : List ℕ} {top' cur' list' : ℕ} {left : Bool} → Kept top cells cells' → top ≤ top' → top' ≤ top + 1 →
        At cells' top' cur' list' (take written area ++ (letter ∷ [])) t left →
        Emitted cells top cur area written t cells' top' cur' list' (set area written b) (written + 1) left
    emitted {t} {cells'} {top'} {cur'} {list'} {left} kept higher one_more at =
        record {
          kept = kept;
          higher = higher;
          one_more = one_more;
          onward = refl;
          front = front-on;
          at = subst (λ (front : List ℕ). At cells' top' cur' list' front t left) (sym front-on) at;
        }

    -- `R`: its part is next
    pub emitted-R :
        (x : ℕ) → b ≡ byte Letter.R → x ≡ first_in (get_or cells cur 0) → (t : Term) → Stage cells top cur list (take written area) t →
        Emitted cells top cur area written t cells top x list (set area written b) (written + 1) true
    emitted-R x e first t s =
        let (spelt, behind) = spelt-bare s in
        let (u, parted, stands) = one-part s.stands (sym read ∙ e) in
        emitted (λ i below. refl) (omega arith) (omega arith)
        (At.part
        (stage-on u s.pending (subst (λ (k : ℕ). Stands cells top k u) (sym first) stands) behind
        (spelt ∙ ap (λ (word : List ℕ). take written area ++ (word ++ texts s.pending)) parted)))

    module _ (n : Option ℕ) (arity : n ≡ arity_of b) where
      -- a letter that takes two terms: the first is next, and the second is the first of the terms behind
      pub emitted-two :
          (x y : ℕ) (cells' : List ℕ) → n ≡ Some 2 → x ≡ first_in (get_or cells cur 0) → y ≡ second_in (get_or cells cur 0) →
          cells' ≡ set cells top (packed pending_kind y list 0) → (t : Term) → Stage cells top cur list (take written area) t →
          Emitted cells top cur area written t cells' (top + 1) x top (set area written b) (written + 1) true
      emitted-two x y cells' e first second made t s =
          let (spelt, behind) = spelt-bare s in
          let (u, v, parted, stands, after) = two-parts s.stands (ap arity_of (sym read) ∙ sym arity ∙ e) in
          let next = subst (λ (k : ℕ). Stands cells top k u) (sym first) stands in
          let later = subst (λ (k : ℕ). Stands cells top k v) (sym second) after in
          let kept = kept_set cells top top (packed pending_kind y list 0) (omega arith) in
          subst (λ (l : List ℕ). Emitted cells top cur area written t l (top + 1) x top (set area written b) (written + 1) true) (sym made)
          (emitted kept (omega arith) (omega arith)
          (At.part
          (stage-on u (v ∷ s.pending) (stands-kept (omega arith) kept next)
          (pending-more cells top given.room later (pending-inside behind) behind)
          (spelt
          ∙ ap (λ (word : List ℕ). take written area ++ (word ++ texts s.pending)) parted
          ∙ ap (λ (word : List ℕ). take written area ++ (letter ∷ word)) (append_assoc (text u) (text v) (texts s.pending))))))

      module _ (no_R : ¬ (b ≡ byte Letter.R)) (not-two : ¬ (n ≡ Some 2)) where
        -- the letter stands alone in front of the terms behind
        spelt-alone :
            {t : Term} (s : Stage cells top cur list (take written area) t) → text t ≡ take written area ++ (letter ∷ texts s.pending)
        spelt-alone s =
            (spelt-bare s).0
            ∙ ap (λ (word : List ℕ). take written area ++ (word ++ texts s.pending))
            (no_part s.stands (λ e. no_R (read ∙ e)) (λ e. not-two (arity ∙ ap arity_of read ∙ e)))

        -- there is none behind: the end
        pub emitted-last :
            list ≡ 0 → (t : Term) → Stage cells top cur list (take written area) t →
            Emitted cells top cur area written t cells top cur list (set area written b) (written + 1) false
        emitted-last e t s =
            emitted (λ i below. refl) (omega arith) (omega arith)
            (At.end
            (spelt-alone s ∙ ap (λ (terms : List Term). take written area ++ (letter ∷ texts terms)) (none-behind (spelt-bare s).1 e)))

        -- there is one: it is next
        pub emitted-next :
            (x y : ℕ) → ¬ (list ≡ 0) → x ≡ first_in (get_or cells list 0) → y ≡ second_in (get_or cells list 0) → (t : Term) →
            Stage cells top cur list (take written area) t →
            Emitted cells top cur area written t cells top x y (set area written b) (written + 1) true
        emitted-next x y e first second t s =
            let (p, rest, same, stands, behind) = next-behind (spelt-bare s).1 e in
            emitted (λ i below. refl) (omega arith) (omega arith)
            (At.part
            (stage-on p rest
            (subst (λ (k : ℕ). Stands cells top k p) (sym first) stands)
            (subst (λ (k : ℕ). Pending cells top k rest) (sym second) behind)
            (spelt-alone s ∙ ap (λ (terms : List Term). take written area ++ (letter ∷ texts terms)) same)))

  -- ---- the list's kind behind it

  -- where a term is added behind
  pub bare-two :
      (b : ℕ) → b ≡ letter → (n : Option ℕ) → n ≡ arity_of b → (y : ℕ) (cells' : List ℕ) → n ≡ Some 2 → y ≡ second_in (get_or cells cur 0) →
      cells' ≡ set cells top (packed pending_kind y list 0) → letter_in (get_or cells' top 0) ≡ pending_kind
  bare-two b read n arity y cells' e second made =
      let s = given.stage in
      let (u, v, parted, stands, after) = two-parts s.stands (ap arity_of (sym read) ∙ sym arity ∙ e) in
      let behind = (spelt-bare s).1 in
      let later = subst (λ (k : ℕ). Stands cells top k v) (sym second) after in
      ap (λ (l : List ℕ). letter_in (get_or l top 0)) made
      ∙ pending-kind (pending-more cells top given.room later (pending-inside behind) behind)

  -- where one is taken
  pub bare-next : (y : ℕ) → ¬ (list ≡ 0) → y ≡ second_in (get_or cells list 0) → letter_in (get_or cells y 0) ≡ pending_kind
  bare-next y e second =
      let (p, rest, same, stands, behind) = next-behind (spelt-bare given.stage).1 e in
      ap (λ (k : ℕ). letter_in (get_or cells k 0)) second ∙ pending-kind behind
