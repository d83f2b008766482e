-- Results that go on from earlier ones: numbers stay, and entries and texts of the earlier ones stand in front. Assumes nothing.
use Prim.Native.Nat.{ℕ, ◌≤◌}
use native.Mathlib.Omega.{arith}
use mathlib.Core.Path.{◌≡◌, sym, ◌∙◌}
use mathlib.Core.List.{List, [], ◌∷◌, ◌++◌, append_assoc, append-nil}
use lib.ListN.{length}
use Rattle.calculus.specs.Term.{Term, text}
use Rattle.entries.specs.Catalogue.{letters, Numbered}
use Rattle.entries.specs.Store.{entry_of, entries_of, texts_of}

-- `Later earlier later`: the second list is the first with further results
pub data Later : List Term → List Term → Type 0 where
  same : {results : List Term} → Later results results
  more : {t : Term} {earlier later : List Term} → Later (t ∷ earlier) later → Later earlier later

-- one result more
pub later-entry : {t : Term} {a b : List Term} → Later a b → Later a (t ∷ b)
later-entry Later.same = Later.more Later.same
later-entry (Later.more l) = Later.more (later-entry l)

-- every list goes on from none
pub later-all : (results : List Term) → Later [] results
later-all [] = Later.same
later-all (t ∷ earlier) = later-entry (later-all earlier)

-- later than later is later
pub later-later : {a b c : List Term} → Later a b → Later b c → Later a c
later-later Later.same l = l
later-later (Later.more k) l = Later.more (later-later k l)

-- a number stays
pub later-numbered : {t : Term} {n : ℕ} {a b : List Term} → Later a b → Numbered t n a → Numbered t n b
later-numbered Later.same n = n
later-numbered (Later.more l) n = later-numbered l (Numbered.before n)

-- there are at least as many results, with at least as many letters
pub later-long : {a b : List Term} → Later a b → (length a ≤ length b) × (letters a ≤ letters b)
later-long Later.same = (omega arith, omega arith)
later-long (Later.more l) = let long = later-long l in (omega (arith, long.0), omega (arith, long.1))

-- the entries of the earlier ones stand in front
pub later-entries : {a b : List Term} → Later a b → (rest : List ℕ) × (entries_of b ≡ entries_of a ++ rest)
later-entries {a} Later.same = ([], sym (append-nil (entries_of a)))
later-entries {a} (Later.more {t = t} l) =
    let further = later-entries l in
    (entry_of t ++ further.0, further.1 ∙ append_assoc (entries_of a) (entry_of t) further.0)

-- and so do their texts
pub later-texts : {a b : List Term} → Later a b → (rest : List ℕ) × (texts_of b ≡ texts_of a ++ rest)
later-texts {a} Later.same = ([], sym (append-nil (texts_of a)))
later-texts {a} (Later.more {t = t} l) =
    let further = later-texts l in
    (text t ++ further.0, further.1 ∙ append_assoc (texts_of a) (text t) further.0)
