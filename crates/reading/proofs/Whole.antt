-- Reading answers a size exactly where the bytes are the text of a term, whose size it is.
-- Carried by two inductions: over the term, reading goes on behind its text with one term less owed; over the bytes, an answer says that
-- they are as many texts as terms were owed. Assumes nothing.
use Prim.Native.Nat.{ℕ, zero, suc, ◌+◌}
use native.Mathlib.Omega.{arith}
use mathlib.Core.Path.{◌≡◌, refl, sym, ◌∙◌, ap, subst}
use mathlib.Core.Option.{Option, none, some}
use mathlib.Core.Logic.{⊎_elim}
use mathlib.Core.List.Memᴰ
use mathlib.Core.List.{List, [], ◌∷◌, ◌++◌, append_assoc, append-nil}
use lib.ListN.{length}
use Rattle.calculus.specs.Letter.{Letter, byte, letter_of, owed}
use Rattle.calculus.specs.Term.{Term, text, size}
use Rattle.calculus.specs.Parse.{term_of}
use Rattle.calculus.proofs.Heads.{head_of}
use Rattle.calculus.proofs.PrefixCode.{letter_of-byte, byte-letter_of, text-term_of, length-text}
use Rattle.reading.specs.Reply.{Reply}
use Rattle.reading.specs.Reading.{at_letter, reading_from, reading_of, Lettered, Unwhole, ReadsAs}

-- ---- from terms to answers

-- behind the text of t, reading goes on with one term less owed
abbrev Passed : Term → Type 0
Passed t = (k place : ℕ) (rest : List ℕ) → reading_from (suc k) place (text t ++ rest) ≡ reading_from k (place + size t) rest

-- behind the texts of two terms, with two less
passed_both :
    (t u : Term) → Passed t → Passed u → (k place : ℕ) (rest : List ℕ) →
    reading_from (suc (suc k)) (suc place) ((text t ++ text u) ++ rest) ≡ reading_from k (place + suc (size t + size u)) rest
passed_both t u first second k place rest =
    let sum : suc place + size t + size u ≡ place + suc (size t + size u) = omega arith in
    ap (reading_from (suc (suc k)) (suc place)) (append_assoc (text t) (text u) rest)
    ∙ first (suc k) (suc place) (text u ++ rest)
    ∙ second k (suc place + size t) rest
    ∙ ap (λ (n : ℕ). reading_from k n rest) sum

passed : (t : Term) (k place : ℕ) (rest : List ℕ) → reading_from (suc k) place (text t ++ rest) ≡ reading_from k (place + size t) rest
unfolding letter_of
passed Term.J k place rest = let one : suc place ≡ place + 1 = omega arith in ap (λ (n : ℕ). reading_from k n rest) one
passed (Term.R t) k place rest =
    let sum : suc place + size t ≡ place + suc (size t) = omega arith in
    passed t k (suc place) rest ∙ ap (λ (n : ℕ). reading_from k n rest) sum
passed (Term.H r t) k place rest = passed_both r t (passed r) (passed t) k place rest
passed (Term.A s t) k place rest = passed_both s t (passed s) (passed t) k place rest
passed Term.I k place rest = let one : suc place ≡ place + 1 = omega arith in ap (λ (n : ℕ). reading_from k n rest) one
passed (Term.B u s) k place rest = passed_both u s (passed u) (passed s) k place rest
passed (Term.app t u) k place rest = passed_both t u (passed t) (passed u) k place rest
passed (Term.bell b) k place rest =
    let one : suc place ≡ place + 1 = omega arith in
    ap (λ (o : Option Letter). at_letter o place (λ l. reading_from (owed l k) (suc place) rest)) (letter_of-byte (Letter.bell b))
    ∙ ap (λ (n : ℕ). reading_from k n rest) one

-- a term's text is answered with its size
pub term-whole : (t : Term) → reading_of (text t) ≡ Reply.answered (size t)
unfolding reading_of
term-whole t =
    let sum : 0 + size t ≡ size t = omega arith in
    ap (reading_from 1 0) (sym (append-nil (text t))) ∙ passed t 0 0 [] ∙ ap (λ (n : ℕ). reading_from 0 n []) sum

-- ---- from answers to terms

-- the texts of k terms, one behind the other
data Texts : ℕ → List ℕ → Type 0 where
  no_text : Texts 0 []
  and-text : {k : ℕ} {s : List ℕ} (t : Term) → Texts k s → Texts (suc k) (text t ++ s)

-- a letter that takes two terms takes the first two
taken_two :
    {k b : ℕ} {s : List ℕ} (node : Term → Term → Term) → ((t u : Term) → text (node t u) ≡ b ∷ (text t ++ text u)) →
    Texts (suc (suc k)) s → Texts (suc k) (b ∷ s)
taken_two {k} {b} node spelt (Texts.and-text t (Texts.and-text {s = s} u ts)) =
    let same : text (node t u) ++ s ≡ b ∷ (text t ++ (text u ++ s)) =
    ap (λ (l : List ℕ). l ++ s) (spelt t u) ∙ ap (λ (l : List ℕ). b ∷ l) (append_assoc (text t) (text u) s) in
    subst (Texts (suc k)) same (Texts.and-text (node t u) ts)

-- a letter takes the terms owed behind it
taken : (l : Letter) (k : ℕ) {s : List ℕ} → Texts (owed l k) s → Texts (suc k) (byte l ∷ s)
taken Letter.J k ts = Texts.and-text Term.J ts
taken Letter.R k (Texts.and-text t ts) = Texts.and-text (Term.R t) ts
taken Letter.H k ts = taken_two Term.H (λ t u. refl) ts
taken Letter.A k ts = taken_two Term.A (λ t u. refl) ts
taken Letter.I k ts = Texts.and-text Term.I ts
taken Letter.B k ts = taken_two Term.B (λ t u. refl) ts
taken Letter.stop k ts = taken_two Term.app (λ t u. refl) ts
taken (Letter.bell b) k ts = Texts.and-text (Term.bell b) ts

-- an answer says that the bytes are the texts of the terms owed, and counts them
answered-texts :
    (k place n : ℕ) (bytes : List ℕ) → reading_from k place bytes ≡ Reply.answered n → Texts k bytes × (n ≡ place + length bytes)
answered-texts zero place n [] e = let same : place ≡ n = cc in (Texts.no_text, omega arith)
answered-texts zero place n (b ∷ bytes) e = let z : ◌≡◌ {A = ℕ} 0 1 = cc in absurd (omega arith)
answered-texts (suc k) place n [] e = let z : ◌≡◌ {A = ℕ} 0 1 = cc in absurd (omega arith)
answered-texts (suc k) place n (b ∷ bytes) e = go (letter_of b) refl (λ l. answered-texts (owed l k) (suc place) n bytes) e
  where
    go :
        (o : Option Letter) → letter_of b ≡ o →
        ((l : Letter) → reading_from (owed l k) (suc place) bytes ≡ Reply.answered n → Texts (owed l k) bytes × (n ≡ suc place + length bytes)) →
        at_letter o place (λ l. reading_from (owed l k) (suc place) bytes) ≡ Reply.answered n → Texts (suc k) (b ∷ bytes) × (n ≡ place + suc (length bytes))
    go none q later e = let z : ◌≡◌ {A = ℕ} 0 1 = cc in absurd (omega arith)
    go (some l) q later e =
        let rest = later l e in
        (subst (λ (c : ℕ). Texts (suc k) (c ∷ bytes)) (byte-letter_of b l q) (taken l k rest.0), omega arith)

-- one text is the text of a term
single : {k : ℕ} {s : List ℕ} → Texts k s → k ≡ 1 → (t : Term) × (s ≡ text t)
single Texts.no_text e = absurd (omega arith)
single (Texts.and-text t Texts.no_text) e = (t, append-nil (text t))
single (Texts.and-text t (Texts.and-text u ts)) e = absurd (omega arith)

-- an answer says that the bytes are the text of a term of that size
pub whole-term : (bytes : List ℕ) (n : ℕ) → reading_of bytes ≡ Reply.answered n → (t : Term) × (bytes ≡ text t) × (size t ≡ n)
unfolding reading_of
whole-term bytes n e =
    let read = answered-texts 1 0 n bytes e in
    let one = single read.0 refl in
    (one.0, one.1, omega (arith, length-text one.0, ap length one.1))

-- what is refused is the text of no term
pub refused_none : (bytes : List ℕ) (number place : ℕ) → reading_of bytes ≡ Reply.refused number place → term_of bytes ≡ none
refused_none bytes number place e = go (term_of bytes) refl
  where
    go : (o : Option Term) → term_of bytes ≡ o → o ≡ none
    go none q = refl
    go (some t) q =
        let read : reading_of bytes ≡ Reply.answered (size t) = ap reading_of (sym (text-term_of bytes t q)) ∙ term-whole t in
        let z : ◌≡◌ {A = ℕ} 0 1 = cc in
        absurd (omega arith)

-- ---- the relation

-- the texts of k terms do not stand at the front
abbrev Short : ℕ → List ℕ → Type 0
Short k s = (x y : List ℕ) → s ≡ x ++ y → Texts k x → ⊥

-- the text of a term and k further texts: its first letter, and as many texts as are owed behind it
opened : {k : ℕ} {s : List ℕ} (t : Term) → Texts k s → (z : List ℕ) × (text t ++ s ≡ byte (head_of t) ∷ z) × Texts (owed (head_of t) k) z
opened {s = s} Term.J ts = (s, refl, ts)
opened {s = s} (Term.R t) ts = (text t ++ s, refl, Texts.and-text t ts)
opened {s = s} (Term.H r t) ts = (text r ++ (text t ++ s), ap (λ (l : List ℕ). byte Letter.H ∷ l) (append_assoc (text r) (text t) s), Texts.and-text r (Texts.and-text t ts))
opened {s = s} (Term.A e t) ts = (text e ++ (text t ++ s), ap (λ (l : List ℕ). byte Letter.A ∷ l) (append_assoc (text e) (text t) s), Texts.and-text e (Texts.and-text t ts))
opened {s = s} Term.I ts = (s, refl, ts)
opened {s = s} (Term.B u e) ts = (text u ++ (text e ++ s), ap (λ (l : List ℕ). byte Letter.B ∷ l) (append_assoc (text u) (text e) s), Texts.and-text u (Texts.and-text e ts))
opened {s = s} (Term.app t u) ts = (text t ++ (text u ++ s), ap (λ (l : List ℕ). byte Letter.stop ∷ l) (append_assoc (text t) (text u) s), Texts.and-text t (Texts.and-text u ts))
opened {s = s} (Term.bell b) ts = (s, refl, ts)

-- no bytes begin with a text
short_nil : (k : ℕ) → Short (suc k) []
short_nil k x y e (Texts.and-text t ts) = let o = opened t ts in let z : ◌≡◌ {A = ℕ} 0 1 = cc (ap (λ (l : List ℕ). l ++ y) o.1) in omega arith

-- a letter in front of bytes that are too short for what it takes
short_cons : {k : ℕ} {s : List ℕ} (b : ℕ) (l : Letter) → letter_of b ≡ some l → Short (owed l k) s → Short (suc k) (b ∷ s)
short_cons {k} {s} b l q short x y e (Texts.and-text t ts) =
    let o = opened t ts in
    let whole : b ∷ s ≡ byte (head_of t) ∷ (o.0 ++ y) = e ∙ ap (λ (l : List ℕ). l ++ y) o.1 in
    let rest : s ≡ o.0 ++ y = cc in
    let first : b ≡ byte (head_of t) = cc in
    let letter : some (head_of t) ≡ some l = sym (ap letter_of first ∙ letter_of-byte (head_of t)) ∙ q in
    let same : head_of t ≡ l = cc in
    short o.0 y rest (subst (λ (m : Letter). Texts (owed m k) o.0) same o.2)

-- and the other way round
short_tail : {k : ℕ} {s : List ℕ} (l : Letter) → Short (suc k) (byte l ∷ s) → Short (owed l k) s
short_tail {k} l short x y e ts = short (byte l ∷ x) y (ap (λ (z : List ℕ). byte l ∷ z) e) (taken l k ts)

lettered_nil : Lettered []
lettered_nil b m e = Memᴰ.not-nil m

lettered_cons : {s : List ℕ} (b : ℕ) (l : Letter) → letter_of b ≡ some l → Lettered s → Lettered (b ∷ s)
lettered_cons b l q lettered c m e = ⊎_elim (λ (h : c ≡ b). let z : ◌≡◌ {A = ℕ} 0 1 = cc (ap letter_of h) in omega arith) (λ k. lettered c k e) (Memᴰ.cases_cons m)

-- where reading goes from a place with k terms owed
data Goes (k place : ℕ) (bytes : List ℕ) : Reply ℕ → Type 0 where
  whole : {n : ℕ} → Texts k bytes → n ≡ place + length bytes → Goes k place bytes (Reply.answered n)
  already_whole :
      {n :
      ℕ} (x : List ℕ) (b : ℕ) (rest : List ℕ) → bytes ≡ x ++ (b ∷ rest) → Texts k x → n ≡ place + length x → Goes k place bytes (Reply.refused 7 n)
  no_letter :
      {n : ℕ} (front : List ℕ) (b : ℕ) (rest : List ℕ) → bytes ≡ front ++ (b ∷ rest) → Lettered front → Short k front → letter_of b ≡ none →
      n ≡ place + length front → Goes k place bytes (Reply.refused 5 n)
  not_yet_whole : {n : ℕ} → Lettered bytes → Short k bytes → n ≡ place + length bytes → Goes k place bytes (Reply.refused 6 n)

-- a letter in front
goes_cons :
    {k place : ℕ} {bytes : List ℕ} {r : Reply ℕ} (b : ℕ) (l : Letter) → letter_of b ≡ some l →
    Goes (owed l k) (suc place) bytes r → Goes (suc k) place (b ∷ bytes) r
goes_cons {k} {bytes = bytes} b l q (Goes.whole {n = n} ts e) =
    Goes.whole {n = n} (subst (λ (c : ℕ). Texts (suc k) (c ∷ bytes)) (byte-letter_of b l q) (taken l k ts)) (omega arith)
goes_cons {k} b l q (Goes.already_whole {n = n} x c rest e ts m) =
    Goes.already_whole {n = n} (b ∷ x) c rest (ap (λ (z : List ℕ). b ∷ z) e) (subst (λ (d : ℕ). Texts (suc k) (d ∷ x)) (byte-letter_of b l q) (taken l k ts)) (omega arith)
goes_cons b l q (Goes.no_letter {n = n} front c rest e lettered short o m) =
    Goes.no_letter {n = n} (b ∷ front) c rest (ap (λ (z : List ℕ). b ∷ z) e) (lettered_cons b l q lettered) (short_cons b l q short) o (omega arith)
goes_cons b l q (Goes.not_yet_whole {n = n} lettered short m) = Goes.not_yet_whole {n = n} (lettered_cons b l q lettered) (short_cons b l q short) (omega arith)

goes : (bytes : List ℕ) (k place : ℕ) → Goes k place bytes (reading_from k place bytes)
goes [] zero place = Goes.whole {n = place} Texts.no_text (omega arith)
goes [] (suc k) place = Goes.not_yet_whole {n = place} lettered_nil (short_nil k) (omega arith)
goes (b ∷ bytes) zero place = Goes.already_whole {n = place} [] b bytes refl Texts.no_text (omega arith)
goes (b ∷ bytes) (suc k) place = go (letter_of b) refl (λ l. goes bytes (owed l k) (suc place))
  where
    go :
        (o : Option Letter) → letter_of b ≡ o →
        ((l : Letter) → Goes (owed l k) (suc place) bytes (reading_from (owed l k) (suc place) bytes)) →
        Goes (suc k) place (b ∷ bytes) (at_letter o place (λ l. reading_from (owed l k) (suc place) bytes))
    go none q later = Goes.no_letter {n = place} [] b bytes refl lettered_nil (short_nil k) q (omega arith)
    go (some l) q later = goes_cons b l q (later l)

-- bytes without one text at their front do not begin with a term
short_unwhole : {s : List ℕ} → Short 1 s → Unwhole s
short_unwhole short t rest e = short (text t) rest e (subst (Texts 1) (append-nil (text t)) (Texts.and-text t Texts.no_text))

unwhole_short : {s : List ℕ} → Unwhole s → Short 1 s
unwhole_short unwhole x y e ts = let one = single ts refl in unwhole one.0 y (e ∙ ap (λ (l : List ℕ). l ++ y) one.1)

goes-reads : {bytes : List ℕ} {r : Reply ℕ} → Goes 1 0 bytes r → ReadsAs bytes r
goes-reads {bytes} (Goes.whole {n = n} ts e) =
    let one = single ts refl in
    let count : size one.0 ≡ n = omega (arith, length-text one.0, ap length one.1) in
    subst (λ (m : ℕ). ReadsAs bytes (Reply.answered m)) count (ReadsAs.whole one.0 one.1)
goes-reads {bytes} (Goes.already_whole {n = n} x b rest e ts q) =
    let one = single ts refl in
    let count : size one.0 ≡ n = omega (arith, length-text one.0, ap length one.1) in
    subst (λ (m : ℕ). ReadsAs bytes (Reply.refused 7 m)) count (ReadsAs.already_whole one.0 b rest (e ∙ ap (λ (l : List ℕ). l ++ (b ∷ rest)) one.1))
goes-reads {bytes} (Goes.no_letter {n = n} front b rest e lettered short o q) =
    let count : length front ≡ n = omega arith in
    subst (λ (m : ℕ). ReadsAs bytes (Reply.refused 5 m)) count (ReadsAs.no_letter front b rest e lettered (short_unwhole short) o)
goes-reads {bytes} (Goes.not_yet_whole {n = n} lettered short q) =
    let count : length bytes ≡ n = omega arith in
    subst (λ (m : ℕ). ReadsAs bytes (Reply.refused 6 m)) count (ReadsAs.not_yet_whole lettered (short_unwhole short))

-- reading replies as the relation says
pub reads_as : (bytes : List ℕ) → ReadsAs bytes (reading_of bytes)
unfolding reading_of
reads_as bytes = goes-reads (goes bytes 1 0)

-- behind letters that are no k texts, a term is still owed
owing :
    (front tail : List ℕ) (k place : ℕ) → Lettered front → Short k front →
    (j : ℕ) × (reading_from k place (front ++ tail) ≡ reading_from (suc j) (place + length front) tail)
owing [] tail zero place lettered short = absurd (short [] [] refl Texts.no_text)
owing [] tail (suc k) place lettered short = let none : place ≡ place + 0 = omega arith in (k, ap (λ (n : ℕ). reading_from (suc k) n tail) none)
owing (b ∷ front) tail zero place lettered short = absurd (short [] (b ∷ front) refl Texts.no_text)
owing (b ∷ front) tail (suc k) place lettered short = go (letter_of b) refl (λ l. owing front tail (owed l k) (suc place) (λ c m. lettered c (Memᴰ.tail m)))
  where
    go :
        (o : Option Letter) → letter_of b ≡ o →
        ((l : Letter) → Short (owed l k) front →
        (j : ℕ) × (reading_from (owed l k) (suc place) (front ++ tail) ≡ reading_from (suc j) (suc place + length front) tail)) →
        (j : ℕ)
        × (at_letter o place (λ l. reading_from (owed l k) (suc place) (front ++ tail)) ≡ reading_from (suc j) (place + suc (length front)) tail)
    go none q later = absurd (lettered b (Memᴰ.head refl) q)
    go (some l) q later =
        let rest = later l (short_tail l (subst (λ (c : ℕ). Short (suc k) (c ∷ front)) (sym (byte-letter_of b l q)) short)) in
        let sum : suc place + length front ≡ place + suc (length front) = omega arith in
        (rest.0, rest.1 ∙ ap (λ (n : ℕ). reading_from (suc rest.0) n tail) sum)

-- and a reply that the sentence allows is the one that reading gives
pub reads_as_only : {bytes : List ℕ} {r : Reply ℕ} → ReadsAs bytes r → reading_of bytes ≡ r
unfolding reading_of
reads_as_only (ReadsAs.whole t e) = ap reading_of e ∙ term-whole t
reads_as_only (ReadsAs.already_whole t b rest e) =
    let sum : 0 + size t ≡ size t = omega arith in
    ap (reading_from 1 0) e ∙ passed t 0 0 (b ∷ rest) ∙ ap (Reply.refused 7) sum
reads_as_only (ReadsAs.no_letter front b rest e lettered unwhole o) =
    let stuck = owing front (b ∷ rest) 1 0 lettered (unwhole_short unwhole) in
    let sum : 0 + length front ≡ length front = omega arith in
    ap (reading_from 1 0) e
    ∙ stuck.1
    ∙ ap (λ (x : Option Letter). at_letter x (0 + length front) (λ l. reading_from (owed l stuck.0) (suc (0 + length front)) rest)) o
    ∙ ap (Reply.refused 5) sum
reads_as_only {bytes} (ReadsAs.not_yet_whole lettered unwhole) =
    let stuck = owing bytes [] 1 0 lettered (unwhole_short unwhole) in
    let sum : 0 + length bytes ≡ length bytes = omega arith in
    ap (reading_from 1 0) (sym (append-nil bytes)) ∙ stuck.1 ∙ ap (Reply.refused 6) sum
