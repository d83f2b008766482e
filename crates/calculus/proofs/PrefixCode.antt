-- Terms are a prefix code: the bytes of a term say where it ends and which term it is, and have one byte a letter.
-- Carried by two laws of the reader `items`: it finds the term in front of any bytes, and it loses no byte. Assumes nothing.
use Prim.Native.Nat.{ℕ, suc, ◌+◌, ◌<◌}
use mathlib.Core.Path.{◌≡◌, refl, sym, ◌∙◌, ap, ap₂, subst}
use mathlib.Core.Logic.{◌↔◌, ⊎_elim}
use mathlib.Core.Bool.{Bool, true, false, not, ◌&&◌, false≢true}
use mathlib.Core.Option.{Option, none, some}
use mathlib.Core.List.Memᴰ
use mathlib.Core.List.{List, [], ◌∷◌, ◌++◌, map, append-nil, append_assoc, append_cancel_left, Memᴰ}
use lib.Dec.{eqb}
use lib.ListN.{length, length-append}
use borrow.Author.Tests.{eqb-true, eq-eqb, ne_eqb, not-true}
use native.Mathlib.Omega.{arith}
use Rattle.calculus.specs.Bell.{Bell, stands}
use Rattle.calculus.specs.Letter.{Letter, byte, alphabet, chosen, find, letter_of}
use Rattle.calculus.specs.Term.{Term, text, size, Normal}
use Rattle.calculus.specs.Parse.{Item, one, two, push, items, single, term_of}
use Rattle.calculus.proofs.Bells.{and_both, row_listed, listed-stands}

-- no byte of the list stands in it again
abbrev distinct : List ℕ → Bool
distinct [] = true
distinct (b ∷ bs) = not (stands b bs) && distinct bs

-- all letters have different bytes
letters-distinct : distinct (map byte alphabet) ≡ true
letters-distinct = refl

-- each letter is in the alphabet
listed : (l : Letter) → Memᴰ l alphabet
listed Letter.J = search Memᴰ.head depth 9
listed Letter.R = search (Memᴰ.head, Memᴰ.tail) depth 9
listed Letter.H = search (Memᴰ.head, Memᴰ.tail) depth 9
listed Letter.A = search (Memᴰ.head, Memᴰ.tail) depth 9
listed Letter.I = search (Memᴰ.head, Memᴰ.tail) depth 9
listed Letter.B = search (Memᴰ.head, Memᴰ.tail) depth 9
listed Letter.stop = search (Memᴰ.head, Memᴰ.tail) depth 9
listed (Letter.bell k) = let row = Memᴰ.map Letter.bell (row_listed k) in search (Memᴰ.tail, row) depth 9

-- a letter of the list is found by its byte, where no two have one byte
found : (l : Letter) (ls : List Letter) → Memᴰ l ls → distinct (map byte ls) ≡ true → find (byte l) ls ≡ some l
found l [] m e = absurd (Memᴰ.not-nil m)
found l (x ∷ ls) (Memᴰ.head same) e =
    ap (λ (t : Bool). chosen t x (find (byte l) ls)) (eq-eqb (byte l) (byte x) (ap byte same)) ∙ ap some (sym same)
found l (x ∷ ls) (Memᴰ.tail m) e = ap (λ (t : Bool). chosen t x (find (byte l) ls)) (ne_eqb (byte l) (byte x) other) ∙ found l ls m parted.1
  where
    parted : (not (stands (byte x) (map byte ls)) ≡ true) × (distinct (map byte ls) ≡ true)
    parted = and_both (not (stands (byte x) (map byte ls))) (distinct (map byte ls)) e

    other : ¬ (byte l ≡ byte x)
    other same = false≢true (sym (not-true (stands (byte x) (map byte ls)) parted.0) ∙ ap (λ (b : ℕ). stands b (map byte ls)) (sym same) ∙ listed-stands (Memᴰ.map byte m))

-- a letter is the letter of its byte
pub letter_of-byte : (l : Letter) → letter_of (byte l) ≡ some l
unfolding letter_of
letter_of-byte l = found l alphabet (listed l) letters-distinct

-- letters of the same byte are the same
pub byte_injective : (l m : Letter) → byte l ≡ byte m → l ≡ m
byte_injective l m e = cc (sym (letter_of-byte l) ∙ ap letter_of e ∙ letter_of-byte m)

-- what is found in a list of letters has the byte looked for
byte-find : (b : ℕ) (ls : List Letter) (l : Letter) → find b ls ≡ some l → byte l ≡ b
byte-find b [] l e = cc
byte-find b (x ∷ xs) l e = go (eqb b (byte x)) refl (byte-find b xs l) e
  where
    go : (c : Bool) → eqb b (byte x) ≡ c → (find b xs ≡ some l → byte l ≡ b) → chosen c x (find b xs) ≡ some l → byte l ≡ b
    go true q later e = let same : b ≡ byte x = eqb-true b (byte x) q in cc
    go false q later e = later e

-- a byte is the byte of its letter
pub byte-letter_of : (b : ℕ) (l : Letter) → letter_of b ≡ some l → byte l ≡ b
unfolding letter_of
byte-letter_of b l e = byte-find b alphabet l e

-- in front of any bytes the text of t is read as t
abbrev Readable : Term → Type 0
Readable t = (bytes : List ℕ) → items (text t ++ bytes) ≡ Item.whole t ∷ items bytes

-- a letter that takes two terms takes the two whose texts stand behind it
two-text :
    (b : ℕ) (node : Term → Term → Term) (t u : Term) → Readable t → Readable u → (bytes : List ℕ) →
    two b node (items ((text t ++ text u) ++ bytes)) ≡ Item.whole (node t u) ∷ items bytes
two-text b node t u first second bytes = ap (two b node) (ap items (append_assoc (text t) (text u) bytes) ∙ first (text u ++ bytes) ∙ ap (λ (is : List Item). Item.whole t ∷ is) (second bytes))

-- in front of any bytes the text of a term is read as that term
pub items-text : (t : Term) (bytes : List ℕ) → items (text t ++ bytes) ≡ Item.whole t ∷ items bytes
unfolding letter_of
items-text Term.J bytes = refl
items-text (Term.R t) bytes = ap (one (byte Letter.R) Term.R) (items-text t bytes)
items-text (Term.H r t) bytes = two-text (byte Letter.H) Term.H r t (items-text r) (items-text t) bytes
items-text (Term.A s t) bytes = two-text (byte Letter.A) Term.A s t (items-text s) (items-text t) bytes
items-text Term.I bytes = refl
items-text (Term.B u s) bytes = two-text (byte Letter.B) Term.B u s (items-text u) (items-text s) bytes
items-text (Term.app t u) bytes = two-text (byte Letter.stop) Term.app t u (items-text t) (items-text u) bytes
items-text (Term.bell k) bytes = ap (λ (o : Option Letter). push (byte (Letter.bell k)) o (items bytes)) (letter_of-byte (Letter.bell k))

-- the bytes of a list of items
abbrev pub items_text : List Item → List ℕ
items_text [] = []
items_text (Item.whole t ∷ is) = text t ++ items_text is
items_text (Item.loose b ∷ is) = b ∷ items_text is

-- a letter that takes two terms, or lacks them, adds its own byte
two_bytes :
    (b : ℕ) (node : Term → Term → Term) → ((t u : Term) → text (node t u) ≡ b ∷ (text t ++ text u)) →
    (is : List Item) → items_text (two b node is) ≡ b ∷ items_text is
two_bytes b node spelt [] = refl
two_bytes b node spelt (Item.loose c ∷ is) = refl
two_bytes b node spelt (Item.whole t ∷ []) = refl
two_bytes b node spelt (Item.whole t ∷ Item.loose c ∷ is) = refl
two_bytes b node spelt (Item.whole t ∷ Item.whole u ∷ is) = rw (spelt t u) (ap (λ (s : List ℕ). b ∷ s) (append_assoc (text t) (text u) (items_text is)))

-- a letter in front of items adds its own byte
push-bytes : (l : Letter) (is : List Item) → items_text (push (byte l) (some l) is) ≡ byte l ∷ items_text is
push-bytes Letter.J is = refl
push-bytes Letter.R [] = refl
push-bytes Letter.R (Item.loose c ∷ is) = refl
push-bytes Letter.R (Item.whole t ∷ is) = refl
push-bytes Letter.H is = two_bytes (byte Letter.H) Term.H (λ t u. refl) is
push-bytes Letter.A is = two_bytes (byte Letter.A) Term.A (λ t u. refl) is
push-bytes Letter.I is = refl
push-bytes Letter.B is = two_bytes (byte Letter.B) Term.B (λ t u. refl) is
push-bytes Letter.stop is = two_bytes (byte Letter.stop) Term.app (λ t u. refl) is
push-bytes (Letter.bell k) is = refl

-- reading loses no byte: the items of any bytes have those bytes
pub items-bytes : (bytes : List ℕ) → items_text (items bytes) ≡ bytes
items-bytes [] = refl
items-bytes (b ∷ bytes) = go (letter_of b) refl ∙ ap (λ (s : List ℕ). b ∷ s) (items-bytes bytes)
  where
    go : (o : Option Letter) → letter_of b ≡ o → items_text (push b o (items bytes)) ≡ b ∷ items_text (items bytes)
    go none e = refl
    go (some l) e = subst (λ (c : ℕ). items_text (push c (some l) (items bytes)) ≡ c ∷ items_text (items bytes)) (byte-letter_of b l e) (push-bytes l (items bytes))

-- a single whole term is the only item
single-whole : (is : List Item) (t : Term) → single is ≡ some t → is ≡ Item.whole t ∷ []
single-whole [] t e = cc
single-whole (Item.loose b ∷ is) t e = cc
single-whole (Item.whole u ∷ []) t e = cc
single-whole (Item.whole u ∷ i ∷ is) t e = cc

-- the term of a term's text is that term
pub term_of-text : (t : Term) → term_of (text t) ≡ some t
unfolding term_of
term_of-text t = ap (λ (s : List ℕ). single (items s)) (sym (append-nil (text t))) ∙ ap single (items-text t [])

-- the text of the term that bytes are of is those bytes
pub text-term_of : (bytes : List ℕ) (t : Term) → term_of bytes ≡ some t → text t ≡ bytes
unfolding term_of
text-term_of bytes t e = sym (append-nil (text t)) ∙ ap items_text (sym (single-whole (items bytes) t e)) ∙ items-bytes bytes

-- bytes that begin with a term begin with no other, and go on after it in one way
pub uniquely_readable : (t u : Term) (x y : List ℕ) → text t ++ x ≡ text u ++ y → (t ≡ u) × (x ≡ y)
uniquely_readable t u x y e = (same, append_cancel_left (text u) x y (ap (λ (v : Term). text v ++ x) (sym same) ∙ e))
  where
    read : Item.whole t ∷ items x ≡ Item.whole u ∷ items y
    read = sym (items-text t x) ∙ ap items e ∙ items-text u y

    same : t ≡ u
    same = cc read

-- terms of the same text are the same
pub text_injective : (t u : Term) → text t ≡ text u → t ≡ u
text_injective t u e = (uniquely_readable t u [] [] (ap (λ (s : List ℕ). s ++ []) e)).0

-- the text of two terms is as long as they are large
length_both : (t u : Term) → length (text t) ≡ size t → length (text u) ≡ size u → length (text t ++ text u) ≡ size t + size u
length_both t u first second = length-append (text t) (text u) ∙ ap₂ ◌+◌ first second

-- the text of a term has as many bytes as its size says
pub length-text : (t : Term) → length (text t) ≡ size t
length-text Term.J = refl
length-text (Term.R t) = ap suc (length-text t)
length-text (Term.H r t) = ap suc (length_both r t (length-text r) (length-text t))
length-text (Term.A s t) = ap suc (length_both s t (length-text s) (length-text t))
length-text Term.I = refl
length-text (Term.B u s) = ap suc (length_both u s (length-text u) (length-text s))
length-text (Term.app t u) = ap suc (length_both t u (length-text t) (length-text u))
length-text (Term.bell k) = refl

-- a term has a letter
pub size_positive : (t : Term) → 0 < size t
unfolding term_of
size_positive t = rw (← length-text t) (go (text t) (term_of-text t))
  where
    go : (s : List ℕ) → term_of s ≡ some t → 0 < length s
    go [] e = let z : ◌≡◌ {A = ℕ} 0 1 = cc in omega arith
    go (b ∷ s) e = omega arith

-- a text has a full stop
abbrev HasStop : List ℕ → Type 0
HasStop s = Memᴰ (byte Letter.stop) s

-- a letter that is no full stop, in front of texts without one, adds none
no_stop : {b : ℕ} (s u : List ℕ) → ¬ (byte Letter.stop ≡ b) → ¬ HasStop s → ¬ HasStop u → ¬ HasStop (b ∷ (s ++ u))
no_stop s u n first second m = ⊎_elim n (λ (k : HasStop (s ++ u)). ⊎_elim first second (Memᴰ.append_cases s k)) (Memᴰ.cases_cons m)

-- no bell's letter is the full stop
pub bell_no_stop : (k : Bell) → ¬ (byte Letter.stop ≡ byte (Letter.bell k))
bell_no_stop k e = let z : ◌≡◌ {A = ℕ} 0 1 = cc (byte_injective Letter.stop (Letter.bell k) e) in omega arith

-- a normal term has no full stop
normal_no_stop : {t : Term} → Normal t → ¬ HasStop (text t)
normal_no_stop Normal.normal-J = no_stop [] [] (omega arith) Memᴰ.not-nil Memᴰ.not-nil
normal_no_stop (Normal.normal-R {t = t} n) = no_stop [] (text t) (omega arith) Memᴰ.not-nil (normal_no_stop n)
normal_no_stop (Normal.normal-H {r = r} {t = t} n m) = no_stop (text r) (text t) (omega arith) (normal_no_stop n) (normal_no_stop m)
normal_no_stop (Normal.normal-A {s = s} {t = t} n m) = no_stop (text s) (text t) (omega arith) (normal_no_stop n) (normal_no_stop m)
normal_no_stop Normal.normal-I = no_stop [] [] (omega arith) Memᴰ.not-nil Memᴰ.not-nil
normal_no_stop (Normal.normal-B {u = u} {s = s} n m) = no_stop (text u) (text s) (omega arith) (normal_no_stop n) (normal_no_stop m)
normal_no_stop (Normal.normal-bell {k = k}) = no_stop [] [] (bell_no_stop k) Memᴰ.not-nil Memᴰ.not-nil

-- a term that takes two is normal where a letter in front of both has no full stop and they are normal without one
both-normal :
    {b : ℕ} {w : Term} (t u : Term) → (Normal t → Normal u → Normal w) →
    (¬ HasStop (text t) → Normal t) → (¬ HasStop (text u) → Normal u) → ¬ HasStop (b ∷ (text t ++ text u)) → Normal w
both-normal t u node first second n = node (first (λ m. n (Memᴰ.tail (Memᴰ.append_left (text u) m)))) (second (λ m. n (Memᴰ.tail (Memᴰ.append_right (text t) m))))

-- a term that has no full stop is normal
no_stop-normal : (t : Term) → ¬ HasStop (text t) → Normal t
no_stop-normal Term.J n = Normal.normal-J
no_stop-normal (Term.R t) n = Normal.normal-R (no_stop-normal t (λ m. n (Memᴰ.tail m)))
no_stop-normal (Term.H r t) n = both-normal r t Normal.normal-H (no_stop-normal r) (no_stop-normal t) n
no_stop-normal (Term.A s t) n = both-normal s t Normal.normal-A (no_stop-normal s) (no_stop-normal t) n
no_stop-normal Term.I n = Normal.normal-I
no_stop-normal (Term.B u s) n = both-normal u s Normal.normal-B (no_stop-normal u) (no_stop-normal s) n
no_stop-normal (Term.app t u) n = absurd (n (Memᴰ.head refl))
no_stop-normal (Term.bell k) n = Normal.normal-bell

-- normal terms are those whose text lacks the full stop
pub normal-text : (t : Term) → Normal t ↔ (Memᴰ (byte Letter.stop) (text t) → ⊥)
normal-text t = (normal_no_stop, no_stop-normal t)
