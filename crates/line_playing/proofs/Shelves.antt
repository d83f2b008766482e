-- Results on their shelf: what is held under the number of a name is the result of the line of that name, and one result more goes behind the
-- others. Carried by induction over the lines, the last in front: its number is the last in the table, and its result ends last. Assumes
-- nothing.
use Prim.Native.Nat.{ℕ, zero, suc, ◌+◌, ◌-◌, ◌≤◌, ◌<◌}
use native.Mathlib.Omega.{arith}
use mathlib.Core.Path.{◌≡◌, refl, sym, ◌∙◌, ap, ap₂, subst}
use mathlib.Core.Logic.{⊎_elim}
use mathlib.Core.Bool.{Bool, true, false, cond, false≢true}
use mathlib.Core.List.Memᴰ
use mathlib.Core.List.{List, [], ◌∷◌, ◌++◌, map, append_cancel_left, Memᴰ}
use borrow.Author.Tests.{eq-eqb, ne_eqb}
use lib.Dec.{eqb}
use lib.ListN.{length, get_or, take, drop, length-append}
use lib.Seq.{take-take, take-add, take_at, get_or_at}
use Rattle.slices.specs.Find.{index_from, index_of}
use Rattle.slices.specs.Part.{part}
use Rattle.slices.specs.Same.{same}
use Rattle.slices.proofs.Finding.{member_index, Lacks, lacks_append, index_behind}
use Rattle.slices.proofs.Same.{equal_same, same_equal}
use Rattle.calculus.specs.Term.{Term, text, size}
use Rattle.calculus.proofs.PrefixCode.{length-text}
use Rattle.books.specs.Name.{IsName}
use Rattle.books.specs.Line.{Line, name_in}
use Rattle.books.specs.Book.{Given, Book}
use Rattle.books.specs.Play.{store_size, Result, term_in, letters, result_of}
use Rattle.book_names.specs.Key.{key_of, keys_of}
use Rattle.book_names.proofs.Keys.{key-tells}
use Rattle.book_names.proofs.Given.{length_keys}
use Rattle.replacing.specs.Spelled.{held_by}
use Rattle.line_playing.specs.Shelf.{name_of, texts_of, ends_of, Shelved}

-- ---- lengths

pub length-ends : (results : List Result) → length (ends_of results) ≡ suc (length results)
length-ends [] = refl
length-ends (r ∷ earlier) =
    let more = length-append (ends_of earlier) (letters (r ∷ earlier) ∷ []) in
    let rest = length-ends earlier in
    omega (arith, more, rest)

pub length-texts : (results : List Result) → length (texts_of results) ≡ letters results
length-texts [] = refl
length-texts (r ∷ earlier) = length-append (texts_of earlier) (text (term_in r)) ∙ ap₂ ◌+◌ (length-texts earlier) (length-text (term_in r))

-- as many lines as results
pub as_many : (earlier : List Line) (results : List Result) → map name_in earlier ≡ map name_of results → length earlier ≡ length results
as_many [] [] e = refl
as_many [] (r ∷ results) e = let z : ◌≡◌ {A = ℕ} 0 1 = cc in absurd (omega arith)
as_many (l ∷ earlier) [] e = let z : ◌≡◌ {A = ℕ} 0 1 = cc in absurd (omega arith)
as_many (l ∷ earlier) (r ∷ results) e = let rest : map name_in earlier ≡ map name_of results = cc in ap suc (as_many earlier results rest)

-- ---- numbers of names

-- a name that no line has has no number in the table
lacks_key : {earlier : List Line} (name : List ℕ) → Book earlier → IsName name → (Given name earlier → ⊥) → Lacks (key_of name) (keys_of earlier)
lacks_key name Book.empty n fresh = tt
lacks_key name (Book.line {l = l} {earlier = earlier} well few new known book) n fresh =
    lacks_append (key_of name) (keys_of earlier) (key_of (name_in l) ∷ [])
    (lacks_key name book n (λ m. fresh (Memᴰ.tail m)))
    (ne_eqb (key_of (name_in l)) (key_of name) (λ e. fresh (Memᴰ.head (sym (key-tells (name_in l) name well.named n e)))), tt)

-- the number of a name that a line has is in the table
key_member : (earlier : List Line) (name : List ℕ) → Given name earlier → Memᴰ (key_of name) (keys_of earlier)
key_member [] name m = absurd (Memᴰ.not-nil m)
key_member (l ∷ earlier) name m =
    ⊎_elim
    (λ (e : name ≡ name_in l). Memᴰ.append_right (keys_of earlier) (Memᴰ.head (ap key_of e)))
    (λ (k : Given name earlier). Memᴰ.append_left (key_of (name_in l) ∷ []) (key_member earlier name k))
    (Memᴰ.cases_cons m)

-- what is found in front is found there whatever stands behind
index_front : (b : ℕ) (s z : List ℕ) → index_of b s < length s → index_of b (s ++ z) ≡ index_of b s
index_front b [] z h = absurd (omega arith)
index_front b (c ∷ s) z h = go (eqb c b) h (index_front b s z)
  where
    go :
        (x : Bool) → index_from x (index_of b s) < suc (length s) → (index_of b s < length s → index_of b (s ++ z) ≡ index_of b s) →
        index_from x (index_of b (s ++ z)) ≡ index_from x (index_of b s)
    go true k rest = refl
    go false k rest = ap suc (rest (omega arith))

-- ---- ends

-- a number in front of others
get_d_front : (s z : List ℕ) (i : ℕ) → i < length s → get_or (s ++ z) i 0 ≡ get_or s i 0
get_d_front [] z i h = absurd (omega arith)
get_d_front (x ∷ s) z zero h = refl
get_d_front (x ∷ s) z (suc i) h = get_d_front s z i (omega arith)

-- the last end is how many letters there are
last_end : (results : List Result) → get_or (ends_of results) (length results) 0 ≡ letters results
last_end [] = refl
last_end (r ∷ earlier) = get_or_at (ends_of earlier) (letters (r ∷ earlier)) [] 0 (suc (length earlier)) (length-ends earlier)

-- the texts before the last
first-held :
    (t : Term) (results : List Result) (store : List ℕ) → take (letters results + size t) store ≡ texts_of results ++ text t →
    take (letters results) store ≡ texts_of results
first-held t results store held =
    sym (take-take (letters results) (letters results + size t) store (omega arith))
    ∙ ap (take (letters results)) held ∙ take_at (texts_of results) (text t) (letters results) (length-texts results)

-- the last text stands behind the others
last-held :
    (t : Term) (results : List Result) (store : List ℕ) → take (letters results + size t) store ≡ texts_of results ++ text t →
    part (letters results) (letters results + size t) store ≡ text t
last-held t results store held =
    let less : letters results + size t - letters results ≡ size t = omega arith in
    let rest = take (size t) (drop (letters results) store) in
    let front : take (letters results) store ≡ texts_of results = first-held t results store held in
    ap (λ (n : ℕ). take n (drop (letters results) store)) less
    ∙ append_cancel_left (texts_of results) rest (text t)
    (ap (λ (s : List ℕ). s ++ rest) (sym front) ∙ sym (take-add (letters results) (size t) store) ∙ held)

-- ---- what is held

-- what stands between two ends
abbrev between : (ends : List ℕ) (i : ℕ) (store : List ℕ) → List ℕ
between ends i store = part (get_or ends i 0) (get_or ends (suc i) 0) store

held-result :
    {earlier : List Line} (results : List Result) (store name : List ℕ) → Book earlier → map name_in earlier ≡ map name_of results →
    IsName name → Given name earlier → take (letters results) store ≡ texts_of results →
    between (ends_of results) (index_of (key_of name) (keys_of earlier)) store ≡ text (result_of results name)
held-result results store name Book.empty named n m held = absurd (Memᴰ.not-nil m)
held-result [] store name (Book.line {l = l} {earlier = earlier} well few new known book) named n m held =
    let z : ◌≡◌ {A = ℕ} 0 1 = cc in absurd (omega arith)
held-result (Result.result k t ∷ results) store name (Book.line {l = l} {earlier = earlier} well few new known book) named n m held =
    go (same k name) refl (λ given. held-result results store name book rest n given (first-held t results store held))
  where
    own : name_in l ≡ k
    own = cc named

    rest : map name_in earlier ≡ map name_of results
    rest = cc named

    counted : length earlier ≡ length results
    counted = as_many earlier results rest

    key : ℕ
    key = key_of name

    ends : List ℕ
    ends = ends_of results

    go :
        (x : Bool) → same k name ≡ x →
        (Given name earlier → between ends (index_of key (keys_of earlier)) store ≡ text (result_of results name)) →
        between (ends ++ ((letters results + size t) ∷ [])) (index_of key (keys_of earlier ++ (key_of (name_in l) ∷ []))) store
        ≡ text (cond x t (result_of results name))
    go true e before =
        let it : name_in l ≡ name = own ∙ same_equal k name e in
        let lacks = lacks_key name book n (λ g. new (subst (λ (a : List ℕ). Given a earlier) (sym it) g)) in
        let found : index_of key (key_of (name_in l) ∷ []) ≡ 0 =
        ap (λ (a : List ℕ). index_of key (key_of a ∷ [])) it ∙ ap (λ (x : Bool). index_from x 0) (eq-eqb key key refl) in
        let last : index_of key (keys_of earlier ++ (key_of (name_in l) ∷ [])) ≡ length results =
        omega (arith, index_behind key (keys_of earlier) (key_of (name_in l) ∷ []) lacks, found, length_keys earlier, counted) in
        let from : get_or (ends ++ ((letters results + size t) ∷ [])) (length results) 0 ≡ letters results =
        get_d_front ends ((letters results + size t) ∷ []) (length results) (omega (arith, length-ends results)) ∙ last_end results in
        let to : get_or (ends ++ ((letters results + size t) ∷ [])) (suc (length results)) 0 ≡ letters results + size t =
        get_or_at ends (letters results + size t) [] 0 (suc (length results)) (length-ends results) in
        ap (λ (i : ℕ). between (ends ++ ((letters results + size t) ∷ [])) i store) last
        ∙ ap₂ (λ (a b : ℕ). part a b store) from to
        ∙ last-held t results store held
    go false e before =
        let other : name ≡ name_in l → ⊥ =
        λ (h : name ≡ name_in l). false≢true (sym e ∙ equal_same k name (sym own ∙ sym h)) in
        let given : Given name earlier =
        ⊎_elim (λ (h : name ≡ name_in l). absurd (other h)) (λ (g : Given name earlier). g) (Memᴰ.cases_cons m) in
        let inside = member_index key (keys_of earlier) (key_member earlier name given) in
        let i = index_of key (keys_of earlier) in
        let more : List ℕ = (letters results + size t) ∷ [] in
        let small : suc i < length ends = omega (arith, inside, length_keys earlier, counted, length-ends results) in
        ap (λ (j : ℕ). between (ends ++ more) j store) (index_front key (keys_of earlier) (key_of (name_in l) ∷ []) inside)
        ∙ ap₂ (λ (a b : ℕ). part a b store) (get_d_front ends more i (omega (arith, small))) (get_d_front ends more (suc i) small)
        ∙ before given

-- under the number of a name the store holds the result of the line of that name
pub shelf_held :
    {keys ends store : List ℕ} {used : ℕ} {earlier : List Line} {results : List Result} (name : List ℕ) →
    Shelved keys ends store used earlier results → IsName name → Given name earlier →
    held_by (key_of name) keys ends store ≡ text (result_of results name)
unfolding held_by
shelf_held {store = store} {earlier = earlier} {results = results} name s n m =
    ap₂ (λ (ks es : List ℕ). between es (index_of (key_of name) ks) store) s.keyed s.ended
    ∙ held-result results store name s.book s.named n m (ap (λ (i : ℕ). take i store) (sym s.filled) ∙ s.held)

-- one line more, with its result behind the others
pub shelf_more :
    {keys ends store store' : List ℕ} {used sized : ℕ} {earlier : List Line} {results : List Result} (l : Line) (v : Term) →
    Shelved keys ends store used earlier results → Book (l ∷ earlier) → sized ≡ size v →
    take (used + sized) store' ≡ texts_of (Result.result (name_in l) v ∷ results) → used + sized ≤ store_size → length store' ≡ length store →
    Shelved (keys ++ (key_of (name_in l) ∷ [])) (ends ++ ((used + sized) ∷ [])) store' (used + sized) (l ∷ earlier)
    (Result.result (name_in l) v ∷ results)
shelf_more {used = used} {sized = sized} {results = results} l v s book large held fits long =
    let sum : used + sized ≡ letters results + size v = ap₂ ◌+◌ s.filled large in
    record {
      book = book;
      named = ap (λ (names : List (List ℕ)). name_in l ∷ names) s.named;
      keyed = ap (λ (ks : List ℕ). ks ++ (key_of (name_in l) ∷ [])) s.keyed;
      ended = ap₂ (λ (es : List ℕ) (e : ℕ). es ++ (e ∷ [])) s.ended sum;
      filled = sum;
      held = held;
      fits = fits;
      long = long ∙ s.long;
    }
