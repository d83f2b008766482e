-- A store by its parts: entries, zeros, texts, zeros. What stands at a result's place, and an entry and a text written behind the others.
-- Assumes nothing.
use Prim.Native.Nat.{ℕ, ◌+◌, ◌*◌, ◌-◌, ◌≤◌, ◌<◌}
use native.Mathlib.Omega.{arith}
use mathlib.Core.Path.{◌≡◌, refl, sym, ◌∙◌, ap}
use mathlib.Core.List.{List, [], ◌∷◌, ◌++◌, append_assoc}
use lib.ListN.{length, take, drop, replicate, length-append, length-replicate, take-append-drop}
use lib.Seq.{take_all, take-take, take_at, drop_at, drop-drop}
use Rattle.calculus.specs.Term.{Term, text, size}
use Rattle.calculus.proofs.PrefixCode.{length-text}
use Rattle.slices.specs.Part.{part}
use Rattle.slices.specs.Put.{put}
use Rattle.slices.specs.Wrote.{Wrote}
use Rattle.slices.proofs.Part.{part-front, part_join, part_slice, part_left, part-part, drop-zeros}
use Rattle.slices.proofs.Put.{behind-fits}
use Rattle.slices.proofs.Wrote.{wrote_put, wrote-piece, wrote-part-before, wrote-part-behind}
use Rattle.words.specs.Word.{word_limit, word_of, word_in, word_at}
use Rattle.words.proofs.Words.{word_back}
use Rattle.words.proofs.At.{word-there}
use Rattle.fingerprints.specs.Print.{print_of}
use Rattle.entries.specs.Catalogue.{entry_limit, letter_limit, letters, Room}
use Rattle.entries.specs.Store.{entry_size, texts_at, store_size, entry_of, entries_of, texts_of, store_of}
use Rattle.entries.proofs.Later.{Later, later-long, later-entries, later-texts}

-- ---- parts

-- a part of so many bytes
pub part-size : (at n : ℕ) (s : List ℕ) → part at (at + n) s ≡ take n (drop at s)
part-size at n s =
    let long : at + n - at ≡ n = omega arith in
    ap (λ (k : ℕ). take k (drop at s)) long

-- a part without its first bytes
part-drop : (k from to : ℕ) (s : List ℕ) → part (from + k) to s ≡ drop k (part from to s)
part-drop k from to s =
    part_slice (from + k) to s ∙ sym (drop-drop k from (take to s)) ∙ ap (drop k) (sym (part_slice from to s))

-- a part of the first bytes, where these are known
part-known : (from to n : ℕ) (s p : List ℕ) → to ≤ n → take n s ≡ p → part from to s ≡ part from to p
part-known from to n s p h e =
    part_slice from to s
    ∙ ap (drop from) (sym (take-take to n s h) ∙ ap (take to) e)
    ∙ sym (part_slice from to p)

-- the second of two pieces, to the end and with more behind it
part-last : (p q : List ℕ) (a b : ℕ) → length p ≡ a → length p + length q ≤ b → part a b (p ++ q) ≡ q
part-last p q a b e h =
    part_slice a b (p ++ q)
    ∙ ap (drop a) (take_all b (p ++ q) (omega (arith, length-append p q)))
    ∙ drop_at p q a e

part_mid : (p q r : List ℕ) (a b : ℕ) → length p ≡ a → length p + length q ≡ b → part a b (p ++ q ++ r) ≡ q
part_mid p q r a b e h =
    part_left a b (p ++ q) r (omega (arith, length-append p q)) ∙ part-last p q a b e (omega arith)

-- fewer of the first bytes
take-fewer : (m n : ℕ) (s p q r : List ℕ) → m ≤ n → take n s ≡ p → p ≡ q ++ r → length q ≡ m → take m s ≡ q
take-fewer m n s p q r h e f long = sym (take-take m n s h) ∙ ap (take m) (e ∙ f) ∙ take_at q r m long

-- lists that agree from n on agree further on
drop-further : (n k : ℕ) (s t : List ℕ) → n ≤ k → drop n s ≡ drop n t → drop k s ≡ drop k t
drop-further n k s t h e =
    let on : n + (k - n) ≡ k = omega arith in
    let fall : (l : List ℕ) → drop k l ≡ drop (k - n) (drop n l) = λ l. sym (drop-drop (k - n) n l ∙ ap (λ (i : ℕ). drop i l) on) in
    fall s ∙ ap (drop (k - n)) e ∙ sym (fall t)

-- ---- a store

-- eight bytes a result
pub length-entries : (results : List Term) → length (entries_of results) ≡ entry_size * length results
length-entries [] = refl
length-entries (t ∷ earlier) = omega (arith, length-append (entries_of earlier) (entry_of t), length-entries earlier)

-- a byte a letter
pub length-texts : (results : List Term) → length (texts_of results) ≡ letters results
length-texts [] = refl
length-texts (t ∷ earlier) = omega (arith, length-append (texts_of earlier) (text t), length-texts earlier, length-text t)

-- the first entries and texts of a store are those of the results
pub record Begins (store : List ℕ) (results : List Term) : Type 0 where
  pub entries : take (entry_size * length results) store ≡ entries_of results
  pub texts : part texts_at (texts_at + letters results) store ≡ texts_of results

-- and zeros stand behind both
pub record Laid (store : List ℕ) (results : List Term) : Type 0 where
  pub begins : Begins store results
  pub unused : part (entry_size * length results) texts_at store ≡ replicate (texts_at - entry_size * length results) 0
  pub behind : part (texts_at + letters results) store_size store ≡ replicate (letter_limit - letters results) 0

-- the zeros behind the entries and behind the texts
abbrev unused_of : List Term → List ℕ
unused_of results = replicate (texts_at - entry_size * length results) 0

abbrev behind_of : List Term → List ℕ
behind_of results = replicate (letter_limit - letters results) 0

-- there are as many as are left
length-behind : (results : List Term) → length (behind_of results) ≡ letter_limit - letters results
length-behind results = length-replicate {A = ℕ} (letter_limit - letters results) 0

-- the store, part by part
store-parts : (results : List Term) → store_of results ≡ entries_of results ++ unused_of results ++ texts_of results ++ behind_of results
unfolding store_of
store-parts results = refl

-- a store by its parts
pub laid-stored :
    (store : List ℕ) (results : List Term) → store_size ≤ length store → length results ≤ entry_limit → letters results ≤ letter_limit →
    Laid store results → take store_size store ≡ store_of results
laid-stored store results whole few short laid =
    let a = entry_size * length results in
    let b = texts_at + letters results in
    let first : part 0 a store ≡ entries_of results = part-front a store ∙ laid.begins.entries in
    let second : part 0 texts_at store ≡ entries_of results ++ unused_of results =
    sym (part_join 0 a texts_at store (omega arith) (omega arith))
    ∙ ap (λ (l : List ℕ). l ++ part a texts_at store) first
    ∙ ap (λ (l : List ℕ). entries_of results ++ l) laid.unused in
    let third : part 0 b store ≡ entries_of results ++ unused_of results ++ texts_of results =
    sym (part_join 0 texts_at b store (omega arith) (omega arith))
    ∙ ap (λ (l : List ℕ). l ++ part texts_at b store) second
    ∙ ap (λ (l : List ℕ). entries_of results ++ unused_of results ++ l) laid.begins.texts in
    sym (part-front store_size store)
    ∙ sym (part_join 0 b store_size store (omega arith) (omega arith))
    ∙ ap (λ (l : List ℕ). l ++ part b store_size store) third
    ∙ ap (λ (l : List ℕ). entries_of results ++ unused_of results ++ texts_of results ++ l) laid.behind
    ∙ sym (store-parts results)

module _ (results : List Term) (few : length results ≤ entry_limit) (short : letters results ≤ letter_limit) where
  -- the lengths of the first two and three parts
  length_two : length (entries_of results ++ unused_of results) ≡ texts_at
  length_two =
      omega (
        arith,
        length-append (entries_of results) (unused_of results),
        length-entries results,
        length-replicate {A = ℕ} (texts_at - entry_size * length results) 0,
      )

  length_three : length (entries_of results ++ unused_of results ++ texts_of results) ≡ texts_at + letters results
  length_three =
      omega (arith, length-append (entries_of results ++ unused_of results) (texts_of results), length_two, length-texts results)

-- a store has its size
pub length-store :
    (results : List Term) → length results ≤ entry_limit → letters results ≤ letter_limit → length (store_of results) ≡ store_size
length-store results few short =
    ap length (store-parts results)
    ∙ length-append (entries_of results ++ unused_of results ++ texts_of results) (behind_of results)
    ∙ omega (arith, length_three results few short, length-behind results)

-- and its parts are those of the results
pub stored-laid :
    (store : List ℕ) (results : List Term) → length results ≤ entry_limit → letters results ≤ letter_limit →
    take store_size store ≡ store_of results → Laid store results
stored-laid store results few short e =
    let a = entry_size * length results in
    let b = texts_at + letters results in
    let one = entries_of results in
    let two = entries_of results ++ unused_of results in
    let three = entries_of results ++ unused_of results ++ texts_of results in
    let whole : take store_size store ≡ three ++ behind_of results = e ∙ store-parts results in
    let to-two : length two ≡ texts_at = length_two results few short in
    let to-three : length three ≡ b = length_three results few short in
    let rest : length (behind_of results) ≡ letter_limit - letters results = length-behind results in
    let to_one : length one ≡ a = length-entries results in
    let unused-long : length (unused_of results) ≡ texts_at - a = length-replicate {A = ℕ} (texts_at - a) 0 in
    record {
      begins =
          record {
            entries =
                sym (part-front a store)
                ∙ part-known 0 a store_size store (three ++ behind_of results) (omega arith) whole
                ∙ part_left 0 a three (behind_of results) (omega arith)
                ∙ part_left 0 a two (texts_of results) (omega arith)
                ∙ part_mid [] one (unused_of results) 0 a refl (omega arith);
            texts =
                part-known texts_at b store_size store (three ++ behind_of results) (omega arith) whole
                ∙ part_mid two (texts_of results) (behind_of results) texts_at b to-two (omega (arith, length-texts results));
          };
      unused =
          part-known a texts_at store_size store (three ++ behind_of results) (omega arith) whole
          ∙ part_left a texts_at three (behind_of results) (omega arith)
          ∙ part_mid one (unused_of results) (texts_of results) a texts_at to_one (omega arith);
      behind =
          part-known b store_size store_size store (three ++ behind_of results) (omega arith) whole
          ∙ part-last three (behind_of results) b store_size to-three (omega arith);
    }

-- ---- a store begins with earlier results too

pub begins-earlier : {store : List ℕ} {a b : List Term} → Later a b → Begins store b → Begins store a
begins-earlier {store} {a} {b} l begins =
    let long = later-long l in
    let entries = later-entries l in
    let texts = later-texts l in
    let first : take (letters b) (drop texts_at store) ≡ texts_of b = sym (part-size texts_at (letters b) store) ∙ begins.texts in
    record {
      entries =
          take-fewer (entry_size * length a) (entry_size * length b) store (entries_of b) (entries_of a) entries.0
          (omega (arith, long.0)) begins.entries entries.1 (length-entries a);
      texts =
          part-size texts_at (letters a) store
          ∙ take-fewer (letters a) (letters b) (drop texts_at store) (texts_of b) (texts_of a) texts.0
          long.1 first texts.1 (length-texts a);
    }

-- ---- what stands at a result's place

pub record Stands (store : List ℕ) (t : Term) (earlier : List Term) : Type 0 where
  pub print : part (entry_size * length earlier) (entry_size * length earlier + 4) store ≡ word_of (print_of (text t))
  pub long : part (entry_size * length earlier + 4) (entry_size * length earlier + 8) store ≡ word_of (size t)
  pub spelt : part (texts_at + letters earlier) (texts_at + letters earlier + size t) store ≡ text t

-- a result's fingerprint, size and text stand behind those of the earlier ones
pub begins-stands : {store : List ℕ} {t : Term} {earlier : List Term} → Begins store (t ∷ earlier) → Stands store t earlier
begins-stands {store} {t} {earlier} begins =
    let at = entry_size * length earlier in
    let n = entry_size * length (t ∷ earlier) in
    let all = entries_of earlier in
    let print = word_of (print_of (text t)) in
    let long = word_of (size t) in
    let sized : length all ≡ at = length-entries earlier in
    let whole : take n store ≡ all ++ print ++ long = begins.entries ∙ sym (append_assoc all print long) in
    let both : length (all ++ print) ≡ at + 4 = omega (arith, length-append all print) in
    let ends : texts_at + (letters earlier + size t) ≡ texts_at + letters earlier + size t = omega arith in
    record {
      print =
          part-known at (at + 4) n store (all ++ print ++ long) (omega arith) whole
          ∙ part_mid all print long at (at + 4) sized (omega arith);
      long =
          part-known (at + 4) (at + 8) n store (all ++ print ++ long) (omega arith) whole
          ∙ part-last (all ++ print) long (at + 4) (at + 8) both (omega arith);
      spelt =
          ap (λ (k : ℕ). part (texts_at + letters earlier) k store) (sym ends)
          ∙ sym (part-part (letters earlier) (letters earlier + size t) texts_at (texts_at + (letters earlier + size t)) store (omega arith))
          ∙ ap (part (letters earlier) (letters earlier + size t)) begins.texts
          ∙ part-last (texts_of earlier) (text t) (letters earlier) (letters earlier + size t) (length-texts earlier)
          (omega (arith, length-texts earlier, length-text t));
    }

-- and the other way about
pub stands-begins :
    {store : List ℕ} {t : Term} {earlier : List Term} → Begins store earlier → Stands store t earlier → Begins store (t ∷ earlier)
stands-begins {store} {t} {earlier} begins stands =
    let at = entry_size * length earlier in
    let m = texts_at + letters earlier in
    let n : entry_size * length (t ∷ earlier) ≡ at + 8 = omega arith in
    let ends : texts_at + (letters earlier + size t) ≡ m + size t = omega arith in
    let all = entries_of earlier in
    let print = word_of (print_of (text t)) in
    let long = word_of (size t) in
    let first : part 0 (at + 4) store ≡ all ++ print =
    sym (part_join 0 at (at + 4) store (omega arith) (omega arith))
    ∙ ap (λ (l : List ℕ). l ++ part at (at + 4) store) (part-front at store ∙ begins.entries)
    ∙ ap (λ (l : List ℕ). all ++ l) stands.print in
    record {
      entries =
          ap (λ (k : ℕ). take k store) n
          ∙ sym (part-front (at + 8) store)
          ∙ sym (part_join 0 (at + 4) (at + 8) store (omega arith) (omega arith))
          ∙ ap (λ (l : List ℕ). l ++ part (at + 4) (at + 8) store) first
          ∙ ap (λ (l : List ℕ). all ++ print ++ l) stands.long
          ∙ append_assoc all print long;
      texts =
          ap (λ (k : ℕ). part texts_at k store) ends
          ∙ sym (part_join texts_at m (m + size t) store (omega arith) (omega arith))
          ∙ ap (λ (l : List ℕ). l ++ part m (m + size t) store) begins.texts
          ∙ ap (λ (l : List ℕ). texts_of earlier ++ l) stands.spelt;
    }

-- a number's four bytes, read
pub word-front : (at n : ℕ) (store : List ℕ) → n < word_limit → part at (at + 4) store ≡ word_of n → word_in (drop at store) ≡ n
word-front at n store small e =
    let four : take 4 (drop at store) ≡ word_of n = sym (part-size at 4 store) ∙ e in
    ap word_in (sym (take-append-drop 4 (drop at store)) ∙ ap (λ (l : List ℕ). l ++ drop 4 (drop at store)) four)
    ∙ word_back n (drop 4 (drop at store)) small

-- and at their place
pub word_read :
    (at n : ℕ) (store : List ℕ) → n < word_limit → at + 4 ≤ length store → part at (at + 4) store ≡ word_of n → word_at at store ≡ n
word_read at n store small there e = word-there at store there ∙ word-front at n store small e

-- ---- an entry and a text written behind the others

pub new-laid :
    (t : Term) (earlier : List Term) (store store₁ store₂ : List ℕ) → store_size ≤ length store → Room t earlier → Laid store earlier →
    store₁ ≡ put (entry_size * length earlier) (entry_of t) store → store₂ ≡ put (texts_at + letters earlier) (text t) store₁ →
    Laid store₂ (t ∷ earlier) × (drop store_size store₂ ≡ drop store_size store) × (length store₂ ≡ length store)
new-laid t earlier store store₁ store₂ whole room laid e₁ e₂ =
    let at = entry_size * length earlier in
    let m = texts_at + letters earlier in
    let few : length earlier < entry_limit = room.entry in
    let fit : letters earlier + size t ≤ letter_limit = room.letters_fit in
    let spelt : length (text t) ≡ size t = length-text t in
    let room₁ : at + length (entry_of t) ≤ length store = omega arith in
    let w₁ : Wrote at (at + 8) (entry_of t) store store₁ =
    wrote_put at (entry_of t) store room₁ e₁ (sym (behind-fits at (entry_of t) store room₁)) in
    let size₁ : length store₁ ≡ length store = w₁.size in
    let room₂ : m + length (text t) ≤ length store₁ = omega arith in
    let end₂ : m + size t ≡ m + length (text t) = omega arith in
    let w₂ : Wrote m (m + size t) (text t) store₁ store₂ =
    wrote_put m (text t) store₁ room₂ e₂ (end₂ ∙ sym (behind-fits m (text t) store₁ room₂)) in
    -- the earlier results stay
    let begins : Begins store₂ earlier =
    record {
      entries =
          sym (part-front at store₂)
          ∙ wrote-part-before w₂ 0 at (omega arith)
          ∙ wrote-part-before w₁ 0 at (omega arith)
          ∙ part-front at store
          ∙ laid.begins.entries;
      texts =
          wrote-part-before w₂ texts_at m (omega arith)
          ∙ wrote-part-behind w₁ texts_at m (omega arith)
          ∙ laid.begins.texts;
    } in
    -- and the new one stands behind them
    let front : at + 0 ≡ at = omega arith in
    let stands : Stands store₂ t earlier =
    record {
      print =
          wrote-part-before w₂ at (at + 4) (omega arith)
          ∙ ap (λ (k : ℕ). part k (at + 4) store₁) (sym front)
          ∙ sym (part-part 0 4 at (at + 8) store₁ (omega arith))
          ∙ ap (part 0 4) (wrote-piece w₁);
      long =
          wrote-part-before w₂ (at + 4) (at + 8) (omega arith)
          ∙ sym (part-part 4 8 at (at + 8) store₁ (omega arith))
          ∙ ap (part 4 8) (wrote-piece w₁);
      spelt = wrote-piece w₂;
    } in
    -- zeros behind both
    let next : entry_size * length (t ∷ earlier) ≡ at + 8 = omega arith in
    let fewer : texts_at - at - 8 ≡ texts_at - entry_size * length (t ∷ earlier) = omega arith in
    let ends : texts_at + (letters earlier + size t) ≡ m + size t = omega arith in
    let shorter : letter_limit - letters earlier - size t ≡ letter_limit - (letters earlier + size t) = omega arith in
    let unused : part (entry_size * length (t ∷ earlier)) texts_at store₂ ≡ replicate (texts_at - entry_size * length (t ∷ earlier)) 0 =
    ap (λ (k : ℕ). part k texts_at store₂) next
    ∙ wrote-part-before w₂ (at + 8) texts_at (omega arith)
    ∙ wrote-part-behind w₁ (at + 8) texts_at (omega arith)
    ∙ part-drop 8 at texts_at store
    ∙ ap (drop 8) laid.unused
    ∙ drop-zeros 8 (texts_at - at)
    ∙ ap (λ (k : ℕ). replicate k 0) fewer in
    let behind : part (texts_at + letters (t ∷ earlier)) store_size store₂ ≡ replicate (letter_limit - letters (t ∷ earlier)) 0 =
    ap (λ (k : ℕ). part k store_size store₂) ends
    ∙ wrote-part-behind w₂ (m + size t) store_size (omega arith)
    ∙ wrote-part-behind w₁ (m + size t) store_size (omega arith)
    ∙ part-drop (size t) m store_size store
    ∙ ap (drop (size t)) laid.behind
    ∙ drop-zeros (size t) (letter_limit - letters earlier)
    ∙ ap (λ (k : ℕ). replicate k 0) shorter in (
      record { begins = stands-begins begins stands; unused = unused; behind = behind },
      drop-further (m + size t) store_size store₂ store₁ (omega arith) w₂.rest
          ∙ drop-further (at + 8) store_size store₁ store (omega arith) w₁.rest,
      w₂.size ∙ size₁,
    )
