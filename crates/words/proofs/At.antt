-- The number at an index: what it is where its four bytes are there, and where they are not. Assumes nothing.
use Prim.Native.Nat.{ℕ, ◌+◌, ◌*◌, ◌/◌, ◌%◌, ◌≤◌, ◌<◌}
use native.Mathlib.Nat.{add-zero, div-div-eq-div-mul, div-add-mod, mod-lt, mod-eq_of_lt}
use native.Mathlib.Omega.{arith}
use mathlib.Core.Path.{◌≡◌, refl, sym, ◌∙◌, ap}
use mathlib.Core.List.{List, [], ◌∷◌}
use borrow.Author.Tests.{le-leb, lt-leb}
use lib.ListN.{length, drop, get_or}
use lib.Seq.{get_or-drop}
use Rattle.slices.specs.Part.{part}
use Rattle.slices.proofs.Part.{part_cons, part-empty}
use Rattle.words.specs.Word.{word_of, word_in, word_at}

module _ (at : ℕ) (s : List ℕ) where
  pub word-there : at + 4 ≤ length s → word_at at s ≡ word_in (drop at s)
  unfolding word_at
  word-there h = rw (le-leb _ _ h)

  pub word-missing : length s < at + 4 → word_at at s ≡ 0
  unfolding word_at
  word-missing h = rw (lt-leb _ _ h)

  -- byte by byte
  pub word_bytes :
      at + 4 ≤ length s →
      get_or s at 0 + get_or s (at + 1) 0 * 256 + get_or s (at + 2) 0 * 65536 + get_or s (at + 3) 0 * 16777216 ≡ word_at at s
  word_bytes h =
      let e₀ : get_or (drop at s) 0 0 ≡ get_or s at 0 = get_or-drop at s 0 0 ∙ ap (λ (n : ℕ). get_or s n 0) (add-zero at) in
      let e₁ : get_or (drop at s) 1 0 ≡ get_or s (at + 1) 0 = get_or-drop at s 1 0 in
      let e₂ : get_or (drop at s) 2 0 ≡ get_or s (at + 2) 0 = get_or-drop at s 2 0 in
      let e₃ : get_or (drop at s) 3 0 ≡ get_or s (at + 3) 0 = get_or-drop at s 3 0 in
      omega (arith, word-there h)

-- four bytes as a number, and the number's bytes
split : (n m r : ℕ) → r < 256 → n ≡ r + 256 * m → (n % 256 ≡ r) × (n / 256 ≡ m)
split n m r h e =
    let small : n % 256 < 256 = mod-lt n (omega arith) in
    (omega (arith, div-add-mod n 256), omega (arith, div-add-mod n 256))

bytes_word :
    (a b c d : ℕ) → a < 256 → b < 256 → c < 256 → d < 256 →
    word_of (a + b * 256 + c * 65536 + d * 16777216) ≡ a ∷ b ∷ c ∷ d ∷ []
bytes_word a b c d ha hb hc hd =
    let n = a + b * 256 + c * 65536 + d * 16777216 in
    let (e₀, q₀) = split n (b + c * 256 + d * 65536) a ha (omega arith) in
    let (e₁, q₁) = split (b + c * 256 + d * 65536) (c + d * 256) b hb (omega arith) in
    let (e₂, q₂) = split (c + d * 256) d c hc (omega arith) in
    let two : n / 65536 ≡ c + d * 256 = sym (div-div-eq-div-mul n 256 256) ∙ ap (λ (k : ℕ). k / 256) q₀ ∙ q₁ in
    let three : n / 16777216 ≡ d = sym (div-div-eq-div-mul n 65536 256) ∙ ap (λ (k : ℕ). k / 256) two ∙ q₂ in
    let f₁ : n / 256 % 256 ≡ b = ap (λ (k : ℕ). k % 256) q₀ ∙ e₁ in
    let f₂ : n / 65536 % 256 ≡ c = ap (λ (k : ℕ). k % 256) two ∙ e₂ in
    let f₃ : n / 16777216 % 256 ≡ d = ap (λ (k : ℕ). k % 256) three ∙ mod-eq_of_lt hd in
    cc

-- bytes that are there, and are bytes, are those of the number
pub word-known :
    (at : ℕ) (s : List ℕ) → at + 4 ≤ length s →
    get_or s at 0 < 256 → get_or s (at + 1) 0 < 256 → get_or s (at + 2) 0 < 256 → get_or s (at + 3) 0 < 256 →
    part at (at + 4) s ≡ word_of (word_at at s)
word-known at s h ha hb hc hd =
    let one : (k m : ℕ) → k + 1 ≡ m → at + k < length s → k < 4 → part (at + k) (at + 4) s ≡ get_or s (at + k) 0 ∷ part (at + m) (at + 4) s =
    λ k m e inside before.
    part_cons (at + k) (at + 4) s (omega arith) inside
    ∙ ap (λ (n : ℕ). get_or s (at + k) 0 ∷ part n (at + 4) s) (omega arith) in
    let four : part at (at + 4) s ≡ get_or s at 0 ∷ get_or s (at + 1) 0 ∷ get_or s (at + 2) 0 ∷ get_or s (at + 3) 0 ∷ [] =
    part_cons at (at + 4) s (omega arith) (omega arith)
    ∙ ap (λ (l : List ℕ). get_or s at 0 ∷ l) (one 1 2 refl (omega arith) (omega arith)
    ∙ ap (λ (l : List ℕ). get_or s (at + 1) 0 ∷ l) (one 2 3 refl (omega arith) (omega arith)
    ∙ ap (λ (l : List ℕ). get_or s (at + 2) 0 ∷ l) (one 3 4 refl (omega arith) (omega arith)
    ∙ ap (λ (l : List ℕ). get_or s (at + 3) 0 ∷ l) (part-empty (at + 4) (at + 4) s (omega arith))))) in
    four
    ∙ sym (bytes_word (get_or s at 0) (get_or s (at + 1) 0) (get_or s (at + 2) 0) (get_or s (at + 3) 0) ha hb hc hd)
    ∙ ap word_of (word_bytes at s h)
