-- The buffer that holds a field's first bytes: one byte more is one store, and what is read back is the field. Assumes nothing.
use Prim.Native.Nat.{ℕ, suc, ◌≤◌, ◌<◌}
use native.Mathlib.Numerals.{add-one}
use native.Mathlib.Decide.{dec_lt}
use native.Mathlib.Omega.{arith}
use mathlib.Core.Path.{◌≡◌, sym, ◌∙◌, ap, ap₂}
use mathlib.Core.List.{List, [], ◌∷◌, ◌++◌, append-nil}
use lib.ListN.{length, take, drop, set, get_or, length-append, length-take, drop_of_length-le}
use lib.Seq.{take_all, take-nil, take-take, take-append-le, set-append_seam, set_out, drop-cons, append_snoc}
use Rattle.line_states.specs.Kept.{kept_in}

-- nothing kept
pub kept-none : (d : List ℕ) → kept_in d [] ≡ d
kept-none d = ap (λ (l : List ℕ). l ++ d) (take-nil (length d))

module _ (d t : List ℕ) (b : ℕ) where
  longer : length (t ++ (b ∷ [])) ≡ suc (length t)
  longer = length-append t (b ∷ []) ∙ add-one (length t)

  -- where the buffer has room for it
  kept-room : length t < length d → set (kept_in d t) (length t) b ≡ kept_in d (t ++ (b ∷ []))
  kept-room h =
      let front : take (length d) t ≡ t = take_all (length d) t (omega arith) in
      let front' : take (length d) (t ++ (b ∷ [])) ≡ t ++ (b ∷ []) = take_all (length d) (t ++ (b ∷ [])) (omega (arith, longer)) in
      ap₂ (λ (u r : List ℕ). set (u ++ r) (length t) b) front (drop-cons d (length t) 0 h)
      ∙ set-append_seam t (get_or d (length t) 0) (drop (suc (length t)) d) b
      ∙ sym (append_snoc t b (drop (suc (length t)) d))
      ∙ sym (ap₂ (λ (u : List ℕ) (n : ℕ). u ++ drop n d) front' longer)

  -- where it has none
  kept_full : length d ≤ length t → set (kept_in d t) (length t) b ≡ kept_in d (t ++ (b ∷ []))
  kept_full h =
      let none : (n : ℕ) → length d ≤ n → drop n d ≡ [] = λ n k. drop_of_length-le d k in
      let short : length (take (length d) t ++ drop (length t) d) ≤ length t =
      omega (
        arith,
        ap length (ap (λ (l : List ℕ). take (length d) t ++ l) (none (length t) h) ∙ append-nil (take (length d) t)),
        length-take (length d) t,
      ) in
      set_out (kept_in d t) (length t) b short
      ∙ ap₂ (λ (u r : List ℕ). u ++ r) (sym (take-append-le (length d) t (b ∷ []) h))
      (none (length t) h ∙ sym (none (length (t ++ (b ∷ []))) (omega (arith, longer))))

  -- one byte more is one store behind the bytes that are kept
  pub kept_byte : set (kept_in d t) (length t) b ≡ kept_in d (t ++ (b ∷ []))
  kept_byte = go (dec_lt (length t) (length d))
    where
      go : Dec (length t < length d) → set (kept_in d t) (length t) b ≡ kept_in d (t ++ (b ∷ []))
      go (yes h) = kept-room h
      go (no h) = kept_full (omega arith)

-- of as many bytes as are kept, any number is read back
pub kept-take : (d t : List ℕ) (n : ℕ) → n ≤ length d → n ≤ length t → take n (kept_in d t) ≡ take n t
kept-take d t n h k =
    take-append-le n (take (length d) t) (drop (length t) d) (omega (arith, length-take (length d) t)) ∙ take-take n (length d) t h
