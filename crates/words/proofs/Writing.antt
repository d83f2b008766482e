-- From the tests and the turns of `append_words` to one write of all numbers: each way out as one law. Assumes nothing.
use Prim.Native.Nat.{ℕ, ◌+◌, ◌*◌, ◌≤◌, ◌<◌}
use native.Mathlib.Omega.{arith}
use mathlib.Core.Path.{◌≡◌, sym, ap, subst}
use mathlib.Core.List.{List}
use lib.ListN.{length, take, get_or}
use lib.Seq.{take_all, length-take-le}
use Rattle.slices.specs.Wrote.{Wrote}
use Rattle.slices.proofs.Wrote.{wrote_none, wrote_then}
use Rattle.slices.proofs.Appending.{Appends, appended, wrote}
use Rattle.words.specs.Word.{word_of, words_of}
use Rattle.words.proofs.Words.{words_length, words_more}

module _ (numbers : List ℕ) (dst : List ℕ) (at : ℕ) where
  -- the first i numbers written, and room for all
  pub record So (i end : ℕ) (dst' : List ℕ) : Type 0 where
    pub within : i ≤ length numbers
    pub room : at + 4 * length numbers ≤ length dst
    pub written : Wrote at end (words_of (take i numbers)) dst dst'

  pub so-start : at + 4 * length numbers ≤ length dst → So 0 at dst
  so-start room = record { within = omega arith; room = room; written = wrote_none at dst (omega arith) }

  -- one number more
  pub so-next :
      (i end end' : ℕ) (dst₁ dst₂ : List ℕ) → So i end dst₁ → i < length numbers →
      Appends end (word_of (get_or numbers i 0)) dst₁ end' dst₂ → So (i + 1) end' dst₂
  so-next i end end' dst₁ dst₂ so h e =
      let first = so.written in
      let so_far : end ≡ at + 4 * i = omega (arith, first.ends, words_length (take i numbers), length-take-le i numbers so.within) in
      let next : Wrote end end' (word_of (get_or numbers i 0)) dst₁ dst₂ =
      wrote end (word_of (get_or numbers i 0)) dst₁ (omega (arith, first.size, so.room)) e in
      record {
        within = omega arith;
        room = so.room;
        written = subst (λ (l : List ℕ). Wrote at end' l dst dst₂) (sym (words_more i numbers h)) (wrote_then first next);
      }

  -- all of them
  pub so-all : (i end : ℕ) (dst' : List ℕ) → So i end dst' → length numbers ≤ i → Appends at (words_of numbers) dst end dst'
  so-all i end dst' so h =
      appended at (words_of numbers) dst
      (subst (λ (l : List ℕ). Wrote at end l dst dst') (ap words_of (take_all i numbers h)) so.written)
