-- Two numbers and a text, appended at their places, write an entry and its text. Assumes nothing.
use Prim.Native.Nat.{ℕ, ◌+◌, ◌*◌}
use native.Mathlib.Omega.{arith}
use mathlib.Core.Path.{◌≡◌, ◌∙◌, ap}
use mathlib.Core.List.{List, ◌++◌}
use lib.ListN.{length}
use Rattle.slices.specs.Part.{part}
use Rattle.slices.specs.Put.{put}
use Rattle.slices.proofs.Appending.{Appends, wrote, appends-whole}
use Rattle.slices.proofs.Wrote.{wrote_then, wrote-is-put}
use Rattle.words.specs.Word.{word_of}
use Rattle.entries.specs.Store.{entry_size, texts_at}
use Rattle.catalogue.specs.Ready.{Writable}

module _
    (term : List ℕ) (print count used : ℕ) {store store₁ store₂ store₃ : List ℕ} {n₁ n₂ n₃ : ℕ} (room : Writable term store count used)
    (printed : Appends (entry_size * count) (word_of print) store n₁ store₁)
    (sized : Appends n₁ (word_of (length term)) store₁ n₂ store₂)
    (spelt : Appends (texts_at + used) (part 0 (length term) term) store₂ n₃ store₃)
  where
    -- the two numbers are the entry
    entry-wrote : store₂ ≡ put (entry_size * count) (word_of print ++ word_of (length term)) store
    entry-wrote =
        let w₁ = wrote (entry_size * count) (word_of print) store (omega (arith, room.long, room.entry)) printed in
        let w₂ = wrote n₁ (word_of (length term)) store₁ (omega (arith, room.long, room.entry, w₁.ends, w₁.size)) sized in
        wrote-is-put (wrote_then w₁ w₂)

    pub result-wrote : store₃ ≡ put (texts_at + used) term (put (entry_size * count) (word_of print ++ word_of (length term)) store)
    result-wrote =
        let whole = appends-whole (texts_at + used) term store₂ spelt in
        whole.0 ∙ ap (put (texts_at + used) term) entry-wrote
