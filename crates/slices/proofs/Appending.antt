-- What an append ensures, and how it goes with a write: a write is an append, and an append that has room is a write. Assumes nothing.
use Prim.Native.Nat.{ℕ, ◌+◌, ◌≤◌, ◌<◌}
use native.Mathlib.Omega.{arith}
use mathlib.Core.Path.{◌≡◌, sym, ◌∙◌, ap}
use mathlib.Core.List.{List}
use lib.ListN.{length}
use Rattle.slices.specs.Part.{part}
use Rattle.slices.specs.Put.{put, behind}
use Rattle.slices.specs.Wrote.{Wrote}
use Rattle.slices.proofs.Part.{part-all}
use Rattle.slices.proofs.Put.{put-short, behind-fits, behind-short}
use Rattle.slices.proofs.Wrote.{wrote_put, wrote-is-put}

-- what an append ensures
abbrev pub Appends : (at : ℕ) (piece dst : List ℕ) (end : ℕ) (dst' : List ℕ) → Type 0
Appends at piece dst end dst' = (dst' ≡ put at piece dst) × (end ≡ behind at piece dst)

-- a write that has room is an append, and an append that has room is a write
module _ (at : ℕ) (piece dst : List ℕ) where
  pub appended : {end : ℕ} {dst' : List ℕ} → Wrote at end piece dst dst' → Appends at piece dst end dst'
  appended w = (wrote-is-put w, w.ends ∙ sym (behind-fits at piece dst (omega (arith, w.ends, w.room))))

  pub wrote : {end : ℕ} {dst' : List ℕ} → at + length piece ≤ length dst → Appends at piece dst end dst' → Wrote at end piece dst dst'
  wrote room e = wrote_put at piece dst room e.0 e.1

  -- the whole of a piece
  pub appends-whole : {end : ℕ} {dst' : List ℕ} → Appends at (part 0 (length piece) piece) dst end dst' → Appends at piece dst end dst'
  appends-whole e =
      (e.0 ∙ ap (λ (p : List ℕ). put at p dst) (part-all piece), e.1 ∙ ap (λ (p : List ℕ). behind at p dst) (part-all piece))

  -- where a piece has no room, nothing is appended
  pub appends-none : length dst < at + length piece → Appends at piece dst at dst
  appends-none short = (sym (put-short at piece dst short), sym (behind-short at piece dst short))
