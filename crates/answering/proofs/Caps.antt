-- The caps on fuel and length change nothing of finishing's answer: over them it is refused, by 3 or by 4, as before. Assumes nothing.
use Prim.Native.Nat.{ℕ, ◌≤◌, ◌<◌, min}
use native.Mathlib.Decide.{dec_le}
use native.Mathlib.Omega.{arith}
use mathlib.Core.Path.{◌≡◌, sym, ◌∙◌, ap₂}
use mathlib.Core.List.{List}
use borrow.Author.Tests.{lt-ltb, le-ltb}
use lib.ListN.{length}
use Rattle.reading.specs.Reply.{Reply}
use Rattle.finishing.specs.Finishing.{After, no_run, finishing_of}
use Rattle.line_states.specs.Fed.{number_cap, length_cap}
use Rattle.line_states.proofs.Caps.{number-exact, number_over, length_over}

module _ (area work : List ℕ) (short : length area ≤ 16384) (room : length area ≤ length work) where
  -- a length over the area
  over-length : (len fuel : ℕ) → length area < len → finishing_of area len work fuel ≡ After.after (Reply.refused 3 0) no_run area work
  unfolding finishing_of
  over-length len fuel h = rw (le-ltb _ _ short, le-ltb _ _ room, lt-ltb _ _ h)

  -- a fuel over 1,000,000
  over-fuel : (len fuel : ℕ) → len ≤ length area → 1000000 < fuel
      → finishing_of area len work fuel ≡ After.after (Reply.refused 4 0) no_run area work
  unfolding finishing_of
  over-fuel len fuel h f = rw (le-ltb _ _ short, le-ltb _ _ room, le-ltb _ _ h, lt-ltb _ _ f)

  -- capped or not, the answer is the same
  pub capped : (len fuel : ℕ) → finishing_of area (min len length_cap) work (min fuel number_cap) ≡ finishing_of area len work fuel
  capped len fuel = go (dec_le len (length area)) (dec_le fuel 1000000)
    where
      go : Dec (len ≤ length area) → Dec (fuel ≤ 1000000)
          → finishing_of area (min len length_cap) work (min fuel number_cap) ≡ finishing_of area len work fuel
      go (no h) f =
          over-length (min len length_cap) (min fuel number_cap) (length_over (length area) len short (omega arith))
          ∙ sym (over-length len fuel (omega arith))
      go (yes h) (yes f) =
          let exact : min len length_cap ≡ len = omega arith in
          ap₂ (λ (k n : ℕ). finishing_of area k work n) exact (number-exact fuel f)
      go (yes h) (no f) =
          over-fuel (min len length_cap) (min fuel number_cap) (omega arith) (number_over 1000000 fuel (omega arith) (omega arith))
          ∙ sym (over-fuel len fuel h (omega arith))
