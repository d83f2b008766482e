-- A piece written into a list from index `at` on where it fits, and the index behind it.
-- Assumes nothing.
use Rattle.std.specs.Prelude.{ℕ, ◌+◌, cond, List, ◌++◌, leb, length, take, drop}

-- dst with `piece` from index `at` on; dst as it is where the piece does not fit
unfoldable pub put : ℕ → List ℕ → List ℕ → List ℕ
put at piece dst =
    cond (leb (at + length piece) (length dst)) (take at dst ++ piece ++ drop (at + length piece) dst) dst

-- the index behind the piece; `at` where the piece does not fit
unfoldable pub behind : ℕ → List ℕ → List ℕ → ℕ
behind at piece dst = cond (leb (at + length piece) (length dst)) (at + length piece) at
