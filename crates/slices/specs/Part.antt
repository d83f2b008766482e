-- A part of a list of bytes: those from index `from` up to, not including, index `to`.
-- Assumes nothing.
use Rattle.std.specs.Prelude.{ℕ, ◌-◌, List, take, drop}

-- clipped at the end of s, and empty where `to` is at most `from`
abbrev pub part : ℕ → ℕ → List ℕ → List ℕ
part from to s = take (to - from) (drop from s)
