-- What one write, or several one behind the other, leave: `piece` stands in dst' from index `at` up to `end`, and all else is as in dst.
-- Assumes nothing.
use Rattle.std.specs.Prelude.{ℕ, ◌+◌, ◌≤◌, ◌≡◌, List, ◌++◌, length, take, drop}

pub record Wrote (at end : ℕ) (piece dst dst' : List ℕ) : Type 0 where
  pub ends : end ≡ at + length piece
  pub room : end ≤ length dst
  pub size : length dst' ≡ length dst
  pub front : take end dst' ≡ take at dst ++ piece
  pub rest : drop end dst' ≡ drop end dst
