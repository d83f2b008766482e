-- What a text that is written back leaves: it stands at the front of area' up to `end`, and zeros behind it as far as the area goes.
-- Assumes nothing.
use Rattle.std.specs.Prelude.{ℕ, ◌-◌, ◌≡◌, List, ◌++◌, length, replicate}

pub record Back (text area : List ℕ) (end : ℕ) (area' : List ℕ) : Type 0 where
  pub ends : end ≡ length text
  pub left : area' ≡ text ++ replicate (length area - length text) 0
