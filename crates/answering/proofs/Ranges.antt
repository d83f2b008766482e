-- A request's area size is at most 16,384. Assumes nothing.
use Prim.Native.Nat.{ℕ, ◌≤◌}
use mathlib.Core.Path.{◌≡◌, refl}
use mathlib.Core.Bool.{Bool, true, false, ◌&&◌}
use mathlib.Core.List.{List}
use mathlib.Core.Option.{Option, none, some}
use borrow.Author.Tests.{leb-true}
use lib.Dec.{leb}
use Rattle.line_states.specs.Parts.{Parts, parts_of}
use Rattle.finish_line.specs.Request.{Request, request_if, request_with, request_of}

abbrev pub Ranged : Option Request → Type 0
Ranged none = Unit
Ranged (some (Request.request fuel area term)) = area ≤ 16384

with_ranged : (o : Option Parts) → Ranged (request_with o)
with_ranged none = tt
with_ranged (some (Parts.parts fuel area term)) = go (leb 1 area) (leb area 16384) refl
  where
    go : (low high : Bool) → leb area 16384 ≡ high → Ranged (request_if (low && high) (Request.request fuel area term))
    go true true e = leb-true area 16384 e
    go true false e = tt
    go false high e = tt

pub ranged : (input : List ℕ) → Ranged (request_of input)
unfolding request_of
ranged input = with_ranged (parts_of input)
