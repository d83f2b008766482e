-- The line that the finishing program reads, as a function on the whole input (REQUIREMENTS, Programs): a line of three fields, which are
-- fuel, area size and term.
use Rattle.std.specs.Prelude.{ℕ, Bool, true, false, ◌&&◌, List, leb}
use Rattle.std.proofs.Math.Option.{Option, none, some}
use Rattle.calculus.specs.Limits.{area_limit}
use Rattle.line_states.specs.Parts.{Parts, parts_of}

-- what the line asks for; the term is any bytes but tab and line feed
pub data Request : Type 0 where
  request : (fuel area : ℕ) (term : List ℕ) → Request

abbrev pub request_if : Bool → Request → Option Request
request_if true r = some r
request_if false r = none

-- whether an area size is in range
abbrev pub is_area_size : ℕ → Bool
is_area_size n = leb 1 n && leb n area_limit

-- the three fields, if the area size is in range
abbrev pub request_with : Option Parts → Option Request
request_with none = none
request_with (some (Parts.parts fuel area term)) = request_if (is_area_size area) (Request.request fuel area term)

-- what the input asks for; none where it is of another shape
unfoldable pub request_of : List ℕ → Option Request
request_of input = request_with (parts_of input)
