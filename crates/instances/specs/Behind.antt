-- The simple type behind the first byte of a text: the U of `*` U D and of `>` U T.
-- REQUIREMENTS, Types.
use Rattle.std.specs.Prelude.{ℕ, cond, List, [], leb, length}
use Rattle.slices.specs.Part.{part}
use Rattle.types.specs.Scan.{simple_end}

-- the simple type that stands behind the first byte, and nothing where none does
unfoldable pub simple_behind : List ℕ → List ℕ
simple_behind bytes = cond (leb (simple_end bytes 1) (length bytes)) (part 1 (simple_end bytes 1) bytes) []
