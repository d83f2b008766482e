-- A line that was fed what was read (REQUIREMENTS, Programs). No contract can say which bytes are read; these say that all that is done
-- with them is to feed them.
use Rattle.std.specs.Prelude.{ℕ, ◌≡◌, List, length, Result, Ok, Err}
use Rattle.std.specs.declared.io.Error.{Error}
use Rattle.feeding.specs.declared.Unread.{Unread}
use Rattle.line_states.specs.declared.Line.{Line}
use Rattle.line_states.specs.State.{State, state, fed}

-- a chunk of that many bytes, fed
pub record Chunk (size : ℕ) (s t : State) : Type 0 where
  pub bytes : List ℕ
  pub sized : length bytes ≡ size
  pub leads : t ≡ fed s bytes

module _ {E : Type 0} where
  -- what one read does to a line by what it answered: as many bytes as it says are fed, and nothing where it failed
  abbrev pub FedBy : Result ℕ E → State → State → Type 0
  FedBy (Ok size) s t = Chunk size s t
  FedBy (Err e) s t = t ≡ s

  -- `ReadOn s t got`: reads one after the other lead from s to t, and the last answered got; before the first one stands 1
  pub data ReadOn (s : State) : State → Result ℕ E → Type 0 where
    unread : ReadOn s s (Ok 1)
    read : {t u : State} {last : Result ℕ E} (got : Result ℕ E) → ReadOn s t last → FedBy got t u → ReadOn s u got

-- `FedAll s r buffer`: reads lead from s to the line that is answered and this buffer, and where the last of them failed, the answer has
-- its error with the line
abbrev pub FedAll : State → Result Line Unread → (buffer : List ℕ) → Type 0
FedAll s (Ok line) buffer = (size : ℕ) × ReadOn {E = Error} s (state line buffer) (Ok size)
FedAll s (Err e) buffer = ReadOn s (state e.line buffer) (Err e.error)
