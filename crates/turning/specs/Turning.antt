-- What each function of the machine asks for and leaves, by its state. Assumes nothing.
use Rattle.std.specs.Prelude.{ℕ, ◌+◌, ◌-◌, ◌≤◌, ◌<◌, ◌≡◌, Bool, true, false, List, length, get_or, take}
use Rattle.calculus.specs.Letter.{Letter, byte}
use Rattle.calculus.specs.Term.{Term}
use Rattle.cells.specs.Cell.{letter_in}
use Rattle.cells.specs.Chain.{pending_kind}
use Rattle.cells.specs.Stage.{Stage}
use Rattle.turning.specs.Running.{Running, Bounds, Focused, to_go}
use Rattle.turning.specs.declared.State.{State}
use Rattle.turning.specs.declared.Focus.{Focus}

-- the machine in that state
abbrev pub Runs : (room : ℕ) (first : Term) (used : List ℕ) (most : ℕ) (cells area counts : List ℕ) (st : State) → Type 0
Runs room first used most cells area counts st =
    Running room first used most cells area counts st.place.top st.place.cur st.place.list st.place.written
    st.place.left st.size st.steps

-- what falls with each turn, in that state
abbrev pub to_go_in : (cells area : List ℕ) (st : State) → ℕ
to_go_in cells area st = to_go cells area st.place.top st.place.written st.steps st.go

-- `Both X Y answer`: whether both hold
pub data Both (X Y : Type 0) : Bool → Type 0 where
  both : X → Y → Both X Y true
  not-both : (X → ¬ Y) → Both X Y false

-- the state in which a term of that many letters, which was just loaded, is the part in focus
abbrev pub start : (len most : ℕ) → State
start len most =
    record { place = record { top = len + 1; cur = len; list = 0; written = 0; left = true }; size = len; steps = most; go = true }

-- the state after which there is no turn
abbrev pub halt : State → State
halt st = record { place = st.place; size = st.size; steps = st.steps; go = false }

-- the state with a part of the application in focus, whose cell is `cur`, and one cell more in the list
abbrev pub descended : State → (cur : ℕ) → State
descended st cur =
    record {
      place = record { top = st.place.top + 1; cur = cur; list = st.place.top; written = st.place.written; left = true };
      size = st.size;
      steps = st.steps;
      go = true;
    }

-- the state after a step to the part at `result`, with that size of the whole term
abbrev pub stepped : State → (top result rest size : ℕ) → State
stepped st top result rest size =
    record {
      place = record { top = top; cur = result; list = rest; written = st.place.written; left = true };
      size = size;
      steps = st.steps - 1;
      go = true;
    }

-- a part, and either it is an application or one stands around it
pub record Focusable (cells : List ℕ) (cur list : ℕ) : Type 0 where
  pub top : ℕ
  pub front : List ℕ
  pub term : Term
  pub stage : Stage cells top cur list front term
  pub inside : top ≤ length cells
  pub applied : ¬ (letter_in (get_or cells cur 0) ≡ byte Letter.stop) → ¬ (letter_in (get_or cells list 0) ≡ pending_kind)

-- the machine in a state from which there is another turn, with room for what a turn builds
pub record Turnable (room : ℕ) (cells area counts : List ℕ) (st : State) : Type 0 where
  pub first : Term
  pub used : List ℕ
  pub most : ℕ
  pub runs : Runs room first used most cells area counts st
  pub bounds : Bounds room first used most cells area
  pub free : st.place.top + 3 ≤ length cells
  pub left : st.place.left ≡ true
  pub goes : st.go ≡ true

-- the same, with an application in focus
pub record Appliable (room : ℕ) (cells counts : List ℕ) (st : State) (f : Focus) : Type 0 where
  pub area : List ℕ
  pub turnable : Turnable room cells area counts st
  pub focused : Focused cells st.place.top f.function f.argument f.rest (take st.place.written area) turnable.runs.term

-- the same, where the application in focus is to be looked into no further, and a step is left
pub record Fireable (room : ℕ) (cells counts : List ℕ) (st : State) (f : Focus) : Type 0 where
  pub appliable : Appliable room cells counts st f
  pub some : 0 < st.steps
  pub no_function : ¬ (letter_in (get_or cells f.function 0) ≡ byte Letter.stop)
  pub no_argument : letter_in (get_or cells f.function 0) ≡ byte Letter.B → ¬ (letter_in (get_or cells f.argument 0) ≡ byte Letter.stop)

-- after a turn: the machine in the new state
pub record Turned
    (room : ℕ) (first : Term) (used : List ℕ) (most : ℕ) (cells area : List ℕ) (st : State) (cells' area' counts' : List ℕ) (st' : State)
    : Type 0 where
  pub runs : Runs room first used most cells' area' counts' st'
  pub few-more : st'.place.top ≤ st.place.top + 3
  pub falls : to_go_in cells area st' < to_go_in cells area st
  pub goes : st'.go ≡ true → st'.place.left ≡ true

-- after a turn from an application in focus
abbrev pub TurnedFrom :
    {room : ℕ} {cells counts : List ℕ} {st : State} {f : Focus} → Appliable room cells counts st f →
    (cells' counts' : List ℕ) (st' : State) → Type 0
TurnedFrom {room} {cells} {counts} {st} {f} p cells' counts' st' =
    Turned room p.turnable.first p.turnable.used p.turnable.most cells p.area st cells' p.area counts' st'
