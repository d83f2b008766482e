-- Each way out of a turn: the machine in the new state, with less to go. Assumes nothing.
use Prim.Native.Nat.{ℕ, ◌+◌, ◌-◌, ◌≤◌, ◌<◌}
use native.Mathlib.Omega.{arith}
use mathlib.Core.Path.{◌≡◌, refl, sym, ◌∙◌, ap, subst}
use mathlib.Core.Bool.{Bool, true, false, cond}
use mathlib.Core.List.{List}
use lib.ListN.{length, get_or, set, take}
use Rattle.calculus.specs.Letter.{Letter, byte}
use Rattle.calculus.specs.Limits.{area_limit}
use Rattle.calculus.specs.Term.{Term}
use Rattle.cells.specs.Cell.{letter_in, size_in, packed, Kept, Free}
use Rattle.cells.specs.Chain.{pending_kind, argument_kind, function_kind}
use Rattle.cells.specs.Stage.{Stage}
use Rattle.cells.proofs.Keeping.{stage-kept}
use Rattle.cells.proofs.Opening.{stands-inside, chain-inside}
use Rattle.contracting.specs.Contracting.{Redex, Contractible, Contracts}
use Rattle.emitting.specs.Emitting.{Emittable, Emitted}
use Rattle.tallies.specs.Tallies.{Countable, bumped}
use Rattle.turning.specs.Running.{Running, Focused}
use Rattle.turning.specs.Turning.{Focusable, Turnable, Appliable, Fireable, Turned, TurnedFrom, halt, descended, stepped}
use Rattle.turning.specs.declared.State.{State}
use Rattle.turning.specs.declared.Focus.{Focus}
use Rattle.turning.proofs.Focusing.{into-function, into-argument}
use Rattle.turning.proofs.States as states

-- another turn counts as one
turn_one : (b : Bool) → b ≡ true → ◌≡◌ {A = ℕ} (cond b 1 0) 1
turn_one b e = ap (λ (x : Bool). cond {A = ℕ} x 1 0) e

-- and none as less
at_most_one : (b : Bool) → cond b 1 0 ≤ 1
at_most_one true = omega arith
at_most_one false = omega arith

module _ {room : ℕ} {cells area counts : List ℕ} {st : State} (p : Turnable room cells area counts st) where
  -- the part in focus
  pub turn-stage : Stage cells st.place.top st.place.cur st.place.list (take st.place.written area) p.runs.term
  turn-stage = states.stage p.runs p.bounds p.free p.left

  -- a cell can be written
  pub turn-free : Free cells st.place.top
  turn-free = states.free-cell p.runs p.bounds p.free p.left

  -- the cells of the part and of the list are in the arena
  pub turn_inside : (st.place.cur < length cells) × (st.place.list < length cells)
  turn_inside = (omega (arith, stands-inside turn-stage.stands, p.free), omega (arith, chain-inside turn-stage.chain, p.free))

  -- nothing is done, and there is no turn more
  pub turned-halted :
      (cells' : List ℕ) → Kept st.place.top cells cells' →
      Turned room p.first p.used p.most cells area st cells' area counts (halt st)
  turned-halted cells' kept =
      record {
        runs =
            subst
            (λ (b : Bool). Running room p.first p.used p.most cells' area counts st.place.top st.place.cur
            st.place.list st.place.written b st.size st.steps)
            (sym p.left)
            (states.running-moved p.runs (stage-kept (omega arith) kept turn-stage));
        few-more = omega arith;
        falls = omega (arith, turn_one st.go p.goes);
        goes = λ e. let z : ◌≡◌ {A = ℕ} 0 1 = cc e in absurd (omega arith);
      }

  -- another part comes into focus, with one cell more in the list
  pub turned-descended :
      (cells' : List ℕ) (cur : ℕ) →
      Stage cells' (st.place.top + 1) cur st.place.top (take st.place.written area) p.runs.term →
      Turned room p.first p.used p.most cells area st cells' area counts (descended st cur)
  turned-descended cells' cur stage =
      record {
        runs = states.running-moved p.runs stage;
        few-more = omega arith;
        falls = omega (arith, turn_one st.go p.goes, p.free);
        goes = λ e. refl;
      }

  -- a letter can be written, where nothing stands around the part
  pub turn-emittable :
      letter_in (get_or cells st.place.list 0) ≡ pending_kind →
      Emittable cells st.place.top st.place.cur st.place.list area st.place.written
  turn-emittable bare =
      record {
        term = p.runs.term;
        stage = turn-stage;
        bare = bare;
        room = turn-free;
        inside = states.before-end p.runs p.bounds p.free p.left;
      }

  -- it is written
  pub turned-shed :
      (cells' area' : List ℕ) (st' : State) →
      ((t : Term) → Stage cells st.place.top st.place.cur st.place.list (take st.place.written area) t →
      Emitted cells st.place.top st.place.cur area st.place.written t cells' st'.place.top st'.place.cur
      st'.place.list area' st'.place.written st'.place.left) →
      length area' ≡ length area → ¬ (letter_in (get_or cells st.place.cur 0) ≡ byte Letter.stop) →
      (st'.size ≡ st.size) × (st'.steps ≡ st.steps) × (st'.go ≡ st'.place.left) →
      Turned room p.first p.used p.most cells area st cells' area' counts st'
  turned-shed cells' area' st' emits long other same =
      let emitted = emits p.runs.term turn-stage in
      let before = states.before-end p.runs p.bounds p.free p.left in
      let run =
      states.running-shed p.runs cells' st'.place.top st'.place.cur st'.place.list area' st'.place.written
      st'.place.left emitted before long other in
      record {
        runs =
            subst
            (λ (n : ℕ). Running room p.first p.used p.most cells' area' counts st'.place.top st'.place.cur
            st'.place.list st'.place.written st'.place.left n st'.steps)
            (sym same.0)
            (subst
            (λ (n : ℕ). Running room p.first p.used p.most cells' area' counts st'.place.top st'.place.cur
            st'.place.list st'.place.written st'.place.left st.size n)
            (sym same.1)
            run);
        few-more = omega (arith, emitted.one_more);
        falls =
            omega (
              arith,
              turn_one st.go p.goes,
              at_most_one st'.go,
              emitted.higher,
              emitted.onward,
              before,
              same.1,
            );
        goes = λ e. sym same.2 ∙ e;
      }

  -- an application can come into focus
  pub turn-focusable :
      (¬ (letter_in (get_or cells st.place.cur 0) ≡ byte Letter.stop) → ¬ (letter_in (get_or cells st.place.list 0) ≡ pending_kind)) →
      Focusable cells st.place.cur st.place.list
  turn-focusable applied =
      record {
        top = st.place.top;
        front = take st.place.written area;
        term = p.runs.term;
        stage = turn-stage;
        inside = omega (arith, p.free);
        applied = applied;
      }

  -- it has come into focus
  abbrev pub turn-appliable :
      {f : Focus} →
      ((top : ℕ) (front : List ℕ) (t : Term) → Stage cells top st.place.cur st.place.list front t →
      Focused cells top f.function f.argument f.rest front t) →
      Appliable room cells counts st f
  turn-appliable focuses =
      record { area = area; turnable = p; focused = focuses st.place.top (take st.place.written area) p.runs.term turn-stage }

module _ {room : ℕ} {cells counts : List ℕ} {st : State} {f : Focus} (p : Appliable room cells counts st f) where
  -- the same turn, its cells and its state by other names
  turned_by :
      {cells' cells'' counts' : List ℕ} {st' st'' : State} → cells'' ≡ cells' → st'' ≡ st' → TurnedFrom p cells' counts' st' →
      TurnedFrom p cells'' counts' st''
  turned_by {cells'} {cells''} {counts'} {st'} {st''} e h turned =
      subst (λ (l : List ℕ). TurnedFrom p l counts' st'') (sym e) (subst (TurnedFrom p cells' counts') (sym h) turned)

  -- the cells of both are in the arena
  pub focus-inside : (f.function < length cells) × (f.argument < length cells) × (f.rest < st.place.top)
  focus-inside = (
    omega (arith, stands-inside p.focused.function-stands, p.turnable.free),
    omega (arith, stands-inside p.focused.argument-stands, p.turnable.free),
    chain-inside p.focused.chain,
  )

  -- a cell of the list can be written for either
  pub focus-free : Free cells st.place.top × (f.function < 65536) × (f.argument < 65536) × (f.rest < 65536)
  focus-free =
      let free = turn-free p.turnable in (
        free,
        omega (arith, focus-inside, free.few),
        omega (arith, focus-inside, free.few),
        omega (arith, focus-inside, free.few, free.free),
      )

  -- into the function
  pub turned-function :
      {cells' : List ℕ} {st' : State} → cells' ≡ set cells st.place.top (packed argument_kind f.argument f.rest 0) →
      st' ≡ descended st f.function → TurnedFrom p cells' counts st'
  turned-function linked same =
      turned_by linked same
      (turned-descended p.turnable (set cells st.place.top (packed argument_kind f.argument f.rest 0)) f.function
      (into-function (turn-free p.turnable) p.focused))

  -- into the argument of a pair
  pub turned-argument :
      {cells' : List ℕ} {st' : State} → letter_in (get_or cells f.function 0) ≡ byte Letter.B →
      cells' ≡ set cells st.place.top (packed function_kind f.function f.rest 0) → st' ≡ descended st f.argument →
      TurnedFrom p cells' counts st'
  turned-argument pair linked same =
      turned_by linked same
      (turned-descended p.turnable (set cells st.place.top (packed function_kind f.function f.rest 0)) f.argument
      (into-argument (turn-free p.turnable) p.focused pair))

  -- no step is left
  pub turned-spent : {st' : State} → st' ≡ halt st → TurnedFrom p cells counts st'
  turned-spent same = turned_by refl same (turned-halted p.turnable cells (λ i h. refl))

-- ---- a rule applied

module _ {room : ℕ} {cells counts : List ℕ} {st : State} {f : Focus} (q : Fireable room cells counts st f) where
  -- the application in focus is a redex
  pub fire-redex :
      (p : Appliable room cells counts st f) →
      Redex cells st.place.top f.function f.argument p.focused.function p.focused.argument
  fire-redex p =
      record {
        function-stands = p.focused.function-stands;
        argument-stands = p.focused.argument-stands;
        no_function = q.no_function;
        no_argument = q.no_argument;
      }

  -- a rule can be applied to it
  pub fire-contractible : Contractible cells st.place.top f.function f.argument
  fire-contractible =
      let t = q.appliable.turnable in
      states.contractible t.runs t.bounds t.free t.left q.appliable.focused q.no_function q.no_argument

  module _
      {cells' : List ℕ} {rule top' result : ℕ}
      (contracts :
      (t u : Term) → Redex cells st.place.top f.function f.argument t u →
      Contracts cells st.place.top t u cells' rule top' result)
      (p : Appliable room cells counts st f)
    where
      -- the rule was applied
      con : Contracts cells st.place.top p.focused.function p.focused.argument cells' rule top' result
      con = contracts p.focused.function p.focused.argument (fire-redex p)

      -- the result's cell is in the arena, by at most three cells more
      pub fire-result : (result < length cells) × (st.place.top ≤ top') × (top' ≤ st.place.top + 3)
      fire-result = (omega (arith, stands-inside con.stands, con.few-more, p.turnable.free), con.higher, con.few-more)

      -- its rule's count can take one more
      pub fire-countable : Countable counts rule
      fire-countable =
          let t = p.turnable in
          states.countable t.runs t.bounds t.free t.left p.focused con q.some

      -- no room
      pub turned-no-room : {st' : State} → st' ≡ halt st → TurnedFrom p cells' counts st'
      turned-no-room same = turned_by p refl same (turned-halted p.turnable cells' con.kept)

      -- a step
      pub turned-stepped :
          (counts' : List ℕ) (size' : ℕ) → counts' ≡ bumped counts rule →
          size' ≡
          st.size + size_in (get_or cells' result 0) - (1 + size_in (get_or cells f.function 0) + size_in (get_or cells f.argument 0)) →
          size' ≤ room → TurnedFrom p cells' counts' (stepped st top' result f.rest size')
      turned-stepped counts' size' bump sized fits =
          let t = p.turnable in
          record {
            runs =
                states.running-stepped t.runs t.bounds t.free t.left p.focused con counts' size' (st.steps - 1)
                (omega (arith, q.some)) bump sized fits;
            few-more = con.few-more;
            falls = omega (arith, turn_one st.go t.goes, q.some, con.higher);
            goes = λ e. refl;
          }

  -- the term is no larger than an area
  pub fire-limited : st.size ≤ area_limit
  fire-limited =
      let t = q.appliable.turnable in
      omega (arith, t.runs.sized, states.term_fits t.runs t.bounds t.free t.left, t.bounds.limited)

  -- the redex is no larger than the term
  pub fire-small : 1 + size_in (get_or cells f.function 0) + size_in (get_or cells f.argument 0) ≤ st.size
  fire-small =
      let t = q.appliable.turnable in
      (states.redex-size t.runs t.bounds t.free t.left q.appliable.focused).1
