-- The innermost application around the part in focus becomes a cell: the terms stay, and one frame is gone. Assumes nothing.
use Prim.Native.Nat.{ℕ, suc, ◌+◌, ◌<◌}
use native.Mathlib.Omega.{arith}
use mathlib.Core.Path.{◌≡◌, sym, ◌∙◌, ap, subst}
use mathlib.Core.List.{List, ◌++◌}
use lib.ListN.{length, get_or, set, length-set}
use Rattle.calculus.specs.Letter.{Letter, byte}
use Rattle.calculus.specs.Term.{Term, text}
use Rattle.contexts.specs.Frames.{Frame, plugged, texts}
use Rattle.contexts.proofs.Front.{front-before}
use Rattle.cells.specs.Cell.{letter_in, first_in, second_in, size_in, packed, Free, Joinable}
use Rattle.cells.specs.Stands.{Stands, Two}
use Rattle.cells.specs.Chain.{pending_kind, argument_kind, Chain}
use Rattle.cells.specs.Stage.{Stage}
use Rattle.cells.proofs.Keeping.{kept_set, chain-kept}
use Rattle.cells.proofs.Opening.{chain-inside}
use Rattle.cells.proofs.Building.{joinable, node-stands}
use Rattle.emitting.specs.Closing.{Roomy, Closable, Closed}
use Rattle.emitting.proofs.Listing.{argument-frame, function-frame}

-- the cell of the application of the cell x to the cell y
abbrev applied_cell : (cells : List ℕ) (x y : ℕ) → ℕ
applied_cell cells x y = packed (byte Letter.stop) x y (1 + size_in (get_or cells x 0) + size_in (get_or cells y 0))

-- the arena with that cell
abbrev applied : (cells : List ℕ) (top x y : ℕ) → List ℕ
applied cells top x y = set cells top (applied_cell cells x y)

module _ {cells : List ℕ} {top cur list : ℕ} where
  -- ---- the first frame

  -- the first frame with the part is the application of the cell x to the cell y, and the list at z is the rest
  record Taken {front : List ℕ} {t : Term} (s : Stage cells top cur list front t) (x y z : ℕ) : Type 0 where
    function : Term
    argument : Term
    rest : List Frame
    first : Stands cells top x function
    second : Stands cells top y argument
    chain : Chain cells top s.pending z rest
    same : plugged s.focus s.frames ≡ plugged (Term.app function argument) rest
    fewer : length s.frames ≡ suc (length rest)
    nearer : z < list

  module _
      {front : List ℕ} {t : Term} (s : Stage cells top cur list front t) (x z : ℕ)
      (x-is : x ≡ first_in (get_or cells list 0)) (z-is : z ≡ second_in (get_or cells list 0)) where
    -- an argument: the part is applied to it
    taken-argument : letter_in (get_or cells list 0) ≡ argument_kind → Taken s cur x z
    taken-argument e =
        let (a, rest, one, stands, chain, before) = argument-frame s.chain e in
        record {
          function = s.focus;
          argument = a;
          rest = rest;
          first = s.stands;
          second = subst (λ (k : ℕ). Stands cells top k a) (sym x-is) stands;
          chain = subst (λ (k : ℕ). Chain cells top s.pending k rest) (sym z-is) chain;
          same = ap (plugged s.focus) one;
          fewer = ap length one;
          nearer = omega (arith, z-is, before);
        }

    -- a pair: it is applied to the part
    taken-function : ¬ (letter_in (get_or cells list 0) ≡ pending_kind) → ¬ (letter_in (get_or cells list 0) ≡ argument_kind) → Taken s x cur z
    taken-function n m =
        let (u, v, rest, one, stands, chain, before) = function-frame s.chain n m in
        record {
          function = Term.B u v;
          argument = s.focus;
          rest = rest;
          first = subst (λ (k : ℕ). Stands cells top k (Term.B u v)) (sym x-is) stands;
          second = s.stands;
          chain = subst (λ (k : ℕ). Chain cells top s.pending k rest) (sym z-is) chain;
          same = ap (plugged s.focus) one;
          fewer = ap length one;
          nearer = omega (arith, z-is, before);
        }

  -- ---- its application as a cell

  module _ {x y z : ℕ} where
    -- the application is the part in focus now, in the other frames
    stage-taken :
        Free cells top → {front : List ℕ} {t : Term} (s : Stage cells top cur list front t) (k : Taken s x y z) →
        (s' : Stage (applied cells top x y) (top + 1) top z front t) × (length s.frames ≡ suc (length s'.frames))
    stage-taken room {front} s k =
        let kept = kept_set cells top top (applied_cell cells x y) (omega arith) in (
          record {
            focus = Term.app k.function k.argument;
            frames = k.rest;
            pending = s.pending;
            stands = node-stands cells top room k.first k.second Two.two-app;
            chain = chain-kept (omega arith) kept k.chain;
            spelt = s.spelt ∙ ap (λ (u : Term). front ++ (text u ++ texts s.pending)) k.same;
          },
          k.fewer,
        )

    -- and the room that is left is enough for them
    roomy-taken :
        Free cells top → {front : List ℕ} {t : Term} (r : Roomy cells top cur list front t) → Taken r.stage x y z →
        Roomy (applied cells top x y) (top + 1) top z front t
    roomy-taken room {front} {t} r k =
        let (s', fewer) = stage-taken room r.stage k in
        let long = length-set cells top (applied_cell cells x y) in
        record {
          stage = s';
          room = omega (arith, r.room, fewer, long);
        }

  module _ (given : Closable cells top cur list) where
    -- the list is in the arena
    pub frame-inside : list < length cells
    frame-inside = omega (arith, chain-inside given.roomy.stage.chain, given.roomy.room)

    module _ (x y z : ℕ) (taken : (front : List ℕ) (t : Term) (s : Stage cells top cur list front t) → Taken s x y z) where
      -- the frame of the term that has room; it is the same for every term
      one : Taken given.roomy.stage x y z
      one = taken given.front given.term given.roomy.stage

      -- there is room for the application
      room-taken : Free cells top
      room-taken = record { few = given.few; free = omega (arith, given.roomy.room, one.fewer) }

      -- and its size is in range
      joinable-taken : Joinable cells top x y
      joinable-taken =
          let s = given.roomy.stage in
          let spelt = s.spelt ∙ ap (λ (u : Term). given.front ++ (text u ++ texts s.pending)) one.same in
          let within =
          front-before given.term given.front (Term.app one.function one.argument) one.rest (texts s.pending) spelt in
          joinable cells top room-taken one.first one.second (omega (arith, within, given.roomy.room, given.few, one.fewer))

      -- every term stays, and so does its room; the list goes on before the frame
      closed-taken : (cells' : List ℕ) → cells' ≡ applied cells top x y → Closed cells top cur list cells' (top + 1) top z × (z < list)
      closed-taken cells' made =
          let closed : Closed cells top cur list (applied cells top x y) (top + 1) top z =
          record {
            staged = λ front t s. (stage-taken room-taken s (taken front t s)).0;
            roomy = λ front t r. roomy-taken room-taken r (taken front t r.stage);
          } in
          (subst (λ (l : List ℕ). Closed cells top cur list l (top + 1) top z) (sym made) closed, one.nearer)

    -- ---- by what is read from the list's cell

    module _
        (b x z : ℕ) (read : b ≡ letter_in (get_or cells list 0)) (x-is : x ≡ first_in (get_or cells list 0))
        (z-is : z ≡ second_in (get_or cells list 0)) where
      -- an argument can be joined to the part
      pub joinable-argument : b ≡ argument_kind → Joinable cells top cur x
      joinable-argument e = joinable-taken cur x z (λ front t s. taken-argument s x z x-is z-is (sym read ∙ e))

      -- and is taken into it
      pub closed-argument :
          b ≡ argument_kind → (cells' : List ℕ) → cells' ≡ applied cells top cur x →
          Closed cells top cur list cells' (top + 1) top z × (z < list)
      closed-argument e = closed-taken cur x z (λ front t s. taken-argument s x z x-is z-is (sym read ∙ e))

      module _ (some : ¬ (letter_in (get_or cells list 0) ≡ pending_kind)) where
        -- a pair can be joined to the part
        pub joinable-function : ¬ (b ≡ argument_kind) → Joinable cells top x cur
        joinable-function n = joinable-taken x cur z (λ front t s. taken-function s x z x-is z-is some (λ e. n (read ∙ e)))

        -- and is taken into it
        pub closed-function :
            ¬ (b ≡ argument_kind) → (cells' : List ℕ) → cells' ≡ applied cells top x cur →
            Closed cells top cur list cells' (top + 1) top z × (z < list)
        closed-function n = closed-taken x cur z (λ front t s. taken-function s x z x-is z-is some (λ e. n (read ∙ e)))
