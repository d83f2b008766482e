-- The part in focus, the application around it, and what is looked into next. Assumes nothing.
use Prim.Native.Nat.{ℕ, ◌+◌, ◌<◌}
use native.Mathlib.Omega.{arith}
use mathlib.Core.Path.{◌≡◌, refl, sym, ◌∙◌, ap, subst}
use mathlib.Core.Bool.{Bool, true, false}
use mathlib.Core.List.{List, [], ◌∷◌, ◌++◌}
use lib.ListN.{length, get_or, set}
use borrow.Author.Tests.{eqb-true, eqb-false}
use lib.Dec.{eqb}
use Rattle.calculus.specs.Letter.{Letter, byte}
use Rattle.calculus.specs.Term.{Term, text, size}
use Rattle.calculus.proofs.PrefixCode.{size_positive}
use Rattle.contexts.specs.Frames.{Frame, plugged, texts}
use Rattle.contexts.proofs.Front.{front-before}
use Rattle.cells.specs.Cell.{letter_in, first_in, second_in, packed, Free}
use Rattle.cells.specs.Stands.{Stands, Two}
use Rattle.cells.specs.Chain.{pending_kind, argument_kind, function_kind, Pending, Chain}
use Rattle.cells.specs.Stage.{Stage}
use Rattle.cells.proofs.Keeping.{kept_set, stands-kept}
use Rattle.cells.proofs.Opening.{chain-inside, at_first, opened-two}
use Rattle.cells.proofs.Building.{chain-argument, chain-function}
use Rattle.turning.specs.Running.{Focused}
use Rattle.turning.specs.Turning.{Both}

-- ---- the part in focus

module _ {cells : List ℕ} {top cur list : ℕ} {front : List ℕ} {t : Term} (stage : Stage cells top cur list front t) where
  -- more letters are left than stand in front
  pub stage-before : length front < size t
  stage-before =
      let b = front-before t front stage.focus stage.frames (texts stage.pending) stage.spelt in
      omega (arith, b, size_positive stage.focus)

-- the same cells, by other names
pub focused_by :
    {cells : List ℕ} {top f a rest f' a' rest' : ℕ} {front : List ℕ} {t : Term} → f' ≡ f → a' ≡ a → rest' ≡ rest →
    Focused cells top f a rest front t → Focused cells top f' a' rest' front t
focused_by {cells} {top} {f} {a} {rest} {f'} {a'} {rest'} {front} {t} p q r on =
    subst (λ (i : ℕ). Focused cells top i a' rest' front t) (sym p)
    (subst (λ (i : ℕ). Focused cells top f i rest' front t) (sym q) (subst (λ (i : ℕ). Focused cells top f a i front t) (sym r) on))

-- a part that is an application: it is in focus itself
pub focus-here :
    {cells : List ℕ} {top cur list : ℕ} {front : List ℕ} {t : Term} → Stage cells top cur list front t →
    letter_in (get_or cells cur 0) ≡ byte Letter.stop →
    Focused cells top (first_in (get_or cells cur 0)) (second_in (get_or cells cur 0)) list front t
focus-here {cells} {top} {cur} {list} {front} {t} stage e =
    let (f, a, same, function, argument) = opened-two Two.two-app stage.stands e in
    record {
      function = f;
      argument = a;
      frames = stage.frames;
      pending = stage.pending;
      function-stands = function;
      argument-stands = argument;
      chain = stage.chain;
      spelt = stage.spelt ∙ ap (λ (x : Term). front ++ (text (plugged x stage.frames) ++ texts stage.pending)) same;
    }

-- a part that is the function of the innermost application around it
pub focus-argument :
    {cells : List ℕ} {top cur list : ℕ} {front : List ℕ} {t : Term} → Stage cells top cur list front t →
    letter_in (get_or cells list 0) ≡ argument_kind →
    Focused cells top cur (first_in (get_or cells list 0)) (second_in (get_or cells list 0)) front t
focus-argument {cells} {top} {cur} {list} {front} {t} stage e = go stage.frames stage.chain stage.spelt
  where
    bare : {i : ℕ} {terms : List Term} → letter_in (get_or cells i 0) ≡ argument_kind → ¬ Pending cells top i terms
    bare e (Pending.end h k) = omega (arith, e, k)
    bare e (Pending.more c before s rest) = omega (arith, e, c.lettered)

    go :
        (frames : List Frame) → Chain cells top stage.pending list frames →
        text t ≡ front ++ (text (plugged stage.focus frames) ++ texts stage.pending) →
        Focused cells top cur (first_in (get_or cells list 0)) (second_in (get_or cells list 0)) front t
    go [] (Chain.none p) spelt = absurd (bare e p)
    go (Frame.argument a ∷ frames) (Chain.argument c before s rest) spelt =
        record {
          function = stage.focus;
          argument = a;
          frames = frames;
          pending = stage.pending;
          function-stands = stage.stands;
          argument-stands = at_first c s;
          chain = subst (λ (i : ℕ). Chain cells top stage.pending i frames) (sym c.second_is) rest;
          spelt = spelt;
        }
    go (Frame.function u s ∷ frames) (Chain.function c before p rest) spelt = absurd (omega (arith, e, c.lettered))

-- a part that is the argument of the innermost application around it
pub focus-function :
    {cells : List ℕ} {top cur list : ℕ} {front : List ℕ} {t : Term} → Stage cells top cur list front t →
    ¬ (letter_in (get_or cells list 0) ≡ pending_kind) → ¬ (letter_in (get_or cells list 0) ≡ argument_kind) →
    Focused cells top (first_in (get_or cells list 0)) cur (second_in (get_or cells list 0)) front t
focus-function {cells} {top} {cur} {list} {front} {t} stage n m = go stage.frames stage.chain stage.spelt
  where
    bare : {i : ℕ} {terms : List Term} → ¬ (letter_in (get_or cells i 0) ≡ pending_kind) → ¬ Pending cells top i terms
    bare n (Pending.end h k) = n k
    bare n (Pending.more c before s rest) = n c.lettered

    go :
        (frames : List Frame) → Chain cells top stage.pending list frames →
        text t ≡ front ++ (text (plugged stage.focus frames) ++ texts stage.pending) →
        Focused cells top (first_in (get_or cells list 0)) cur (second_in (get_or cells list 0)) front t
    go [] (Chain.none p) spelt = absurd (bare n p)
    go (Frame.argument a ∷ frames) (Chain.argument c before s rest) spelt = absurd (m c.lettered)
    go (Frame.function u s ∷ frames) (Chain.function c before p rest) spelt =
        record {
          function = Term.B u s;
          argument = stage.focus;
          frames = frames;
          pending = stage.pending;
          function-stands = at_first c p;
          argument-stands = stage.stands;
          chain = subst (λ (i : ℕ). Chain cells top stage.pending i frames) (sym c.second_is) rest;
          spelt = spelt;
        }

-- ---- looking into the application in focus

module _
    {cells : List ℕ} {top f a rest : ℕ} {front : List ℕ} {t : Term} (room : Free cells top) (on : Focused cells top f a rest front t)
  where
    -- into its function
    pub into-function : Stage (set cells top (packed argument_kind a rest 0)) (top + 1) f top front t
    into-function =
        let kept = kept_set cells top top (packed argument_kind a rest 0) (omega arith) in
        record {
          focus = on.function;
          frames = Frame.argument on.argument ∷ on.frames;
          pending = on.pending;
          stands = stands-kept (omega arith) kept on.function-stands;
          chain = chain-argument cells top room on.argument-stands (chain-inside on.chain) on.chain;
          spelt = on.spelt;
        }

    -- into the argument of its pair
    pub into-argument :
        letter_in (get_or cells f 0) ≡ byte Letter.B → Stage (set cells top (packed function_kind f rest 0)) (top + 1) a top front t
    into-argument e =
        let kept = kept_set cells top top (packed function_kind f rest 0) (omega arith) in
        let (u, s, same, first, second) = opened-two Two.two-B on.function-stands e in
        record {
          focus = on.argument;
          frames = Frame.function u s ∷ on.frames;
          pending = on.pending;
          stands = stands-kept (omega arith) kept on.argument-stands;
          chain =
              chain-function cells top room (subst (Stands cells top f) same on.function-stands) (chain-inside on.chain) on.chain;
          spelt =
              on.spelt
              ∙ ap (λ (x : Term). front ++ (text (plugged (Term.app x on.argument) on.frames) ++ texts on.pending)) same;
        }

-- ---- two tests

-- the first holds, and the second is tested
pub both_tested : {X : Type 0} (l m n : ℕ) → X → l ≡ m → Both X (m ≡ n) (eqb l n)
both_tested {X} l m n x same = go (eqb l n) refl
  where
    go : (b : Bool) → eqb l n ≡ b → Both X (m ≡ n) b
    go true e = Both.both x (sym same ∙ eqb-true l n e)
    go false e = Both.not-both (λ y z. eqb-false l n e (same ∙ z))

-- both hold, where the answer says so
pub both_taken : {X Y : Type 0} {b : Bool} → b ≡ true → Both X Y b → X × Y
both_taken e (Both.both x y) = (x, y)
both_taken e (Both.not-both n) = let z : ◌≡◌ {A = ℕ} 0 1 = cc e in absurd (omega arith)

-- not both, where it says so
pub both_left : {X Y : Type 0} {b : Bool} → b ≡ false → Both X Y b → X → ¬ Y
both_left e (Both.both x y) = let z : ◌≡◌ {A = ℕ} 0 1 = cc e in absurd (omega arith)
both_left e (Both.not-both n) = n
