-- The applications around the part in focus, one after the other, and then the letters of all that is left. Assumes nothing.
use Prim.Native.Nat.{ℕ, zero, suc, ◌+◌, ◌*◌, ◌-◌, ◌≤◌, ◌<◌}
use native.Mathlib.Omega.{arith}
use mathlib.Core.Path.{◌≡◌, refl, sym, ◌∙◌, ap, subst}
use mathlib.Core.Bool.{Bool, true, false}
use mathlib.Core.List.{List, [], ◌∷◌}
use lib.ListN.{length, get_or, take, length-take}
use Rattle.calculus.specs.Term.{Term, text, size}
use Rattle.calculus.proofs.PrefixCode.{length-text, size_positive}
use Rattle.contexts.specs.Frames.{texts}
use Rattle.contexts.proofs.Front.{front-before}
use Rattle.cells.specs.Cell.{cell_limit, letter_in}
use Rattle.cells.specs.Chain.{pending_kind}
use Rattle.cells.specs.Stage.{Stage, At}
use Rattle.cells.proofs.Staging.{part_left, none_left}
use Rattle.emitting.specs.Emitting.{Emittable, Emitted, Unloadable}
use Rattle.emitting.specs.Closing.{Roomy, Closable, Closed}

-- ---- turns of the first loop

-- nothing closed
pub closed_none : (cells : List ℕ) (top cur list : ℕ) → Closed cells top cur list cells top cur list
closed_none cells top cur list = record { staged = λ front t s. s; roomy = λ front t r. r }

-- one part closed, and then another
pub closed_again :
    {cells cells' cells'' : List ℕ} {top cur list top' cur' list' top'' cur'' list'' : ℕ} → Closed cells top cur list cells' top' cur' list' →
    Closed cells' top' cur' list' cells'' top'' cur'' list'' → Closed cells top cur list cells'' top'' cur'' list''
closed_again k l =
    record {
      staged = λ front t s. l.staged front t (k.staged front t s);
      roomy = λ front t r. l.roomy front t (k.roomy front t r);
    }

-- what can be closed can be closed on
pub closable_on :
    {cells cells' : List ℕ} {top cur list top' cur' list' : ℕ} → Closable cells top cur list →
    Closed cells top cur list cells' top' cur' list' →
    length cells' ≡ length cells → Closable cells' top' cur' list'
closable_on given k long =
    record {
      front = given.front;
      term = given.term;
      roomy = k.roomy given.front given.term given.roomy;
      few = omega (arith, given.few, long);
    }

-- ---- what is left of a term

-- as many of a list as its first so many are, are those
take_taken : (k : ℕ) (s : List ℕ) → take (length (take k s)) s ≡ take k s
take_taken zero s = refl
take_taken (suc k) [] = refl
take_taken (suc k) (b ∷ s) = ap (λ (r : List ℕ). b ∷ r) (take_taken k s)

-- a part is left, with its frames: the letters that stand in the area are those in front of it
stage-front :
    {cells : List ℕ} {top cur list : ℕ} {t : Term} (written : ℕ) (area : List ℕ) (s : Stage cells top cur list (take written area) t) →
    size t ≤ length area → (length (take written area) ≡ written) × (written + 2 * length s.frames < size t)
stage-front {t = t} written area s inside =
    let before = front-before t (take written area) s.focus s.frames (texts s.pending) s.spelt in
    let long = length-take written area in
    let some = size_positive s.focus in
    (omega (arith, inside, before, long, some), omega (arith, inside, before, long, some))

module _
    {cells : List ℕ} {top cur list : ℕ} {area : List ℕ} {written : ℕ} (given : Unloadable cells top cur list area written) where
  -- the room of what is left of a term is enough for its frames and its letters
  roomy-left : Roomy cells top cur list (take written area) given.term
  roomy-left =
      let (front, short) = stage-front written area given.stage given.inside in
      record { stage = given.stage; room = omega (arith, front, short, given.room) }

  -- its frames can be closed
  pub unloadable-closable : Closable cells top cur list
  unloadable-closable = record { front = take written area; term = given.term; roomy = roomy-left; few = given.few }

-- ---- turns of the second loop

-- every term of the start is here, with room for what is left of one of them; where a part is left, there is no frame around it
pub record Left
    (cells₀ : List ℕ) (top₀ cur₀ list₀ : ℕ) (front₀ : List ℕ)
    (cells : List ℕ) (top cur list : ℕ) (area : List ℕ) (written : ℕ) (left : Bool)
    : Type 0 where
  pub here : (t : Term) → Stage cells₀ top₀ cur₀ list₀ front₀ t → At cells top cur list (take written area) t left
  pub bare : left ≡ true → letter_in (get_or cells list 0) ≡ pending_kind
  pub term : Term
  pub stage : Stage cells₀ top₀ cur₀ list₀ front₀ term
  pub inside : size term ≤ length area
  pub few : length cells ≤ cell_limit
  pub room : top + (size term - written) ≤ length cells

module _
    {cells₀ : List ℕ} {top₀ cur₀ list₀ : ℕ} (area : List ℕ) {written₀ : ℕ} {cells : List ℕ} {top cur list written : ℕ}
    (closed : Closed cells₀ top₀ cur₀ list₀ cells top cur list) (same : written ≡ written₀) where
  -- when all frames are closed, the terms are those of the start
  pub stage-closed : (t : Term) → Stage cells₀ top₀ cur₀ list₀ (take written₀ area) t → Stage cells top cur list (take written area) t
  stage-closed t s =
      subst (λ (k : ℕ). Stage cells top cur list (take k area) t) (sym same) (closed.staged (take written₀ area) t s)

  -- and what is left begins
  pub left-start :
      Unloadable cells₀ top₀ cur₀ list₀ area written₀ → length cells ≡ length cells₀ → letter_in (get_or cells list 0) ≡ pending_kind →
      Left cells top cur list (take written area) cells top cur list area written true
  left-start given long bare =
      let front = (stage-front written₀ area given.stage given.inside).0 in
      let roomy = closed.roomy (take written₀ area) given.term (roomy-left given) in
      record {
        here = λ t s. At.part s;
        bare = λ e. bare;
        term = given.term;
        stage = stage-closed given.term given.stage;
        inside = given.inside;
        few = omega (arith, given.few, long);
        room = omega (arith, roomy.room, front, same);
      }

module _
    {cells₀ : List ℕ} {top₀ cur₀ list₀ : ℕ} {front₀ : List ℕ}
    {cells : List ℕ} {top cur list : ℕ} {area : List ℕ} {written : ℕ} {left : Bool}
    (given : Left cells₀ top₀ cur₀ list₀ front₀ cells top cur list area written left) where
  -- where a part is left, one of the term that has room is left
  stage-left : left ≡ true → Stage cells top cur list (take written area) given.term
  stage-left e = part_left (given.here given.term given.stage) e

  -- so its letters are not all written
  short-left : left ≡ true → written < size given.term
  short-left e = let short = (stage-front written area (stage-left e) given.inside).1 in omega (arith, short)

  -- where a part is left, its first letter has room in the area, and so has a cell in the arena
  pub left-emittable : left ≡ true → Emittable cells top cur list area written
  left-emittable e =
      record {
        term = given.term;
        stage = stage-left e;
        bare = given.bare e;
        room = record { few = given.few; free = omega (arith, short-left e, given.room) };
        inside = omega (arith, short-left e, given.inside);
      }

  module _
      {cells' : List ℕ} {top' cur' list' : ℕ} {area' : List ℕ} {written' : ℕ} {left' : Bool} (e : left ≡ true)
      (emitted :
      (t : Term) → Stage cells top cur list (take written area) t →
      Emitted cells top cur area written t cells' top' cur' list' area' written' left') where
    -- the letter is one of the term that has room
    one : Emitted cells top cur area written given.term cells' top' cur' list' area' written' left'
    one = emitted given.term (stage-left e)

    -- the letters left are fewer
    pub left_less : (long : ℕ) → length area ≡ long → long - written' < long - written
    left_less long same = omega (arith, one.onward, short-left e, given.inside, same)

    -- and the rest is left
    pub left-on :
        (left' ≡ true → letter_in (get_or cells' list' 0) ≡ pending_kind) → length cells' ≡ length cells → length area' ≡ length area →
        Left cells₀ top₀ cur₀ list₀ front₀ cells' top' cur' list' area' written' left'
    left-on bare long wide =
        record {
          here = λ t s.
              subst (λ (k : ℕ). At cells' top' cur' list' (take k area') t left') (sym one.onward)
              (emitted t (part_left (given.here t s) e)).at;
          bare = bare;
          term = given.term;
          stage = given.stage;
          inside = omega (arith, given.inside, wide);
          few = omega (arith, given.few, long);
          room = omega (arith, given.room, one.one_more, one.onward, short-left e, long);
        }

  -- where none is left, the text of every term stands in the area
  pub left-none : left ≡ false → (t : Term) → Stage cells₀ top₀ cur₀ list₀ front₀ t → take (size t) area ≡ text t
  left-none e t s =
      let spelt = none_left (given.here t s) e in
      let long : size t ≡ length (take written area) = sym (length-text t) ∙ ap length spelt in
      ap (λ (k : ℕ). take k area) long ∙ take_taken written area ∙ sym spelt
