-- What an operation answers (REQUIREMENTS, Replies and areas): a refusal is a number and a place or line, which is 0 where the number has
-- none
-- of its own.
use Rattle.std.specs.Prelude.{ℕ, ◌≤◌, ◌≡◌, Bool, true, false}
use mathlib.Core.List.{List, Memᴰ}

-- a refusal, or what the operation answers otherwise
pub data Reply (X : Type 0) : Type 0 where
  refused : (number place : ℕ) → Reply X
  answered : X → Reply X

-- the number of a refusal, 0 of an answer
abbrev pub number_in : {X : Type 0} → Reply X → ℕ
number_in (Reply.refused number place) = number
number_in (Reply.answered x) = 0

-- the place or line of a refusal, 0 of an answer
abbrev pub place_in : {X : Type 0} → Reply X → ℕ
place_in (Reply.refused number place) = place
place_in (Reply.answered x) = 0

-- a refusal inside another operation, passed on unaltered
abbrev pub passed_on : {X Y : Type 0} → Reply X → Reply Y
passed_on reply = Reply.refused (number_in reply) (place_in reply)

-- that number at place 0 if the test holds, else the other reply
abbrev pub refuse_if : {X : Type 0} → Bool → ℕ → Reply X → Reply X
refuse_if true number other = Reply.refused number 0
refuse_if false number other = other

-- a refusal, else what is made of the answer
abbrev pub onward : {X Y : Type 0} → Reply X → (X → Reply Y) → Reply Y
onward (Reply.refused number place) make = Reply.refused number place
onward (Reply.answered x) make = make x

-- `Refuses plain placed least most number place`: a number of the first list, at place 0, or one of the second, at a place in that range
pub data Refuses (plain placed : List ℕ) (least most number place : ℕ) : Type 0 where
  at_zero : Memᴰ number plain → place ≡ 0 → Refuses plain placed least most number place
  at_place : Memᴰ number placed → least ≤ place → place ≤ most → Refuses plain placed least most number place
