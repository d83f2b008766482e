-- What a test that refuses, or does not, says. Assumes nothing.
use Prim.Native.Nat.{ℕ}
use mathlib.Core.Path.{◌≡◌, refl}
use mathlib.Core.Bool.{Bool, true, false}
use mathlib.Core.List.Memᴰ
use mathlib.Core.List.{List, ◌∷◌}
use Rattle.reading.specs.Reply.{Reply, refuse_if, Refuses}

-- a test that did not refuse did not hold
pub passed :
    {X : Type 0} (test : Bool) (number : ℕ) (other : Reply X) (x : X) → refuse_if test number other ≡ Reply.answered x → test ≡ false
passed true number other x e = cc
passed false number other x e = refl

-- what it passed on was answered
pub passed_on_lem :
    {X :
    Type 0} (test : Bool) (number : ℕ) (other : Reply X) (x : X) → refuse_if test number other ≡ Reply.answered x → other ≡ Reply.answered x
passed_on_lem true number other x e = cc
passed_on_lem false number other x e = e

-- a refusal has the test's number at place 0, or is one that was passed on, the test not holding
pub refused_by :
    {X : Type 0} (test : Bool) (number n p : ℕ) (other : Reply X) (plain placed : List ℕ) (least most : ℕ) →
    (test ≡ false → other ≡ Reply.refused n p → Refuses plain placed least most n p) →
    refuse_if test number other ≡ Reply.refused n p → Refuses (number ∷ plain) placed least most n p
refused_by true number n p other plain placed least most rest e =
    let same : n ≡ number = cc in
    let here : p ≡ 0 = cc in
    Refuses.at_zero (Memᴰ.head same) here
refused_by false number n p other plain placed least most rest e = later (rest refl e)
  where
    later : Refuses plain placed least most n p → Refuses (number ∷ plain) placed least most n p
    later (Refuses.at_zero m here) = Refuses.at_zero (Memᴰ.tail m) here
    later (Refuses.at_place m low high) = Refuses.at_place m low high
