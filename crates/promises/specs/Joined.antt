-- What joins do (REQUIREMENTS, Joining), of the very term that joining writes: `join` of joining/specs/Join.antt, which its definition and
-- `JoinsAs` name. `joined` of proofs/Joined.antt is the proof.
use Rattle.std.specs.Prelude.{◌+◌, ◌≡◌, ◌↔◌, ◌++◌}
use Rattle.calculus.specs.Ascii.{ascii}
use Rattle.calculus.specs.Bell.{Row}
use Rattle.calculus.specs.Term.{Term, text, size, Normal}
use Rattle.calculus.specs.Turning.{Turn, Reduce}
use Rattle.calculus.specs.Found.{Finds}
use Rattle.joining.specs.Join.{join}

-- three bells
abbrev pub one : Term
one = Term.bell Row.first

abbrev pub two : Term
two = Term.bell (Row.later Row.first)

abbrev pub three : Term
three = Term.bell (Row.later (Row.later Row.first))

pub record Joined : Type 0 where
  -- the text of a join and its size
  pub spelt : (f g : Term) → text (join f g) ≡ ascii "AB" ++ text f ++ ascii "B" ++ text g ++ ascii "IHRJHRRJJ"
  pub sized : (f g : Term) → size (join f g) ≡ 12 + (size f + size g)
  -- g is done first, then f: changes forwards alone lead there
  pub applied : (f g t : Term) → Reduce (Term.app (join f g) t) (Term.app f (Term.app g t))
  -- applied, both groupings of three terms turn into each other, and joins with I into the term that is joined with it
  pub grouped : (f g h t : Term) → Turn (Term.app (join (join f g) h) t) (Term.app (join f (join g h)) t)
  pub after-I : (f t : Term) → Turn (Term.app (join f Term.I) t) (Term.app f t)
  pub before-I : (f t : Term) → Turn (Term.app (join Term.I f) t) (Term.app f t)
  -- so they have the same results
  pub same-results : (f g h t v : Term) → Finds (Term.app (join (join f g) h) t) v ↔ Finds (Term.app (join f (join g h)) t) v
  -- no more is so: unapplied, joins of normal terms are results, and no two groupings of normal terms turn into each other, nor do a normal
  -- term and its joins with I
  pub unapplied : (f g h : Term) → Normal f → Normal g → Normal h → ¬ Turn (join (join f g) h) (join f (join g h))
  pub unapplied-I : (f : Term) → Normal f → (¬ Turn (join f Term.I) f) × (¬ Turn (join Term.I f) f)
  -- as the two groupings of three bells
  pub example :
      (text (join (join one two) three) ≡ ascii "ABAB1B2IHRJHRRJJB3IHRJHRRJJ") ×
      (text (join one (join two three)) ≡ ascii "AB1BAB2B3IHRJHRRJJIHRJHRRJJ") ×
      ¬ Turn (join (join one two) three) (join one (join two three))
