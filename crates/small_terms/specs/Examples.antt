-- How many small terms there are, and what some sweeps answer, as rows of two tables (REQUIREMENTS, Small terms). proofs/Examples.antt has
-- the proofs that cover them.
use Rattle.std.specs.Prelude.{ℕ, List, [], ◌∷◌}
use Rattle.reading.specs.Reply.{Reply}
use Rattle.small_terms.specs.Sweep.{Swept}

-- how many have so many letters
pub record Many : Type 0 where
  pub letters : ℕ
  pub terms : ℕ

abbrev pub many : (letters terms : ℕ) → Many
many letters terms = record { letters = letters; terms = terms }

abbrev pub counts : List Many
counts = many 1 2 ∷ many 2 2 ∷ many 3 18 ∷ many 4 50 ∷ many 5 354 ∷ many 6 1_442 ∷ many 7 9_202 ∷ []

-- a call and its answer
pub record Call : Type 0 where
  pub n : ℕ
  pub fuel : ℕ
  pub area : ℕ
  pub answer : Reply Swept

abbrev pub comes : (n fuel area finished spent no_room steps : ℕ) → Call
comes n fuel area finished spent no_room steps =
    record { n = n; fuel = fuel; area = area; answer = Reply.answered (Swept.swept finished spent no_room steps) }

abbrev pub refuses : (n fuel area number : ℕ) → Call
refuses n fuel area number = record { n = n; fuel = fuel; area = area; answer = Reply.refused number 0 }

abbrev pub calls : List Call
calls =
    comes 3 10 20 18 0 0 4 ∷
    comes 3 0 3 14 4 0 0 ∷
    comes 4 0 4 38 12 0 0 ∷
    comes 5 1 5 330 24 0 112 ∷
    refuses 3 10 0 3 ∷
    refuses 3 10 2 3 ∷
    refuses 0 10 20 32 ∷
    refuses 8 10 20 32 ∷
    refuses 8 1_000_001 16_385 32 ∷
    refuses 3 1_000_001 16_385 4 ∷
    refuses 3 1_000_001 2 4 ∷
    refuses 3 1_000_000 16_385 1 ∷
    []
