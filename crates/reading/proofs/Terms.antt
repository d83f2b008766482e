-- What reading answers of bytes, as what an operation on their term starts from: the refusal, or the term. Assumes nothing.
use Prim.Native.Nat.{ℕ}
use mathlib.Core.Path.{◌≡◌, sym, ◌∙◌, ap, ap₂}
use mathlib.Core.Option.{Option}
use mathlib.Core.List.{List}
use Rattle.calculus.specs.Term.{Term, text, size}
use Rattle.calculus.proofs.PrefixCode.{term_of-text}
use Rattle.reading.specs.Reply.{Reply, number_in, place_in, passed_on}
use Rattle.reading.specs.Reading.{reading_of, or_refusal, term_read}
use Rattle.reading.specs.Answer.{refusal_of}
use Rattle.reading.specs.declared.Misread.{Misread}
use Rattle.reading.proofs.Whole.{whole-term, refused_none}

-- the term of a term's text is that term
pub term-read : (t : Term) → term_read (text t) ≡ Reply.answered t
unfolding term_read
term-read t = ap (λ (o : Option Term). or_refusal o (reading_of (text t))) (term_of-text t)

-- a size is that of a term
pub whole-read :
    (bytes : List ℕ) (n : ℕ) → Reply.answered n ≡ reading_of bytes →
    (t : Term) × (bytes ≡ text t) × (size t ≡ n) × (term_read bytes ≡ Reply.answered t)
whole-read bytes n e =
    let (t, same, sized) = whole-term bytes n (sym e) in
    (t, same, sized, ap term_read same ∙ term-read t)

-- a refusal is passed on
pub refused-read :
    (bytes : List ℕ) (number place : ℕ) → Reply.refused number place ≡ reading_of bytes → term_read bytes ≡ Reply.refused number place
unfolding term_read
refused-read bytes number place e = ap₂ or_refusal (refused_none bytes number place (sym e)) (sym e)

-- so is what reading refuses
pub unread :
    (bytes : List ℕ) (e : Misread) → passed_on (refusal_of e) ≡ reading_of bytes → term_read bytes ≡ passed_on (refusal_of e)
unread bytes e = refused-read bytes (number_in (refusal_of e)) (place_in (refusal_of e))
