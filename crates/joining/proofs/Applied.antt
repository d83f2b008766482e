-- A join, applied, does its second term first and then its first: nine changes, written out. The rest is of that. Assumes nothing.
use Rattle.calculus.specs.Term.{Term}
use Rattle.calculus.specs.Rule.{Rule}
use Rattle.calculus.specs.Change.{Change}
use Rattle.calculus.specs.Turning.{Turn, Reduce}
use Rattle.calculus.proofs.Confluence.{reduce_trans, reduce_app, reduce_turn, turn_trans, turn-sym}
use Rattle.joining.specs.Join.{join}

module _ (f g t : Term) where
  -- what the body's indices stand for: 0 for the argument, 1 for f, 2 for g
  abbrev around : Term
  around = Term.B t (Term.B f (Term.B g Term.I))

  zeroth : Reduce (Term.app around Term.J) t
  zeroth = Reduce.forwards (Change.here Rule.rule_6) Reduce.unchanged

  first : Reduce (Term.app around (Term.R Term.J)) f
  first = Reduce.forwards (Change.here Rule.rule_7) (Reduce.forwards (Change.here Rule.rule_6) Reduce.unchanged)

  second : Reduce (Term.app around (Term.R (Term.R Term.J))) g
  second =
      Reduce.forwards (Change.here Rule.rule_7)
      (Reduce.forwards (Change.here Rule.rule_7) (Reduce.forwards (Change.here Rule.rule_6) Reduce.unchanged))

  -- so the body is f, on what g makes of the argument
  pub applied : Reduce (Term.app (join f g) t) (Term.app f (Term.app g t))
  applied =
      Reduce.forwards (Change.here Rule.rule_4)
      (Reduce.forwards (Change.here Rule.rule_8) (reduce_app first (Reduce.forwards (Change.here Rule.rule_8) (reduce_app second zeroth))))

-- both groupings do h first, then g, then f
pub grouped : (f g h t : Term) → Turn (Term.app (join (join f g) h) t) (Term.app (join f (join g h)) t)
grouped f g h t =
    let left = reduce_trans (applied (join f g) h t) (applied f g (Term.app h t)) in
    let right = reduce_trans (applied f (join g h) t) (reduce_app Reduce.unchanged (applied g h t)) in
    turn_trans (reduce_turn left) (turn-sym (reduce_turn right))

-- I does nothing before f, and nothing after it
pub after-I : (f t : Term) → Turn (Term.app (join f Term.I) t) (Term.app f t)
after-I f t = reduce_turn (reduce_trans (applied f Term.I t) (Reduce.forwards (Change.in_app₂ (Change.here Rule.rule_5)) Reduce.unchanged))

pub before-I : (f t : Term) → Turn (Term.app (join Term.I f) t) (Term.app f t)
before-I f t = reduce_turn (reduce_trans (applied Term.I f t) (Reduce.forwards (Change.here Rule.rule_5) Reduce.unchanged))
