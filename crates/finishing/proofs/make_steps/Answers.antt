-- `finishing::make_steps` meets its contract: each of its three ways out is a law of `Moving`.
use native.Mathlib.Omega.{arith}
use Rattle.finishing.proofs.Moving.{moves-none, moves-count, moves-one}
use Rattle.finishing.proofs.make_steps.Goals as goal

pub returns-in_default : goal.returns-in_default
returns-in_default c =
    moves-none c.requires.ready c.steps-batch.ensures.advances (omega arith) c.steps-batch.auto.area c.step_once.result
    c.step_once.ensures c.in_default.not-Done

pub count_use-requires : goal.count_use-requires
count_use-requires c =
    moves-count c.requires.ready c.steps-batch.ensures.advances (omega arith) c.steps-batch.auto.area c.step_once.result
    c.step_once.ensures c.in-Done.is

pub returns : goal.returns
returns c =
    moves-one c.requires.ready c.steps-batch.ensures.advances (omega arith) c.steps-batch.auto.area c.step_once.result
    c.step_once.ensures c.in-Done.is c.requires.le_most c.count_use.ensures
