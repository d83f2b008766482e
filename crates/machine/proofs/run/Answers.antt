-- `machine::run` meets its contract: no step in an arena that will not do, and else those of `run_in`.
use Rattle.machine.proofs.Batches.{advanced-none}
use Rattle.machine.proofs.run.Goals as goal

pub returns-then-not-is_usable : goal.returns-then-not-is_usable
returns-then-not-is_usable c = λ p. advanced-none p

pub run_in-requires : goal.run_in-requires
run_in-requires c =
    let (fits, many, few) = c.is_usable.ensures c.if-not-is_usable.false in
    record {
      runnable = c.requires;
      usable = record { few = few; many = many; roomy = c.min-room.ensures; fits = fits };
    }
