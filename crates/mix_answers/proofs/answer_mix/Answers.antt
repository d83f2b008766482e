-- `mix_answers::answer_mix` meets its contract: the finishing program's line and, where there was a run, its rows.
use mathlib.Core.Path.{◌∙◌}
use Rattle.std.specs.Prelude.{None, Some}
use Rattle.mix_answers.proofs.Mixing.{line-put}
use Rattle.mix_answers.proofs.answer_mix.Goals as goal

pub returns-in-Some : goal.returns-in-Some
returns-in-Some c =
    let a = c.args in
    let answered = c.answer_run-answered in record {
      out_after = c.append_rows.ensures
          ∙ line-put a.asked a.term.now a.work.now a.out.now answered.result.used answered.ensures.used answered.result.size _ answered.ensures.out_after
          (Some c.in-Some.by_rule) c.in-Some.is;
      lent = answered.ensures.lent;
    }

pub returns-in-None : goal.returns-in-None
returns-in-None c =
    let a = c.args in
    let answered = c.answer_run-answered in record {
      out_after = line-put a.asked a.term.now a.work.now a.out.now answered.result.used answered.ensures.used answered.result.size _ answered.ensures.out_after
          None c.in-None.is;
      lent = answered.ensures.lent;
    }
