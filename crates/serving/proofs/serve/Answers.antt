use Rattle.std.proofs.Common.{refl}
use Rattle.serving.proofs.serve.Goals as goal

-- What each of the two calls met is its own clause.
pub returns : goal.returns
returns g c = record {
  got = _;
  held = _;
  was_read = record { shown = _; shows = refl; left = _; met = c.read-got.ensures; leaves = refl };
  count = _;
  was_answered = record { shown = _; shows = (refl, refl); left = _; met = c.answer-n.ensures; leaves = (refl, refl) };
}
