-- A derivation written as a file (REQUIREMENTS, Demands): one line a judgement, in its order.
use Rattle.std.specs.Prelude.{◌≤◌, ◌≡◌, List, [], ◌∷◌, reverse, length}
use Rattle.std.proofs.Math.Option.{some}
use Rattle.reading.specs.Reply.{Reply}
use Rattle.calculus.specs.Limits.{file_limit, line_limit}
use Rattle.calculus.specs.Typing.{Judgement}
use Rattle.derivation_files.specs.Line.{Line, file_text, judgements}
use Rattle.derivation_files.specs.Checking.{checking_of}
use Rattle.derivation_files.specs.Accepted.{LinesFollow, claim_of, Claims}

-- a derivation that ends with j, behind those earlier judgements of which the last stands in front, as lines that each follow; where they
-- are within the limits, checking accepts their text and its claim is j
pub record LaidOut (j : Judgement) (earlier : List Judgement) : Type 0 where
  pub listed : List Line
  pub one_each : judgements listed ≡ reverse (j ∷ earlier)
  pub follow : LinesFollow [] listed
  pub claim : claim_of listed ≡ some j
  pub accepted :
      length listed ≤ line_limit → length (file_text listed) ≤ file_limit →
      (checking_of (file_text listed) ≡ Reply.answered (length listed)) × Claims (file_text listed) j
