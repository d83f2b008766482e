-- `writing::append_letter` meets its contract: nothing appended changes nothing.
use Rattle.writing.proofs.Pieces.{put-nothing}
use Rattle.writing.proofs.append_letter.Goals as goal

pub returns-in-None : goal.returns-in-None
returns-in-None c = rw c.in-None.is (put-nothing c.args.at c.args.dst.now)
