-- `writing::write_back` meets its contract: the text is read back from the work area and put at the front of the area.
use Rattle.rewriting.specs.Text.{pieces_of}
use Rattle.writing.proofs.Back.{written_back, work_cleared}
use Rattle.writing.proofs.write_back.Goals as goal

pub returns : goal.returns
returns c =
    let a = c.args in
    let put = c.append.ensures.0 in
    let cleared = c.clear.ensures in record {
      back = written_back a.w a.len a.area.now a.work.now c.cut.ensures c.write-size.ensures.0 c.write-size.ensures.1 put
          cleared.area_after;
      work_after = work_cleared (pieces_of a.w c.cut.result.now) a.work.now c.write-size.ensures.0 cleared.work_after;
    }
