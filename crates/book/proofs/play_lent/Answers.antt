-- `book::play_lent` meets its contract: what stands behind the store's first bytes is not lent.
use mathlib.Core.Path.{sym}
use lib.ListN.{length, take}
use lib.Seq.{length-take-le}
use Rattle.books.specs.Play.{store_size}
use Rattle.book.proofs.Ending.{lines-ready, emptied-alike}
use Rattle.book.proofs.play_lent.Goals as goal

pub slice_bounds-play_lines-end-2 : goal.slice_bounds-play_lines-end-2
slice_bounds-play_lines-end-2 c = sym (length-take-le (length c.args.area.now) c.args.work.now c.requires.admitted.room)

pub slice_bounds-play_lines-end-4 : goal.slice_bounds-play_lines-end-4
slice_bounds-play_lines-end-4 c = sym (length-take-le store_size c.args.store.now c.requires.admitted.stored)

pub play_lines-requires : goal.play_lines-requires
play_lines-requires c =
    lines-ready c.requires (take (length c.args.area.now) c.args.work.now) (take store_size c.args.store.now)
    (length-take-le (length c.args.area.now) c.args.work.now c.requires.admitted.room)
    (length-take-le store_size c.args.store.now c.requires.admitted.stored)

pub returns : goal.returns
returns c =
    record {
      play_left = c.play_lines.ensures;
      behind = emptied-alike c.args.store.now c.play_lines.new.store c.requires.admitted.stored
          c.play_lines.auto.store;
    }
