use mathlib.Core.Path.{◌≡◌, refl, ap, ◌∙◌}
use Prim.Native.Nat.{◌+◌}
use native.Mathlib.Omega.{arith}
use lib.ListN.{length, get_or, length-set}
use lib.Seq.{paste, paste-zero}
use Rattle.slices.proofs.Put.{paste-turn, paste-put}
use Rattle.filling.proofs.copy_in.Goals as goal

pub loop-i-init : goal.loop-i-init
loop-i-init c = (paste-zero c.args.dst.now c.args.at c.args.piece.now, refl)

pub loop-i-preserved : goal.loop-i-preserved
loop-i-preserved c =
    let a = c.args in (
      paste-turn a.dst.now a.at a.piece.now c.loop-i.i (a.at + c.loop-i.i) (get_or a.piece.now c.loop-i.i 0) c.loop-i.dst (omega arith) (omega arith) refl refl
          c.loop-i.invariant.0,
      simp length-set c.loop-i.invariant.1,
    )

pub returns : goal.returns
returns c =
    let a = c.args in
    let whole : c.loop-i.i ≡ length a.piece.now = omega arith in
    c.loop-i.invariant.0 ∙ ap (paste a.dst.now a.at a.piece.now) whole ∙ paste-put a.at a.piece.now a.dst.now c.requires
