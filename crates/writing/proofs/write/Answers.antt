-- `writing::write` meets its contract: six pieces, each appended behind the last.
use mathlib.Core.Path.{◌∙◌}
use mathlib.Core.List.{[], ◌∷◌}
use lib.ListN.{length}
use Rattle.slices.specs.Part.{part}
use Rattle.rewriting.specs.Text.{letter_text, bytes_of}
use Rattle.writing.proofs.Pieces.{put_next, behind-next}
use Rattle.writing.proofs.write.Goals as goal

pub returns : goal.returns
returns c =
    let a = c.args in
    let w = a.w in
    let s = a.s.now in
    let e₁ = c.append-kept.ensures in
    let e₂ = c.append_letter-lettered.ensures in
    let e₃ = c.append-one.ensures in
    let e₄ = c.append-two.ensures in
    let e₅ = c.append-three.ensures in
    let e₆ = c.append.ensures in
    let r₁ = c.append-kept.result in
    let r₂ = c.append_letter-lettered.result in
    let r₃ = c.append-one.result in
    let r₄ = c.append-two.result in
    let last = part w.rest (length s) s ∷ [] in
    let from₅ = bytes_of w.again s ∷ last in
    let from₄ = bytes_of w.second s ∷ from₅ in
    let from₃ = bytes_of w.first s ∷ from₄ in
    let from₂ = letter_text w.letter ∷ from₃ in (
      e₆.0
          ∙ put_next r₄ _ (bytes_of w.again s) last e₅.0 e₅.1
          ∙ put_next r₃ _ (bytes_of w.second s) from₅ e₄.0 e₄.1
          ∙ put_next r₂ _ (bytes_of w.first s) from₄ e₃.0 e₃.1
          ∙ put_next r₁ _ (letter_text w.letter) from₃ e₂.0 e₂.1
          ∙ put_next 0 a.dst.now (part 0 w.keep s) from₂ e₁.0 e₁.1,
      e₆.1
          ∙ behind-next r₄ _ (bytes_of w.again s) last e₅.0 e₅.1
          ∙ behind-next r₃ _ (bytes_of w.second s) from₅ e₄.0 e₄.1
          ∙ behind-next r₂ _ (bytes_of w.first s) from₄ e₃.0 e₃.1
          ∙ behind-next r₁ _ (letter_text w.letter) from₃ e₂.0 e₂.1
          ∙ behind-next 0 a.dst.now (part 0 w.keep s) from₂ e₁.0 e₁.1,
    )
