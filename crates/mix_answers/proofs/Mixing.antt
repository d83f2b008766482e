-- The lines of a call are the finishing program's line and, where there was a run, the lines of its counts. Assumes nothing.
use Prim.Native.Nat.{ℕ}
use mathlib.Core.Path.{◌≡◌, refl, sym, ◌∙◌, ap, ap₂}
use mathlib.Core.List.{List, [], ◌∷◌}
use Rattle.std.specs.Prelude.{Option, None, Some}
use Rattle.slices.specs.Put.{put, behind}
use Rattle.reading.specs.Reply.{Reply}
use Rattle.finishing.specs.Finishing.{After}
use Rattle.answer_lines.specs.Shown.{shown_run}
use Rattle.finish_line.specs.declared.Request.{Request}
use Rattle.answering.specs.Answer.{finished_in, printed_run, used_in, used_of}
use Rattle.mix_lines.specs.Mix.{mix_rows}
use Rattle.mix_lines.specs.PutAll.{put_all}
use Rattle.mix_answers.specs.Mix.{mix_lines, printed_mix}

-- the lines of the counts, where there was a run
abbrev rows_if : Option (List ℕ) → List (List ℕ)
rows_if (Some counts) = mix_rows counts
rows_if None = []

lines_of : (a : After) → mix_lines a ≡ shown_run a ∷ rows_if (used_in a)
lines_of (After.after (Reply.refused number place) r area work) = refl
lines_of (After.after (Reply.answered done) r area work) = refl

mix_of :
    (asked : Option Request) (term work : List ℕ) →
    printed_mix asked term work ≡ printed_run asked term work ∷ rows_if (used_of asked term work)
mix_of None term work = refl
mix_of (Some r) term work = lines_of (finished_in r.fuel r.area r.length term work)

module _
    (asked : Option Request) (term work out : List ℕ) (used : Option (List ℕ)) (told : used ≡ used_of asked term work) (n : ℕ) (out₁ : List ℕ)
    (printed : (out₁ ≡ put 0 (printed_run asked term work) out) × (n ≡ behind 0 (printed_run asked term work) out))
  where
    -- the line, and what is left to put behind it
    pub line-put : (o : Option (List ℕ)) → used ≡ o → put_all (rows_if o) n out₁ ≡ put_all (printed_mix asked term work) 0 out
    line-put o e =
        ap₂ (put_all (rows_if o)) printed.1 printed.0
        ∙ ap (λ (o : Option (List ℕ)). put_all (printed_run asked term work ∷ rows_if o) 0 out) (sym e ∙ told)
        ∙ sym (ap (λ (lines : List (List ℕ)). put_all lines 0 out) (mix_of asked term work))
