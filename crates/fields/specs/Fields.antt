-- The fields of the line that begins at an index of a file, by where they stand: each goes up to the next tab or line feed. The
-- definition is total: where a line has fewer than six fields, the others are empty. `proofs/Cutting.antt` shows that they are the
-- fields of `slices/specs/Split.antt`.
-- REQUIREMENTS, Derivation files.
use Rattle.std.specs.Prelude.{ℕ, suc, ◌+◌, Bool, ◌&&◌, ◌||◌, not, cond, List, [], ◌∷◌, ltb, eqb, length, get_or, drop}
use Rattle.slices.specs.Split.{tab, line_feed}
use Rattle.slices.specs.declared.Span.{Span}
use Rattle.fields.specs.declared.Judged.{Judged}
use Rattle.fields.specs.declared.SixFields.{SixFields}
use Rattle.fields.specs.declared.Texts as Lent
use Rattle.fields.specs.Texts.{text_at}

-- a tab or a line feed
abbrev pub is_stop : ℕ → Bool
is_stop b = eqb b tab || eqb b line_feed

-- how many bytes stand before the first tab or line feed
abbrev pub stop_in : List ℕ → ℕ
stop_in [] = 0
stop_in (b ∷ bytes) = cond (is_stop b) 0 (suc (stop_in bytes))

-- the index of the first tab or line feed from an index on, and the end where there is none
abbrev pub stop_at : List ℕ → ℕ → ℕ
stop_at file from = from + stop_in (drop from file)

-- the index behind, within the file
abbrev pub behind_in : List ℕ → ℕ → ℕ
behind_in file at = cond (ltb at (length file)) (at + 1) at

abbrev pub field_at : List ℕ → ℕ → Span
field_at file from = record { from = from; to = stop_at file from }

-- the first three fields
unfoldable pub judged_at : List ℕ → ℕ → Judged
judged_at file from =
    let context = field_at file from in
    let term = field_at file (behind_in file context.to) in
    let type = field_at file (behind_in file term.to) in
    record { context = context; term = term; ty = type }

unfoldable pub six_at : List ℕ → ℕ → SixFields
six_at file from =
    let own = judged_at file from in
    let rule = field_at file (behind_in file own.ty.to) in
    let first = field_at file (behind_in file rule.to) in
    let second = field_at file (behind_in file first.to) in
    record { own = own; rule = rule; first = first; second = second }

abbrev pub is_tab : List ℕ → ℕ → Bool
is_tab file at = eqb (get_or file at 0) tab

-- a tab ends each field but the last
abbrev pub has_six : List ℕ → SixFields → Bool
has_six file line =
    is_tab file line.own.context.to && is_tab file line.own.term.to && is_tab file line.own.ty.to
    && is_tab file line.rule.to && is_tab file line.first.to && not (is_tab file line.second.to)

-- the texts of a judgement
pub record Texts : Type 0 where
  pub context : List ℕ
  pub term : List ℕ
  pub type : List ℕ

abbrev pub texts_at : Judged → List ℕ → Texts
texts_at judged file = record { context = text_at judged.context file; term = text_at judged.term file; type = text_at judged.ty file }

-- the texts that a judgement's slices hold
abbrev pub texts_now : Lent.Texts → Texts
texts_now lent = record { context = lent.context.now; term = lent.term.now; type = lent.ty.now }
