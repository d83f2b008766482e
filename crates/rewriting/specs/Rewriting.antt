-- The right side of each rule, as what is kept, written and left out of a text whose redex begins at p (REQUIREMENTS, Rules).
-- In `. B u s a` and `. A s t a` the first part of the function begins at p + 2; `mid` and `end` are the indices behind its two parts.
-- `end_of` says where the part that begins at an index ends: `end_at s` of a text s, or what a table has. Assumes nothing.
use Rattle.std.specs.Prelude.{ℕ, ◌+◌, List, get_or, Option, Some, None}
use Rattle.std.proofs.Math.Option.{Option as Perhaps, none, some}
use Rattle.calculus.specs.Letter.{Letter, byte, letter_of}
use Rattle.slices.specs.declared.Span.{Span}
use Rattle.rewriting.specs.declared.Rewrite.{Rewrite}

-- the bytes between two indices, and none
abbrev pub between : (from to : ℕ) → Span
between from to = record { from = from; to = to }

abbrev pub nothing : Span
nothing = between 0 0

-- rules 1 to 3 and 12: the full stop becomes H
abbrev pub frozen : (rule p rest : ℕ) → Rewrite
frozen rule p rest =
    record { rule = rule; keep = p; letter = Some (byte Letter.H); first = nothing; second = nothing; again = nothing; rest = rest }

-- rules 5, 6, 7, 10 and 13: one part, or none, between what is kept and the rest
abbrev pub picked : (rule keep : ℕ) (first : Span) (rest : ℕ) → Rewrite
picked rule keep first rest =
    record { rule = rule; keep = keep; letter = None; first = first; second = nothing; again = nothing; rest = rest }

-- rule 4: behind the full stop B, the argument, and the two parts of the closure
abbrev pub entered : (keep : ℕ) (argument closure : Span) → Rewrite
entered keep argument closure =
    record { rule = 4; keep = keep; letter = Some (byte Letter.B); first = argument; second = closure; again = nothing; rest = argument.to }

-- rules 8, 9 and 11: a letter, the pair on the first part of the argument, and `again`, the pair or nothing, on the second
abbrev pub spread : (rule keep : ℕ) (letter : Option ℕ) (pair inner again : Span) → Rewrite
spread rule keep letter pair inner again =
    record { rule = rule; keep = keep; letter = letter; first = pair; second = inner; again = again; rest = inner.to }

-- rules 6 to 11 and 13, by the first letter of the pair's argument; no rule where that is an application or no letter
abbrev pub on_pair : Perhaps Letter → (end_of : ℕ → ℕ) (s : List ℕ) (p mid end : ℕ) → Option Rewrite
on_pair none end_of s p mid end = None
on_pair (some Letter.J) end_of s p mid end = Some (picked 6 p (between (p + 2) mid) (end + 1))
on_pair (some Letter.R) end_of s p mid end = Some (picked 7 (p + 1) (between mid end) (end + 1))
on_pair (some Letter.H) end_of s p mid end = Some (spread 8 (p + 1) None (between p end) (between (end + 1) (end_of (end + 1))) (between p end))
on_pair (some Letter.A) end_of s p mid end = Some (spread 9 p (Some (byte Letter.A)) (between p end) (between (end + 1) (end_of (end + 1))) nothing)
on_pair (some Letter.I) end_of s p mid end = Some (picked 10 p nothing end)
on_pair (some Letter.B) end_of s p mid end = Some (spread 11 p (Some (byte Letter.B)) (between p end) (between (end + 1) (end_of (end + 1))) (between p end))
on_pair (some Letter.stop) end_of s p mid end = None
on_pair (some (Letter.bell k)) end_of s p mid end = Some (picked 13 p nothing end)

-- these rules, where end_of has the ends of the pair's parts
abbrev pub pair_of : (end_of : ℕ → ℕ) (s : List ℕ) (p : ℕ) → Option Rewrite
pair_of end_of s p =
    let mid = end_of (p + 2) in
    let end = end_of mid in
    on_pair (letter_of (get_or s end 0)) end_of s p mid end

-- rule 4, where end_of has the ends of the closure and of its argument
abbrev pub closure_of : (end_of : ℕ → ℕ) (p : ℕ) → Rewrite
closure_of end_of p =
    let end = end_of (p + 1) in
    entered (p + 1) (between end (end_of end)) (between (p + 2) end)

-- all rules, by the first letter of the function; no rule where that is an application or no letter
abbrev pub on_function : Perhaps Letter → (end_of : ℕ → ℕ) (s : List ℕ) (p : ℕ) → Option Rewrite
on_function none end_of s p = None
on_function (some Letter.J) end_of s p = Some (frozen 1 p (p + 1))
on_function (some Letter.R) end_of s p = Some (frozen 2 p (p + 1))
on_function (some Letter.H) end_of s p = Some (frozen 3 p (p + 1))
on_function (some Letter.A) end_of s p = Some (closure_of end_of p)
on_function (some Letter.I) end_of s p = Some (picked 5 p nothing (p + 2))
on_function (some Letter.B) end_of s p = pair_of end_of s p
on_function (some Letter.stop) end_of s p = None
on_function (some (Letter.bell k)) end_of s p = Some (frozen 12 p (p + 1))

-- what the rule that applies at p makes of s; no rule past the end of s
unfoldable pub rewrite_of : (end_of : ℕ → ℕ) (s : List ℕ) (p : ℕ) → Option Rewrite
rewrite_of end_of s p = on_function (letter_of (get_or s (p + 1) 0)) end_of s p
