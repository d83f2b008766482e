-- Fields appended one behind the other, each with its mark, are one write of the whole line where that has room: by induction on the
-- fields. Carried by `wrote_then`. Assumes nothing.
use Prim.Native.Nat.{ℕ, ◌+◌, ◌≤◌, ◌<◌}
use native.Mathlib.Omega.{arith}
use mathlib.Core.Path.{◌≡◌}
use mathlib.Core.List.{List, [], ◌∷◌, ◌++◌}
use lib.ListN.{length, length-append}
use lib.Seq.{append_snoc}
use Rattle.slices.specs.Split.{tab, line_feed}
use Rattle.slices.specs.Wrote.{Wrote}
use Rattle.slices.proofs.Wrote.{wrote_then}
use Rattle.slices.proofs.Appending.{Appends, appended, wrote, appends-none}
use Rattle.printing.specs.Printed.{row_of}

-- fields appended one behind the other, each with its mark
pub data Fields : (fields : List (List ℕ)) (at : ℕ) (dst : List ℕ) (end : ℕ) (dst' : List ℕ) → Type 0 where
  last :
      {field : List ℕ} {at end : ℕ} {dst dst' : List ℕ} → Appends at (field ++ (line_feed ∷ [])) dst end dst' →
      Fields (field ∷ []) at dst end dst'
  next :
      {field other : List ℕ} {fields : List (List ℕ)} {at mid end : ℕ} {dst dst₁ dst' : List ℕ} →
      Appends at (field ++ (tab ∷ [])) dst mid dst₁ → Fields (other ∷ fields) mid dst₁ end dst' →
      Fields (field ∷ other ∷ fields) at dst end dst'

-- a line is as long as its fields, with one byte more for each
abbrev pub total : List (List ℕ) → ℕ
total [] = 1
total (field ∷ []) = length field + 1
total (field ∷ other ∷ fields) = length field + 1 + total (other ∷ fields)

pub length-row : (fields : List (List ℕ)) → length (row_of fields) ≡ total fields
length-row [] = omega arith
length-row (field ∷ []) = length-append field (line_feed ∷ [])
length-row (field ∷ other ∷ fields) = omega (arith, length-append field (tab ∷ row_of (other ∷ fields)), length-row (other ∷ fields))

-- the last field
written_last :
    (field : List ℕ) {at end : ℕ} {dst dst' : List ℕ} → at + (length field + 1) ≤ length dst → Appends at (field ++ (line_feed ∷ [])) dst end dst' →
    Wrote at end (field ++ (line_feed ∷ [])) dst dst'
written_last field {at} {dst = dst} room e = wrote at (field ++ (line_feed ∷ [])) dst (omega (arith, length-append field (line_feed ∷ []))) e

-- a field in front of others
written_next :
    (field : List ℕ) (others : ℕ) {at mid : ℕ} {dst dst₁ : List ℕ} → at + (length field + 1 + others) ≤ length dst →
    Appends at (field ++ (tab ∷ [])) dst mid dst₁ →
    Wrote at mid (field ++ (tab ∷ [])) dst dst₁ × (mid + others ≤ length dst₁)
written_next field others {at} {dst = dst} room e =
    let first = wrote at (field ++ (tab ∷ [])) dst (omega (arith, length-append field (tab ∷ []))) e in
    (first, omega (arith, length-append field (tab ∷ []), first.ends, first.size))

-- a field and the others behind it, as one write
joined :
    (field row : List ℕ) {at mid end : ℕ} {dst dst₁ dst' : List ℕ} → Wrote at mid (field ++ (tab ∷ [])) dst dst₁ →
    Wrote mid end row dst₁ dst' →
    Wrote at end (field ++ (tab ∷ row)) dst dst'
joined field row first others = rw append_snoc at (wrote_then first others)

written :
    (fields : List (List ℕ)) {at end : ℕ} {dst dst' : List ℕ} → at + total fields ≤ length dst → Fields fields at dst end dst' →
    Wrote at end (row_of fields) dst dst'
written (field ∷ []) room (Fields.last e) = written_last field room e
written (field ∷ other ∷ fields) room (Fields.next e more) =
    let (first, left) = written_next field (total (other ∷ fields)) room e in
    joined field (row_of (other ∷ fields)) first (written (other ∷ fields) left more)
written [] room x = elim x [ ]

-- fields that have room are appended as one line
pub row_appended_at :
    (fields : List (List ℕ)) (at : ℕ) (dst : List ℕ) {end : ℕ} {dst' : List ℕ} →
    at + total fields ≤ length dst → Fields fields at dst end dst' →
    Appends at (row_of fields) dst end dst'
row_appended_at fields at dst room e = appended at (row_of fields) dst (written fields room e)

-- and where they have none, nothing is
pub row-none-at : (fields : List (List ℕ)) (at : ℕ) (dst : List ℕ) → length dst < at + total fields → Appends at (row_of fields) dst at dst
row-none-at fields at dst short = appends-none at (row_of fields) dst (omega (arith, length-row fields))

-- the same at the start
pub row_appended :
    (fields : List (List ℕ)) (dst : List ℕ) {end : ℕ} {dst' : List ℕ} → total fields ≤ length dst → Fields fields 0 dst end dst' →
    Appends 0 (row_of fields) dst end dst'
row_appended fields dst room e = row_appended_at fields 0 dst (omega arith) e

pub row-none : (fields : List (List ℕ)) (dst : List ℕ) → length dst < total fields → Appends 0 (row_of fields) dst 0 dst
row-none fields dst short = row-none-at fields 0 dst (omega arith)
