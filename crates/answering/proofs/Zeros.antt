-- The front of a zeroed buffer that a term was kept in is the area with the term at its front and zeros behind. Assumes nothing.
use Prim.Native.Nat.{ℕ, ◌+◌, ◌-◌, ◌≤◌, ◌<◌}
use native.Mathlib.Decide.{dec_le}
use native.Mathlib.Omega.{arith}
use mathlib.Core.Path.{◌≡◌, sym, ◌∙◌, ap, ap₂}
use mathlib.Core.List.{List, ◌++◌, append-nil}
use lib.ListN.{length, take, replicate, length-take, length-replicate, length-append, replicate-append-replicate}
use lib.Seq.{take_all, take_at, take-take, take-append-add}
use Rattle.slices.proofs.Part.{drop-zeros}
use Rattle.line_states.specs.Fed.{length_cap}
use Rattle.line_states.specs.Kept.{kept_in}
use Rattle.line_states.proofs.Buffer.{kept-take}
use Rattle.answering.specs.Program.{area_with}

abbrev pub zeros : ℕ → List ℕ
zeros n = replicate n 0

pub length-zeros : (n : ℕ) → length (zeros n) ≡ n
length-zeros n = length-replicate n 0

parted : (a n : ℕ) → a ≤ n → zeros n ≡ zeros a ++ zeros (n - a)
parted a n h =
    let e : n ≡ a + (n - a) = omega arith in
    ap zeros e ∙ sym (replicate-append-replicate a (n - a) 0)

pub take-zeros : (a n : ℕ) → a ≤ n → take a (zeros n) ≡ zeros a
take-zeros a n h = ap (take a) (parted a n h) ∙ take_at (zeros a) (zeros (n - a)) a (length-zeros a)

module _ (n area : ℕ) (term : List ℕ) (most : area ≤ 16384) (room : 16384 ≤ n) where
  -- a term that fills the area
  kept-over : area ≤ length term → take area (kept_in (zeros n) (take length_cap term)) ≡ area_with area term
  kept-over h =
      let none : area - length term ≡ 0 = omega arith in
      kept-take (zeros n) (take length_cap term) area (omega (arith, length-zeros n)) (omega (arith, length-take length_cap term))
      ∙ take-take area length_cap term (omega arith)
      ∙ sym (ap (λ (k : ℕ). take area term ++ zeros k) none ∙ append-nil (take area term))

  -- a term that leaves room in it
  kept_under : length term < area → take area (kept_in (zeros n) (take length_cap term)) ≡ area_with area term
  kept_under h =
      let left : ℕ = area - length term in
      let sum : area ≡ length term + left = omega arith in
      let whole : take length_cap term ≡ term = take_all length_cap term (omega arith) in
      let front : take (length (zeros n)) term ≡ term = take_all (length (zeros n)) term (omega (arith, length-zeros n)) in
      ap (λ (t : List ℕ). take area (kept_in (zeros n) t)) whole
      ∙ ap₂ (λ (t z : List ℕ). take area (t ++ z)) front (drop-zeros (length term) n)
      ∙ ap (λ (k : ℕ). take k (term ++ zeros (n - length term))) sum
      ∙ take-append-add term (zeros (n - length term)) left
      ∙ ap₂ (λ (t z : List ℕ). t ++ z) (sym (take_all area term (omega arith))) (take-zeros left (n - length term) (omega arith))

  pub kept-area : take area (kept_in (zeros n) (take length_cap term)) ≡ area_with area term
  kept-area = go (dec_le area (length term))
    where
      go : Dec (area ≤ length term) → take area (kept_in (zeros n) (take length_cap term)) ≡ area_with area term
      go (yes h) = kept-over h
      go (no h) = kept_under (omega arith)

-- the area is as long as its size says
pub length-area : (area : ℕ) (term : List ℕ) → length (area_with area term) ≡ area
length-area area term = omega (arith, length-append (take area term) (zeros (area - length term)), length-take area term, length-zeros (area - length term))
