-- Rows stored one behind the other, and their keys beside them: these carry the loop of `store`. Assumes nothing.
use Prim.Native.Nat.{ℕ, ◌+◌, ◌*◌, ◌≤◌, ◌<◌}
use native.Mathlib.Numerals.{add-one}
use native.Mathlib.Omega.{arith}
use mathlib.Core.Path.{◌≡◌, refl, sym, ◌∙◌, ap, ap₂, subst}
use mathlib.Core.List.{List, [], ◌∷◌, ◌++◌, append-nil, append_assoc}
use lib.ListN.{length, set, take, drop, length-set}
use lib.Seq.{take-suc, take-suc-set, take_all}
use Rattle.slices.specs.Part.{part}
use Rattle.slices.specs.Wrote.{Wrote}
use Rattle.slices.proofs.Part.{part-front}
use Rattle.slices.proofs.Appending.{Appends, wrote}
use Rattle.slices.proofs.Wrote.{wrote_then}
use Rattle.bell_rows.specs.Row.{most, cut_into, placed, laid_out}
use Rattle.bell_rows.specs.Bytes.{bells_in}
use Rattle.bell_rows.specs.Key.{key_of}
use Rattle.bell_rows.proofs.Bells.{row-full}
use Rattle.bell_rows.proofs.Keys.{placed-length}
use Rattle.bell_rows.proofs.Cutting.{length_cut, row_of}
use Rattle.rows.specs.Storing.{keys_of}

-- one row more
laid_snoc : (rows : List (List ℕ)) (row : List ℕ) → laid_out rows ++ placed row ≡ laid_out (rows ++ (row ∷ []))
laid_snoc [] row = sym (append-nil (placed row))
laid_snoc (first ∷ rows) row =
    append_assoc (placed first) (laid_out rows) (placed row) ∙ ap (λ (l : List ℕ). placed first ++ l) (laid_snoc rows row)

keys_snoc : (rows : List (List ℕ)) (row : List ℕ) → keys_of rows ++ (key_of (placed row) ∷ []) ≡ keys_of (rows ++ (row ∷ []))
keys_snoc [] row = refl
keys_snoc (first ∷ rows) row = ap (λ (l : List ℕ). key_of (placed first) ∷ l) (keys_snoc rows row)

-- `Stored n count chain table₀ keys₀ i table keys`: the first i rows stand in the table, and their keys in front of the keys
pub record Stored (n count : ℕ) (chain table₀ keys₀ : List ℕ) (i : ℕ) (table keys : List ℕ) : Type 0 where
  pub not_past : i ≤ count
  pub laid : Wrote 0 (i * most) (laid_out (take i (cut_into count n (bells_in chain)))) table₀ table
  pub keyed : take i keys ≡ keys_of (take i (cut_into count n (bells_in chain)))
  pub sized : length keys ≡ length keys₀

module _ (n count : ℕ) (chain table₀ keys₀ : List ℕ) where
  abbrev rows : List (List ℕ)
  rows = cut_into count n (bells_in chain)

  module _
      (few : n ≤ most) (whole : length (bells_in chain) ≡ count * n) (room : count * most ≤ length table₀) (long_keys : count ≤ length keys₀)
    where
      module _ (i : ℕ) (h : i < count) where
        abbrev row : List ℕ
        row = take n (drop (i * n) (bells_in chain))

        row_sized : length row ≡ n
        row_sized = row-full chain n count i few whole h

        next_row : take (i + 1) rows ≡ take i rows ++ (row ∷ [])
        next_row =
            let sized = length_cut n count (bells_in chain) in
            ap (λ (k : ℕ). take k rows) (add-one i) ∙ take-suc rows i [] (omega arith)
            ∙ ap (λ (r : List ℕ). take i rows ++ (r ∷ [])) (row_of n count i (bells_in chain) h)

        -- a row and its key
        pub one-stored :
            (places table table' keys : List ℕ) (end k : ℕ) → Stored n count chain table₀ keys₀ i table keys → places ≡ placed row →
            Appends (i * most) (part 0 most places) table end table' → k ≡ key_of places →
            Stored n count chain table₀ keys₀ (i + 1) table' (set keys i k)
        one-stored places table table' keys end k before e appends q =
            let long = placed-length row (omega (arith, row_sized, few)) in
            let w₁ = before.laid in
            let piece : part 0 most places ≡ placed row =
            part-front most places ∙ ap (take most) e ∙ take_all most (placed row) (omega arith) in
            let w₂ : Wrote (i * most) end (placed row) table table' =
            wrote (i * most) (placed row) table (omega (arith, w₁.size))
            (subst (λ (p : List ℕ). Appends (i * most) p table end table') piece appends) in
            let ends : end ≡ (i + 1) * most = omega (arith, w₂.ends) in
            let spelt : laid_out (take i rows) ++ placed row ≡ laid_out (take (i + 1) rows) =
            laid_snoc (take i rows) row ∙ ap laid_out (sym next_row) in
            let both : Wrote 0 end (laid_out (take (i + 1) rows)) table₀ table' =
            subst (λ (p : List ℕ). Wrote 0 end p table₀ table') spelt (wrote_then w₁ w₂) in
            record {
              not_past = omega arith;
              laid = subst (λ (m : ℕ). Wrote 0 m (laid_out (take (i + 1) rows)) table₀ table') ends both;
              keyed =
                  ap (λ (m : ℕ). take m (set keys i k)) (add-one i)
                  ∙ take-suc-set keys i k (omega (arith, before.sized, long_keys))
                  ∙ ap₂ (λ (front : List ℕ) (last : ℕ). front ++ (last ∷ [])) before.keyed (q ∙ ap key_of e)
                  ∙ keys_snoc (take i rows) row
                  ∙ ap keys_of (sym next_row);
              sized = length-set keys i k ∙ before.sized;
            }

      -- all of them
      pub all-stored :
          (i : ℕ) (table keys : List ℕ) → Stored n count chain table₀ keys₀ i table keys → count ≤ i →
          (Wrote 0 (count * most) (laid_out rows) table₀ table) × (take count keys ≡ keys_of rows)
      all-stored i table keys d h =
          let all : i ≡ count = omega (arith, d.not_past) in
          let whole : take i rows ≡ rows = take_all i rows (omega (arith, length_cut n count (bells_in chain))) in (
            subst (λ (m : ℕ). Wrote 0 (m * most) (laid_out rows) table₀ table) all
                (subst (λ (r : List (List ℕ)). Wrote 0 (i * most) (laid_out r) table₀ table) whole d.laid),
            ap (λ (m : ℕ). take m keys) (sym all) ∙ d.keyed ∙ ap keys_of whole,
          )
