-- What the tests for letters say of the right side of a rule: a byte that is a letter's picks that letter's case, and one that is none of
-- those tested picks no rule. Assumes nothing.
use Prim.Native.Nat.{ℕ, ◌+◌, ◌≤◌}
use native.Mathlib.Omega.{arith}
use mathlib.Core.Path.{◌≡◌, refl, sym, ◌∙◌, ap}
use mathlib.Core.Bool.{true, false, false≢true}
use mathlib.Core.List.{List}
use mathlib.Core.Option.{Option as Perhaps, none, some}
use lib.ListN.{length, get_or, get_or-eq_default}
use Rattle.std.specs.Prelude.{Option, Some, None}
use Rattle.calculus.specs.Bell.{is_bell}
use Rattle.calculus.specs.Letter.{Letter, byte, letter_of}
use Rattle.calculus.proofs.Bells.{bell-letter, letter-bell}
use Rattle.calculus.proofs.PrefixCode.{letter_of-byte, byte-letter_of}
use Rattle.rewriting.specs.declared.Rewrite.{Rewrite}
use Rattle.rewriting.specs.Rewriting.{between, nothing, entered, frozen, picked, on_pair, pair_of, on_function, rewrite_of}

-- the case of a letter is that of its byte
pub by_letter : (f : Perhaps Letter → Option Rewrite) (b : ℕ) (l : Letter) → b ≡ byte l → f (some l) ≡ f (letter_of b)
by_letter f b l e = ap f (sym (ap letter_of e ∙ letter_of-byte l))

-- a byte that is none of the letters tested is no letter or a full stop
pub record Other (b : ℕ) : Type 0 where
  pub no_J : b ≡ byte Letter.J → ⊥
  pub no_R : b ≡ byte Letter.R → ⊥
  pub no_H : b ≡ byte Letter.H → ⊥
  pub no_A : b ≡ byte Letter.A → ⊥
  pub no_I : b ≡ byte Letter.I → ⊥
  pub no_B : b ≡ byte Letter.B → ⊥
  pub no_bell : is_bell b ≡ false

by_others : (f : Perhaps Letter → Option Rewrite) (w : Option Rewrite) (b : ℕ) → Other b → w ≡ f none → w ≡ f (some Letter.stop) → w ≡ f (letter_of b)
by_others f w b other o q = go (letter_of b) refl
  where
    go : (l : Perhaps Letter) → letter_of b ≡ l → w ≡ f l
    go none e = o
    go (some Letter.J) e = absurd (other.no_J (sym (byte-letter_of b Letter.J e)))
    go (some Letter.R) e = absurd (other.no_R (sym (byte-letter_of b Letter.R e)))
    go (some Letter.H) e = absurd (other.no_H (sym (byte-letter_of b Letter.H e)))
    go (some Letter.A) e = absurd (other.no_A (sym (byte-letter_of b Letter.A e)))
    go (some Letter.I) e = absurd (other.no_I (sym (byte-letter_of b Letter.I e)))
    go (some Letter.B) e = absurd (other.no_B (sym (byte-letter_of b Letter.B e)))
    go (some Letter.stop) e = q
    go (some (Letter.bell k)) e =
        absurd (false≢true (sym other.no_bell ∙ ap is_bell (sym (byte-letter_of b (Letter.bell k) e)) ∙ bell-letter k))

module _ (end_of : ℕ → ℕ) (s : List ℕ) (p mid end : ℕ) (b : ℕ) (q : b ≡ get_or s end 0) where
  same-pair : on_pair (letter_of b) end_of s p mid end ≡ on_pair (letter_of (get_or s end 0)) end_of s p mid end
  same-pair = ap (λ (c : ℕ). on_pair (letter_of c) end_of s p mid end) q

  -- the first letter of the argument picks what a pair's rule makes of the text
  pub pair-letter : (l : Letter) → b ≡ byte l → on_pair (some l) end_of s p mid end ≡ on_pair (letter_of (get_or s end 0)) end_of s p mid end
  pair-letter l n = by_letter (λ (o : Perhaps Letter). on_pair o end_of s p mid end) b l n ∙ same-pair

  pub pair-bell : is_bell b ≡ true → Some (picked 13 p nothing end) ≡ on_pair (letter_of (get_or s end 0)) end_of s p mid end
  pair-bell e = let (k, same) = letter-bell b e in pair-letter (Letter.bell k) same

  pub pair-others : Other b → None ≡ on_pair (letter_of (get_or s end 0)) end_of s p mid end
  pair-others other = by_others (λ (o : Perhaps Letter). on_pair o end_of s p mid end) None b other refl refl ∙ same-pair

module _ (end_of : ℕ → ℕ) (s : List ℕ) (p : ℕ) (b : ℕ) (q : b ≡ get_or s (p + 1) 0) where
  -- the function's letter picks what the rule makes of the text
  pub rewrite-letter : (l : Letter) → b ≡ byte l → on_function (some l) end_of s p ≡ rewrite_of end_of s p
  unfolding rewrite_of
  rewrite-letter l e = by_letter (λ (o : Perhaps Letter). on_function o end_of s p) (get_or s (p + 1) 0) l (sym q ∙ e)

  pub rewrite-bell : is_bell b ≡ true → Some (frozen 12 p (p + 1)) ≡ rewrite_of end_of s p
  rewrite-bell e = let (k, same) = letter-bell b e in rewrite-letter (Letter.bell k) same

  pub rewrite-others : Other b → None ≡ rewrite_of end_of s p
  unfolding rewrite_of
  rewrite-others other =
      by_others (λ (o : Perhaps Letter). on_function o end_of s p) None b other refl refl
      ∙ ap (λ (n : ℕ). on_function (letter_of n) end_of s p) q

-- past the end stands no letter
pub rewrite_past : (end_of : ℕ → ℕ) (s : List ℕ) (p : ℕ) → length s ≤ p → None ≡ rewrite_of end_of s p
unfolding rewrite_of letter_of
rewrite_past end_of s p h = ap (λ (n : ℕ). on_function (letter_of n) end_of s p) (sym (get_or-eq_default s 0 {n = p + 1} (omega arith)))

-- the ends of the parts of a function, found one after the other
pub pair_of_lem :
    (end_of : ℕ → ℕ) (s : List ℕ) (p mid end : ℕ) → mid ≡ end_of (p + 2) → end ≡ end_of mid →
    on_pair (letter_of (get_or s end 0)) end_of s p mid end ≡ pair_of end_of s p
pair_of_lem end_of s p mid end m e =
    ap (λ (k : ℕ). on_pair (letter_of (get_or s k 0)) end_of s p mid k) e
    ∙ ap (λ (k : ℕ). on_pair (letter_of (get_or s (end_of k) 0)) end_of s p k (end_of k)) m

pub closure_of_lem :
    (end_of : ℕ → ℕ) (s : List ℕ) (p end third : ℕ) → end ≡ end_of (p + 1) → third ≡ end_of end →
    Some (entered (p + 1) (between end third) (between (p + 2) end)) ≡ on_function (some Letter.A) end_of s p
closure_of_lem end_of s p end third e t =
    ap (λ (k : ℕ). Some (entered (p + 1) (between end k) (between (p + 2) end))) t
    ∙ ap (λ (k : ℕ). Some (entered (p + 1) (between k (end_of k)) (between (p + 2) k))) e
