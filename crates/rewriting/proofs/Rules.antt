-- What the thirteen rules make of a text. The redex is `. f a` at p, between a front and a back: the text that comes of it is the front,
-- the text of the rule's right side, and the back. Each rule's text is read off the pieces of the list. Assumes nothing.
use Prim.Native.Nat.{ℕ, ◌+◌, ◌-◌, ◌≤◌, ◌<◌}
use native.Mathlib.Omega.{arith}
use mathlib.Core.Path.{◌≡◌, refl, sym, ◌∙◌, ap, ap₂, subst}
use mathlib.Core.Option.{Option as Perhaps, some}
use mathlib.Core.List.{List, [], ◌∷◌, ◌++◌, append_assoc, append-nil}
use lib.ListN.{length, get_or, length-append}
use Rattle.std.specs.Prelude.{Option, Some, None}
use Rattle.calculus.specs.Letter.{Letter, byte}
use Rattle.calculus.specs.Term.{Term, text, size}
use Rattle.calculus.specs.Order.{Next, next}
use Rattle.calculus.proofs.PrefixCode.{length-text, size_positive}
use Rattle.slices.specs.Part.{part}
use Rattle.parts.specs.Skip.{end_at}
use Rattle.parts.specs.Ends.{Ends}
use Rattle.calculus.proofs.Heads.{head_of}
use Rattle.parts.proofs.Pieces.{flat, part-flat, end-flat}
use Rattle.parts.proofs.Laid.{Laid, around, function-head, function-end, argument-head, laid-length}
use Rattle.rewriting.specs.declared.Rewrite.{Rewrite}
use Rattle.rewriting.specs.Rewriting.{between, nothing, frozen, picked, spread, on_pair, closure_of, pair_of, on_function, rewrite_of}
use Rattle.rewriting.specs.Text.{letter_text, bytes_of, rewritten}
use Rattle.rewriting.proofs.Tested.{by_letter, rewrite-letter}

-- a rewrite, part by part
pieced :
    (w : Rewrite) (s : List ℕ) {kept first second third rest : List ℕ} →
    part 0 w.keep s ≡ kept →
    bytes_of w.first s ≡ first → bytes_of w.second s ≡ second → bytes_of w.again s ≡ third → part w.rest (length s) s ≡ rest →
    rewritten w s ≡ kept ++ (letter_text w.letter ++ (first ++ (second ++ (third ++ (rest ++ [])))))
pieced w s a b c d e =
    ap₂ ◌++◌ a (ap (λ (l : List ℕ). letter_text w.letter ++ l) (ap₂ ◌++◌ b (ap₂ ◌++◌ c (ap₂ ◌++◌ d (ap (λ (l : List ℕ). l ++ []) e)))))

-- the rewrite w makes the next step of `. f a` between front and back; the text grows by the part that it writes again and by nothing else
pub record Fires (f a : Term) (front back s : List ℕ) (w : Rewrite) : Type 0 where
  pub value : Term
  pub step : next (Term.app f a) ≡ Next.step w.rule value
  pub spelt : rewritten w s ≡ front ++ (text value ++ back)
  pub grows : size value ≤ size (Term.app f a) + (w.again.to - w.again.from)
  pub exact : 0 < w.again.to - w.again.from → size value ≡ size (Term.app f a) + (w.again.to - w.again.from)

-- the same, where there is a rewrite; there is one
abbrev pub FiresBy : (f a : Term) (front back s : List ℕ) → Option Rewrite → Type 0
FiresBy f a front back s None = ⊥
FiresBy f a front back s (Some w) = Fires f a front back s w

-- ---- rules 1 to 5 and 12

module _ {s front back : List ℕ} {p : ℕ} where
  -- rules 1 to 3 and 12
  frozen-fires :
      (n : ℕ) {f a : Term} → next (Term.app f a) ≡ Next.step n (Term.H f a) →
      Laid s front f a back p → Fires f a front back s (frozen n p (p + 1))
  frozen-fires n {f} {a} e laid =
      let xs = around front f a back in
      let long = laid-length laid in
      record {
        value = Term.H f a;
        step = e;
        spelt =
            pieced (frozen n p (p + 1)) s
            (part-flat xs laid.whole 0 1 0 p refl (omega arith))
            refl
            refl
            refl
            (part-flat xs laid.whole 2 3 (p + 1) (length s) (omega arith) (omega (arith, long, length-text f, length-text a)))
            ∙ simp (append_assoc, append-nil);
        grows = omega arith;
        exact = λ h. omega arith;
      }

  -- rule 5
  identity-fires :
      {a : Term} → Laid s front Term.I a back p → Fires Term.I a front back s (picked 5 p nothing (p + 2))
  identity-fires {a} laid =
      let xs = around front Term.I a back in
      record {
        value = a;
        step = refl;
        spelt =
            pieced (picked 5 p nothing (p + 2)) s
            (part-flat xs laid.whole 0 1 0 p refl (omega arith))
            refl
            refl
            refl
            (part-flat xs laid.whole 3 2 (p + 2) (length s) (omega arith) (omega (arith, laid-length laid, length-text a)))
            ∙ simp append-nil;
        grows = omega arith;
        exact = λ h. omega arith;
      }

  -- rule 4
  closure-fires :
      (end_of : ℕ → ℕ) {v t a : Term} → Laid s front (Term.A v t) a back p → Ends end_of s p (p + size (Term.app (Term.A v t) a)) →
      Fires (Term.A v t) a front back s (closure_of end_of p)
  closure-fires end_of {v} {t} {a} laid right =
      let xs = front ∷ (byte Letter.stop ∷ []) ∷ (byte Letter.A ∷ []) ∷ text v ∷ text t ∷ text a ∷ back ∷ [] in
      let whole : s ≡ flat xs = laid.whole ∙ simp append_assoc in
      let place : p ≡ length front = laid.place in
      let sv : length (text v) ≡ size v = length-text v in
      let st : length (text t) ≡ size t = length-text t in
      let sa : length (text a) ≡ size a = length-text a in
      let some-a : 0 < size a = size_positive a in
      let end = end_of (p + 1) in
      let third = end_of end in
      let e : end ≡ p + 2 + size v + size t = omega (arith, right (p + 1) (omega arith) (omega arith), function-end laid) in
      let d : third ≡ end + size a = right end (omega arith) (omega arith) ∙ end-flat xs whole 5 a (back ∷ []) refl end (omega arith) in
      record {
        value = Term.app (Term.B a v) t;
        step = refl;
        spelt =
            pieced (closure_of end_of p) s
            (part-flat xs whole 0 2 0 (p + 1) refl (omega arith))
            (part-flat xs whole 5 1 end third (omega arith) (omega arith))
            (part-flat xs whole 3 2 (p + 2) end (omega arith) (omega arith))
            refl
            (part-flat xs whole 6 1 third (length s) (omega arith) (omega (arith, laid-length laid)))
            ∙ simp (append_assoc, append-nil);
        grows = omega arith;
        exact = λ h. omega arith;
      }

-- ---- rules 6 to 11 and 13

-- the pieces of a list with a pair on an argument that is a letter with two lists behind it
abbrev on_pieces : (front u s : List ℕ) (b : ℕ) (r t back : List ℕ) → List (List ℕ)
on_pieces front u s b r t back = front ∷ (byte Letter.stop ∷ []) ∷ (byte Letter.B ∷ []) ∷ u ∷ s ∷ (b ∷ []) ∷ r ∷ t ∷ back ∷ []

-- where the pair begins, its parts end, and the list ends
record OnPieces (x front u s : List ℕ) (b : ℕ) (r t back : List ℕ) (p mid end : ℕ) : Type 0 where
  whole : x ≡ flat (on_pieces front u s b r t back)
  place : p ≡ length front
  middle : mid ≡ p + 2 + length u
  last : end ≡ mid + length s
  long : length x ≡ end + 1 + length r + length t + length back

module _
    {x front u s : List ℕ} {b : ℕ} {r t back : List ℕ} {p mid end : ℕ} (on : OnPieces x front u s b r t back p mid end)
  where
    -- the text before the redex, and with its full stop
    front-part : part 0 p x ≡ front ++ []
    front-part = part-flat (on_pieces front u s b r t back) on.whole 0 1 0 p refl (omega arith)

    stop-part : part 0 (p + 1) x ≡ front ++ (byte Letter.stop ∷ [])
    stop-part = part-flat (on_pieces front u s b r t back) on.whole 0 2 0 (p + 1) refl (omega arith)

    -- the parts of the pair, and the full stop with the pair
    first_part : part (p + 2) mid x ≡ u ++ []
    first_part = part-flat (on_pieces front u s b r t back) on.whole 3 1 (p + 2) mid (omega arith) (omega arith)

    second-part : part mid end x ≡ s ++ []
    second-part = part-flat (on_pieces front u s b r t back) on.whole 4 1 mid end (omega arith) (omega arith)

    pair-part : part p end x ≡ byte Letter.stop ∷ byte Letter.B ∷ (u ++ (s ++ []))
    pair-part = part-flat (on_pieces front u s b r t back) on.whole 1 4 p end (omega arith) (omega arith)

    -- the text from the argument on, and behind its letter
    argument-part : part end (length x) x ≡ b ∷ (r ++ (t ++ (back ++ [])))
    argument-part = part-flat (on_pieces front u s b r t back) on.whole 5 4 end (length x) (omega arith) (omega arith)

    behind-part : part (end + 1) (length x) x ≡ r ++ (t ++ (back ++ []))
    behind-part = part-flat (on_pieces front u s b r t back) on.whole 6 3 (end + 1) (length x) (omega arith) (omega arith)

    -- the first part of the argument, and the text behind it
    inner-part : (third : ℕ) → third ≡ end + 1 + length r → part (end + 1) third x ≡ r ++ []
    inner-part third e = part-flat (on_pieces front u s b r t back) on.whole 6 1 (end + 1) third (omega arith) (omega arith)

    rest_part : (third : ℕ) → third ≡ end + 1 + length r → part third (length x) x ≡ t ++ (back ++ [])
    rest_part third e = part-flat (on_pieces front u s b r t back) on.whole 7 2 third (length x) (omega arith) (omega arith)

-- rules 8 and 11 grow the text by the pair and a full stop
pair-grows :
    {x front : List ℕ} (u s : Term) {b : ℕ} {r t back : List ℕ} {p mid end : ℕ} →
    OnPieces x front (text u) (text s) b r t back p mid end → end - p ≡ 2 + size u + size s
pair-grows u s on = omega (arith, length-text u, length-text s)

-- where the first part of the argument ends
third_of :
    (end_of : ℕ → ℕ) {x front u s : List ℕ} {b : ℕ} (r : Term) {t back : List ℕ} {p mid end to : ℕ} →
    OnPieces x front u s b (text r) t back p mid end → Ends end_of x p to → end + 1 + size r ≤ to →
    end_of (end + 1) ≡ end + 1 + length (text r)
third_of end_of {front = front} {u} {s} {b} r {t} {back} {end = end} on right h =
    right (end + 1) (omega arith) (omega (arith, size_positive r))
    ∙ end-flat (on_pieces front u s b (text r) t back) on.whole 6 r (t ∷ back ∷ []) refl (end + 1) (omega arith)
    ∙ ap (λ (n : ℕ). end + 1 + n) (sym (length-text r))

module _ {x front : List ℕ} {u s : Term} {back : List ℕ} {p mid end : ℕ} where
  -- rule 6
  first-fires :
      OnPieces x front (text u) (text s) (byte Letter.J) [] [] back p mid end →
      Fires (Term.B u s) Term.J front back x (picked 6 p (between (p + 2) mid) (end + 1))
  first-fires on =
      record {
        value = u;
        step = refl;
        spelt =
            pieced (picked 6 p (between (p + 2) mid) (end + 1)) x (front-part on) (first_part on) refl refl (behind-part on)
            ∙ simp append-nil;
        grows = omega arith;
        exact = λ h. omega arith;
      }

  -- rule 7
  second-fires :
      {t : Term} → OnPieces x front (text u) (text s) (byte Letter.R) (text t) [] back p mid end →
      Fires (Term.B u s) (Term.R t) front back x (picked 7 (p + 1) (between mid end) (end + 1))
  second-fires {t} on =
      record {
        value = Term.app s t;
        step = refl;
        spelt =
            pieced (picked 7 (p + 1) (between mid end) (end + 1)) x (stop-part on) (second-part on) refl refl (behind-part on)
            ∙ simp (append_assoc, append-nil);
        grows = omega arith;
        exact = λ h. omega arith;
      }

  -- rule 9
  closed-fires :
      {r t : Term} {third : ℕ} → third ≡ end + 1 + length (text r) →
      OnPieces x front (text u) (text s) (byte Letter.A) (text r) (text t) back p mid end →
      Fires (Term.B u s) (Term.A r t) front back x (spread 9 p (Some (byte Letter.A)) (between p end) (between (end + 1) third) nothing)
  closed-fires {r} {t} {third} e on =
      record {
        value = Term.A (Term.app (Term.B u s) r) t;
        step = refl;
        spelt =
            pieced
            (spread 9 p (Some (byte Letter.A)) (between p end) (between (end + 1) third) nothing)
            x
            (front-part on)
            (pair-part on)
            (inner-part on third e)
            refl
            (rest_part on third e)
            ∙ simp (append_assoc, append-nil);
        grows = omega arith;
        exact = λ h. omega arith;
      }

  -- rules 10 and 13: an argument of one letter is left
  left-fires :
      (n : ℕ) (b : ℕ) (a : Term) → text a ≡ b ∷ [] → next (Term.app (Term.B u s) a) ≡ Next.step n a →
      OnPieces x front (text u) (text s) b [] [] back p mid end →
      Fires (Term.B u s) a front back x (picked n p nothing end)
  left-fires n b a e step on =
      record {
        value = a;
        step = step;
        spelt =
            pieced (picked n p nothing end) x (front-part on) refl refl refl (argument-part on)
            ∙ ap₂ ◌++◌ (append-nil front)
            (append-nil (b ∷ (back ++ [])) ∙ ap (λ (l : List ℕ). b ∷ l) (append-nil back) ∙ ap (λ (l : List ℕ). l ++ back) (sym e));
        grows = omega arith;
        exact = λ h. omega arith;
      }

  -- rule 8
  both-fires :
      {r t : Term} {third : ℕ} → third ≡ end + 1 + length (text r) →
      OnPieces x front (text u) (text s) (byte Letter.H) (text r) (text t) back p mid end →
      Fires (Term.B u s) (Term.H r t) front back x (spread 8 (p + 1) None (between p end) (between (end + 1) third) (between p end))
  both-fires {r} {t} {third} e on =
      let more = pair-grows u s on in
      record {
        value = Term.app (Term.app (Term.B u s) r) (Term.app (Term.B u s) t);
        step = refl;
        spelt =
            pieced
            (spread 8 (p + 1) None (between p end) (between (end + 1) third) (between p end))
            x
            (stop-part on)
            (pair-part on)
            (inner-part on third e)
            (pair-part on)
            (rest_part on third e)
            ∙ simp (append_assoc, append-nil);
        grows = omega arith;
        exact = λ h. omega arith;
      }

  -- rule 11
  paired-fires :
      {r t : Term} {third : ℕ} → third ≡ end + 1 + length (text r) →
      OnPieces x front (text u) (text s) (byte Letter.B) (text r) (text t) back p mid end →
      Fires (Term.B u s) (Term.B r t) front back x (spread 11 p (Some (byte Letter.B)) (between p end) (between (end + 1) third) (between p end))
  paired-fires {r} {t} {third} e on =
      let more = pair-grows u s on in
      record {
        value = Term.B (Term.app (Term.B u s) r) (Term.app (Term.B u s) t);
        step = refl;
        spelt =
            pieced
            (spread 11 p (Some (byte Letter.B)) (between p end) (between (end + 1) third) (between p end))
            x
            (front-part on)
            (pair-part on)
            (inner-part on third e)
            (pair-part on)
            (rest_part on third e)
            ∙ simp (append_assoc, append-nil);
        grows = omega arith;
        exact = λ h. omega arith;
      }

-- ---- the rule that applies

module _ (end_of : ℕ → ℕ) {x front : List ℕ} {u s : Term} {back : List ℕ} {p : ℕ} where
  -- where the parts of a pair end
  pair_ends :
      {a : Term} → Laid x front (Term.B u s) a back p → Ends end_of x p (p + size (Term.app (Term.B u s) a)) →
      (end_of (p + 2) ≡ p + 2 + length (text u)) × (end_of (end_of (p + 2)) ≡ end_of (p + 2) + length (text s))
  pair_ends {a} laid right =
      let xs = front ∷ (byte Letter.stop ∷ []) ∷ (byte Letter.B ∷ []) ∷ text u ∷ text s ∷ text a ∷ back ∷ [] in
      let whole : x ≡ flat xs = laid.whole ∙ simp append_assoc in
      let place : p ≡ length front = laid.place in
      let su : length (text u) ≡ size u = length-text u in
      let ss : length (text s) ≡ size s = length-text s in
      let some-u : 0 < size u = size_positive u in
      let some-s : 0 < size s = size_positive s in
      let m : end_of (p + 2) ≡ p + 2 + size u =
      right (p + 2) (omega arith) (omega arith) ∙ end-flat xs whole 3 u (text s ∷ text a ∷ back ∷ []) refl (p + 2) (omega arith) in
      let n : end_of (end_of (p + 2)) ≡ end_of (p + 2) + size s =
      right (end_of (p + 2)) (omega arith) (omega arith)
      ∙ end-flat xs whole 4 s (text a ∷ back ∷ []) refl (end_of (p + 2)) (omega arith) in
      (omega arith, omega arith)

  -- the pieces of a pair on an argument, by the letter of the argument
  on-pieces :
      {a : Term} (b : ℕ) (r t : List ℕ) → text a ≡ b ∷ (r ++ t) →
      Laid x front (Term.B u s) a back p → Ends end_of x p (p + size (Term.app (Term.B u s) a)) →
      OnPieces x front (text u) (text s) b r t back p (end_of (p + 2)) (end_of (end_of (p + 2)))
  on-pieces {a} b r t e laid right =
      let ends = pair_ends laid right in
      record {
        whole =
            laid.whole
            ∙ ap (λ (l : List ℕ). front ++ (byte Letter.stop ∷ byte Letter.B ∷ ((text u ++ text s) ++ (l ++ (back ++ []))))) e
            ∙ simp append_assoc;
        place = laid.place;
        middle = ends.0;
        last = ends.1;
        long = omega (arith, laid-length laid, length-text u, length-text s, length-text a, ap length e, length-append r t);
      }

  -- a pair, by its argument
  pair-fires :
      (a : Term) → Laid x front (Term.B u s) a back p → Ends end_of x p (p + size (Term.app (Term.B u s) a)) →
      ¬ (head_of a ≡ Letter.stop) →
      FiresBy (Term.B u s) a front back x (on_pair (some (head_of a)) end_of x p (end_of (p + 2)) (end_of (end_of (p + 2))))
  pair-fires Term.J laid right n = first-fires (on-pieces (byte Letter.J) [] [] refl laid right)
  pair-fires (Term.R t) laid right n = second-fires (on-pieces (byte Letter.R) (text t) [] (simp append-nil) laid right)
  pair-fires (Term.H r t) laid right n =
      let on = on-pieces (byte Letter.H) (text r) (text t) refl laid right in
      both-fires (third_of end_of r on right (omega (arith, length-text u, length-text s))) on
  pair-fires (Term.A r t) laid right n =
      let on = on-pieces (byte Letter.A) (text r) (text t) refl laid right in
      closed-fires (third_of end_of r on right (omega (arith, length-text u, length-text s))) on
  pair-fires Term.I laid right n = left-fires 10 (byte Letter.I) Term.I refl refl (on-pieces (byte Letter.I) [] [] refl laid right)
  pair-fires (Term.B r t) laid right n =
      let on = on-pieces (byte Letter.B) (text r) (text t) refl laid right in
      paired-fires (third_of end_of r on right (omega (arith, length-text u, length-text s))) on
  pair-fires (Term.app f a) laid right n = absurd (n refl)
  pair-fires (Term.bell k) laid right n =
      left-fires 13 (byte (Letter.bell k)) (Term.bell k) refl refl (on-pieces (byte (Letter.bell k)) [] [] refl laid right)

  -- the pair's case is that of the first letter of its argument
  pair-letter :
      {a : Term} → Laid x front (Term.B u s) a back p → Ends end_of x p (p + size (Term.app (Term.B u s) a)) →
      on_pair (some (head_of a)) end_of x p (end_of (p + 2)) (end_of (end_of (p + 2))) ≡ pair_of end_of x p
  pair-letter {a} laid right =
      let ends = pair_ends laid right in
      let same : end_of (end_of (p + 2)) ≡ end_at x (p + 1) = omega (arith, function-end laid, length-text u, length-text s) in
      by_letter
      (λ (o : Perhaps Letter). on_pair o end_of x p (end_of (p + 2)) (end_of (end_of (p + 2))))
      (get_or x (end_of (end_of (p + 2))) 0)
      (head_of a)
      (argument-head laid (end_of (end_of (p + 2))) same)

module _ {x front back : List ℕ} {p : ℕ} where
  -- the rewrite at p makes the next step, where neither the function nor the argument of a pair is an application
  -- and end_of has the ends of the application's parts
  function-fires :
      (end_of : ℕ → ℕ) (f a : Term) → Laid x front f a back p → Ends end_of x p (p + size (Term.app f a)) →
      ¬ (byte (head_of f) ≡ byte Letter.stop) → (byte (head_of f) ≡ byte Letter.B → ¬ (head_of a ≡ Letter.stop)) →
      FiresBy f a front back x (on_function (some (head_of f)) end_of x p)
  function-fires end_of Term.J a laid right n m = frozen-fires 1 refl laid
  function-fires end_of (Term.R t) a laid right n m = frozen-fires 2 refl laid
  function-fires end_of (Term.H r t) a laid right n m = frozen-fires 3 refl laid
  function-fires end_of (Term.A s t) a laid right n m = closure-fires end_of laid right
  function-fires end_of Term.I a laid right n m = identity-fires laid
  function-fires end_of (Term.B u s) a laid right n m =
      subst (FiresBy (Term.B u s) a front back x) (pair-letter end_of laid right) (pair-fires end_of a laid right (m refl))
  function-fires end_of (Term.app f b) a laid right n m = absurd (n refl)
  function-fires end_of (Term.bell k) a laid right n m = frozen-fires 12 refl laid

  -- the same, by the bytes where the function and the argument begin
  pub fires :
      (end_of : ℕ → ℕ) (f a : Term) → Laid x front f a back p → Ends end_of x p (p + size (Term.app f a)) →
      ¬ (get_or x (p + 1) 0 ≡ byte Letter.stop) → (get_or x (p + 1) 0 ≡ byte Letter.B → ¬ (get_or x (end_at x (p + 1)) 0 ≡ byte Letter.stop)) →
      FiresBy f a front back x (rewrite_of end_of x p)
  fires end_of f a laid right n m =
      subst (FiresBy f a front back x) (rewrite-letter end_of x p (get_or x (p + 1) 0) refl (head_of f) (function-head laid))
      (function-fires end_of f a laid right
      (λ e. n (function-head laid ∙ e))
      (λ e q. m (function-head laid ∙ e) (argument-head laid (end_at x (p + 1)) refl ∙ ap byte q)))
