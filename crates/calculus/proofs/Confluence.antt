-- Reduction is confluent: terms turn into each other exactly when they have a common reduct, normal terms exactly when they are the same.
-- By superdevelopments: `Par` lets a rule fire on what the parts of a redex have become, and `develop` does all that `Par` can.
use Prim.Native.Nat.{ℕ}
use mathlib.Core.Path.{◌≡◌, refl, sym, ◌∙◌, subst}
use mathlib.Core.List.{◌∷◌}
use mathlib.Core.Logic.{◌↔◌}
use Rattle.calculus.specs.Bell.{Bell}
use Rattle.calculus.specs.Term.{Term, Normal}
use Rattle.calculus.specs.Rule.{Rule}
use Rattle.calculus.specs.Change.{Side, Place, Change}
use Rattle.calculus.specs.Turning.{Turn, Reduce, Joins}

-- `Par t u`: t becomes u by changes in its parts side by side, each redex fired on what its parts have become
pub data Par : Term → Term → Type 0 where
  par_J : Par Term.J Term.J
  par_R : {t t' : Term} → Par t t' → Par (Term.R t) (Term.R t')
  par_H : {r r' t t' : Term} → Par r r' → Par t t' → Par (Term.H r t) (Term.H r' t')
  par_A : {s s' t t' : Term} → Par s s' → Par t t' → Par (Term.A s t) (Term.A s' t')
  par_I : Par Term.I Term.I
  par_B : {u u' s s' : Term} → Par u u' → Par s s' → Par (Term.B u s) (Term.B u' s')
  par_bell : {k : Bell} → Par (Term.bell k) (Term.bell k)
  par_app : {t t' u u' : Term} → Par t t' → Par u u' → Par (Term.app t u) (Term.app t' u')
  fire : {n : ℕ} {t t' u u' v : Term} → Par t t' → Par u u' → Rule n (Term.app t' u') v → Par (Term.app t u) v

-- Every term becomes itself.
pub par_refl : (t : Term) → Par t t
par_refl Term.J = par_J
par_refl (Term.R t) = par_R (par_refl t)
par_refl (Term.H r t) = par_H (par_refl r) (par_refl t)
par_refl (Term.A s t) = par_A (par_refl s) (par_refl t)
par_refl Term.I = par_I
par_refl (Term.B u s) = par_B (par_refl u) (par_refl s)
par_refl (Term.app t u) = par_app (par_refl t) (par_refl u)
par_refl (Term.bell k) = par_bell

-- A rule alone is such a becoming: its left side is an application.
pub rule_par : {n : ℕ} {t u : Term} → Rule n t u → Par t u
rule_par {t = Term.app t u} r = fire (par_refl t) (par_refl u) r
rule_par {t = Term.J} r = elim r [ ]
rule_par {t = Term.R t} r = elim r [ ]
rule_par {t = Term.H _ t} r = elim r [ ]
rule_par {t = Term.A s t} r = elim r [ ]
rule_par {t = Term.I} r = elim r [ ]
rule_par {t = Term.B u s} r = elim r [ ]
rule_par {t = Term.bell k} r = elim r [ ]

-- One change is such a becoming.
pub change_par : {n : ℕ} {p : Place} {t u : Term} → Change n p t u → Par t u
change_par (Change.here r) = rule_par r
change_par (Change.in_R c) = par_R (change_par c)
change_par (Change.in_H₁ c) = par_H (change_par c) (par_refl _)
change_par (Change.in_H₂ c) = par_H (par_refl _) (change_par c)
change_par (Change.in_A₁ c) = par_A (change_par c) (par_refl _)
change_par (Change.in_A₂ c) = par_A (par_refl _) (change_par c)
change_par (Change.in_B₁ c) = par_B (change_par c) (par_refl _)
change_par (Change.in_B₂ c) = par_B (par_refl _) (change_par c)
change_par (Change.in_app₁ c) = par_app (change_par c) (par_refl _)
change_par (Change.in_app₂ c) = par_app (par_refl _) (change_par c)

-- Reductions follow one another.
pub reduce_trans : {t u v : Term} → Reduce t u → Reduce u v → Reduce t v
reduce_trans Reduce.unchanged k = k
reduce_trans (Reduce.forwards c h) k = Reduce.forwards c (reduce_trans h k)

-- What surrounds one change surrounds a reduction.
pub reduce_in :
    {t u : Term} {side : Side} (node : Term → Term) →
    ((n : ℕ) (p : Place) (t u : Term) → Change n p t u → Change n (side ∷ p) (node t) (node u)) →
    Reduce t u → Reduce (node t) (node u)
reduce_in node change-in Reduce.unchanged = Reduce.unchanged
reduce_in node change-in (Reduce.forwards c h) = Reduce.forwards (change-in _ _ _ _ c) (reduce_in node change-in h)

-- The two parts of a node reduce one after the other.
pub reduce_both :
    {t t' u u' : Term} (node : Term → Term → Term) →
    ((n : ℕ) (p : Place) (t t' u : Term) → Change n p t t' → Change n (Side.first ∷ p) (node t u) (node t' u)) →
    ((n : ℕ) (p : Place) (t u u' : Term) → Change n p u u' → Change n (Side.second ∷ p) (node t u) (node t u')) →
    Reduce t t' → Reduce u u' → Reduce (node t u) (node t' u')
reduce_both {t'} {u} node in-first in-second h k =
    reduce_trans
    (reduce_in (λ t. node t u) (λ n p t t' c. in-first n p t t' u c) h)
    (reduce_in (node t') (λ n p u u' c. in-second n p t' u u' c) k)

-- The two parts of an application reduce one after the other.
pub reduce_app : {t t' u u' : Term} → Reduce t t' → Reduce u u' → Reduce (Term.app t u) (Term.app t' u')
reduce_app = reduce_both Term.app (λ n p t t' u. Change.in_app₁) (λ n p t u u'. Change.in_app₂)

-- What becomes another term reduces to it.
pub par_reduce : {t u : Term} → Par t u → Reduce t u
par_reduce par_J = Reduce.unchanged
par_reduce (par_R p) = reduce_in Term.R (λ n p t u. Change.in_R) (par_reduce p)
par_reduce (par_H p q) = reduce_both Term.H (λ n p t t' u. Change.in_H₁) (λ n p t u u'. Change.in_H₂) (par_reduce p) (par_reduce q)
par_reduce (par_A p q) = reduce_both Term.A (λ n p t t' u. Change.in_A₁) (λ n p t u u'. Change.in_A₂) (par_reduce p) (par_reduce q)
par_reduce par_I = Reduce.unchanged
par_reduce (par_B p q) = reduce_both Term.B (λ n p t t' u. Change.in_B₁) (λ n p t u u'. Change.in_B₂) (par_reduce p) (par_reduce q)
par_reduce par_bell = Reduce.unchanged
par_reduce (par_app p q) = reduce_app (par_reduce p) (par_reduce q)
par_reduce (fire p q r) = reduce_trans (reduce_app (par_reduce p) (par_reduce q)) (Reduce.forwards (Change.here r) Reduce.unchanged)

-- the right side of the rule that applies to `.` f a, or `.` f a itself where none does
abbrev pub contract : Term → Term → Term
contract Term.J t = Term.H Term.J t
contract (Term.R t) u = Term.H (Term.R t) u
contract (Term.H r t) u = Term.H (Term.H r t) u
contract (Term.A s t) u = Term.app (Term.B u s) t
contract Term.I t = t
contract (Term.bell k) t = Term.H (Term.bell k) t
contract (Term.B u s) Term.J = u
contract (Term.B u s) (Term.R t) = Term.app s t
contract (Term.B u s) (Term.H r t) = Term.app (Term.app (Term.B u s) r) (Term.app (Term.B u s) t)
contract (Term.B u s) (Term.A r t) = Term.A (Term.app (Term.B u s) r) t
contract (Term.B u s) Term.I = Term.I
contract (Term.B u s) (Term.B r t) = Term.B (Term.app (Term.B u s) r) (Term.app (Term.B u s) t)
contract (Term.B u s) (Term.bell k) = Term.bell k
contract (Term.B u s) (Term.app f a) = Term.app (Term.B u s) (Term.app f a)
contract (Term.app f a) u = Term.app (Term.app f a) u

-- all that a term can become at once: parts first, then the redex that they make
abbrev pub develop : Term → Term
develop Term.J = Term.J
develop (Term.R t) = Term.R (develop t)
develop (Term.H r t) = Term.H (develop r) (develop t)
develop (Term.A s t) = Term.A (develop s) (develop t)
develop Term.I = Term.I
develop (Term.B u s) = Term.B (develop u) (develop s)
develop (Term.app t u) = contract (develop t) (develop u)
develop (Term.bell k) = Term.bell k

-- An application whose parts become f and a becomes what `.` f a contracts to.
pub app-contract : {t u : Term} (f a : Term) → Par t f → Par u a → Par (Term.app t u) (contract f a)
app-contract Term.J a p q = fire p q Rule.rule_1
app-contract (Term.R t) a p q = fire p q Rule.rule_2
app-contract (Term.H r t) a p q = fire p q Rule.rule_3
app-contract (Term.A s t) a p q = fire p q Rule.rule_4
app-contract Term.I a p q = fire p q Rule.rule_5
app-contract (Term.bell k) a p q = fire p q Rule.rule_12
app-contract (Term.B u s) Term.J p q = fire p q Rule.rule_6
app-contract (Term.B u s) (Term.R t) p q = fire p q Rule.rule_7
app-contract (Term.B u s) (Term.H r t) p q = fire p q Rule.rule_8
app-contract (Term.B u s) (Term.A r t) p q = fire p q Rule.rule_9
app-contract (Term.B u s) Term.I p q = fire p q Rule.rule_10
app-contract (Term.B u s) (Term.B r t) p q = fire p q Rule.rule_11
app-contract (Term.B u s) (Term.bell k) p q = fire p q Rule.rule_13
app-contract (Term.B u s) (Term.app f a) p q = par_app p q
app-contract (Term.app f a) u p q = par_app p q

-- A rule's right side becomes the contractum of what the two parts of its left side become.
pub rule-contract : {n : ℕ} {t u v f a : Term} → Rule n (Term.app t u) v → Par t f → Par u a → Par v (contract f a)
rule-contract Rule.rule_1 par_J q = par_H par_J q
rule-contract Rule.rule_2 (par_R p) q = par_H (par_R p) q
rule-contract Rule.rule_3 (par_H p p') q = par_H (par_H p p') q
rule-contract Rule.rule_4 (par_A p p') q = par_app (par_B q p) p'
rule-contract Rule.rule_5 par_I q = q
rule-contract Rule.rule_6 (par_B p p') par_J = p
rule-contract Rule.rule_7 (par_B p p') (par_R q) = par_app p' q
rule-contract Rule.rule_8 (par_B p p') (par_H q q') = par_app (par_app (par_B p p') q) (par_app (par_B p p') q')
rule-contract Rule.rule_9 (par_B p p') (par_A q q') = par_A (par_app (par_B p p') q) q'
rule-contract Rule.rule_10 (par_B p p') par_I = par_I
rule-contract Rule.rule_11 (par_B p p') (par_B q q') = par_B (par_app (par_B p p') q) (par_app (par_B p p') q')
rule-contract Rule.rule_12 par_bell q = par_H par_bell q
rule-contract Rule.rule_13 (par_B p p') par_bell = par_bell

-- Whatever a term becomes, becomes its development.
pub triangle : {t u : Term} → Par t u → Par u (develop t)
triangle par_J = par_J
triangle (par_R p) = par_R (triangle p)
triangle (par_H p q) = par_H (triangle p) (triangle q)
triangle (par_A p q) = par_A (triangle p) (triangle q)
triangle par_I = par_I
triangle (par_B p q) = par_B (triangle p) (triangle q)
triangle par_bell = par_bell
triangle (par_app p q) = app-contract _ _ (triangle p) (triangle q)
triangle (fire p q r) = rule-contract r (triangle p) (triangle q)

-- Terms whose reducts have a common reduct have it too.
pub joins-before : {t t' u u' : Term} → Reduce t t' → Reduce u u' → Joins t' u' → Joins t u
joins-before h k j = record { meet = j.meet; left = reduce_trans h j.left; right = reduce_trans k j.right }

-- What a term becomes and what it reduces to have a common reduct.
pub strip : {t u v : Term} → Par t u → Reduce t v → Joins u v
strip p Reduce.unchanged = record { meet = _; left = Reduce.unchanged; right = par_reduce p }
strip p (Reduce.forwards c h) = joins-before (par_reduce (triangle p)) Reduce.unchanged (strip (triangle (change_par c)) h)

-- Reduction is confluent: two reducts of a term have a common reduct.
pub confluence : {t u v : Term} → Reduce t u → Reduce t v → Joins u v
confluence Reduce.unchanged k = record { meet = _; left = k; right = Reduce.unchanged }
confluence (Reduce.forwards c h) k =
    let j = strip (change_par c) k in
    joins-before Reduce.unchanged j.right (confluence h j.left)

-- Turnings follow one another.
pub turn_trans : {t u v : Term} → Turn t u → Turn u v → Turn t v
turn_trans Turn.unchanged k = k
turn_trans (Turn.forwards c h) k = Turn.forwards c (turn_trans h k)
turn_trans (Turn.backwards c h) k = Turn.backwards c (turn_trans h k)

-- What turns one way turns the other.
pub turn-sym : {t u : Term} → Turn t u → Turn u t
turn-sym Turn.unchanged = Turn.unchanged
turn-sym (Turn.forwards c h) = turn_trans (turn-sym h) (Turn.backwards c Turn.unchanged)
turn-sym (Turn.backwards c h) = turn_trans (turn-sym h) (Turn.forwards c Turn.unchanged)

-- A term turns into each of its reducts.
pub reduce_turn : {t u : Term} → Reduce t u → Turn t u
reduce_turn Reduce.unchanged = Turn.unchanged
reduce_turn (Reduce.forwards c h) = Turn.forwards c (reduce_turn h)

-- Terms that turn into each other have a common reduct.
pub turn-join : {t u : Term} → Turn t u → Joins t u
turn-join Turn.unchanged = record { meet = _; left = Reduce.unchanged; right = Reduce.unchanged }
turn-join (Turn.forwards c h) = joins-before (Reduce.forwards c Reduce.unchanged) Reduce.unchanged (turn-join h)
turn-join (Turn.backwards c h) =
    let j = turn-join h in
    joins-before Reduce.unchanged j.right (confluence (Reduce.forwards c Reduce.unchanged) j.left)

-- Two terms can be turned into each other exactly when they have a common reduct.
pub turn-joins : (t u : Term) → Turn t u ↔ Joins t u
turn-joins t u = (turn-join, λ j. turn_trans (reduce_turn j.left) (turn-sym (reduce_turn j.right)))

-- No rule applies to a normal term.
pub normal_no_rule : {n : ℕ} {t u : Term} → Rule n t u → Normal t → ⊥
normal_no_rule {t = Term.app t u} r h = elim h [ ]
normal_no_rule {t = Term.J} r h = elim r [ ]
normal_no_rule {t = Term.R t} r h = elim r [ ]
normal_no_rule {t = Term.H _ t} r h = elim r [ ]
normal_no_rule {t = Term.A s t} r h = elim r [ ]
normal_no_rule {t = Term.I} r h = elim r [ ]
normal_no_rule {t = Term.B u s} r h = elim r [ ]
normal_no_rule {t = Term.bell k} r h = elim r [ ]

-- No part of a normal term can be changed forwards.
pub normal-unchanged : {n : ℕ} {p : Place} {t u : Term} → Normal t → Change n p t u → ⊥
normal-unchanged h (Change.here r) = normal_no_rule r h
normal-unchanged (Normal.normal-R h) (Change.in_R c) = normal-unchanged h c
normal-unchanged (Normal.normal-H h k) (Change.in_H₁ c) = normal-unchanged h c
normal-unchanged (Normal.normal-H h k) (Change.in_H₂ c) = normal-unchanged k c
normal-unchanged (Normal.normal-A h k) (Change.in_A₁ c) = normal-unchanged h c
normal-unchanged (Normal.normal-A h k) (Change.in_A₂ c) = normal-unchanged k c
normal-unchanged (Normal.normal-B h k) (Change.in_B₁ c) = normal-unchanged h c
normal-unchanged (Normal.normal-B h k) (Change.in_B₂ c) = normal-unchanged k c
normal-unchanged h (Change.in_app₁ _) = elim h [ ]
normal-unchanged h (Change.in_app₂ _) = elim h [ ]

-- A normal term reduces to itself alone.
pub normal_reduce : {t u : Term} → Normal t → Reduce t u → t ≡ u
normal_reduce h Reduce.unchanged = refl
normal_reduce h (Reduce.forwards c k) = absurd (normal-unchanged h c)

-- Two normal terms can be turned into each other exactly when they are the same.
pub normal-turn : {t u : Term} → Normal t → Normal u → (Turn t u ↔ (t ≡ u))
normal-turn {t} {u} h k = (same, λ e. subst (Turn t) e Turn.unchanged)
  where
    same : Turn t u → t ≡ u
    same turned = let j = turn-join turned in normal_reduce h j.left ∙ sym (normal_reduce k j.right)
