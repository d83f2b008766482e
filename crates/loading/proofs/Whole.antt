-- Of a term's text every end is read into terms only. Assumes nothing.
use Prim.Native.Nat.{ℕ, zero, suc}
use mathlib.Core.Path.{◌≡◌, sym, ◌∙◌, ap}
use mathlib.Core.List.{List, [], ◌∷◌, append-nil}
use mathlib.Core.Option.{Option, none, some}
use lib.ListN.{drop}
use Rattle.calculus.specs.Letter.{Letter, letter_of}
use Rattle.calculus.specs.Term.{Term, text}
use Rattle.calculus.specs.Parse.{Item, one, two, push, items}
use Rattle.calculus.proofs.PrefixCode.{items-text}
use Rattle.loading.specs.Stack.{AllWhole}

-- what a letter that takes one finds is terms, where it leaves terms
whole-one : (b : ℕ) (node : Term → Term) (is : List Item) → AllWhole (one b node is) → AllWhole is
whole-one b node [] w = absurd w
whole-one b node (Item.loose c ∷ is) w = absurd w
whole-one b node (Item.whole t ∷ is) w = w

-- what a letter that takes two finds is terms, where it leaves terms
whole-two : (b : ℕ) (node : Term → Term → Term) (is : List Item) → AllWhole (two b node is) → AllWhole is
whole-two b node [] w = absurd w
whole-two b node (Item.loose c ∷ is) w = absurd w
whole-two b node (Item.whole t ∷ []) w = absurd w
whole-two b node (Item.whole t ∷ Item.loose c ∷ is) w = absurd w
whole-two b node (Item.whole t ∷ Item.whole u ∷ is) w = w

-- what a byte finds is terms, where it leaves terms
whole-push : (b : ℕ) (o : Option Letter) (is : List Item) → AllWhole (push b o is) → AllWhole is
whole-push b none is w = absurd w
whole-push b (some Letter.J) is w = w
whole-push b (some Letter.R) is w = whole-one b Term.R is w
whole-push b (some Letter.H) is w = whole-two b Term.H is w
whole-push b (some Letter.A) is w = whole-two b Term.A is w
whole-push b (some Letter.I) is w = w
whole-push b (some Letter.B) is w = whole-two b Term.B is w
whole-push b (some Letter.stop) is w = whole-two b Term.app is w
whole-push b (some (Letter.bell k)) is w = w

-- bytes that are read into terms only have ends that are
pub whole_drop : (n : ℕ) (s : List ℕ) → AllWhole (items s) → AllWhole (items (drop n s))
whole_drop zero s w = w
whole_drop (suc n) [] w = w
whole_drop (suc n) (b ∷ s) w = whole_drop n s (whole-push b (letter_of b) (items s) w)

-- the bytes of a term's text are read into that term
pub items-whole : (s : List ℕ) (t : Term) → s ≡ text t → items s ≡ Item.whole t ∷ []
items-whole s t e = ap items (e ∙ sym (append-nil (text t))) ∙ items-text t []
