-- A rule applied in the arena: what it asks for, and what it leaves (REQUIREMENTS, Rules). Assumes nothing.
use Rattle.std.specs.Prelude.{ℕ, ◌+◌, ◌≤◌, ◌≡◌, List, length, get_or}
use Rattle.calculus.specs.Letter.{Letter, byte}
use Rattle.calculus.specs.Limits.{area_limit}
use Rattle.calculus.specs.Term.{Term, size}
use Rattle.calculus.specs.Order.{Next, next}
use Rattle.cells.specs.Cell.{cell_limit, letter_in, Kept}
use Rattle.cells.specs.Stands.{Stands}

-- the cells of a function and its argument: the function is no application, nor, where it is a pair, the argument, so that a rule applies
pub record Redex (cells : List ℕ) (top f a : ℕ) (function argument : Term) : Type 0 where
  pub function-stands : Stands cells top f function
  pub argument-stands : Stands cells top a argument
  pub no_function : ¬ (letter_in (get_or cells f 0) ≡ byte Letter.stop)
  pub no_argument : letter_in (get_or cells f 0) ≡ byte Letter.B → ¬ (letter_in (get_or cells a 0) ≡ byte Letter.stop)

-- such cells, with room for what any rule builds
pub record Contractible (cells : List ℕ) (top f a : ℕ) : Type 0 where
  pub few : length cells ≤ cell_limit
  pub room : top + 3 ≤ length cells
  pub function : Term
  pub argument : Term
  pub redex : Redex cells top f a function argument
  pub small : size function + size argument ≤ area_limit

-- the rule that applies, and a cell that stands for what it gives; nothing below the top has changed
pub record Contracts (cells : List ℕ) (top : ℕ) (function argument : Term) (cells' : List ℕ) (rule top' result : ℕ) : Type 0 where
  pub kept : Kept top cells cells'
  pub higher : top ≤ top'
  pub few-more : top' ≤ top + 3
  pub reduct : Term
  pub step : next (Term.app function argument) ≡ Next.step rule reduct
  pub stands : Stands cells' top' result reduct
