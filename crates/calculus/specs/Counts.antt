-- How often a run uses each rule (REQUIREMENTS, Counts). `proofs/Counts.antt` shows that together they make the count of its steps.
use Rattle.std.specs.Prelude.{ℕ, suc, ◌+◌, cond, List, [], ◌∷◌, map, eqb}
use Rattle.calculus.specs.Rule.{rule_numbers}
use Rattle.calculus.specs.Run.{Run, rules}

-- how often a number occurs in a list
abbrev pub occurrences : ℕ → List ℕ → ℕ
occurrences n [] = 0
occurrences n (m ∷ numbers) =
    let rest = occurrences n numbers in
    cond (eqb n m) (suc rest) rest

-- how often each rule's number occurs in a list, rule 1 first
abbrev pub tally : List ℕ → List ℕ
tally used = map (λ (n : ℕ). occurrences n used) rule_numbers

-- how often a run uses each rule
abbrev pub uses : Run → List ℕ
uses r = tally (rules r)

-- numbers taken together
abbrev pub total : List ℕ → ℕ
total [] = 0
total (n ∷ numbers) = n + total numbers
