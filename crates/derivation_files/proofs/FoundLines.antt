-- What is found of a line says why: it is good as the text of a line that follows, or bad by the number of `BadLine`. Carried by the laws
-- that each field is read back as it was written. Assumes nothing.
use Prim.Native.Nat.{ℕ, zero, suc, ◌≤◌}
use mathlib.Core.Path.{◌≡◌, refl, sym, ◌∙◌, ap, subst}
use mathlib.Core.Bool.{Bool, true, false, true≢false}
use mathlib.Core.Option.{Option, none, some, none-ne-some}
use mathlib.Core.List.{List, [], ◌∷◌}
use lib.ListN.{length}
use native.Mathlib.Omega.{arith}
use Rattle.calculus.specs.Typing.{Judgement, Name, Follows}
use Rattle.slices.specs.Split.{fields}
use Rattle.derivation_files.specs.Line.{Premise, Line, judgement_of, name_of, premise_of}
use Rattle.derivation_files.specs.Instance.{Premises, is_instance}
use Rattle.derivation_files.specs.Checking.{
  Found,
  earlier_line,
  is_dash_premise,
  named_premise,
  premises_none,
  premises_one,
  premises_two,
  premise_count,
  premises_of,
  found_if,
  found_instance,
  found_name,
  found_judgement,
  found_fields,
}
use Rattle.derivation_files.specs.Accepted.{Names, LineFollows}
use Rattle.derivation_files.specs.Checks.{Six, Spells, RuleLetter, Cites, BadLine}
use Rattle.derivation_files.proofs.Instance.{listed, instance_follows}
use Rattle.derivation_files.proofs.Split.{joined, joined-split}
use Rattle.derivation_files.proofs.Numeral.{premise_text_lem, text_premise}
use Rattle.derivation_files.proofs.GoodLines.{
  body,
  line_fields,
  name-byte,
  byte-name,
  judgement-text,
  text-judgement,
  names-found,
  names_proper,
}

-- ---- the premises that two fields name

-- a field that names no premise is `-`
dash-none : (o : Option Premise) → is_dash_premise o ≡ true → o ≡ some Premise.dash
dash-none none e = cc
dash-none (some Premise.dash) e = refl
dash-none (some (Premise.line n)) e = cc

-- a field that names a premise is the number of its line
line-named :
    (earlier : List Judgement) (o : Option Premise) (i : Judgement) → named_premise earlier o ≡ some i →
    (n : ℕ) × (o ≡ some (Premise.line n)) × (earlier_line earlier n ≡ some i)
line-named earlier none i e = absurd (none-ne-some _ e)
line-named earlier (some Premise.dash) i e = absurd (none-ne-some _ e)
line-named earlier (some (Premise.line n)) i e = (n, refl, e)

-- what two fields are found to name is what they name
found-names :
    (count : ℕ) (earlier : List Judgement) (o u : Option Premise) (ps : Premises) → premises_of count earlier o u ≡ some ps →
    (p : Premise) × (q : Premise) × (o ≡ some p) × (u ≡ some q) × Names earlier p q (listed ps)
found-names zero earlier o u ps = go (is_dash_premise o) (is_dash_premise u) refl refl
  where
    go :
        (a b : Bool) → is_dash_premise o ≡ a → is_dash_premise u ≡ b → premises_none a b ≡ some ps →
        (p : Premise) × (q : Premise) × (o ≡ some p) × (u ≡ some q) × Names earlier p q (listed ps)
    go true true first second e =
        let found : Premises.none ≡ ps = cc in (
          Premise.dash,
          Premise.dash,
          dash-none o first,
          dash-none u second,
          subst (λ (qs : Premises). Names earlier Premise.dash Premise.dash (listed qs)) found Names.no_premise,
        )
    go true false first second e = absurd (none-ne-some _ e)
    go false b first second e = absurd (none-ne-some _ e)
found-names (suc zero) earlier o u ps = go (named_premise earlier o) (is_dash_premise u) refl refl
  where
    go :
        (a : Option Judgement) (b : Bool) → named_premise earlier o ≡ a → is_dash_premise u ≡ b → premises_one a b ≡ some ps →
        (p : Premise) × (q : Premise) × (o ≡ some p) × (u ≡ some q) × Names earlier p q (listed ps)
    go (some i) true first second e =
        let found : Premises.one i ≡ ps = cc in
        let (n, same, named) = line-named earlier o i first in (
          Premise.line n,
          Premise.dash,
          same,
          dash-none u second,
          subst (λ (qs : Premises). Names earlier (Premise.line n) Premise.dash (listed qs)) found (Names.one_premise named),
        )
    go (some i) false first second e = absurd (none-ne-some _ e)
    go none b first second e = absurd (none-ne-some _ e)
found-names (suc (suc count)) earlier o u ps = go (named_premise earlier o) (named_premise earlier u) refl refl
  where
    go :
        (a b : Option Judgement) → named_premise earlier o ≡ a → named_premise earlier u ≡ b → premises_two a b ≡ some ps →
        (p : Premise) × (q : Premise) × (o ≡ some p) × (u ≡ some q) × Names earlier p q (listed ps)
    go (some i) (some k) first second e =
        let found : Premises.two i k ≡ ps = cc in
        let (m, same-m, named-m) = line-named earlier o i first in
        let (n, same-n, named-n) = line-named earlier u k second in (
          Premise.line m,
          Premise.line n,
          same-m,
          same-n,
          subst (λ (qs : Premises). Names earlier (Premise.line m) (Premise.line n) (listed qs)) found (Names.two-premises named-m named-n),
        )
    go (some i) none first second e = absurd (none-ne-some _ e)
    go none b first second e = absurd (none-ne-some _ e)

-- no rule has more than two premises
few-premises : (name : Name) → premise_count name ≤ 2
few-premises Name.J = omega arith
few-premises Name.R = omega arith
few-premises Name.H = omega arith
few-premises Name.A = omega arith
few-premises Name.f = omega arith
few-premises Name.I = omega arith
few-premises Name.B = omega arith
few-premises Name.s = omega arith
few-premises Name.K = omega arith

-- what two fields are found to name is as many as were looked for
found-count :
    (count : ℕ) (earlier : List Judgement) (o u : Option Premise) (ps : Premises) → count ≤ 2 →
    premises_of count earlier o u ≡ some ps → length (listed ps) ≡ count
found-count zero earlier o u ps few = go (is_dash_premise o) (is_dash_premise u)
  where
    go : (a b : Bool) → premises_none a b ≡ some ps → length (listed ps) ≡ 0
    go true true e = let found : ps ≡ Premises.none = cc in ap (λ (qs : Premises). length (listed qs)) found
    go true false e = absurd (none-ne-some _ e)
    go false b e = absurd (none-ne-some _ e)
found-count (suc zero) earlier o u ps few = go (named_premise earlier o) (is_dash_premise u)
  where
    go : (a : Option Judgement) (b : Bool) → premises_one a b ≡ some ps → length (listed ps) ≡ 1
    go (some i) true e = let found : ps ≡ Premises.one i = cc in ap (λ (qs : Premises). length (listed qs)) found
    go (some i) false e = absurd (none-ne-some _ e)
    go none b e = absurd (none-ne-some _ e)
found-count (suc (suc count)) earlier o u ps few = go (named_premise earlier o) (named_premise earlier u)
  where
    two : 2 ≡ suc (suc count)
    two = omega arith

    go : (a b : Option Judgement) → premises_two a b ≡ some ps → length (listed ps) ≡ suc (suc count)
    go (some i) (some k) e = let found : ps ≡ Premises.two i k = cc in ap (λ (qs : Premises). length (listed qs)) found ∙ two
    go (some i) none e = absurd (none-ne-some _ e)
    go none b e = absurd (none-ne-some _ e)

-- two fields that are found to name premises cite them
found_cites :
    (earlier : List Judgement) (name : Name) (first second : List ℕ) (ps : Premises) →
    premises_of (premise_count name) earlier (premise_of first) (premise_of second) ≡ some ps → Cites earlier name first second (listed ps)
found_cites earlier name first second ps e =
    let (p, q, is-p, is-q, named) = found-names (premise_count name) earlier (premise_of first) (premise_of second) ps e in
    record {
      one = p;
      other = q;
      one_written = sym (text_premise first p is-p);
      other-written = sym (text_premise second q is-q);
      named = named;
      as_many = found-count (premise_count name) earlier (premise_of first) (premise_of second) ps (few-premises name) e;
    }

-- the premises that fields name are none, one or two
names-listed :
    {earlier : List Judgement} {p q : Premise} {premises : List Judgement} → Names earlier p q premises →
    (ps : Premises) × (listed ps ≡ premises)
names-listed Names.no_premise = (Premises.none, refl)
names-listed (Names.one_premise e) = (Premises.one _, refl)
names-listed (Names.two-premises e f) = (Premises.two _ _, refl)

-- two fields that cite premises are found to name them
cites_found :
    {earlier : List Judgement} {name : Name} {first second : List ℕ} {premises : List Judgement} →
    Cites earlier name first second premises →
    (ps : Premises) × (listed ps ≡ premises) × (premises_of (premise_count name) earlier (premise_of first) (premise_of second) ≡ some ps)
cites_found {earlier} {name} {first} {second} c =
    let (ps, same) = names-listed c.named in
    let (proper-one, proper-other) = names_proper c.named in
    let is_one : premise_of first ≡ some c.one = ap premise_of c.one_written ∙ premise_text_lem c.one proper-one in
    let is-other : premise_of second ≡ some c.other = ap premise_of c.other-written ∙ premise_text_lem c.other proper-other in
    let count : length (listed ps) ≡ premise_count name = ap length same ∙ c.as_many in
    let found = names-found ps (subst (Names earlier c.one c.other) (sym same) c.named) in
    (ps, same, rw (is_one, is-other, ← count) found)

-- ---- the other fields

-- three fields that spell a judgement are read as it
spells_read : {context term type : List ℕ} {j : Judgement} → Spells context term type j → judgement_of context term type ≡ some j
spells_read (Spells.spelt {G} {t} {W} p q r) = rw (p, q, r) (judgement-text G t W)

-- three fields that are read as a judgement spell it
read_spells : (context term type : List ℕ) (j : Judgement) → judgement_of context term type ≡ some j → Spells context term type j
read_spells context term type (Judgement.judge G t W) e =
    let same = text-judgement context term type (Judgement.judge G t W) e in
    Spells.spelt {G = G} {t = t} {W = W} (cc) (cc) (cc)

-- a field that is a rule's letter names the rule
letter-names : (rule : List ℕ) (name : Name) → RuleLetter rule name → name_of rule ≡ some name
letter-names rule name e = ap name_of e ∙ name-byte name

-- ---- what is found

-- what is found of a line says: it is the text of a line that follows, or it is bad by that number
abbrev pub Says : (earlier : List Judgement) (line : List ℕ) → Found → Type 0
Says earlier line (Found.bad number) = BadLine earlier line number
Says earlier line (Found.good j) = (l : Line) × (body l ≡ line) × (l.judgement ≡ j) × LineFollows earlier l

module _
    (earlier : List Judgement) (line context term type rule first second : List ℕ)
    (six : Six line context term type rule first second) where
  -- the line that the six fields are read as has those fields
  body-read :
      {j : Judgement} (name : Name) {premises : List Judgement} → Spells context term type j → RuleLetter rule name →
      (c : Cites earlier name first second premises) →
      body (record { judgement = j; name = name; first = c.one; second = c.other }) ≡ line
  body-read name (Spells.spelt {G} {t} {W} p q r) letter c =
      let one = c.one_written in
      let other = c.other-written in
      let l : Line = record { judgement = Judgement.judge G t W; name = name; first = c.one; second = c.other } in
      let same : line_fields l ≡ fields line = cc in
      ap (joined 9) same ∙ joined-split 9 line

  -- with its premises named, the line follows, or the judgement is no instance of its rule
  instance-says :
      {j : Judgement} (name : Name) (ps : Premises) → Spells context term type j → RuleLetter rule name →
      Cites earlier name first second (listed ps) →
      (t : Bool) → is_instance name ps j ≡ t → Says earlier line (found_if t j)
  instance-says {j} name ps spells letter c true e = (
    _,
    body-read name spells letter c,
    refl,
    record { premises = listed ps; named = c.named; follows = (instance_follows name ps j).0 e },
  )
  instance-says {j} name ps spells letter c false e =
      BadLine.no_instance six spells letter c (λ follows. true≢false (sym ((instance_follows name ps j).1 follows) ∙ e))

  -- with its rule named, its premises are named or not
  premises-say :
      {j : Judgement} (name : Name) → Spells context term type j → RuleLetter rule name → (o : Option Premises) →
      premises_of (premise_count name) earlier (premise_of first) (premise_of second) ≡ o → Says earlier line (found_instance name j o)
  premises-say name spells letter none e =
      BadLine.bad-premises {name = name} six spells letter (λ premises c. none-ne-some _ (sym e ∙ (cites_found c).2))
  premises-say {j} name spells letter (some ps) e =
      instance-says name ps spells letter (found_cites earlier name first second ps e) (is_instance name ps j) refl

  -- with its judgement spelt, its rule is named or not
  name-says :
      {j : Judgement} → Spells context term type j → (o : Option Name) → name_of rule ≡ o →
      Says earlier line (found_name earlier j o first second)
  name-says spells none e = BadLine.unknown_rule six spells (λ name letter. none-ne-some _ (sym e ∙ letter-names rule name letter))
  name-says spells (some name) e =
      let found = premises_of (premise_count name) earlier (premise_of first) (premise_of second) in
      premises-say name spells (sym (byte-name rule name e)) found refl

  -- its judgement is spelt or not
  judgement-says :
      (o : Option Judgement) → judgement_of context term type ≡ o → Says earlier line (found_judgement earlier o rule first second)
  judgement-says none e = BadLine.not_well_formed six (λ j spells. none-ne-some _ (sym e ∙ spells_read spells))
  judgement-says (some j) e = name-says (read_spells context term type j e) (name_of rule) refl

-- a line of another number of fields is bad by 14
other-count : (earlier : List Judgement) (line : List ℕ) → (length (fields line) ≡ 6 → ⊥) → BadLine earlier line 14
other-count earlier line no_six = BadLine.not_six_fields (λ context term type rule first second six. no_six (ap length six))

-- what is found of a line says why
pub says : (earlier : List Judgement) (line : List ℕ) → Says earlier line (found_fields earlier (fields line))
says earlier line = go (fields line) refl
  where
    few : (n : ℕ) (parts : List (List ℕ)) → length parts ≡ n → (n ≡ 6 → ⊥) → fields line ≡ parts → BadLine earlier line 14
    few n parts counted other same = other-count earlier line (λ h. other (sym (ap length same ∙ counted) ∙ h))

    go : (parts : List (List ℕ)) → fields line ≡ parts → Says earlier line (found_fields earlier parts)
    go [] same = few 0 _ refl (omega arith) same
    go (a ∷ []) same = few 1 _ refl (omega arith) same
    go (a ∷ b ∷ []) same = few 2 _ refl (omega arith) same
    go (a ∷ b ∷ c ∷ []) same = few 3 _ refl (omega arith) same
    go (a ∷ b ∷ c ∷ d ∷ []) same = few 4 _ refl (omega arith) same
    go (a ∷ b ∷ c ∷ d ∷ e ∷ []) same = few 5 _ refl (omega arith) same
    go (context ∷ term ∷ type ∷ rule ∷ first ∷ second ∷ []) same =
        judgement-says earlier line context term type rule first second same (judgement_of context term type) refl
    go (a ∷ b ∷ c ∷ d ∷ e ∷ f ∷ g ∷ more) same = few _ _ refl (omega arith) same

-- ---- a bad line is found bad

-- a value that is none of those there might be is missing
missing {ℓ} : {A : Type ℓ} (o : Option A) → ((a : A) → o ≡ some a → ⊥) → o ≡ none
missing none no_one = refl
missing (some a) no_one = absurd (no_one a refl)

-- a test that cannot hold fails
fails : (t : Bool) → (t ≡ true → ⊥) → t ≡ false
fails true no_way = absurd (no_way refl)
fails false no_way = refl

-- a line that is bad by a number is found bad by it
pub bad-found :
    {earlier : List Judgement} {line : List ℕ} {number : ℕ} → BadLine earlier line number →
    found_fields earlier (fields line) ≡ Found.bad number
bad-found {earlier} {line} (BadLine.not_six_fields no_six) = go (fields line) refl
  where
    go : (parts : List (List ℕ)) → fields line ≡ parts → found_fields earlier parts ≡ Found.bad 14
    go [] same = refl
    go (a ∷ []) same = refl
    go (a ∷ b ∷ []) same = refl
    go (a ∷ b ∷ c ∷ []) same = refl
    go (a ∷ b ∷ c ∷ d ∷ []) same = refl
    go (a ∷ b ∷ c ∷ d ∷ e ∷ []) same = refl
    go (context ∷ term ∷ type ∷ rule ∷ first ∷ second ∷ []) same = absurd (no_six context term type rule first second same)
    go (a ∷ b ∷ c ∷ d ∷ e ∷ f ∷ g ∷ more) same = refl
bad-found {earlier} (BadLine.not_well_formed {context} {term} {type} {rule} {first} {second} six no-judgement) =
    let unread = missing (judgement_of context term type) (λ j e. no-judgement j (read_spells context term type j e)) in
    ap (found_fields earlier) six ∙ ap (λ (o : Option Judgement). found_judgement earlier o rule first second) unread
bad-found {earlier} (BadLine.unknown_rule {context} {term} {type} {rule} {first} {second} {j} six spells no_name) =
    let unnamed = missing (name_of rule) (λ name e. no_name name (sym (byte-name rule name e))) in
    ap (found_fields earlier) six
    ∙ ap (λ (o : Option Judgement). found_judgement earlier o rule first second) (spells_read spells)
    ∙ ap (λ (o : Option Name). found_name earlier j o first second) unnamed
bad-found {earlier} (BadLine.bad-premises {context} {term} {type} {rule} {first} {second} {j} {name} six spells letter no-premises) =
    let uncited =
    missing (premises_of (premise_count name) earlier (premise_of first) (premise_of second))
    (λ ps e. no-premises (listed ps) (found_cites earlier name first second ps e)) in
    ap (found_fields earlier) six
    ∙ ap (λ (o : Option Judgement). found_judgement earlier o rule first second) (spells_read spells)
    ∙ ap (λ (o : Option Name). found_name earlier j o first second) (letter-names rule name letter)
    ∙ ap (found_instance name j) uncited
bad-found {earlier} (BadLine.no_instance {context} {term} {type} {rule} {first} {second} {j} {name} six spells letter c no_way) =
    let (ps, same, cited) = cites_found c in
    let follows : Follows name (listed ps) j → ⊥ = λ f. no_way (subst (λ (js : List Judgement). Follows name js j) same f) in
    let untrue = fails (is_instance name ps j) (λ e. follows ((instance_follows name ps j).0 e)) in
    ap (found_fields earlier) six
    ∙ ap (λ (o : Option Judgement). found_judgement earlier o rule first second) (spells_read spells)
    ∙ ap (λ (o : Option Name). found_name earlier j o first second) (letter-names rule name letter)
    ∙ ap (found_instance name j) cited
    ∙ ap (λ (t : Bool). found_if t j) untrue
