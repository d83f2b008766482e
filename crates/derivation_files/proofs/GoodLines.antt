-- A line that follows is found good, and its text is that of no other line. Carried by the laws that each field is read back as it was
-- written, and that tabs stand only between the fields. Assumes nothing.
use Prim.Native.Nat.{ℕ, zero, suc, ◌≤◌}
use mathlib.Core.Path.{◌≡◌, refl, sym, ◌∙◌, ap, ap₂, subst}
use mathlib.Core.Bool.{Bool, true, false}
use mathlib.Core.Option.{Option, none, some}
use mathlib.Core.List.{List, [], ◌∷◌, ◌++◌, append_assoc}
use lib.Dec.{eqb}
use lib.ListN.{length}
use borrow.Author.Tests.{eqb-true}
use native.Mathlib.Omega.{arith}
use Rattle.calculus.specs.Term.{Term, text}
use Rattle.calculus.specs.Types.{Context, Ty, context_signs, ty_signs, context_text, ty_text}
use Rattle.calculus.specs.Typing.{Judgement, Name, name_byte, Follows}
use Rattle.calculus.specs.Parse.{term_of}
use Rattle.calculus.proofs.PrefixCode.{term_of-text, text-term_of, text_injective}
use Rattle.types.specs.Parse.{type_of, context_of}
use Rattle.types.proofs.Parse.{type_of-text, text-type_of, context_of-text, text-context_of, ty_injective, context_injective}
use Rattle.slices.specs.Split.{fields}
use Rattle.derivation_files.specs.Line.{
  Premise,
  Line,
  premise_text,
  judgement_text,
  body_text,
  judgement_if,
  judgement_of,
  names,
  chosen_name,
  find_name,
  name_of,
}
use Rattle.derivation_files.specs.Instance.{Premises, is_instance}
use Rattle.derivation_files.specs.Checking.{Found, earlier_line, premises_one, premises_two, premise_count, premises_of, found_fields}
use Rattle.derivation_files.specs.Accepted.{Names, LineFollows}
use Rattle.derivation_files.proofs.Instance.{listed, instance_follows}
use Rattle.slices.proofs.Splitting.{Free}
use Rattle.derivation_files.proofs.Split.{AllFree, free-joined, free-text, free-written, free-name, joined, split-joined}
use Rattle.derivation_files.proofs.Numeral.{Proper, premise_text_lem, premise_injective, free_premise}

-- the fields of a judgement
abbrev pub judgement_fields : Judgement → List (List ℕ)
judgement_fields (Judgement.judge G t W) = context_text G ∷ text t ∷ ty_text W ∷ []

-- the fields of a line behind its judgement
abbrev pub rest_fields : Line → List (List ℕ)
rest_fields l = (name_byte l.name ∷ []) ∷ premise_text l.first ∷ premise_text l.second ∷ []

-- the six fields of a line
abbrev pub line_fields : Line → List (List ℕ)
line_fields l = judgement_fields l.judgement ++ rest_fields l

-- a line without its byte 10
abbrev pub body : Line → List ℕ
body l = joined 9 (line_fields l)

-- five texts in a row, taken together from the left or from the right
regroup : (a b c d e : List ℕ) → a ++ b ++ c ++ d ++ e ≡ a ++ (b ++ (c ++ (d ++ e)))
regroup a b c d e = simp append_assoc

-- a line's text without its byte 10 is its fields parted by tabs
pub body-text : (l : Line) → body_text l ≡ body l
body-text l = go l.judgement
  where
    go :
        (j : Judgement) →
        judgement_text j ++ (9 ∷ name_byte l.name ∷ 9 ∷ premise_text l.first) ++ (9 ∷ premise_text l.second)
        ≡ joined 9 (judgement_fields j ++ rest_fields l)
    go (Judgement.judge G t W) =
        regroup (context_text G) (9 ∷ text t) (9 ∷ ty_text W) (9 ∷ name_byte l.name ∷ 9 ∷ premise_text l.first)
        (9 ∷ premise_text l.second)

-- no tab and no line feed stands in a line's fields
pub free-fields : (mark : ℕ) → mark ≤ 10 → (l : Line) → AllFree mark (line_fields l)
free-fields mark low l = go l.judgement
  where
    rest : AllFree mark (rest_fields l)
    rest = (free-name mark low l.name, (free_premise mark low l.first, (free_premise mark low l.second, tt)))

    go : (j : Judgement) → AllFree mark (judgement_fields j ++ rest_fields l)
    go (Judgement.judge G t W) = (free-written mark low (context_signs G), (free-text mark low t, (free-written mark low (ty_signs W), rest)))

-- no line feed stands in a line without its last byte
pub free-body : (l : Line) → Free 10 (body l)
free-body l = free-joined 10 9 (line_fields l) (omega arith) (free-fields 10 (omega arith) l)

-- a line is cut at its tabs into its fields
pub fields-body : (l : Line) → fields (body l) ≡ line_fields l
fields-body l = go l.judgement (free-fields 9 (omega arith) l)
  where
    go :
        (j : Judgement) → AllFree 9 (judgement_fields j ++ rest_fields l) →
        fields (joined 9 (judgement_fields j ++ rest_fields l)) ≡ judgement_fields j ++ rest_fields l
    go (Judgement.judge G t W) free = split-joined 9 (context_text G) (text t ∷ ty_text W ∷ rest_fields l) free

-- the name of a name's byte is that name
pub name-byte : (name : Name) → name_of (name_byte name ∷ []) ≡ some name
unfolding name_of
name-byte Name.J = refl
name-byte Name.R = refl
name-byte Name.H = refl
name-byte Name.A = refl
name-byte Name.f = refl
name-byte Name.I = refl
name-byte Name.B = refl
name-byte Name.s = refl
name-byte Name.K = refl

-- what is found in a list of names has the byte looked for
byte-find : (b : ℕ) (others : List Name) (name : Name) → find_name b others ≡ some name → name_byte name ≡ b
byte-find b [] name e = cc
byte-find b (x ∷ others) name e = go (eqb b (name_byte x)) refl (byte-find b others name) e
  where
    go :
        (t : Bool) → eqb b (name_byte x) ≡ t → (find_name b others ≡ some name → name_byte name ≡ b) →
        chosen_name t x (find_name b others) ≡ some name → name_byte name ≡ b
    go true q later e = let same : b ≡ name_byte x = eqb-true b (name_byte x) q in cc
    go false q later e = later e

-- the byte of the name that a field names is the field
pub byte-name : (field : List ℕ) (name : Name) → name_of field ≡ some name → name_byte name ∷ [] ≡ field
unfolding name_of
byte-name [] name e = cc
byte-name (b ∷ []) name e = ap (λ (c : ℕ). c ∷ []) (byte-find b names name e)
byte-name (b ∷ c ∷ field) name e = cc

-- names of the same byte are the same
name_injective : (m n : Name) → name_byte m ≡ name_byte n → m ≡ n
name_injective m n e = let same : some m ≡ some n = sym (name-byte m) ∙ ap (λ (b : ℕ). name_of (b ∷ [])) e ∙ name-byte n in cc

-- the judgement of a judgement's fields is that judgement
pub judgement-text : (G : Context) (t : Term) (W : Ty) → judgement_of (context_text G) (text t) (ty_text W) ≡ some (Judgement.judge G t W)
judgement-text G t W = rw (context_of-text G, term_of-text t, type_of-text W)

-- the fields of the judgement that three fields are of are those fields
pub text-judgement :
    (context term type : List ℕ) (j : Judgement) → judgement_of context term type ≡ some j → judgement_fields j ≡ context ∷ term ∷ type ∷ []
text-judgement context term type j = go (context_of context) (term_of term) (type_of type) refl refl refl
  where
    go :
        (G : Option Context) (t : Option Term) (W : Option Ty) → context_of context ≡ G → term_of term ≡ t → type_of type ≡ W →
        judgement_if G t W ≡ some j → judgement_fields j ≡ context ∷ term ∷ type ∷ []
    go none t W p q r e = cc
    go (some G) none W p q r e = cc
    go (some G) (some t) none p q r e = cc
    go (some G) (some t) (some W) p q r e =
        let found : Judgement.judge G t W ≡ j = cc in
        let spelt : context_text G ≡ context = text-context_of context G p in
        let spelt-t : text t ≡ term = text-term_of term t q in
        let spelt-W : ty_text W ≡ type = text-type_of type W r in
        ap judgement_fields (sym found) ∙ cc

-- the rule's premises as none, one or two
pub follows-listed :
    {name : Name} {premises : List Judgement} {j : Judgement} → Follows name premises j →
    (ps : Premises) × (listed ps ≡ premises) × (length (listed ps) ≡ premise_count name)
follows-listed Follows.by_J = (Premises.none, refl, refl)
follows-listed Follows.by_R = (Premises.one _, refl, refl)
follows-listed Follows.by_H = (Premises.two _ _, refl, refl)
follows-listed Follows.by_f = (Premises.two _ _, refl, refl)
follows-listed Follows.by_A = (Premises.two _ _, refl, refl)
follows-listed Follows.by_I = (Premises.none, refl, refl)
follows-listed Follows.by_B = (Premises.two _ _, refl, refl)
follows-listed Follows.by_s = (Premises.two _ _, refl, refl)
follows-listed Follows.by_K = (Premises.none, refl, refl)

-- what two fields name is what they are found to name
pub names-found :
    {earlier : List Judgement} {p q : Premise} (ps : Premises) → Names earlier p q (listed ps) →
    premises_of (length (listed ps)) earlier (some p) (some q) ≡ some ps
names-found Premises.none Names.no_premise = refl
names-found (Premises.one i) (Names.one_premise e) = ap (λ (o : Option Judgement). premises_one o true) e
names-found (Premises.two i k) (Names.two-premises e f) = ap₂ premises_two e f

-- earlier lines count from 1
named_positive : (earlier : List Judgement) (n : ℕ) (i : Judgement) → earlier_line earlier n ≡ some i → 1 ≤ n
named_positive [] n i e = let z : ◌≡◌ {A = ℕ} 0 1 = cc in omega arith
named_positive (j ∷ earlier) zero i e = let z : ◌≡◌ {A = ℕ} 0 1 = cc in omega arith
named_positive (j ∷ earlier) (suc n) i e = omega arith

-- fields that name earlier lines are `-` or numbers from 1 upwards
pub names_proper : {earlier : List Judgement} {p q : Premise} {premises : List Judgement} → Names earlier p q premises → Proper p × Proper q
names_proper Names.no_premise = (tt, tt)
names_proper {earlier} (Names.one_premise {n} {i} e) = (named_positive earlier n i e, tt)
names_proper {earlier} (Names.two-premises {m} {n} {i} {k} e f) = (named_positive earlier m i e, named_positive earlier n k f)

-- a line that follows is found good
pub follows-found :
    (earlier : List Judgement) (l : Line) → LineFollows earlier l → found_fields earlier (fields (body l)) ≡ Found.good l.judgement
follows-found earlier l f = ap (found_fields earlier) (fields-body l) ∙ go l.judgement f.follows
  where
    go : (j : Judgement) → Follows l.name f.premises j → found_fields earlier (judgement_fields j ++ rest_fields l) ≡ Found.good j
    go (Judgement.judge G t W) follows =
        let (ps, same, count) = follows-listed follows in
        let (proper-first, proper-second) = names_proper f.named in
        let found : premises_of (length (listed ps)) earlier (some l.first) (some l.second) ≡ some ps =
        names-found ps (subst (Names earlier l.first l.second) (sym same) f.named) in
        let passes : is_instance l.name ps (Judgement.judge G t W) ≡ true =
        (instance_follows l.name ps (Judgement.judge G t W)).1
        (subst (λ (js : List Judgement). Follows l.name js (Judgement.judge G t W)) (sym same) follows) in
        rw (
          judgement-text G t W,
          name-byte l.name,
          premise_text_lem l.first proper-first,
          premise_text_lem l.second proper-second,
          ← count,
          found,
          passes,
        )

-- lines of the same text are the same
pub body_injective : (l m : Line) → body l ≡ body m → l ≡ m
body_injective l m e =
    go l.judgement m.judgement l.name m.name l.first m.first l.second m.second
    (sym (fields-body l) ∙ ap fields e ∙ fields-body m)
  where
    go :
        (j k : Judgement) (n o : Name) (p q r s : Premise) →
        line_fields (record { judgement = j; name = n; first = p; second = r })
        ≡ line_fields (record { judgement = k; name = o; first = q; second = s }) →
        ◌≡◌ {A = Line}
        (record { judgement = j; name = n; first = p; second = r })
        (record { judgement = k; name = o; first = q; second = s })
    go (Judgement.judge G t W) (Judgement.judge D u X) n o p q r s e =
        let same-G : G ≡ D = context_injective G D (cc) in
        let same-t : t ≡ u = text_injective t u (cc) in
        let same-W : W ≡ X = ty_injective W X (cc) in
        let same-n : n ≡ o = name_injective n o (cc) in
        let same-p : p ≡ q = premise_injective p q (cc) in
        let same-r : r ≡ s = premise_injective r s (cc) in
        cc
