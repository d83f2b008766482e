-- What is wrong with a line by its texts is what is found of it by the definition, where the starts are those of the earlier lines: carried
-- by the tests on texts (`TextInstance`) and by what a premise field names. Assumes nothing.
use Prim.Native.Nat.{ℕ, zero, suc, ◌-◌, ◌≤◌, ◌<◌, min}
use native.Mathlib.Omega.{arith}
use native.Mathlib.Decide.{dec_le}
use mathlib.Core.Path.{◌≡◌, refl, sym, ◌∙◌, ap, ap₂, subst, subst₂}
use mathlib.Core.Bool.{Bool, true, false, ◌&&◌}
use mathlib.Core.List.{List, [], ◌∷◌}
use mathlib.Core.Option.{Option, none, some}
use borrow.Author.Tests.{le-leb, lt-leb, lt-ltb}
use lib.Dec.{leb, ltb}
use lib.ListN.{length, get_or, drop}
use Rattle.std.specs.Prelude.{Ok, Err}
use Rattle.calculus.specs.Limits.{line_limit}
use Rattle.calculus.specs.Term.{Term}
use Rattle.calculus.specs.Types.{Context, Ty}
use Rattle.calculus.specs.Typing.{Judgement, Name}
use Rattle.calculus.specs.Parse.{term_of}
use Rattle.calculus.proofs.PrefixCode.{text-term_of}
use Rattle.types.specs.Parse.{type_of, context_of}
use Rattle.types.specs.Tests.{is_some}
use Rattle.types.proofs.Parse.{text-type_of, text-context_of}
use Rattle.slices.specs.Split.{fields}
use Rattle.derivation_files.specs.Line.{Premise, judgement_if, name_of, premise_of}
use Rattle.derivation_files.specs.Instance.{Premises, is_instance}
use Rattle.derivation_files.specs.Checking.{Found, earlier_line, is_dash_premise, named_premise, premises_none, premises_one, premises_two}
use Rattle.derivation_files.specs.Checking.{premise_count, premises_of, found_if, found_instance, found_name, found_judgement, found_fields}
use Rattle.fields.specs.Texts.{text_at}
use Rattle.fields.specs.Fields.{judged_at, six_at, has_six, Texts, texts_at}
use Rattle.premises.specs.Cited.{line_if, cited_of, is_dashed, is_line, cited_fit}
use Rattle.rules.specs.Rules.{named_rule, rule_of, count_of}
use Rattle.instances.specs.TextInstance.{instance_text}
use Rattle.derivation_lines.specs.declared.Fault.{Fault}
use Rattle.derivation_lines.specs.declared.Fault.TheVariants.{NotSixFields, Malformed, UnknownRule, BadPremise, NoInstance}
use Rattle.derivation_lines.specs.Number.{number_of}
use Rattle.derivation_lines.specs.TextLine.{Outcome, named_texts, instance_at, unless, on_rule, rule_fault, six_fault, rule_in, first_in, second_in, line_fault}
use Rattle.fields.specs.declared.SixFields.{SixFields}
use Rattle.premises.specs.declared.Cited.{Cited}
use Rattle.premises.specs.declared.Cited.TheVariants.{Line, Nothing}
use Rattle.instances.proofs.TextInstance.{texts_of, instance_none, instance_one, instance_two}
use Rattle.fields.proofs.Cutting.{first_line, six-found, six-missed}

-- the starts are those of the earlier lines: the texts of each are its judgement's
abbrev pub Table : (file starts : List ℕ) → List Judgement → Type 0
Table file starts earlier =
    (m : ℕ) (i : Judgement) → earlier_line earlier (suc m) ≡ some i → texts_at (judged_at file (get_or starts m 0)) file ≡ texts_of i

-- `Verdict own outcome found`: the fault has the number that is found of the line, and where there is none the line's texts are those of
-- the judgement found
pub data Verdict (own : Texts) : Outcome → Found → Type 0 where
  good : (j : Judgement) → own ≡ texts_of j → Verdict own (Ok tt) (Found.good j)
  bad : (fault : Fault) → Verdict own (Err fault) (Found.bad (number_of fault))

-- ---- what a premise field names

-- a line from 1 to the number of earlier lines is one of them
earlier-some : (earlier : List Judgement) (m : ℕ) → m < length earlier → (i : Judgement) × (earlier_line earlier (suc m) ≡ some i)
earlier-some [] m h = absurd (omega arith)
earlier-some (j ∷ js) zero h = (j, refl)
earlier-some (j ∷ js) (suc m) h = earlier-some js m (omega arith)

-- and no other
pub earlier-none : (earlier : List Judgement) (m : ℕ) → length earlier ≤ m → earlier_line earlier (suc m) ≡ none
earlier-none [] m h = refl
earlier-none (j ∷ js) zero h = absurd (omega arith)
earlier-none (j ∷ js) (suc m) h = earlier-none js m (omega arith)

earlier-zero : (earlier : List Judgement) → earlier_line earlier 0 ≡ none
earlier-zero [] = refl
earlier-zero (j ∷ js) = refl

dashed : (starts : List ℕ) (n : ℕ) (o : Option Premise) → is_dashed (cited_of starts n o) ≡ is_dash_premise o
dashed starts n none = refl
dashed starts n (some Premise.dash) = refl
dashed starts n (some (Premise.line m)) = go (ltb 0 m && leb m n)
  where
    go : (t : Bool) → is_dashed (line_if t (get_or starts (m - 1) 0)) ≡ false
    go true = refl
    go false = refl

-- what a field names, by the code and by the definition: no line, or an earlier line whose texts are those of its judgement
data Cites (file : List ℕ) : Cited → Option Judgement → Type 0 where
  nothing : {cited : Cited} → is_line cited ≡ false → Cites file cited none
  line :
      {cited : Cited} (i : Judgement) → is_line cited ≡ true → named_texts file cited ≡ texts_of i →
      Cites file cited (some i)

module _
    (file starts : List ℕ)
    (n : ℕ)
    (earlier : List Judgement)
    (count : length earlier ≡ n)
    (table : Table file starts earlier) where
  cites-line :
      (m : ℕ) → Dec (suc m ≤ n) →
      Cites file (line_if (ltb 0 (suc m) && leb (suc m) n) (get_or starts (suc m - 1) 0)) (earlier_line earlier (suc m))
  cites-line m (yes h) =
      let (i, e) = earlier-some earlier m (omega arith) in
      let index : suc m - 1 ≡ m = omega arith in
      let named : line_if (ltb 0 (suc m) && leb (suc m) n) (get_or starts (suc m - 1) 0) ≡ Line (get_or starts m 0) =
      ap₂ (λ (t : Bool) (k : ℕ). line_if t (get_or starts k 0)) (ap₂ ◌&&◌ (lt-ltb 0 (suc m) (omega arith)) (le-leb (suc m) n h)) index in
      subst₂ (λ (c : Cited) (o : Option Judgement). Cites file c o) (sym named) (sym e) (Cites.line i refl (table m i e))
  cites-line m (no h) =
      let named : line_if (ltb 0 (suc m) && leb (suc m) n) (get_or starts (suc m - 1) 0) ≡ Nothing =
      ap (λ (t : Bool). line_if t (get_or starts (suc m - 1) 0))
      (ap₂ ◌&&◌ (lt-ltb 0 (suc m) (omega arith)) (lt-leb (suc m) n (omega arith))) in
      subst₂ (λ (c : Cited) (o : Option Judgement). Cites file c o) (sym named) (sym (earlier-none earlier m (omega arith)))
      (Cites.nothing refl)

  cites : (o : Option Premise) → Cites file (cited_of starts n o) (named_premise earlier o)
  cites none = Cites.nothing refl
  cites (some Premise.dash) = Cites.nothing refl
  cites (some (Premise.line zero)) =
      subst (λ (o : Option Judgement). Cites file Nothing o) (sym (earlier-zero earlier)) (Cites.nothing refl)
  cites (some (Premise.line (suc m))) = cites-line m (dec_le (suc m) n)

-- ---- the tests of a line, from the last to the first

module _ (own : Texts) (name : Name) (j : Judgement) (same : own ≡ texts_of j) where
  judged : (b : Bool) → Verdict own (unless b NoInstance (Ok tt)) (found_if b j)
  judged true = Verdict.good j same
  judged false = Verdict.bad NoInstance

  -- where the premises fit, the instance decides
  fit :
      (fits inst test : Bool) → fits ≡ true → inst ≡ test →
      Verdict own (unless fits BadPremise (unless inst NoInstance (Ok tt))) (found_if test j)
  fit fits inst test p q =
      subst₂ (λ (f i : Bool). Verdict own (unless f BadPremise (unless i NoInstance (Ok tt))) (found_if test j)) (sym p) (sym q)
      (judged test)

  unfit :
      (fits inst : Bool) → fits ≡ false → Verdict own (unless fits BadPremise (unless inst NoInstance (Ok tt))) (Found.bad 17)
  unfit fits inst p =
      subst (λ (f : Bool). Verdict own (unless f BadPremise (unless inst NoInstance (Ok tt))) (Found.bad 17)) (sym p)
      (Verdict.bad BadPremise)

  by-none :
      (fits inst first second : Bool) → fits ≡ (first && second) → inst ≡ is_instance name Premises.none j →
      Verdict own (unless fits BadPremise (unless inst NoInstance (Ok tt))) (found_instance name j (premises_none first second))
  by-none fits inst true true p q = fit fits inst (is_instance name Premises.none j) p q
  by-none fits inst true false p q = unfit fits inst p
  by-none fits inst false second p q = unfit fits inst p

  module _ (file : List ℕ) where
    by_one :
        (fits inst : Bool) {cited : Cited} {o : Option Judgement} (second : Bool) → Cites file cited o →
        fits ≡ (is_line cited && second) →
        ((i : Judgement) → named_texts file cited ≡ texts_of i → inst ≡ is_instance name (Premises.one i) j) →
        Verdict own (unless fits BadPremise (unless inst NoInstance (Ok tt))) (found_instance name j (premises_one o second))
    by_one fits inst second (Cites.nothing e) p q = unfit fits inst (p ∙ ap (λ (t : Bool). t && second) e)
    by_one fits inst true (Cites.line i e t) p q =
        fit fits inst (is_instance name (Premises.one i) j) (p ∙ ap (λ (t : Bool). t && true) e) (q i t)
    by_one fits inst false (Cites.line i e t) p q = unfit fits inst (p ∙ ap (λ (t : Bool). t && false) e)

    by_two :
        (fits inst : Bool) {cited cited' : Cited} {o o' : Option Judgement} → Cites file cited o → Cites file cited' o' →
        fits ≡ (is_line cited && is_line cited') →
        ((i k : Judgement) → named_texts file cited ≡ texts_of i →
        named_texts file cited' ≡ texts_of k →
        inst ≡ is_instance name (Premises.two i k) j) →
        Verdict own (unless fits BadPremise (unless inst NoInstance (Ok tt))) (found_instance name j (premises_two o o'))
    by_two fits inst {cited' = cited'} (Cites.nothing e) second p q = unfit fits inst (p ∙ ap (λ (t : Bool). t && is_line cited') e)
    by_two fits inst (Cites.line i e t) (Cites.nothing d) p q = unfit fits inst (p ∙ ap₂ ◌&&◌ e d)
    by_two fits inst (Cites.line i e t) (Cites.line k d u) p q =
        fit fits inst (is_instance name (Premises.two i k) j) (p ∙ ap₂ ◌&&◌ e d) (q i k t u)

-- ---- one line

module _
    (file starts : List ℕ)
    (n : ℕ)
    (earlier : List Judgement)
    (count : length earlier ≡ min n line_limit)
    (table : Table file starts earlier)
    (six : SixFields) where
  -- the texts of the line, what its premise fields name, and the texts of the lines named
  abbrev mine : Texts
  mine = texts_at six.own file

  abbrev one : Cited
  one = first_in file starts n six

  abbrev two : Cited
  two = second_in file starts n six

  abbrev oneTexts : Texts
  oneTexts = named_texts file one

  abbrev twoTexts : Texts
  twoTexts = named_texts file two

  cites-one : Cites file one (named_premise earlier (premise_of (text_at six.first file)))
  cites-one = cites file starts (min n line_limit) earlier count table (premise_of (text_at six.first file))

  cites-two : Cites file two (named_premise earlier (premise_of (text_at six.second file)))
  cites-two = cites file starts (min n line_limit) earlier count table (premise_of (text_at six.second file))

  dashes :
      (is_dashed one && is_dashed two)
      ≡ (is_dash_premise (premise_of (text_at six.first file)) && is_dash_premise (premise_of (text_at six.second file)))
  dashes =
      ap₂ ◌&&◌ (dashed starts (min n line_limit) (premise_of (text_at six.first file)))
      (dashed starts (min n line_limit) (premise_of (text_at six.second file)))

  -- the rule is named: 17 or 18, or the line is good
  abbrev ByRule : Name → Judgement → Type 0
  ByRule name j =
      Verdict mine
      (unless (cited_fit (count_of (named_rule name)) one two) BadPremise
      (unless (instance_at file (named_rule name) mine one two) NoInstance (Ok tt)))
      (found_instance name j
      (premises_of (premise_count name) earlier (premise_of (text_at six.first file)) (premise_of (text_at six.second file))))

  module _ (j : Judgement) (same : mine ≡ texts_of j) where
    none_named :
        (name : Name) → premise_count name ≡ 0 → instance_at file (named_rule name) mine one two ≡ is_instance name Premises.none j
    none_named name e =
        ap (λ (x : Texts). instance_text (named_rule name) x oneTexts twoTexts) same ∙ instance_none name j oneTexts twoTexts e

    one-named :
        (name : Name) → premise_count name ≡ 1 → (i : Judgement) → oneTexts ≡ texts_of i →
        instance_at file (named_rule name) mine one two ≡ is_instance name (Premises.one i) j
    one-named name e i p = ap₂ (λ (x y : Texts). instance_text (named_rule name) x y twoTexts) same p ∙ instance_one name j i twoTexts e

    two-named :
        (name : Name) → premise_count name ≡ 2 → (i k : Judgement) → oneTexts ≡ texts_of i → twoTexts ≡ texts_of k →
        instance_at file (named_rule name) mine one two ≡ is_instance name (Premises.two i k) j
    two-named name e i k p q =
        ap (λ (x : Texts). instance_text (named_rule name) x oneTexts twoTexts) same ∙
        ap₂ (λ (y z : Texts). instance_text (named_rule name) (texts_of j) y z) p q ∙ instance_two name j i k e

    alone :
        (name : Name) → instance_at file (named_rule name) mine one two ≡ is_instance name Premises.none j →
        Verdict mine
        (unless (is_dashed one && is_dashed two) BadPremise
        (unless (instance_at file (named_rule name) mine one two) NoInstance (Ok tt)))
        (found_instance name j
        (premises_none (is_dash_premise (premise_of (text_at six.first file))) (is_dash_premise (premise_of (text_at six.second file)))))
    alone name named =
        by-none mine name j same (is_dashed one && is_dashed two) (instance_at file (named_rule name) mine one two)
        (is_dash_premise (premise_of (text_at six.first file))) (is_dash_premise (premise_of (text_at six.second file))) dashes named

    both :
        (name : Name) →
        ((i k : Judgement) → oneTexts ≡ texts_of i → twoTexts ≡ texts_of k →
        instance_at file (named_rule name) mine one two ≡ is_instance name (Premises.two i k) j) →
        Verdict mine
        (unless (is_line one && is_line two) BadPremise
        (unless (instance_at file (named_rule name) mine one two) NoInstance (Ok tt)))
        (found_instance name j
        (premises_two (named_premise earlier (premise_of (text_at six.first file)))
        (named_premise earlier (premise_of (text_at six.second file)))))
    both name named =
        by_two mine name j same file (is_line one && is_line two)
        (instance_at file (named_rule name) mine one two) cites-one cites-two refl named

    by-rule : (name : Name) → ByRule name j
    by-rule Name.J = alone Name.J (none_named Name.J refl)
    by-rule Name.R =
        by_one mine Name.R j same file (is_line one && is_dashed two)
        (instance_at file (named_rule Name.R) mine one two)
        (is_dash_premise (premise_of (text_at six.second file))) cites-one
        (ap (λ (t : Bool). is_line one && t) (dashed starts (min n line_limit) (premise_of (text_at six.second file))))
        (one-named Name.R refl)
    by-rule Name.H = both Name.H (two-named Name.H refl)
    by-rule Name.A = both Name.A (two-named Name.A refl)
    by-rule Name.f = both Name.f (two-named Name.f refl)
    by-rule Name.I = alone Name.I (none_named Name.I refl)
    by-rule Name.B = both Name.B (two-named Name.B refl)
    by-rule Name.s = both Name.s (two-named Name.s refl)
    by-rule Name.K = alone Name.K (none_named Name.K refl)

  -- the fields are well formed: 16 to 18, or the line is good
  by_name :
      (j : Judgement) → mine ≡ texts_of j → (o : Option Name) →
      Verdict mine
      (on_rule (rule_of o) (λ rule. rule_fault file rule mine one two))
      (found_name earlier j o (text_at six.first file) (text_at six.second file))
  by_name j same none = Verdict.bad UnknownRule
  by_name j same (some Name.J) = by-rule j same Name.J
  by_name j same (some Name.R) = by-rule j same Name.R
  by_name j same (some Name.H) = by-rule j same Name.H
  by_name j same (some Name.A) = by-rule j same Name.A
  by_name j same (some Name.f) = by-rule j same Name.f
  by_name j same (some Name.I) = by-rule j same Name.I
  by_name j same (some Name.B) = by-rule j same Name.B
  by_name j same (some Name.s) = by-rule j same Name.s
  by_name j same (some Name.K) = by-rule j same Name.K

  -- there are six fields: 15 to 18, or the line is good
  by-fields :
      (G : Option Context) (t : Option Term) (W : Option Ty) → context_of mine.context ≡ G → term_of mine.term ≡ t →
      type_of mine.type ≡ W →
      Verdict mine
      (unless (is_some G && is_some t && is_some W) Malformed
      (on_rule (rule_in file six) (λ rule. rule_fault file rule mine one two)))
      (found_judgement earlier (judgement_if G t W) (text_at six.rule file) (text_at six.first file) (text_at six.second file))
  by-fields none t W p q r = Verdict.bad Malformed
  by-fields (some G) none W p q r = Verdict.bad Malformed
  by-fields (some G) (some t) none p q r = Verdict.bad Malformed
  by-fields (some G) (some t) (some W) p q r = by_name (Judgement.judge G t W) texts (name_of (text_at six.rule file))
    where
      texts : mine ≡ texts_of (Judgement.judge G t W)
      texts = λ i. record {
        context = sym (text-context_of mine.context G p) i;
        term = sym (text-term_of mine.term t q) i;
        type = sym (text-type_of mine.type W r) i;
      }

-- a line that has not six fields
not_six : (earlier : List Judgement) (fs : List (List ℕ)) → (length fs ≡ 6 → ⊥) → found_fields earlier fs ≡ Found.bad 14
not_six earlier [] n = refl
not_six earlier (a ∷ []) n = refl
not_six earlier (a ∷ b ∷ []) n = refl
not_six earlier (a ∷ b ∷ c ∷ []) n = refl
not_six earlier (a ∷ b ∷ c ∷ d ∷ []) n = refl
not_six earlier (a ∷ b ∷ c ∷ d ∷ e ∷ []) n = refl
not_six earlier (a ∷ b ∷ c ∷ d ∷ e ∷ f ∷ []) n = absurd (n refl)
not_six earlier (a ∷ b ∷ c ∷ d ∷ e ∷ f ∷ g ∷ more) n = refl

-- where fewer lines than the limit went before, a field may name any of them
within : (n : ℕ) → n < line_limit → min n line_limit ≡ n
within n h = omega arith

-- what is wrong with the line that begins at an index is what is found of it
pub line-verdict :
    (file starts : List ℕ) (n : ℕ) (earlier : List Judgement) → length earlier ≡ n → n < line_limit → Table file starts earlier → (at : ℕ) →
    Verdict (texts_at (judged_at file at) file) (line_fault file starts n (six_at file at))
    (found_fields earlier (fields (first_line (drop at file))))
unfolding line_fault six_at
line-verdict file starts n earlier same few table at = go (has_six file (six_at file at)) refl
  where
    count : length earlier ≡ min n line_limit
    count = same ∙ sym (within n few)

    onwards : Outcome
    onwards =
        six_fault file (six_at file at) (rule_in file (six_at file at)) (first_in file starts n (six_at file at))
        (second_in file starts n (six_at file at))

    go :
        (t : Bool) → has_six file (six_at file at) ≡ t →
        Verdict (texts_at (judged_at file at) file) (line_fault file starts n (six_at file at))
        (found_fields earlier (fields (first_line (drop at file))))
    go true e =
        subst₂
        (λ (t : Bool) (fs : List (List ℕ)). Verdict (texts_at (judged_at file at) file) (unless t NotSixFields onwards)
        (found_fields earlier fs))
        (sym e) (sym (six-found file at e).0)
        (by-fields file starts n earlier count table (six_at file at)
        (context_of (mine file starts n earlier count table (six_at file at)).context)
        (term_of (mine file starts n earlier count table (six_at file at)).term)
        (type_of (mine file starts n earlier count table (six_at file at)).type) refl refl refl)
    go false e =
        subst₂
        (λ (t : Bool) (found : Found). Verdict (texts_at (judged_at file at) file) (unless t NotSixFields onwards) found)
        (sym e) (sym (not_six earlier (fields (first_line (drop at file))) (six-missed file at e)))
        (Verdict.bad NotSixFields)

-- a line that follows has six fields
pub follows_six :
    (file starts : List ℕ) (n : ℕ) (six : SixFields) → Ok tt ≡ line_fault file starts n six → has_six file six ≡ true
unfolding line_fault
follows_six file starts n six = go (has_six file six)
  where
    go :
        (t : Bool) →
        Ok tt ≡ unless t NotSixFields (six_fault file six (rule_in file six) (first_in file starts n six) (second_in file starts n six)) →
        t ≡ true
    go true e = refl
    go false e = cc
