-- What joins do: by the laws of `joining`, and by what the order finds. Assumes nothing.
use mathlib.Core.Path.{◌≡◌, refl, sym, ◌∙◌}
use mathlib.Core.Logic.{◌↔◌}
use mathlib.Core.List.{◌++◌, append_assoc}
use Rattle.calculus.specs.Ascii.{ascii}
use Rattle.calculus.specs.Term.{Term, text, Normal}
use Rattle.calculus.specs.Turning.{Turn}
use Rattle.calculus.specs.Found.{Finds}
use Rattle.calculus.proofs.Confluence.{turn_trans, turn-sym}
use Rattle.calculus.proofs.Found.{found_exactly}
use Rattle.joining.specs.Join.{join}
use Rattle.joining.proofs.Text.{size-join, text-join}
use Rattle.joining.proofs.Applied.{applied, grouped, after-I, before-I}
use Rattle.joining.proofs.Unapplied.{groupings_differ, joins_differ}
use Rattle.promises.specs.Joined.{one, two, three, Joined}

-- the text, piece behind piece
spelt : (f g : Term) → text (join f g) ≡ ascii "AB" ++ text f ++ ascii "B" ++ text g ++ ascii "IHRJHRRJJ"
spelt f g =
    sym
    (append_assoc (ascii "AB" ++ text f ++ ascii "B") (text g) (ascii "IHRJHRRJJ")
    ∙ append_assoc (ascii "AB" ++ text f) (ascii "B") (text g ++ ascii "IHRJHRRJJ")
    ∙ text-join f g)

-- terms that turn into each other have the same results
turn-finds : {t u : Term} (v : Term) → Turn t u → Finds t v ↔ Finds u v
turn-finds {t} {u} v turned = (over turned, over (turn-sym turned))
  where
    over : {x y : Term} → Turn x y → Finds x v → Finds y v
    over {x} {y} turned found =
        let (normal, reached) = (found_exactly x v).1 found in
        (found_exactly y v).0 (normal, turn_trans (turn-sym turned) reached)

pub joined : Joined
joined =
    record {
      spelt = spelt;
      sized = size-join;
      applied = applied;
      grouped = grouped;
      after-I = after-I;
      before-I = before-I;
      same-results = λ f g h t v. turn-finds v (grouped f g h t);
      unapplied = groupings_differ;
      unapplied-I = joins_differ;
      example = (refl, refl, groupings_differ one two three Normal.normal-bell Normal.normal-bell Normal.normal-bell);
    }
