-- WHAT GOES ON from an answer that is no record: a sign that may be there, a token that has to be, a list, a part of `for`. Assumes nothing.
use Rattle.std.proofs.Common.{◌≡◌, List, [], ◌∷◌, ℕ, sym, ap, subst, ◌∙◌}
use Rattle.characters.specs.declared.place.Place.{Place}
use Rattle.characters.specs.declared.refusal.Refusal.{Refusal}
use Rattle.characters.specs.Text.{Text, Stands}
use Rattle.characters.specs.PlaceLaws.{Reached, reached_on}
use Rattle.characters.specs.Tokens.{token}
use Rattle.characters.specs.TokenLaws.{TokenOn, token_on}
use Rattle.reading.specs.declared.node.Node.{Node}
use Rattle.reading.specs.declared.tally.Tally.{Tally}
use Rattle.reading.specs.Gots.{Got}
use Rattle.reading.specs.Gots.{Refused}
use Rattle.reading.specs.Process.{Process, look, must, bind}
use Rattle.reading.specs.Says.{Does}
use Rattle.reading.proofs.Laws.Does.{then, stops, told, by_found, by_missing, by_halted, by_failed, does_within}
use Rattle.records.specs.Rows.{layout}
use Rattle.records.proofs.Laws.Rows.{lent_kept}
use Rattle.records.proofs.Laws.Nodes.{does_length}
use Rattle.grammar.specs.Expressions.{Routine, Rule, list_node}
use Rattle.grammar.specs.Grammar.{grammar}
use Rattle.grammar.specs.Reads.{Ready, Reads}
use Rattle.grammar.specs.ReadLaws.{reads_on, refuses, ready_at}
use Rattle.makers.specs.Laws.Acts.{reads_refused}
use Rattle.makers.specs.Answers.Items.{Items}
use Rattle.makers.specs.Answers.Part.{Part}
use Rattle.makers.specs.Duties.{refused_by, items_of, ItemsBy, Comes, Lists, part_at, part_of, PartBy, Parts}
use Rattle.makers.specs.Answers.Items as items
use Rattle.makers.specs.Answers.Part as part
use Rattle.characters.specs.Answers.{Looked, Must, failed, found, missing}

-- ---- a sign that may be there: where it leads, and what is read on

module _ {s : Text} (at : Place) (b : ℕ) {l : Looked} (e : l ≡ token s at (b ∷ [])) where
  sign_leads : {x : Looked} → Stands s at → l ≡ x → TokenOn s at (b ∷ []) x
  sign_leads v f = subst (TokenOn s at (b ∷ [])) (sym e ∙ f) (token_on s at (b ∷ []) v)

  pub sign_found : {h n : Place} → Stands s at → l ≡ found h n → Reached s at n
  sign_found v f = let g = sign_leads v f in reached_on g.0 g.1

  pub sign_missing : {h : Place} → Stands s at → l ≡ missing h → Reached s at h
  sign_missing v f = sign_leads v f

  pub ready_found : {pool : List ℕ} {cap : ℕ} {t : Tally} {h n : Place} → Ready s pool cap at t → l ≡ found h n → Ready s pool cap n t
  ready_found g f = ready_at g (sign_found g.stands f).stands

  pub ready_missing : {pool : List ℕ} {cap : ℕ} {t : Tally} {h : Place} → Ready s pool cap at t → l ≡ missing h → Ready s pool cap h t
  ready_missing g f = ready_at g (sign_missing g.stands f).stands

  module _ {cap comps left : ℕ} {t : Tally} {f : Place → Place → Process Routine} {g : Place → Process Routine} where
    pub reads_found : {h n : Place} {r : Got} {A B : List ℕ} → Stands s at → l ≡ found h n → Reads s cap comps left n t (f h n) r A B
        → Reads s cap comps left at t (look (token s at (b ∷ [])) f g) r A B
    reads_found v x d = reads_on (by_found e x) (sign_found v x).further d

    pub reads_missing : {h : Place} {r : Got} {A B : List ℕ} → Stands s at → l ≡ missing h → Reads s cap comps left h t (g h) r A B
        → Reads s cap comps left at t (look (token s at (b ∷ [])) f g) r A B
    reads_missing v x d = reads_on (by_missing e x) (sign_missing v x).further d

    pub reads_halted : {from : Place} {k : Refusal} {q : Place} {A : List ℕ} → l ≡ failed k q
        → Reads s cap comps left from t (look (token s at (b ∷ [])) f g) (Refused k q t) A A
    reads_halted x = refuses (by_halted e x)

-- ---- a token that had to be there

-- it is not there, and the code tells it again
pub reads_refused_by : {s : Text} {cap comps left : ℕ} {from : Place} {t : Tally} {l l' : Must} {k : Refusal} {q : Place} {f : Place → Place → Process Routine} {r : Got} {A : List ℕ}
    → l ≡ l' → l ≡ failed k q → r ≡ refused_by l t
    → Reads s cap comps left from t (must l' f) r A A
reads_refused_by {t = t} e x y = reads_refused (y ∙ ap (λ (m : Must). refused_by m t) x) (by_failed e x)

-- ---- what goes on from a list: it was read, or refused

module _ {s : Text} {cap comps left : ℕ} {from : Place} {t : Tally} {X : Process Routine} {o : Items} {A B : List ℕ} (d : Lists s cap comps left from t X o A B) where
  module _ {q : Place} {last count : ℕ} {u : Tally} (e : o ≡ items.Read q last count u) where
    pub list_comes : Comes s from q u
    list_comes = subst (ItemsBy s from) e d.ends

    list_read : Does layout (grammar s) cap comps left t X (items_of (items.Read q last count u)) A B
    list_read = told (ap items_of e) d.does

    pub list_then : {k : Place → Node → Process Routine} {r : Got} {Z : List ℕ} → Reads s cap comps left q u (k q (list_node last count q)) r B Z
        → Reads s cap comps left from t (bind X k) r A Z
    list_then h = reads_on (then list_read) list_comes.reached.further h

    -- what is read on after it
    pub list_ready : {at : Place} → Ready s A cap at t → Ready s B cap q u
    list_ready g =
        record {
          short = g.short;
          small = g.small;
          lent = lent_kept g.lent (does_length d.does);
          stands = list_comes.reached.stands;
          room = does_within list_read g.room;
          ids = list_comes.ids;
        }

  pub list_stop : {low q : Place} {k : Place → Node → Process Routine} {j : Refusal} {u : Tally} → o ≡ items.Refused j q u
      → Reads s cap comps left low t (bind X k) (Refused j q u) A B
  list_stop e = refuses (stops (told (ap items_of e) d.does))

-- ---- what goes on from a part of `for`

module _ {s A B : List ℕ} {cap comps left : ℕ} {from : Place} {t : Tally} {P : Rule} {o : Part} (d : Parts s cap comps left from t P o A B) where
  pub parts_told : {k : Place → Node → Rule} {j : Refusal} {p low : Place} {u : Tally} → o ≡ part.Refused j p u → Reads s cap comps left low t (bind P k) (Refused j p u) A B
  parts_told x = refuses (stops (told (ap (part_of B) x) d.does))

  module _ {q : Place} {n : ℕ} {u : Tally} (x : o ≡ part.Read q n u) where
    pub parts_ready : {at : Place} → Ready s A cap at t → Ready s B cap q u
    parts_ready g =
        let z = subst (PartBy s from) x d.ends in
        record {
          short = g.short;
          small = g.small;
          lent = lent_kept g.lent (does_length d.does);
          stands = z.reached.stands;
          room = does_within (told (ap (part_of B) x) d.does) g.room;
          ids = z.ids;
        }

    pub parts_then : {k : Place → Node → Rule} {r : Got} {Z : List ℕ} → Reads s cap comps left q u (k q (part_at B q n)) r B Z → Reads s cap comps left from t (bind P k) r A Z
    parts_then h = reads_on (then (told (ap (part_of B) x) d.does)) (subst (PartBy s from) x d.ends).reached.further h
