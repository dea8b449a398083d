-- Laws of rules that call no routine: what their contracts give a reader, and how a return of theirs comes about. Assumes nothing.
use Rattle.std.specs.Prelude.{◌≡◌, refl, Bool, true, false, not, List, [], ◌∷◌, ℕ, ◌+◌, ◌≤◌, Result, Err, Ok}
use Rattle.std.proofs.Common.{sym, ap, ◌∙◌, arith}
use Rattle.std.proofs.Math.Path.{subst, subst⁻¹}
use Rattle.characters.specs.declared.place.Place.{Place}
use Rattle.characters.specs.declared.refusal.Refusal.{Refusal}
use Rattle.characters.specs.declared.refusal.Refused as struct
use Rattle.characters.specs.Text.{Text, Stands, on_by}
use Rattle.characters.specs.PlaceLaws.{Advanced, reached_here}
use Rattle.characters.specs.Tokens.{token, expected, needed}
use Rattle.characters.specs.TokenLaws.{TokenOn, token_on}
use Rattle.characters.specs.Answers.{Looked, Must, failed, found, missing, taken}
use Rattle.reading.specs.declared.node.Node.{Node}
use Rattle.reading.specs.declared.tally.Tally.{Tally}
use Rattle.reading.specs.Outs as out
use Rattle.reading.specs.Gots.{Got, Read, Refused, got_of}
use Rattle.reading.specs.Process.{Process, done, stop, make, test, must, bind}
use Rattle.reading.specs.Says.{Does}
use Rattle.reading.proofs.Laws.Does.{by_done, by_stop, by_make, yes_way, no_way, by_taken, by_failed}
use Rattle.records.specs.declared.row.Row.{Row}
use Rattle.records.specs.Rows.{Lent, layout, record_of}
use Rattle.records.specs.Nodes.{Stored, value_of, node_at, MakesRow}
use Rattle.records.proofs.Laws.Rows.{lent_kept}
use Rattle.records.proofs.Laws.Nodes.{stored_made, row_as, does_length}
use Rattle.grammar.specs.Expressions.{Routine}
use Rattle.grammar.specs.Grammar.{grammar}
use Rattle.grammar.specs.Reads.{Ready, Reads}
use Rattle.grammar.specs.ReadLaws.{ahead, read_ends, reads_on, reads_then, reads_stop, refuses, reads_make, reads_valued, ready_then, ready_at}
use Rattle.makers.specs.Duties.{Begun, last_of, Room, Acts, Alone}

-- ---- a test that the code turns round

pub not_true : (b : Bool) → not b ≡ true → b ≡ false
not_true true e = sym e
not_true false e = refl

pub not_false : (b : Bool) → not b ≡ false → b ≡ true
not_false true e = refl
not_false false e = sym e

-- ---- code that answers by a `Result`, and leaves a tally

-- what was read, and why it was refused
pub got_read : {r : Result Place struct.Refused} {p : Place} {u : Tally} → r ≡ Ok p → got_of r u ≡ Read p u
got_read {u = u} e = ap (λ (x : Result Place struct.Refused). got_of x u) e

pub got_err : {r : Result Place struct.Refused} {x : struct.Refused} {u : Tally} → r ≡ Err x → got_of r u ≡ Refused x.refusal x.at u
got_err {u = u} e = ap (λ (x : Result Place struct.Refused). got_of x u) e

-- what was read, by what it was found to be
pub ok_as : {A : Type 0} {r : Result A struct.Refused} {x y : A} → r ≡ Ok x → x ≡ y → r ≡ Ok y
ok_as e f = e ∙ ap Ok f

-- ---- what the next one may be called with

pub room_of : {s pool : List ℕ} {cap : ℕ} {at : Place} {t : Tally} → Ready s pool cap at t → Room pool cap t
room_of g = record { small = g.small; lent = g.lent; room = g.room; ids = g.ids }

-- what was read is the last record, and the next one goes on from it
pub begun_then : {s : Text} {cap comps left : ℕ} {at from : Place} {t u : Tally} {P : Process Routine} {r : Got} {p : Place} {A B : List ℕ}
    → Ready s A cap at t → r ≡ Read p u
    → Reads s cap comps left from t P r A B
    → Begun s B cap p u
begun_then g e h = record { ready = ready_then g e h; some = (read_ends e h).made }

-- the last record stands in the pool
pub last_stored : {pool : List ℕ} {cap : ℕ} {t : Tally} → Room pool cap t → 1 ≤ t.records → Stored pool t.records
last_stored g l = stored_made g.lent l g.room

-- and laying a record leaves the pool as long as it was
pub lent_made : {cap : ℕ} {t : Tally} {p : Place} {w : Row} {r : Got} {A B : List ℕ} → Lent A cap → MakesRow cap t p w r A B → Lent B cap
lent_made l m = lent_kept l (does_length (by_make {G = grammar []} {comps = 0} {left = 0} m.makes))

-- ---- what such a contract gives

pub acts_reads : {s : Text} {cap comps left : ℕ} {at : Place} {t : Tally} {P : Process Routine} {r : Got} {A B : List ℕ} → Acts cap at t P r A B
    → Ready s A cap at t
    → Reads s cap comps left at t P r A B
acts_reads {s} {comps = comps} {left = left} h g = h.reads s g comps left

pub alone_reads : {s : Text} {cap comps left : ℕ} {from : Place} {t : Tally} {P : Process Routine} {r : Got} {A B : List ℕ}
    → Alone s cap from t P r A B → Reads s cap comps left from t P r A B
alone_reads {comps = comps} {left = left} h = h.reads comps left

-- ---- readers: an earlier place, a refusal told again, a token of one byte

module _ {s : Text} {cap comps left : ℕ} {t : Tally} {P : Process Routine} {A B : List ℕ} where
  pub reads_from : {from low : Place} {r : Got} → from.offset ≤ low.offset → Reads s cap comps left low t P r A B
      → Reads s cap comps left from t P r A B
  reads_from l h = reads_on (λ d. d) l h

  pub reads_refused : {from : Place} {r : Got} {k : Refusal} {p : Place} {u : Tally} → r ≡ Refused k p u
      → Does layout (grammar s) cap comps left t P (out.Refused k p u) A B
      → Reads s cap comps left from t P r A B
  reads_refused {from} e d = subst⁻¹ (λ (x : Got). Reads s cap comps left from t P x A B) e (refuses d)

-- it is gone over
NeedOn : Text → Place → Must → Type 0
NeedOn s p (Ok t) = Advanced s p t.next
NeedOn s p (Err e) = Unit

need_leads : (s : Text) (p : Place) (b : ℕ) → Stands s p → NeedOn s p (expected s p (b ∷ []))
unfolding expected NeedOn
need_leads s p b v = go (token s p (b ∷ [])) (token_on s p (b ∷ []) v)
  where
    go : (l : Looked) → TokenOn s p (b ∷ []) l → NeedOn s p (needed l)
    go (found h n) g =
        let o : n.offset ≡ h.offset + 1 = ap (λ (x : Place). x.offset) g.2 in
        let i : p.offset ≤ h.offset = g.0.further in
        record { stands = g.1.stands; further = omega arith }
    go (missing h) g = tt
    go (Err e) g = tt

module _ {s : Text} (at : Place) (b : ℕ) {l : Must} (e : l ≡ expected s at (b ∷ [])) where
  pub need_on : {h n : Place} → Stands s at → l ≡ taken h n → Advanced s at n
  unfolding NeedOn
  need_on v f = subst (NeedOn s at) (sym e ∙ f) (need_leads s at b v)

  -- what is read on after it
  pub ready_need : {pool : List ℕ} {cap : ℕ} {t : Tally} {h n : Place} → Ready s pool cap at t → l ≡ taken h n → Ready s pool cap n t
  ready_need g f = ready_at g (need_on g.stands f).stands

  pub reads_taken : {cap comps left : ℕ} {t : Tally} {h n : Place} {f : Place → Place → Process Routine} {r : Got} {A B : List ℕ} → Stands s at
      → l ≡ taken h n
      → Reads s cap comps left n t (f h n) r A B
      → Reads s cap comps left (on_by 1 at) t (must (expected s at (b ∷ [])) f) r A B
  reads_taken v x h = reads_on (by_taken e x) (ahead (need_on v x)).further h

  pub reads_failed : {cap comps left : ℕ} {from : Place} {t : Tally} {k : Refusal} {q : Place} {f : Place → Place → Process Routine} {A : List ℕ}
      → l ≡ failed k q
      → Reads s cap comps left from t (must (expected s at (b ∷ [])) f) (Refused k q t) A A
  reads_failed x = refuses (by_failed e x)

-- ---- how a return comes about

module _ {cap : ℕ} {at : Place} {t : Tally} {A : List ℕ} where
  -- a record of a kind whose value computes, and of any other
  pub acts_make : {w v : Row} {r : Got} {B : List ℕ} → w ≡ v → MakesRow cap t at w r A B
      → Acts cap at t (make at (record_of v) (value_of A t.records v)) r A B
  acts_make e m = record { reads = λ s g comps left. reads_make g (row_as e m) }

  pub acts_valued : {w v : Row} {x : ℕ} {r : Got} {B : List ℕ} → w ≡ v → value_of A t.records v ≡ x → MakesRow cap t at w r A B
      → Acts cap at t (make at (record_of v) x) r A B
  acts_valued e f m = record { reads = λ s g comps left. reads_valued g f (row_as e m) }

  -- nothing: the last record is what is answered, or nothing is
  pub acts_stays : 1 ≤ t.records → Acts cap at t (done at (last_of A t)) (Read at t) A A
  acts_stays l = record { reads = λ s g comps left. record { does = by_done; ends = record { reached = reached_here g.stands; made = l; ids = g.ids } } }

  pub acts_refuses : {k : Refusal} {p : Place} → Acts cap at t (stop k p) (Refused k p t) A A
  acts_refuses = record { reads = λ s g comps left. refuses by_stop }

  -- by a test
  pub acts_yes : {b : Bool} {X Y : Process Routine} {r : Got} {B : List ℕ} → b ≡ true → Acts cap at t X r A B → Acts cap at t (test b X Y) r A B
  acts_yes e h = record { reads = λ s g comps left. reads_on (yes_way e) (omega arith) (h.reads s g comps left) }

  pub acts_no : {b : Bool} {X Y : Process Routine} {r : Got} {B : List ℕ} → b ≡ false → Acts cap at t Y r A B → Acts cap at t (test b X Y) r A B
  acts_no e h = record { reads = λ s g comps left. reads_on (no_way e) (omega arith) (h.reads s g comps left) }

  -- one after the other
  pub acts_then : {u : Tally} {X : Process Routine} {k : Place → Node → Process Routine} {r r' : Got} {p : Place} {B Z : List ℕ} → r ≡ Read p u
      → Acts cap at t X r A B
      → Acts cap p u (k p (node_at B u.records)) r' B Z
      → Acts cap at t (bind X k) r' A Z
  acts_then e x y =
      record { reads = λ s g comps left. let h = x.reads s g comps left in reads_then e h (y.reads s (ready_then g e h) comps left) }

  pub acts_stop : {u : Tally} {X : Process Routine} {k : Place → Node → Process Routine} {r : Got} {j : Refusal} {p : Place} {B : List ℕ}
      → r ≡ Refused j p u → Acts cap at t X r A B
      → Acts cap at t (bind X k) r A B
  acts_stop e x = record { reads = λ s g comps left. reads_stop e (x.reads s g comps left) }

  -- and the refusal of the first, told again
  pub acts_halt : {u : Tally} {X : Process Routine} {k : Place → Node → Process Routine} {r : Result Place struct.Refused} {x : struct.Refused} {B : List ℕ}
      → r ≡ Err x → Acts cap at t X (got_of r u) A B
      → Acts cap at t (bind X k) (Refused x.refusal x.at u) A B
  acts_halt {u} {X} {k} {B = B} e x = subst (λ (g : Got). Acts cap at t (bind X k) g A B) (got_err e) (acts_stop (got_err e) x)
