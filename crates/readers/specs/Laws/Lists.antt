-- THE READERS OF LISTS AND DICTIONARIES: each return of the readers of a list, of its elements and of a key's value, and of what goes on from a
-- list. A dictionary's loop and its pairs have theirs in makers' NamesRead. Assumes nothing.
use Rattle.std.specs.Prelude.{◌≡◌, refl, List, [], ◌∷◌, ℕ, suc, ◌+◌, ◌-◌, ◌≤◌, ◌<◌, ◌^◌, length}
use Rattle.std.proofs.Common.{sym, subst, ◌∙◌, arith}
use Rattle.characters.specs.declared.place.Place.{Place}
use Rattle.characters.specs.declared.refusal.Refusal.{Refusal}
use Rattle.characters.specs.declared.refusal.Refusal.TheVariants.{TooDeep}
use Rattle.characters.specs.Text.{Text, Stands}
use Rattle.characters.specs.PlaceLaws.{Reached, Advanced, reached_on, advanced_on, advanced_reached}
use Rattle.characters.specs.Tokens.{token}
use Rattle.reading.specs.declared.tally.Tally.{Tally}
use Rattle.reading.specs.Gots.{Got}
use Rattle.reading.specs.Gots.{Read, Refused}
use Rattle.reading.specs.Outs.{Out}
use Rattle.reading.specs.Process.{make, call}
use Rattle.reading.specs.Says.{Does}
use Rattle.reading.proofs.Laws.Does.{by_done, then, stops, by_found, by_missing, by_halted, too_deep}
use Rattle.records.specs.declared.row.Row.{Row}
use Rattle.records.specs.Rows.{layout, record_of}
use Rattle.records.specs.Nodes.{MakesRow}
use Rattle.records.proofs.Laws.Nodes.{row_as, does_length, read_of, refused_of}
use Rattle.grammar.specs.Leaves.{close_of, follow_of}
use Rattle.grammar.specs.LeafLaws.{CloseOn, close_on}
use Rattle.grammar.specs.Leads.{FollowOn, follow_leads}
use Rattle.grammar.specs.Expressions.{expression, turns, item_row, element_p, list_p, true_row, value_p}
use Rattle.grammar.specs.Grammar.{grammar}
use Rattle.grammar.specs.Reads.{Ready, Reads}
use Rattle.grammar.specs.ReadLaws.{read_ends, reads_then, reads_stop, refuses, reads_make, ready_then, ready_at}
use Rattle.makers.specs.Answers.Items as items
use Rattle.makers.specs.Duties.{last_of, Acts, Lists}
use Rattle.makers.specs.Laws.Acts.{acts_reads}
use Rattle.makers.specs.Laws.Turns.{Turning, turn_first, turn_on, turn_fuel, turn_less, same_turns}
use Rattle.readers.specs.Laws.Answers.{ready_missing, reads_found, reads_missing, reads_halted}
use Rattle.characters.specs.Answers.{Looked, failed, found, missing}

-- ---- list: { expression ',' } [ expression ] end

-- where the closing sign and the comma lead
close_found : {s : Text} {p h n : Place} {l : Looked} (b : ℕ) → Stands s p → l ≡ close_of s p b → l ≡ found h n → Reached s p n
close_found {s} {p} b v e f = advanced_reached (subst (CloseOn s p) (sym e ∙ f) (close_on s p b v))

close_missing : {s : Text} {p h : Place} {l : Looked} (b : ℕ) → Stands s p → l ≡ close_of s p b → l ≡ missing h → Reached s p h
close_missing {s} {p} b v e f = (subst (CloseOn s p) (sym e ∙ f) (close_on s p b v)).0

follow_on : {s : Text} {p : Place} {l x : Looked} (b : ℕ) → Stands s p → l ≡ follow_of s p b → l ≡ x → FollowOn s p x
follow_on {s} {p} b v e f = subst (FollowOn s p) (sym e ∙ f) (follow_leads s p b v)

-- what its reader keeps: what is left of the list answers for the whole
pub record Listing (s pool₀ : List ℕ) (cap comps left end : ℕ) (at : Place) (t : Tally) (pool : List ℕ) (here : Place) (tally : Tally) (last count : ℕ) : Type 0 where
  pub same : length pool ≡ length pool₀
  pub ready : Ready s pool cap here tally
  pub turn : Turning s at here
  pub few : count ≤ here.offset
  pub rest : (r : Out) (B : List ℕ) → Does layout (grammar s) cap comps left tally (list_p (suc turn.fuel) s end last count here) r pool B
      → Does layout (grammar s) cap comps left t (list_p (turns s) s end 0 0 at) r pool₀ B

pub list_first : {s pool : List ℕ} {cap comps left end : ℕ} {at : Place} {t : Tally} → Ready s pool cap at t → Listing s pool cap comps left end at t pool at t 0 0
list_first g = record { same = refl; ready = g; turn = turn_first g.stands; few = omega arith; rest = λ r B d. d }

module _ {s pool₀ : List ℕ} {cap comps left end : ℕ} {at : Place} {t : Tally} {pool : List ℕ} {here : Place} {tally : Tally} {last count : ℕ} (v : Listing s pool₀ cap comps left end at t pool here tally last count) where
  -- no list is longer than its text
  pub list_counts : count < 2 ^ 32 - 1
  list_counts =
      let a = v.few in
      let b : here.offset ≤ length s = v.ready.stands.inside in
      let c = v.ready.short in
      omega arith

  module _ {l : Looked} (e : l ≡ close_of s here end) where
    pub list_halts : {k : Refusal} {q : Place} → l ≡ failed k q
        → Lists s cap comps left at t (list_p (turns s) s end 0 0 at) (items.Refused k q tally) pool₀ pool
    unfolding list_p
    list_halts f = record { does = v.rest _ _ (by_halted e f); ends = tt }

    -- the closing sign
    pub list_ends : {h n : Place} → l ≡ found h n → Lists s cap comps left at t (list_p (turns s) s end 0 0 at) (items.Read n last count tally) pool₀ pool
    unfolding list_p
    list_ends f =
        record {
          does = v.rest _ _ (by_found e f by_done);
          ends = record { reached = reached_on v.turn.place (close_found _ v.ready.stands e f); ids = v.ready.ids };
        }

    -- an element
    module _ {h : Place} (f : l ≡ missing h) where
      pub list_here : Ready s pool cap h tally
      list_here = ready_at v.ready (close_missing _ v.ready.stands e f).stands

      module _ {o : Got} {mid : List ℕ} (d : Reads s cap comps left h tally (element_p last h) o pool mid) where
        pub list_refused : {k : Refusal} {p : Place} {u : Tally} → o ≡ Refused k p u
            → Lists s cap comps left at t (list_p (turns s) s end 0 0 at) (items.Refused k p u) pool₀ mid
        unfolding list_p
        list_refused g = record { does = v.rest _ _ (by_missing e f (stops (refused_of g d.does))); ends = tt }

        module _ {q : Place} {u : Tally} (g : o ≡ Read q u) where
          pub list_next : Ready s mid cap q u
          list_next = ready_then list_here g d

          list_past : Reached s here q
          list_past = reached_on (close_missing _ v.ready.stands e f) (read_ends g d).reached

          module _ {m : Looked} (a : m ≡ follow_of s q end) where
            pub list_follow_halts : {k : Refusal} {p : Place} → m ≡ failed k p
                → Lists s cap comps left at t (list_p (turns s) s end 0 0 at) (items.Refused k p u) pool₀ mid
            unfolding list_p
            list_follow_halts b = record { does = v.rest _ _ (by_missing e f (then (read_of g d.does) (by_halted a b))); ends = tt }

            pub list_follow_ends : {p n : Place} → m ≡ found p n
                → Lists s cap comps left at t (list_p (turns s) s end 0 0 at) (items.Read n u.records (count + 1) u) pool₀ mid
            unfolding list_p
            list_follow_ends b =
                record {
                  does = v.rest _ _ (by_missing e f (then (read_of g d.does) (by_found a b by_done)));
                  ends =
                      record {
                        reached = reached_on (reached_on v.turn.place list_past) (advanced_reached (follow_on _ list_next.stands a b));
                        ids = list_next.ids;
                      };
                }

            -- a comma: the list goes on
            module _ {n : Place} (b : m ≡ missing n) where
              list_further : Advanced s here n
              list_further = advanced_on list_past (follow_on _ list_next.stands a b)

              pub list_less : length s - n.offset < length s - here.offset
              list_less = turn_less list_further

              pub list_again : Listing s pool₀ cap comps left end at t mid n u u.records (count + 1)
              unfolding list_p
              list_again =
                  let w = list_further in
                  let few = v.few in
                  let more = w.further in
                  record {
                    same = does_length d.does ∙ v.same;
                    ready = ready_at list_next w.stands;
                    turn = turn_on v.turn w;
                    few = omega arith;
                    rest = λ r B x.
                        v.rest r B
                        (by_missing e f
                        (then (read_of g d.does)
                        (by_missing a b (same_turns (λ f. list_p f s end u.records (count + 1) n) (turn_fuel v.turn w) x))));
                  }

-- ---- element: expression, and its item

module _ {s : Text} {cap comps left : ℕ} {at : Place} {t : Tally} (last : ℕ) {A : List ℕ} where
  -- its expression has no level
  pub element_deep : left ≡ 0 → Reads s cap comps left at t (element_p last at) (Refused TooDeep at t) A A
  unfolding element_p
  element_deep e = refuses (stops (too_deep e))

  -- however its expression was read: it is refused, or its item is made
  module _ {r : Got} {B : List ℕ} (d : Reads s cap comps left at t (call expression at) r A B) where
    pub element_stops : {k : Refusal} {p : Place} {u : Tally} → r ≡ Refused k p u → Reads s cap comps left at t (element_p last at) r A B
    unfolding element_p
    element_stops e = reads_stop e d

    pub element_made : {p : Place} {u : Tally} {a : Got} {Z : List ℕ} → Ready s A cap at t → r ≡ Read p u
        → Acts cap p u (make p (record_of (item_row (last_of B u) last)) 0) a B Z
        → Reads s cap comps left at t (element_p last at) a A Z
    unfolding element_p
    element_made g e m = reads_then e d (acts_reads m (ready_then g e d))

-- ---- value: [ ':' expression ]; the implied `true` stands at the dictionary

module _ {s : Text} {cap comps left : ℕ} (from : Place) {at : Place} {t : Tally} {A : List ℕ} (g : Ready s A cap at t) {l : Looked} (e : l ≡ token s at (58 ∷ [])) where
  pub value_halts : {k : Refusal} {q : Place} → l ≡ failed k q → Reads s cap comps left at t (value_p s from at) (Refused k q t) A A
  unfolding value_p
  value_halts f = reads_halted at 58 e f

  pub value_read : {h n : Place} {r : Got} {B : List ℕ} → l ≡ found h n → Reads s cap comps left n t (call expression n) r A B
      → Reads s cap comps left at t (value_p s from at) r A B
  unfolding value_p
  value_read f d = reads_found at 58 e g.stands f d

  pub value_implied : {h : Place} {w : Row} {r : Got} {B : List ℕ} → l ≡ missing h → w ≡ true_row from → MakesRow cap t h w r A B
      → Reads s cap comps left at t (value_p s from at) r A B
  unfolding value_p
  value_implied f i m = reads_missing at 58 e g.stands f (reads_make (ready_missing at 58 e g f) (row_as i m))
