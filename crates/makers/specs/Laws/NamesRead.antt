-- THE READERS OF LISTS OF NAMES: each return of the reader of a dictionary's pair and of a parameter, and of the loops over them, of which
-- what is left answers for the whole. Assumes nothing.
use Rattle.std.specs.Prelude.{◌≡◌, Bool, true, false, List, [], ◌∷◌, ℕ, suc, ◌+◌, ◌≤◌, ◌<◌, eqb, length, Result, Err, Ok}
use Rattle.std.proofs.Math.Path.{refl, subst, subst⁻¹}
use Rattle.std.proofs.Common.{sym, ap, ◌∙◌, arith, le-leb}
use Rattle.std.proofs.lemmas.Bool.{lt-leb}
use Rattle.characters.specs.declared.place.Place.{Place}
use Rattle.characters.specs.declared.place.Span.{Span}
use Rattle.characters.specs.declared.refusal.Refusal.{Refusal}
use Rattle.characters.specs.declared.refusal.Refused as struct
use Rattle.characters.specs.declared.refusal.Refusal.TheVariants.{ReservedWord, TooManyArguments}
use Rattle.characters.specs.Text.{Text, Stands}
use Rattle.characters.specs.Names.{name, part, word_of, free_by, free_name}
use Rattle.characters.specs.NameLaws.{NamedOn, name_on}
use Rattle.characters.specs.PlaceLaws.{Reached, Advanced, reached_on, advanced_on, advanced_reached}
use Rattle.characters.specs.Answers.{Looked, Must, failed, found, missing, taken}
use Rattle.reading.specs.declared.tally.Tally.{Tally}
use Rattle.reading.specs.Gots.{Got, Read, Refused}
use Rattle.reading.specs.Outs.{Out}
use Rattle.reading.specs.Says.{Does}
use Rattle.reading.proofs.Laws.Does.{by_done, by_stop, then, stops, told, yes_way, no_way, by_found, by_missing, by_halted, by_taken, by_failed}
use Rattle.records.specs.declared.row.Row.{Row}
use Rattle.records.specs.Rows.{layout}
use Rattle.records.specs.Words.{span_word, span_of}
use Rattle.records.specs.Nodes.{out_of, MakesRow}
use Rattle.records.proofs.Laws.Words.{span_back}
use Rattle.records.proofs.Laws.Nodes.{row_as, read_of, refused_of, does_length}
use Rattle.grammar.specs.Leaves.{key_at, close_of, follow_of}
use Rattle.grammar.specs.LeafLaws.{KeyOn, key_on, CloseOn, close_on}
use Rattle.grammar.specs.Leads.{FollowOn, follow_leads}
use Rattle.grammar.specs.Expressions.{turns, key_span, pair_row, value_p, pair_p, with_key, dict_row, dict_p}
use Rattle.grammar.specs.Functions.{name_span, name_word, with_name, param_row, param_p, params_p, parameters_p}
use Rattle.grammar.specs.Grammar.{grammar}
use Rattle.grammar.specs.Reads.{Ready, EndsBy, Reads}
use Rattle.grammar.specs.ReadLaws.{reads_on, reads_make, ready_then, ready_at, read_ends}
use Rattle.makers.specs.declared.answers.Items as code
use Rattle.makers.specs.Answers.Items.{Items, items_by}
use Rattle.makers.specs.Answers.Items as items
use Rattle.makers.specs.declared.names.Naming.{Naming}
use Rattle.makers.specs.declared.names.Naming.TheVariants.{Keys, Parameters}
use Rattle.makers.specs.Duties.{items_of, ItemsBy, ListsAlone}
use Rattle.makers.specs.Names.{names_of, Listed, Unique, Well, WellListed, Paired, Param}
use Rattle.makers.specs.Laws.Turns.{Turning, turn_first, turn_on, turn_fuel, same_turns}
use Rattle.makers.specs.Laws.Names.{read_or_refused, key_then, key_stops, name_then, name_stops, ready_kept, listed_none, listed_well, well_own, listed_kept, listed_does, listed_made}

-- ---- what a key or a name leads over

pub key_taken : {s : Text} {p h q : Place} {l : Must} → Stands s p → l ≡ key_at s p → l ≡ taken h q → (h ≡ p) × Advanced s p q
key_taken {s} {p} v e f = subst (KeyOn s p) (sym e ∙ f) (key_on s p v)

-- a name that is not reserved is a name
free_on : (s : Text) (p : Place) → Stands s p → KeyOn s p (free_name s p)
unfolding free_name
free_on s p v = go (name s p) (name_on s p v)
  where
    pick : (b : Bool) (h q : Place) → KeyOn s p (taken h q) → KeyOn s p (elim b as (λ x. Must) [ true ↦ taken h q | false ↦ failed ReservedWord h ])
    pick true h q g = g
    pick false h q g = tt

    go : (r : Must) → NamedOn s p r → KeyOn s p (free_by s r)
    go (Ok t) g = pick (eqb (word_of (part s t.here.offset t.next.offset)) 0) t.here t.next (g.0, g.1)
    go (Err e) g = tt

pub free_taken : {s : Text} {p h q : Place} {l : Must} → Stands s p → l ≡ free_name s p → l ≡ taken h q → (h ≡ p) × Advanced s p q
free_taken {s} {p} v e f = subst (KeyOn s p) (sym e ∙ f) (free_on s p v)

-- "Text is at most 65,535 bytes", so that a word has room for it and determines it
pub taken_packs : {s pool : List ℕ} {cap : ℕ} {at h q : Place} {t : Tally} → Ready s pool cap at t → (h ≡ at) × Advanced s at q
    → (h.offset ≤ 65535) × (q.offset ≤ 65535)
taken_packs g a =
    let l = g.short in
    let i = a.1.stands.inside in
    let j = a.1.further in
    let o = ap (λ (x : Place). x.offset) a.0 in
    (omega arith, omega arith)

pub span_as : {nm : Naming} {pool : List ℕ} {t : Tally} {last from to : ℕ} {ks : List Span} → (from ≤ 65535) × (to ≤ 65535)
    → Listed nm pool t last (span_of (span_word from to) ∷ ks) → Listed nm pool t last (record { from = from; to = to } ∷ ks)
span_as {nm} {pool} {t} {last} {from} {to} {ks} p h = subst (λ (k : Span). Listed nm pool t last (k ∷ ks)) (span_back from to p.0 p.1) h

pub ends_off : (s : Text) (from : Place) {r : Got} {k : Refusal} {p : Place} {u : Tally} → r ≡ Refused k p u → EndsBy s from r
ends_off s from e = subst⁻¹ (EndsBy s from) e tt

-- ---- a dictionary's pair

module _ {s : Text} {pool : List ℕ} {cap comps last : ℕ} {at : Place} {t : Tally} (g : Ready s pool cap at t) (w : WellListed pool t last) {l : Must} (e : l ≡ key_at s at) where
  -- no key
  pub pair_fails : {left : ℕ} {from : Place} {j : Refusal} {q : Place} → l ≡ failed j q → Paired s cap comps left from last at t (Refused j q t) pool pool
  unfolding pair_p
  pair_fails f = record { does = by_failed e f; ends = tt; listed = λ z. absurd (read_or_refused refl z) }

  module _ {h q : Place} (f : l ≡ taken h q) {o : Got} (c : Unique Keys s comps t q q (key_span h q) (names_of Keys pool last) o) where
    key_here : (h ≡ at) × Advanced s at q
    key_here = key_taken g.stands e f

    -- one that stands there already
    pub pair_clashes : {left : ℕ} {from : Place} {j : Refusal} {p : Place} {u : Tally} → o ≡ Refused j p u → Paired s cap comps left from last at t o pool pool
    unfolding pair_p
    pair_clashes x =
        record {
          does = told (sym (ap (out_of pool) x)) (by_taken e f (key_stops _ c x));
          ends = ends_off s at x;
          listed = λ z. absurd (read_or_refused x z);
        }

    module _ {p : Place} {u : Tally} (x : o ≡ Read p u) where
      -- what its value is read with
      pub pair_ready : Ready s pool cap q u
      pair_ready = ready_kept g (c.kept x) key_here.1.stands

      module _ {left : ℕ} {from : Place} {v : Got} {mid : List ℕ} (d : Reads s cap comps left q u (value_p s from q) v pool mid) where
        -- a value that is refused
        pub pair_stops : {j : Refusal} {p' : Place} {u' : Tally} → v ≡ Refused j p' u' → Paired s cap comps left from last at t v pool mid
        unfolding pair_p
        pair_stops y =
            record {
              does = told (sym (ap (out_of mid) y)) (by_taken e f (key_then c x (stops (refused_of y d.does))));
              ends = ends_off s at y;
              listed = λ z. absurd (read_or_refused y z);
            }

        -- its item
        pub pair_made : {r : Place} {u' : Tally} {row : Row} {a : Got} {after : List ℕ} → v ≡ Read r u' → row ≡ pair_row u'.records last (key_span h q)
            → MakesRow cap u' r row a mid after → Paired s cap comps left from last at t a pool after
        unfolding pair_p
        pair_made {r} {u'} {row} {a} {after} y i m =
            let m' = row_as i m in
            let n = ready_then pair_ready y d in
            let j = key_here.1.further in
            let k = (read_ends y d).reached.further in
            let z : Reads s cap comps left at t (pair_p s from (names_of Keys pool last) last at) a pool after =
            reads_on (λ o. by_taken e f (key_then c x (then (read_of y d.does) o))) (omega arith) (reads_make n m')
            in
            record {
              does = z.does;
              ends = z.ends;
              listed = λ o.
                  keyed
                  (span_as (taken_packs g key_here)
                  (listed_made (record { before = refl; refers = tt }) m' o n.lent (listed_does d.does y (listed_kept (c.kept x) (well_own w)))));
            }
          where
            keyed : {u'' : Tally} {n : ℕ} → Listed Keys after u'' n (key_span h q ∷ names_of Keys pool last)
                → Listed Keys after u'' n (with_key (key_at s at) (names_of Keys pool last))
            keyed {u''} {n} b = subst (λ (y : Must). Listed Keys after u'' n (with_key y (names_of Keys pool last))) (sym f ∙ e) b

-- the rule of a pair, by the keys that were read
pub pair_by_lem : {s : Text} {cap comps left last : ℕ} {from at : Place} {t : Tally} {r : Got} {A B : List ℕ} {ks : List Span} → Listed Keys A t last ks
    → Paired s cap comps left from last at t r A B
    → Reads s cap comps left at t (pair_p s from ks last at) r A B
pair_by_lem {s} {cap} {comps} {left} {last} {from} {at} {t} {r} {A} {B} h d =
    subst (λ (x : List Span). Reads s cap comps left at t (pair_p s from x last at) r A B) h.names (record { does = d.does; ends = d.ends })

-- and the keys then
pub pair_listed : {s : Text} {cap comps left last : ℕ} {from at : Place} {t u : Tally} {r : Got} {p : Place} {A B : List ℕ} {ks : List Span}
    → Listed Keys A t last ks → Paired s cap comps left from last at t r A B → r ≡ Read p u
    → Listed Keys B u u.records (with_key (key_at s at) ks)
pair_listed {s} {at = at} {u = u} {B = B} h d e =
    subst (λ (x : List Span). Listed Keys B u u.records (with_key (key_at s at) x)) h.names (d.listed e)

-- ---- where the closing sign and the comma lead

close_found : {s : Text} {p h n : Place} {l : Looked} (b : ℕ) → Stands s p → l ≡ close_of s p b → l ≡ found h n → Reached s p n
close_found {s} {p} b v e f = advanced_reached (subst (CloseOn s p) (sym e ∙ f) (close_on s p b v))

close_missing : {s : Text} {p h : Place} {l : Looked} (b : ℕ) → Stands s p → l ≡ close_of s p b → l ≡ missing h → Reached s p h
close_missing {s} {p} b v e f = (subst (CloseOn s p) (sym e ∙ f) (close_on s p b v)).0

follow_found : {s : Text} {p h n : Place} {l : Looked} (b : ℕ) → Stands s p → l ≡ follow_of s p b → l ≡ found h n → Advanced s p n
follow_found {s} {p} b v e f = subst (FollowOn s p) (sym e ∙ f) (follow_leads s p b v)

follow_missing : {s : Text} {p n : Place} {l : Looked} (b : ℕ) → Stands s p → l ≡ follow_of s p b → l ≡ missing n → Advanced s p n
follow_missing {s} {p} b v e f = subst (FollowOn s p) (sym e ∙ f) (follow_leads s p b v)

-- ---- the loop over a dictionary's pairs: what is left of it answers for the whole

pub record Dicting (s pool₀ : List ℕ) (cap comps left : ℕ) (from at : Place) (t : Tally) (pool : List ℕ) (here : Place) (tally : Tally) (last : ℕ) : Type 0 where
  pub same : length pool ≡ length pool₀
  pub ready : Ready s pool cap here tally
  pub turn : Turning s at here
  pub keys : List Span
  pub listed : Listed Keys pool tally last keys
  pub rest : (r : Out) (B : List ℕ) → Does layout (grammar s) cap comps left tally (dict_p (suc turn.fuel) s from keys last here) r pool B
      → Does layout (grammar s) cap comps left t (dict_p (turns s) s from [] 0 at) r pool₀ B

pub dict_first : {s pool : List ℕ} {cap comps left : ℕ} {from at : Place} {t : Tally} → Ready s pool cap at t → Dicting s pool cap comps left from at t pool at t 0
dict_first g = record { same = refl; ready = g; turn = turn_first g.stands; keys = []; listed = listed_none; rest = λ r B d. d }

module _ {s pool₀ : List ℕ} {cap comps left : ℕ} {from at : Place} {t : Tally} {pool : List ℕ} {here : Place} {tally : Tally} {last : ℕ} (v : Dicting s pool₀ cap comps left from at t pool here tally last)
    {l : Looked} (e : l ≡ close_of s here 125) where
  pub dict_halts : {k : Refusal} {q : Place} → l ≡ failed k q
      → Reads s cap comps left at t (dict_p (turns s) s from [] 0 at) (Refused k q tally) pool₀ pool
  unfolding dict_p
  dict_halts f = record { does = v.rest _ _ (by_halted e f); ends = tt }

  -- the closing sign
  module _ {h n : Place} (f : l ≡ found h n) where
    pub dict_end : Ready s pool cap n tally
    dict_end = ready_at v.ready (close_found _ v.ready.stands e f).stands

    pub dict_ends : {w : Row} {r : Got} {after : List ℕ} → w ≡ dict_row from last → MakesRow cap tally n w r pool after
        → Reads s cap comps left at t (dict_p (turns s) s from [] 0 at) r pool₀ after
    unfolding dict_p
    dict_ends i m =
        let a = (close_found _ v.ready.stands e f).further in
        let b = v.turn.place.further in
        reads_on (λ o. v.rest _ _ (by_found e f o)) (omega arith) (reads_make dict_end (row_as i m))

  -- a pair
  module _ {h : Place} (f : l ≡ missing h) where
    pub dict_here : Ready s pool cap h tally × WellListed pool tally last
    dict_here = (ready_at v.ready (close_missing _ v.ready.stands e f).stands, listed_well v.listed)

    module _ {o : Got} {mid : List ℕ} (d : Paired s cap comps left from last h tally o pool mid) where
      pair_here : Reads s cap comps left h tally (pair_p s from v.keys last h) o pool mid
      pair_here = pair_by_lem v.listed d

      pub dict_refused : {k : Refusal} {p : Place} {u : Tally} → o ≡ Refused k p u
          → Reads s cap comps left at t (dict_p (turns s) s from [] 0 at) o pool₀ mid
      unfolding dict_p
      dict_refused g =
          record { does = v.rest _ _ (by_missing e f (told (sym (ap (out_of mid) g)) (stops (refused_of g pair_here.does)))); ends = ends_off s at g }

      module _ {q : Place} {u : Tally} (g : o ≡ Read q u) where
        pub dict_next : Ready s mid cap q u
        dict_next = ready_then dict_here.0 g pair_here

        dict_past : Reached s here q
        dict_past = reached_on (close_missing _ v.ready.stands e f) (read_ends g pair_here).reached

        module _ {m : Looked} (a : m ≡ follow_of s q 125) where
          pub dict_follow_halts : {k : Refusal} {p : Place} → m ≡ failed k p
              → Reads s cap comps left at t (dict_p (turns s) s from [] 0 at) (Refused k p u) pool₀ mid
          unfolding dict_p
          dict_follow_halts b = record { does = v.rest _ _ (by_missing e f (then (read_of g pair_here.does) (by_halted a b))); ends = tt }

          module _ {p n : Place} (b : m ≡ found p n) where
            pub dict_follow_end : Ready s mid cap n u
            dict_follow_end = ready_at dict_next (follow_found _ dict_next.stands a b).stands

            pub dict_follow_ends : {w : Row} {r : Got} {after : List ℕ} → w ≡ dict_row from u.records → MakesRow cap u n w r mid after
                → Reads s cap comps left at t (dict_p (turns s) s from [] 0 at) r pool₀ after
            unfolding dict_p
            dict_follow_ends i k =
                let x = (follow_found _ dict_next.stands a b).further in
                let y = dict_past.further in
                let z = v.turn.place.further in
                reads_on (λ o. v.rest _ _ (by_missing e f (then (read_of g pair_here.does) (by_found a b o)))) (omega arith)
                (reads_make dict_follow_end (row_as i k))

          -- a comma: the list goes on
          module _ {n : Place} (b : m ≡ missing n) where
            pub dict_further : Advanced s here n
            dict_further = advanced_on dict_past (follow_missing _ dict_next.stands a b)

            pub dict_on : length mid ≡ length pool → Dicting s pool₀ cap comps left from at t mid n u u.records
            unfolding dict_p
            dict_on z =
                let w = dict_further in
                record {
                  same = z ∙ v.same;
                  ready = ready_at dict_next w.stands;
                  turn = turn_on v.turn w;
                  keys = with_key (key_at s h) v.keys;
                  listed = pair_listed v.listed d g;
                  rest = λ r B x.
                      v.rest r B
                      (by_missing e f
                      (then (read_of g pair_here.does)
                      (by_missing a b (same_turns (λ f. dict_p f s from (with_key (key_at s h) v.keys) u.records n) (turn_fuel v.turn w) x))));
                }

-- ---- a parameter

module _ {s : Text} {pool : List ℕ} {cap comps last : ℕ} {at : Place} {t : Tally} (g : Ready s pool cap at t) (w : Well Parameters pool t last) {l : Must} (e : l ≡ free_name s at) where
  -- no name
  pub param_fails : {j : Refusal} {q : Place} → l ≡ failed j q → Param s cap comps last at t (Refused j q t) pool pool
  unfolding param_p
  param_fails f = record { does = λ left. by_failed e f; ends = tt; listed = λ z. absurd (read_or_refused refl z) }

  module _ {h q : Place} (f : l ≡ taken h q) {o : Got} (c : Unique Parameters s comps t q q (name_span h q) (names_of Parameters pool last) o) where
    name_here : (h ≡ at) × Advanced s at q
    name_here = free_taken g.stands e f

    -- one that stands there already
    pub param_clashes : {j : Refusal} {p : Place} {u : Tally} {mid : List ℕ} → mid ≡ pool → o ≡ Refused j p u
        → Param s cap comps last at t (Refused j p u) pool mid
    unfolding param_p
    param_clashes {j} {p} {u} same x =
        subst⁻¹ (Param s cap comps last at t (Refused j p u) pool) same
        (record {
          does = λ left. by_taken e f (name_stops Parameters refl _ c x);
          ends = tt;
          listed = λ z. absurd (read_or_refused refl z);
        })

    named_made : {p : Place} {u : Tally} {row : Row} {a : Got} {after : List ℕ} → o ≡ Read p u → row ≡ param_row (name_word h q) last
        → MakesRow cap u q row a pool after → Param s cap comps last at t a pool after
    unfolding param_p
    named_made {p} {u} {row} {a} {after} x i m =
        let m' = row_as i m in
        let n : Ready s pool cap q u = ready_kept g (c.kept x) name_here.1.stands in
        let j = name_here.1.further in
        record {
          does = λ left. (whole left m' n).does;
          ends = (whole 0 m' n).ends;
          listed = λ o.
              named
              (span_as (taken_packs g name_here)
              (listed_made (record { before = refl; refers = tt }) m' o n.lent (listed_kept (c.kept x) (well_own w))));
        }
      where
        whole : (left : ℕ) → MakesRow cap u q (param_row (name_word h q) last) a pool after → Ready s pool cap q u
            → Reads s cap comps left at t (param_p s (names_of Parameters pool last) last at) a pool after
        whole left m' n =
            let j = name_here.1.further in
            reads_on (λ o. unfold param_p in by_taken e f (name_then Parameters refl c x o)) (omega arith) (reads_make n m')

        named : {u'' : Tally} {n : ℕ} → Listed Parameters after u'' n (name_span h q ∷ names_of Parameters pool last)
            → Listed Parameters after u'' n (with_name (free_name s at) (names_of Parameters pool last))
        named {u''} {n} b = subst (λ (y : Must). Listed Parameters after u'' n (with_name y (names_of Parameters pool last))) (sym f ∙ e) b

    -- a new one, and its item
    pub param_made : {p : Place} {u : Tally} {row : Row} {a : Got} {mid after : List ℕ} → mid ≡ pool → o ≡ Read p u → row ≡ param_row (name_word h q) last
        → MakesRow cap u q row a mid after → Param s cap comps last at t a pool after
    param_made {u = u} {row = row} {a = a} {after = after} same x i m = named_made x i (subst (λ (b : List ℕ). MakesRow cap u q row a b after) same m)

-- the rule of a parameter, by the names that were read,
param_by : {s : Text} {cap comps last : ℕ} (left : ℕ) {at : Place} {t : Tally} {r : Got} {A B : List ℕ} {ks : List Span} → Listed Parameters A t last ks
    → Param s cap comps last at t r A B
    → Reads s cap comps left at t (param_p s ks last at) r A B
param_by {s} {cap} {comps} {last} left {at} {t} {r} {A} {B} h d =
    subst (λ (x : List Span). Reads s cap comps left at t (param_p s x last at) r A B) h.names (record { does = d.does left; ends = d.ends })

-- and the names then
param_listed : {s : Text} {cap comps last : ℕ} {at : Place} {t u : Tally} {r : Got} {p : Place} {A B : List ℕ} {ks : List Span}
    → Listed Parameters A t last ks → Param s cap comps last at t r A B → r ≡ Read p u
    → Listed Parameters B u u.records (with_name (free_name s at) ks)
param_listed {s} {at = at} {u = u} {B = B} h d e =
    subst (λ (x : List Span). Listed Parameters B u u.records (with_name (free_name s at) x)) h.names (d.listed e)

-- ---- the loop over parameters

pub record Gathering (s pool₀ : List ℕ) (cap comps end : ℕ) (at : Place) (t : Tally) (pool : List ℕ) (here : Place) (tally : Tally) (last count : ℕ) : Type 0 where
  pub same : length pool ≡ length pool₀
  pub ready : Ready s pool cap here tally
  pub turn : Turning s at here
  pub few : count ≤ here.offset
  pub names : List Span
  pub listed : Listed Parameters pool tally last names
  pub rest : (left : ℕ) (r : Out) (B : List ℕ) → Does layout (grammar s) cap comps left tally (params_p (suc turn.fuel) s end names last count here) r pool B
      → Does layout (grammar s) cap comps left t (params_p (turns s) s end [] 0 0 at) r pool₀ B

module _ {s pool₀ : List ℕ} {cap comps end : ℕ} {at : Place} {t : Tally} {pool : List ℕ} {here : Place} {tally : Tally} {last count : ℕ} (v : Gathering s pool₀ cap comps end at t pool here tally last count)
    {l : Looked} (e : l ≡ close_of s here end) where
  pub gather_halts : {k : Refusal} {q : Place} {r : Items} → l ≡ failed k q → r ≡ items.Refused k q tally
      → ListsAlone s cap comps at t (params_p (turns s) s end [] 0 0 at) r pool₀ pool
  unfolding params_p
  gather_halts f x = rw x (record { lists = λ left. record { does = v.rest left _ _ (by_halted e f); ends = tt } })

  -- the closing sign
  pub gather_ends : {h n : Place} {r : Items} → l ≡ found h n → r ≡ items.Read n last count tally
      → ListsAlone s cap comps at t (params_p (turns s) s end [] 0 0 at) r pool₀ pool
  unfolding params_p
  gather_ends f x =
      rw x (record {
        lists = λ left.
            record {
              does = v.rest left _ _ (by_found e f by_done);
              ends = record { reached = reached_on v.turn.place (close_found _ v.ready.stands e f); ids = v.ready.ids };
            };
      })

  -- a parameter
  module _ {h : Place} (f : l ≡ missing h) where
    pub gather_here : Ready s pool cap h tally
    gather_here = ready_at v.ready (close_missing _ v.ready.stands e f).stands

    module _ {o : Got} {after : List ℕ} (d : Param s cap comps last h tally o pool after) where
      param_here : (left : ℕ) → Reads s cap comps left h tally (param_p s v.names last h) o pool after
      param_here left = param_by left v.listed d

      pub gather_refused : {k : Refusal} {p : Place} {u : Tally} {r : Items} → o ≡ Refused k p u → r ≡ items.Refused k p u
          → ListsAlone s cap comps at t (params_p (turns s) s end [] 0 0 at) r pool₀ after
      unfolding params_p
      gather_refused g x =
          rw x (record { lists = λ left. record { does = v.rest left _ _ (by_missing e f (stops (refused_of g (param_here left).does))); ends = tt } })

      module _ {q : Place} {u : Tally} (g : o ≡ Read q u) where
        pub gather_next : Ready s after cap q u
        gather_next = ready_then gather_here g (param_here 0)

        gather_past : Reached s here q
        gather_past = reached_on (close_missing _ v.ready.stands e f) (read_ends g (param_here 0)).reached

        module _ {m : Looked} (a : m ≡ follow_of s q end) where
          pub follow_halts : {k : Refusal} {p : Place} {r : Items} → m ≡ failed k p → r ≡ items.Refused k p u
              → ListsAlone s cap comps at t (params_p (turns s) s end [] 0 0 at) r pool₀ after
          unfolding params_p
          follow_halts b x =
              rw x (record {
                lists = λ left.
                    record { does = v.rest left _ _ (by_missing e f (then (read_of g (param_here left).does) (by_halted a b))); ends = tt };
              })

          pub follow_ends : {p n : Place} {r : Items} → m ≡ found p n → r ≡ items.Read n u.records (count + 1) u
              → ListsAlone s cap comps at t (params_p (turns s) s end [] 0 0 at) r pool₀ after
          unfolding params_p
          follow_ends b x =
              rw x (record {
                lists = λ left.
                    record {
                      does = v.rest left _ _ (by_missing e f (then (read_of g (param_here left).does) (by_found a b by_done)));
                      ends =
                          record {
                            reached =
                                reached_on (reached_on v.turn.place gather_past)
                                (advanced_reached (follow_found _ gather_next.stands a b));
                            ids = gather_next.ids;
                          };
                    };
              })

          -- a comma: the list goes on
          module _ {n : Place} (b : m ≡ missing n) where
            pub gather_further : Advanced s here n
            gather_further = advanced_on gather_past (follow_missing _ gather_next.stands a b)

            pub gather_on : Gathering s pool₀ cap comps end at t after n u u.records (count + 1)
            unfolding params_p
            gather_on =
                let w = gather_further in
                let few = v.few in
                let more = w.further in
                record {
                  same = does_length (d.does 0) ∙ v.same;
                  ready = ready_at gather_next w.stands;
                  turn = turn_on v.turn w;
                  few = omega arith;
                  names = with_name (free_name s h) v.names;
                  listed = param_listed v.listed d g;
                  rest = λ left r B x.
                      v.rest left r B
                      (by_missing e f
                      (then (read_of g (param_here left).does)
                      (by_missing a b
                      (same_turns (λ f. params_p f s end (with_name (free_name s h) v.names) u.records (count + 1) n) (turn_fuel v.turn w) x))));
                }

-- ---- how many there are

-- what the code answers
pub items_ok : {r : Result code.Items struct.Refused} {i : code.Items} {u : Tally} → r ≡ Ok i → items_by r u ≡ items.Read i.at i.last i.count u
items_ok {u = u} e = ap (λ (x : Result code.Items struct.Refused). items_by x u) e

pub items_err : {r : Result code.Items struct.Refused} {x : struct.Refused} {u : Tally} → r ≡ Err x → items_by r u ≡ items.Refused x.refusal x.at u
items_err {u = u} e = ap (λ (x : Result code.Items struct.Refused). items_by x u) e

module _ {s pool after : List ℕ} {cap comps : ℕ} (end : ℕ) {at : Place} {t : Tally} {o : Items} (d : ListsAlone s cap comps at t (params_p (turns s) s end [] 0 0 at) o pool after) where
  pub params_refused : {k : Refusal} {p : Place} {u : Tally} {r : Items} → o ≡ items.Refused k p u → r ≡ items.Refused k p u
      → ListsAlone s cap comps at t (parameters_p s end at) r pool after
  unfolding parameters_p
  params_refused g x = rw x (record { lists = λ left. record { does = stops (told (ap items_of g) (d.lists left).does); ends = tt } })

  module _ {q : Place} {last count : ℕ} {u : Tally} (g : o ≡ items.Read q last count u) where
    pub params_over : {r : Items} → 256 ≤ count → r ≡ items.Refused TooManyArguments q u → ListsAlone s cap comps at t (parameters_p s end at) r pool after
    unfolding parameters_p
    params_over h x =
        rw x (record {
          lists = λ left. record { does = then (told (ap items_of g) (d.lists left).does) (yes_way (le-leb _ _ h) by_stop); ends = tt };
        })

    pub params_read : {r : Items} → count < 256 → r ≡ items.Read q last count u → ListsAlone s cap comps at t (parameters_p s end at) r pool after
    unfolding parameters_p
    params_read h x =
        rw x (record {
          lists = λ left.
              record {
                does = then (told (ap items_of g) (d.lists left).does) (no_way (lt-leb _ _ h) by_done);
                ends = subst (ItemsBy s at) g (d.lists left).ends;
              };
        })
