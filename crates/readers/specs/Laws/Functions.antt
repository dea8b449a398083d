-- THE READERS OF FUNCTIONS, LAMBDAS AND BLOCKS: each return of theirs, and of the loop over a block's statements, of which what is left answers
-- for the whole. Assumes nothing.
use Rattle.std.specs.Prelude.{◌≡◌, refl, List, [], ◌∷◌, ℕ, suc, ◌+◌, ◌-◌, ◌≤◌, ◌<◌, ◌^◌, length}
use Rattle.std.proofs.Common.{sym, subst, ◌∙◌, arith}
use Rattle.std.proofs.Math.Path.{subst⁻¹}
use Rattle.characters.specs.declared.place.Place.{Place}
use Rattle.characters.specs.declared.refusal.Refusal.{Refusal}
use Rattle.characters.specs.Text.{Text, on_by}
use Rattle.characters.specs.PlaceLaws.{Reached, Advanced, advanced_on, reached_on, advanced_reached}
use Rattle.characters.specs.Tokens.{token, expected}
use Rattle.reading.specs.declared.tally.Tally.{Tally}
use Rattle.reading.specs.Gots.{Got}
use Rattle.reading.specs.Gots.{Read, Refused}
use Rattle.reading.specs.Outs.{Out}
use Rattle.reading.specs.Process.{Process, make, call, bind, plain}
use Rattle.reading.specs.Says.{Does}
use Rattle.reading.proofs.Laws.Does.{then, stops, by_found, by_missing, by_halted, by_taken, by_failed, enter}
use Rattle.records.specs.declared.row.Row.{Row}
use Rattle.records.specs.declared.kind.Kind.TheVariants as kinds
use Rattle.records.specs.Rows.{layout, record_of}
use Rattle.records.specs.Nodes.{MakesRow}
use Rattle.records.proofs.Laws.Nodes.{row_as, does_length, read_of, refused_of}
use Rattle.grammar.specs.Leaves.{row_of}
use Rattle.grammar.specs.Heads.{end_of}
use Rattle.grammar.specs.HeadLaws.{EndOn, end_on}
use Rattle.grammar.specs.Expressions.{Routine, expression, statement, function, lambda, list_node, stated_row}
use Rattle.grammar.specs.Functions.{parameters_p, block_row, block_item_p, statements_p, block_p, fun_p, body_block_p, function_p, implied_return_p, lambda_body_p, lambda_p}
use Rattle.grammar.specs.Grammar.{grammar}
use Rattle.grammar.specs.Reads.{Ready, Reads}
use Rattle.grammar.specs.ReadLaws.{read_ends, moved_on, reads_on, reads_then, reads_stop, refuses, reads_make, ready_then, ready_at}
use Rattle.makers.specs.Answers.Items.{Items}
use Rattle.makers.specs.Answers.Items as items
use Rattle.makers.specs.Duties.{last_of, Acts, Lists, ListsAlone}
use Rattle.makers.specs.Laws.Acts.{acts_reads, need_on, reads_refused}
use Rattle.makers.specs.Laws.Turns.{Turning, turn_first, turn_on, turn_fuel, turn_less, same_turns}
use Rattle.readers.specs.Rules.{BarAt}
use Rattle.readers.specs.Laws.Answers.{ready_missing, reads_found, reads_missing, reads_halted, list_then, list_stop, list_ready}
use Rattle.characters.specs.Answers.{Looked, Must, failed, found, missing, taken}

-- ---- parameters

-- what is read on after parameters
pub params_ready : {s : Text} {cap comps : ℕ} {from at : Place} {t : Tally} {X : Process Routine} {o : Items} {A B : List ℕ} {q : Place} {last count : ℕ} {u : Tally}
    → ListsAlone s cap comps from t X o A B → o ≡ items.Read q last count u → Ready s A cap at t → Ready s B cap q u
params_ready d e g = list_ready (d.lists 0) e g

-- ---- lambda: '|' parameters ( block | expression ), at its first `|`

-- the place after the `|`
pub bar_room : {s : Text} {at : Place} → BarAt s at → (at.offset + 1 < 2 ^ 32) × (at.column + 1 < 2 ^ 32)
bar_room {s} {at} b =
    let h = b.after in
    let i : length s < 2 ^ 31 = h.short in
    let j : at.offset + 1 ≤ length s = h.inside in
    let k : at.column + 1 ≤ at.offset + 1 + 1 = h.columns in
    (omega arith, omega arith)

pub bar_ready : {s pool : List ℕ} {cap : ℕ} {at after : Place} {t : Tally} → Ready s pool cap at t → BarAt s at → after ≡ on_by 1 at
    → Ready s pool cap after t
bar_ready {s} {pool} {cap} {at} {after} {t} g b e = subst⁻¹ (λ (x : Place). Ready s pool cap x t) e (ready_at g b.after)

-- by the place as the rule has it
params_at : {s : Text} {cap comps : ℕ} (left end : ℕ) {after : Place} (at : Place) {t : Tally} {o : Items} {A B : List ℕ} → after ≡ on_by 1 at
    → ListsAlone s cap comps after t (parameters_p s end after) o A B
    → Lists s cap comps left (on_by 1 at) t (parameters_p s end (on_by 1 at)) o A B
params_at {s} {cap} {comps} left end at {t} {o} {A} {B} e d = subst (λ (x : Place). Lists s cap comps left x t (parameters_p s end x) o A B) e (d.lists left)

module _ {s : Text} {cap comps left : ℕ} {at : Place} {t : Tally} {A : List ℕ} (n : left ≡ 0 → ⊥) where
  lambda_enters : {r : Got} {Z : List ℕ} → Reads s cap comps (left - 1) (on_by 1 at) t (lambda_p s at) r A Z → Reads s cap comps left at t (call lambda at) r A Z
  unfolding grammar
  lambda_enters h = reads_on {from = at} {low = on_by 1 at} (enter n) (omega arith) h

  module _ {after : Place} {o : Items} {B : List ℕ} (e : after ≡ on_by 1 at) (d : ListsAlone s cap comps after t (parameters_p s 124 after) o A B) where
    pub lambda_refused : {k : Refusal} {q : Place} {u : Tally} → o ≡ items.Refused k q u → Reads s cap comps left at t (call lambda at) (Refused k q u) A B
    lambda_refused f = lambda_enters (unfold lambda_p in list_stop (params_at (left - 1) 124 at e d) f)

    module _ {q : Place} {last count : ℕ} {u : Tally} (f : o ≡ items.Read q last count u) {r : Got} {C : List ℕ} (b : Reads s cap comps (left - 1) q u (lambda_body_p s at q) r B C) where
      pub lambda_stops : {k : Refusal} {p : Place} {v : Tally} → r ≡ Refused k p v → Reads s cap comps left at t (call lambda at) r A C
      lambda_stops x = lambda_enters (unfold lambda_p in list_then (params_at (left - 1) 124 at e d) f (reads_stop x b))

      pub lambda_made : {p : Place} {v : Tally} {a : Got} {Z : List ℕ} → Ready s B cap q u → r ≡ Read p v
          → Acts cap p v (fun_p at 0 (plain last p) (last_of C v) p) a C Z
          → Reads s cap comps left at t (call lambda at) a A Z
      lambda_made g x m = lambda_enters (unfold lambda_p fun_p in list_then (params_at (left - 1) 124 at e d) f (reads_then x b (acts_reads m (ready_then g x b))))

-- ---- result: block | expression, which the lambda at `from` returns

module _ {s : Text} {cap comps left : ℕ} (from : Place) {at : Place} {t : Tally} {A : List ℕ} (g : Ready s A cap at t) {l : Looked} (e : l ≡ token s at (123 ∷ [])) where
  pub result_halts : {k : Refusal} {q : Place} → l ≡ failed k q → Reads s cap comps left at t (lambda_body_p s from at) (Refused k q t) A A
  unfolding lambda_body_p
  result_halts f = reads_halted at 123 e f

  pub result_block : {h n : Place} {r : Got} {B : List ℕ} → l ≡ found h n → Reads s cap comps left n t (block_p s h n) r A B
      → Reads s cap comps left at t (lambda_body_p s from at) r A B
  unfolding lambda_body_p
  result_block f d = reads_found at 123 e g.stands f d

  module _ {h : Place} (f : l ≡ missing h) {r : Got} {B : List ℕ} (d : Reads s cap comps left h t (call expression h) r A B) where
    pub result_stops : {k : Refusal} {p : Place} {u : Tally} → r ≡ Refused k p u → Reads s cap comps left at t (lambda_body_p s from at) r A B
    unfolding lambda_body_p implied_return_p
    result_stops x = reads_missing at 123 e g.stands f (reads_stop x d)

    pub result_made : {p : Place} {u : Tally} {w : Row} {a : Got} {Z : List ℕ} → r ≡ Read p u → w ≡ row_of kinds.Return from u.records 0 0
        → MakesRow cap u p w a B Z
        → Reads s cap comps left at t (lambda_body_p s from at) a A Z
    unfolding lambda_body_p implied_return_p
    result_made x i m =
        reads_missing at 123 e g.stands f
        (reads_then x d (reads_make (ready_then (ready_missing at 123 e g f) x d) (row_as i m)))

-- ---- function: '(' parameters '{' block, after its name

-- the `(`, and what is read on after it, after the parameters and after the `{`
module _ {s : Text} {cap : ℕ} {at : Place} {t : Tally} {A : List ℕ} (g : Ready s A cap at t) {l : Must} (e : l ≡ expected s at (40 ∷ [])) where
  function_past : {h next : Place} → l ≡ taken h next → at.offset ≤ next.offset
  function_past f = let z = (need_on at 40 e g.stands f).further in omega arith

module _ {s : Text} {cap comps left : ℕ} {q : Place} {u : Tally} {B : List ℕ} (g : Ready s B cap q u) {m : Must} (i : m ≡ expected s q (123 ∷ [])) where
  -- its block, after the `{`
  function_body : {k inside : Place} {r : Got} {C : List ℕ} → m ≡ taken k inside → Reads s cap comps left inside u (block_p s k inside) r B C
      → Reads s cap comps left q u (body_block_p s q) r B C
  unfolding body_block_p
  function_body {inside = inside} j b = let z = (need_on q 123 i g.stands j).further in reads_on {low = inside} (by_taken i j) (omega arith) b

module _ {s : Text} {cap comps left : ℕ} {from : Place} {name : ℕ} {at : Place} {t : Tally} {A : List ℕ} (n : left ≡ 0 → ⊥) (g : Ready s A cap at t)
    {l : Must} (e : l ≡ expected s at (40 ∷ [])) where
  function_enters : {r : Got} {Z : List ℕ} → Reads s cap comps (left - 1) at t (function_p s from name at) r A Z
      → Reads s cap comps left at t (call (function from name) at) r A Z
  unfolding grammar
  function_enters h = reads_on {from = at} {low = at} (enter n) (omega arith) h

  -- no `(`
  pub function_fails : {k : Refusal} {q : Place} → l ≡ failed k q
      → Reads s cap comps left at t (call (function from name) at) (Refused k q t) A A
  function_fails f = function_enters (unfold function_p in refuses (by_failed e f))

  module _ {h next : Place} (f : l ≡ taken h next) {o : Items} {B : List ℕ} (d : ListsAlone s cap comps next t (parameters_p s 41 next) o A B) where
    pub function_refused : {k : Refusal} {q : Place} {u : Tally} → o ≡ items.Refused k q u
        → Reads s cap comps left at t (call (function from name) at) (Refused k q u) A B
    function_refused x =
        function_enters (unfold function_p in reads_on {low = next} (by_taken e f) (function_past g e f) (list_stop (d.lists (left - 1)) x))

    module _ {q : Place} {last count : ℕ} {u : Tally} (x : o ≡ items.Read q last count u) {m : Must} (i : m ≡ expected s q (123 ∷ [])) where
      function_then : {r : Got} {Z : List ℕ} → Reads s cap comps (left - 1) q u (bind (body_block_p s q) (λ p y. fun_p from name (list_node last count q) y p)) r B Z
          → Reads s cap comps left at t (call (function from name) at) r A Z
      function_then h = function_enters (unfold function_p in reads_on {low = next} (by_taken e f) (function_past g e f) (list_then (d.lists (left - 1)) x h))

      -- no `{`
      pub function_bare : {k : Refusal} {p : Place} → m ≡ failed k p
          → Reads s cap comps left at t (call (function from name) at) (Refused k p u) A B
      function_bare j = function_then (reads_stop {low = q} refl (unfold body_block_p in refuses (by_failed i j)))

      module _ {k inside : Place} (j : m ≡ taken k inside) {r : Got} {C : List ℕ} (b : Reads s cap comps (left - 1) inside u (block_p s k inside) r B C) where
        pub function_stops : {c : Refusal} {p : Place} {v : Tally} → r ≡ Refused c p v → Reads s cap comps left at t (call (function from name) at) r A C
        function_stops y = function_then (reads_stop y (function_body (params_ready d x g) i j b))

        pub function_made : {p : Place} {v : Tally} {a : Got} {Z : List ℕ} → r ≡ Read p v → Acts cap p v (fun_p from name (plain last p) (last_of C v) p) a C Z
            → Reads s cap comps left at t (call (function from name) at) a A Z
        function_made y c =
            let z = params_ready d x g in
            let w = function_body z i j b in
            function_then (unfold fun_p in reads_then y w (acts_reads c (ready_then z y w)))

-- ---- block: { statement } '}', after its '{', which stands at `from`

-- what its reader keeps: what is left of the block answers for the whole
pub record Blocking (s pool₀ : List ℕ) (cap comps left : ℕ) (from at : Place) (t : Tally) (pool : List ℕ) (here : Place) (tally : Tally) (last : ℕ) : Type 0 where
  pub same : length pool ≡ length pool₀
  pub ready : Ready s pool cap here tally
  pub turn : Turning s at here
  pub rest : (r : Out) (B : List ℕ) → Does layout (grammar s) cap comps left tally (statements_p (suc turn.fuel) s from last here) r pool B
      → Does layout (grammar s) cap comps left t (block_p s from at) r pool₀ B

pub block_first : {s pool : List ℕ} {cap comps left : ℕ} {from at : Place} {t : Tally} → Ready s pool cap at t → Blocking s pool cap comps left from at t pool at t 0
block_first g = record { same = refl; ready = g; turn = turn_first g.stands; rest = λ r B d. unfold block_p in d }

module _ {s pool₀ : List ℕ} {cap comps left : ℕ} {from at : Place} {t : Tally} {pool : List ℕ} {here : Place} {tally : Tally} {last : ℕ} (v : Blocking s pool₀ cap comps left from at t pool here tally last)
    {l : Looked} (e : l ≡ end_of s here) where
  end_leads : {x : Looked} → l ≡ x → EndOn s here x
  end_leads f = subst (EndOn s here) (sym e ∙ f) (end_on s here v.ready.stands)

  pub block_halts : {k : Refusal} {q : Place} → l ≡ failed k q → Reads s cap comps left at t (block_p s from at) (Refused k q tally) pool₀ pool
  unfolding statements_p
  block_halts f = refuses (v.rest _ _ (by_halted e f))

  -- the closing sign
  module _ {h n : Place} (f : l ≡ found h n) where
    block_end : Reached s here n
    block_end = let g = end_leads f in reached_on g.0 (advanced_reached g.1)

    pub block_ends : {w : Row} {r : Got} {after : List ℕ} → w ≡ block_row from last → MakesRow cap tally n w r pool after
        → Reads s cap comps left at t (block_p s from at) r pool₀ after
    unfolding statements_p
    block_ends i m =
        let a = block_end.further in
        let b = v.turn.place.further in
        reads_on {low = n} (λ o. v.rest _ _ (by_found e f o)) (omega arith) (reads_make (ready_at v.ready block_end.stands) (row_as i m))

  -- a statement
  module _ {h : Place} (f : l ≡ missing h) where
    pub block_here : Ready s pool cap h tally
    block_here = ready_at v.ready (end_leads f).stands

    module _ {o : Got} {mid : List ℕ} (d : Reads s cap comps left (on_by 1 h) tally (call statement h) o pool mid) where
      pub block_stops : {k : Refusal} {p : Place} {u : Tally} → o ≡ Refused k p u → Reads s cap comps left at t (block_p s from at) o pool₀ mid
      unfolding statements_p block_item_p
      block_stops g = reads_refused g (v.rest _ _ (by_missing e f (stops (stops (refused_of g d.does)))))

      module _ {q : Place} {u : Tally} (g : o ≡ Read q u) where
        -- what its item is made with
        pub block_next : Ready s mid cap q u
        block_next = ready_then block_here g d

        module _ {r : Got} {after : List ℕ} (m : Acts cap q u (make q (record_of (stated_row (last_of mid u) last)) 0) r mid after) where
          item_here : Reads s cap comps left (on_by 1 h) tally (block_item_p last h) r pool after
          unfolding block_item_p
          item_here = reads_then g d (acts_reads m block_next)

          -- no room for it
          pub block_full : {k : Refusal} {p : Place} {x : Tally} → r ≡ Refused k p x → Reads s cap comps left at t (block_p s from at) r pool₀ after
          unfolding statements_p
          block_full i = reads_refused i (v.rest _ _ (by_missing e f (stops (refused_of i item_here.does))))

          module _ {p : Place} {x : Tally} (i : r ≡ Read p x) where
            block_further : Advanced s here p
            block_further = advanced_on (end_leads f) (moved_on (read_ends i item_here).reached)

            pub block_less : length s - p.offset < length s - here.offset
            block_less = turn_less block_further

            pub block_again : Blocking s pool₀ cap comps left from at t after p x x.records
            unfolding statements_p
            block_again =
                let w = block_further in
                record {
                  same = does_length item_here.does ∙ v.same;
                  ready = ready_then block_here i item_here;
                  turn = turn_on v.turn w;
                  rest = λ a B y.
                      v.rest a B
                      (by_missing e f
                      (then (read_of i item_here.does)
                      (same_turns (λ n. statements_p n s from x.records p) (turn_fuel v.turn w) y)));
                }
