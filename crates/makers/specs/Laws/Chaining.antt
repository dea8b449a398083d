-- The loop over a chain of operators: what is left of it answers for the whole, one law for each link. Assumes nothing.
use Rattle.std.specs.Prelude.{◌≡◌, refl, Bool, true, false, List, [], ◌∷◌, ℕ, suc, ◌-◌, ◌≤◌, ◌<◌, length}
use Rattle.std.proofs.Common.{sym, subst, ◌∙◌, arith}
use Rattle.std.proofs.Math.Path.{subst⁻¹}
use Rattle.characters.specs.declared.place.Place.{Place}
use Rattle.characters.specs.declared.refusal.Refusal.{Refusal}
use Rattle.characters.specs.declared.refusal.Refusal.TheVariants.{AssignmentAsExpression}
use Rattle.characters.specs.Text.{Text}
use Rattle.characters.specs.PlaceLaws.{Reached, Advanced}
use Rattle.reading.specs.declared.node.Node.{Node}
use Rattle.reading.specs.declared.tally.Tally.{Tally}
use Rattle.reading.specs.Gots.{Got, Read, Refused}
use Rattle.reading.specs.Outs.{Out}
use Rattle.reading.specs.Process.{bind}
use Rattle.reading.specs.Says.{Does}
use Rattle.reading.proofs.Laws.Does.{by_stop, then, stops, yes_way, no_way, does_more}
use Rattle.records.specs.Rows.{layout}
use Rattle.records.proofs.Laws.Nodes.{does_keeps, does_length, read_of, refused_of}
use Rattle.grammar.specs.declared.leaves.Link.{Link}
use Rattle.grammar.specs.declared.leaves.Link.TheVariants.{Choice, Operator, Assign, End}
use Rattle.grammar.specs.Operators.{strength_of, loosest}
use Rattle.grammar.specs.LinkLaws.{LinkOn, link_on}
use Rattle.grammar.specs.Leaves.{link_of}
use Rattle.grammar.specs.Expressions.{Rule, turns, Pending, waits, prefix_p, choice_p, link_as, chain_p}
use Rattle.grammar.specs.Grammar.{grammar}
use Rattle.grammar.specs.Reads.{Ready, EndsBy, Reads}
use Rattle.grammar.specs.ReadLaws.{read_ends, reads_on, refuses}
use Rattle.makers.specs.declared.chains.Chain.{Chain}
use Rattle.makers.specs.Answers.Reduced.{Reduced}
use Rattle.makers.specs.Duties.{Begun, last_of, Room}
use Rattle.makers.specs.Chains.{pending_of, Rises, Pushed, Reduces}
use Rattle.makers.specs.Laws.Acts.{room_of, begun_then, reads_refused}
use Rattle.makers.specs.Laws.Turns.{Turning, turn_first, turn_on, turn_fuel, turn_less, go_on, same_turns}
use Rattle.makers.specs.Laws.Chains.{pending_none, rises_none, reduces_by, reduces_done, reduces_length, begun_reduced, reduced_room, pushed_pending, pushed_rises}

-- the rule of a chain whose first operand is read
abbrev pub chain_from : Text → Bool → List ℕ → Tally → Place → Rule
chain_from s assigning pool t at = chain_p (turns s) s assigning [] (last_of pool t) at

-- what its reader keeps
pub record Chaining (s pool₀ : List ℕ) (cap comps left : ℕ) (assigning : Bool) (at : Place) (t : Tally) (pool : List ℕ) (pending : Chain) (here : Place) (tally : Tally) : Type 0 where
  pub same : length pool ≡ length pool₀
  pub turn : Turning s at here
  pub rises : Rises pool tally pending
  pub begun : Begun s pool cap here tally
  pub rest : (o : Out) (B : List ℕ)
      → Does layout (grammar s) cap comps left tally (chain_p (suc turn.fuel) s assigning (pending_of pool pending) (last_of pool tally) here) o pool B
      → Does layout (grammar s) cap comps left t (chain_from s assigning pool₀ t at) o pool₀ B

pub chaining_starts : {s A : List ℕ} {cap comps left : ℕ} {assigning : Bool} {at : Place} {t : Tally} {c : Chain} → Begun s A cap at t → c.len ≡ 0
    → Chaining s A cap comps left assigning at t A c at t
chaining_starts {s} {A} {cap} {comps} {left} {assigning} {at} {t} {c} g e =
    record {
      same = refl;
      turn = turn_first g.ready.stands;
      rises = rises_none A t c e;
      begun = g;
      rest = λ o B d.
          subst (λ (xs : Pending). Does layout (grammar s) cap comps left t (chain_p (turns s) s assigning xs (last_of A t) at) o A B) (pending_none A c e) d;
    }

module _ {s pool₀ : List ℕ} {cap comps left : ℕ} {assigning : Bool} {at : Place} {t : Tally} {pool : List ℕ} {pending : Chain} {here : Place} {tally : Tally}
    (v : Chaining s pool₀ cap comps left assigning at t pool pending here tally) where
  -- what `reduce` is called with
  pub chaining_room : Room pool cap tally × (1 ≤ tally.records) × Rises pool tally pending
  chaining_room = (room_of v.begun.ready, v.begun.some, v.rises)

  module _ {l : Link} (e : l ≡ link_of s here) where
    linked : {x : Link} {o : Out} {B : List ℕ} → l ≡ x
        → Does layout (grammar s) cap comps left tally (link_as s assigning (pending_of pool pending) (last_of pool tally) here x (λ ys n q. chain_p v.turn.fuel s assigning ys n q)) o pool B
        → Does layout (grammar s) cap comps left t (chain_from s assigning pool₀ t at) o pool₀ B
    unfolding chain_p
    linked {x} {o} {B} f d =
        v.rest o B
        (subst (λ (y : Link). Does layout (grammar s) cap comps left tally (link_as s assigning (pending_of pool pending) (last_of pool tally) here y (λ ys n q. chain_p v.turn.fuel s assigning ys n q)) o pool B) (sym f ∙ e) d)

    link_leads : {x : Link} → l ≡ x → LinkOn s here x
    link_leads f = subst (LinkOn s here) (sym e ∙ f) (link_on s here v.begun.ready.stands)

    -- ---- all that waits is made, when this place is reached

    module _ {w : Reduced} {Z : List ℕ} (h : Reduces cap tally here loosest pending w pool Z) where
      over_ends : EndsBy s at w.got
      over_ends = go w.got refl
        where
          go : (x : Got) → w.got ≡ x → EndsBy s at x
          go (Read p u) f =
              let g = begun_reduced h f v.begun v.begun.ready.stands in
              record { reached = subst⁻¹ (Reached s at) (h.stays f) v.turn.place; made = g.some; ids = g.ready.ids }
          go (Refused k p u) f = tt

      -- nothing follows
      pub chain_ends : l ≡ End → Reads s cap comps left at t (chain_from s assigning pool₀ t at) w.got pool₀ Z
      chain_ends f = record { does = linked f (reduces_done h); ends = over_ends }

      -- an assignment sign, where one may follow
      pub chain_assigns : l ≡ Assign → assigning ≡ true → Reads s cap comps left at t (chain_from s assigning pool₀ t at) w.got pool₀ Z
      chain_assigns f y = record { does = linked f (yes_way y (reduces_done h)); ends = over_ends }

    -- and where none may
    pub chain_refuses : l ≡ Assign → assigning ≡ false
        → Reads s cap comps left at t (chain_from s assigning pool₀ t at) (Refused AssignmentAsExpression here tally) pool₀ pool
    chain_refuses f n = refuses (linked f (no_way n by_stop))

    -- ---- a choice

    module _ {next : Place} (f : l ≡ Choice next) {w : Reduced} {B : List ℕ} (h : Reduces cap tally next loosest pending w pool B) where
      pub choice_full : {k : Refusal} {p : Place} {u : Tally} → w.got ≡ Refused k p u
          → Reads s cap comps left at t (chain_from s assigning pool₀ t at) w.got pool₀ B
      choice_full g = reads_refused g (linked f (h.stops (grammar s) comps left (λ ys n. choice_p s n next) g))

      module _ {p : Place} {u : Tally} (g : w.got ≡ Read p u) where
        pub choice_begun : Begun s B cap next u
        choice_begun = begun_reduced h g v.begun (link_leads f).stands

        pub choice_read : {r : Got} {Z : List ℕ} → Reads s cap comps left next u (choice_p s (last_of B u) next) r B Z
            → Reads s cap comps left at t (chain_from s assigning pool₀ t at) r pool₀ Z
        choice_read d =
            let a = link_leads f in
            let b = v.turn.place.further in
            reads_on (λ x. linked f (h.goes (grammar s) comps left (λ ys n. choice_p s n next) g x)) (let z = a.further in omega arith) d

    -- ---- an operator and its right side

    module _ {op : ℕ} {next : Place} (f : l ≡ Operator op next) {new : ℕ} (i : new ≡ strength_of op) {w : Reduced} {B : List ℕ} (h : Reduces cap tally next new pending w pool B) where
      -- what the rule goes on to do
      onward : Pending → Node → Rule
      onward ys n = bind (prefix_p s next) (λ q r. chain_p v.turn.fuel s assigning (waits op n ∷ ys) r q)

      pub operator_full : {k : Refusal} {p : Place} {u : Tally} → w.got ≡ Refused k p u
          → Reads s cap comps left at t (chain_from s assigning pool₀ t at) w.got pool₀ B
      unfolding onward
      operator_full g = reads_refused g (linked f ((reduces_by i h).stops (grammar s) comps left onward g))

      module _ {p : Place} {u : Tally} (g : w.got ≡ Read p u) where
        pub operator_ready : Ready s B cap next u
        operator_ready = (begun_reduced h g v.begun (link_leads f).0.stands).ready

        pub operator_room : (w.len < 10) × (op ≤ 65535) × (u.records ≤ 65535)
        operator_room =
            let o = link_leads f in
            let a = operator_ready.small in
            let b = operator_ready.room in
            let z = o.2 in
            (reduced_room h g i o.1 o.2, omega arith, omega arith)

        module _ {r : Got} {C : List ℕ} (d : Reads s cap comps left next u (prefix_p s next) r B C) where
          pub operator_stops : {k : Refusal} {q : Place} {x : Tally} → r ≡ Refused k q x
              → Reads s cap comps left at t (chain_from s assigning pool₀ t at) r pool₀ C
          unfolding onward
          operator_stops j = reads_refused j (linked f ((reduces_by i h).goes (grammar s) comps left onward g (stops (refused_of j d.does))))

          module _ {q : Place} {x : Tally} (j : r ≡ Read q x) where
            further : Advanced s here q
            further = go_on (link_leads f).0 (read_ends j d).reached

            pub operator_less : length s - q.offset < length s - here.offset
            operator_less = turn_less further

            pub operator_again : {pushed : Chain} → Pushed pending w.len op u.records pushed
                → Chaining s pool₀ cap comps left assigning at t C pushed q x
            unfolding onward
            operator_again {pushed} y =
                let o = link_leads f in
                let kept = does_keeps d.does in
                let more = does_more (read_of j d.does) in
                let z = pushed_pending h g i o.1 o.2 kept y in
                record {
                  same = does_length d.does ∙ reduces_length h ∙ v.same;
                  turn = turn_on v.turn further;
                  rises = pushed_rises h g i o.1 o.2 kept more y v.begun.some;
                  begun = begun_then operator_ready j d;
                  rest = λ a Z m.
                      linked f
                      ((reduces_by i h).goes (grammar s) comps left onward g
                      (then (read_of j d.does)
                      (subst (λ (xs : Pending). Does layout (grammar s) cap comps left x (chain_p v.turn.fuel s assigning xs (last_of C x) q) a C Z) z
                      (same_turns (λ n. chain_p n s assigning (pending_of C pushed) (last_of C x) q) (turn_fuel v.turn further) m))));
                }
