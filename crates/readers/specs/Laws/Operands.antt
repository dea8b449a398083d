-- THE READERS OF OPERANDS: each return of the readers of a choice, of prefixes, of postfixes and of atoms, and the loop over the suffixes, of
-- which what is left answers for the whole. Assumes nothing.
use Rattle.std.specs.Prelude.{◌≡◌, refl, List, [], ℕ, suc, ◌-◌, ◌≤◌, ◌<◌, length, Ok, Result}
use Rattle.std.proofs.Common.{sym, subst, ◌∙◌, arith, le-leb}
use Rattle.std.proofs.Math.Path.{subst⁻¹}
use Rattle.std.proofs.lemmas.Bool.{lt-leb}
use Rattle.characters.specs.declared.place.Place.{Place}
use Rattle.characters.specs.declared.refusal.Refusal.{Refusal}
use Rattle.characters.specs.declared.refusal.Refusal.TheVariants.{TooDeep, TooManyArguments}
use Rattle.characters.specs.Text.{Text, Stands, ascii}
use Rattle.characters.specs.PlaceLaws.{Advanced, reached_here, reached_on}
use Rattle.characters.specs.Tokens.{expected}
use Rattle.reading.specs.declared.node.Node.{Node}
use Rattle.reading.specs.declared.tally.Tally.{Tally}
use Rattle.reading.specs.Gots.{Got}
use Rattle.reading.specs.Gots.{Read, Refused}
use Rattle.reading.specs.Outs.{Out}
use Rattle.reading.specs.Process.{make, call, bind}
use Rattle.reading.specs.Says.{Does}
use Rattle.reading.proofs.Laws.Does.{by_done, by_stop, then, stops, along, yes_way, no_way, by_taken, too_deep, enter, does_more}
use Rattle.records.specs.declared.kind.Kind.{Kind}
use Rattle.records.specs.declared.kind.Kind.TheVariants as kinds
use Rattle.records.specs.declared.row.Row.{Row}
use Rattle.records.specs.Rows.{Lent, layout, record_of}
use Rattle.records.specs.Nodes.{row_like, MakesRow}
use Rattle.records.proofs.Laws.Nodes.{place_kept, row_as, row_at_lem, does_keeps, does_length, read_of, refused_of}
use Rattle.grammar.specs.declared.leaves.Atom.TheVariants as atom
use Rattle.grammar.specs.declared.leaves.Postfix.TheVariants as post
use Rattle.grammar.specs.declared.leaves.Prefix.TheVariants as prefix
use Rattle.grammar.specs.declared.leaves.Suffix.{Suffix}
use Rattle.grammar.specs.declared.leaves.Suffix.TheVariants as suffix
use Rattle.grammar.specs.Leaves.{row_of, leaf_row, prefix_of, atom_of, postfix_of}
use Rattle.grammar.specs.LeafLaws.{PrefixOn, prefix_on, PostfixOn, postfix_on}
use Rattle.grammar.specs.AtomLaws.{AtomOn, atom_at}
use Rattle.grammar.specs.Expressions.{Rule, expression, operand, lambda, turns, list_p, dict_p, paren_p, array_p, closure_p, atom_as, atom_p, call_p, index_p, extend_p, postfix_as, postfixes_p, postfix_p, sign_p, prefix_as, prefix_p, choice_p}
use Rattle.grammar.specs.Grammar.{grammar}
use Rattle.grammar.specs.Reads.{Ready, Reads}
use Rattle.grammar.specs.ReadLaws.{read_ends, reads_on, reads_then, reads_stop, refuses, reads_make, ready_then, ready_at, reads_leaf}
use Rattle.makers.specs.Answers.Items.{Items}
use Rattle.makers.specs.Answers.Items as items
use Rattle.makers.specs.Duties.{Begun, last_of, Room, Acts, Lists}
use Rattle.makers.specs.Laws.Acts.{room_of, begun_then, acts_reads, reads_from, reads_refused, need_on, ready_need, reads_failed}
use Rattle.makers.specs.Laws.Turns.{Turning, turn_first, turn_on, turn_fuel, turn_less, go_on, same_turns}
use Rattle.readers.specs.Rules.{BarAt, suffix_at, SuffixBegun}
use Rattle.readers.specs.Laws.Answers.{list_then, list_stop, list_ready}
use Rattle.characters.specs.Answers.{Must, failed, taken}
use Rattle.characters.specs.declared.refusal.Refused as struct
use Rattle.grammar.specs.declared.leaves.Atom.{Atom}
use Rattle.grammar.specs.declared.leaves.Postfix.{Postfix}
use Rattle.grammar.specs.declared.leaves.Prefix.{Prefix}

-- ---- choice: '?' expression ':' expression, the test read

module _ {s : Text} {cap comps left : ℕ} {at : Place} {t : Tally} {A B : List ℕ} {r : Got}
    (g : Begun s A cap at t) (d : Reads s cap comps left at t (call expression at) r A B) where
  pub choice_stops : {j : Refusal} {p : Place} {u : Tally} → r ≡ Refused j p u → Reads s cap comps left at t (choice_p s (last_of A t) at) r A B
  unfolding choice_p
  choice_stops f = reads_stop f d

  module _ {q : Place} {u : Tally} (f : r ≡ Read q u) {l : Must} (e : l ≡ expected s q (ascii ":")) where
    pub choice_fails : {j : Refusal} {p : Place} → l ≡ failed j p → Reads s cap comps left at t (choice_p s (last_of A t) at) (Refused j p u) A B
    unfolding choice_p
    choice_fails x = reads_then f d (reads_failed q 58 e x)

    module _ {h n : Place} (x : l ≡ taken h n) where
      -- what the last expression is called with
      pub choice_ready : Ready s B cap n u
      choice_ready = ready_need q 58 e (ready_then g.ready f d) x

      module _ {C : List ℕ} {o : Got} (c : Reads s cap comps left n u (call expression n) o B C) where
        -- what follows the colon
        choice_on : {w : Got} {Z : List ℕ}
            → Reads s cap comps left n u (bind (call expression n) (λ q b. make q (record_of (row_of kinds.Choice (last_of A t).position t.records u.records b.number)) 0)) w B Z
            → Reads s cap comps left at t (choice_p s (last_of A t) at) w A Z
        unfolding choice_p
        choice_on y = reads_then f d (reads_on (by_taken e x) (let k = (need_on q 58 e (read_ends f d).reached.stands x).further in omega arith) y)

        pub choice_stops_last : {j : Refusal} {p : Place} {v : Tally} → o ≡ Refused j p v → Reads s cap comps left at t (choice_p s (last_of A t) at) o A C
        choice_stops_last y = choice_on (reads_stop y c)

        module _ {p : Place} {v : Tally} (y : o ≡ Read p v) where
          -- what `make_like` is called with: the test was made before, and its record has room
          pub choice_like : (Lent C cap) × (1 ≤ t.records) × (t.records ≤ cap)
          choice_like = ((ready_then choice_ready y c).lent, g.some, g.ready.room)

          -- "binary and choice take their leftmost operand's [position]", where it stood before
          pub choice_made : {w : Got} {Z : List ℕ} → MakesRow cap v p (row_like C kinds.Choice t.records t.records u.records v.records) w C Z
              → Reads s cap comps left at t (choice_p s (last_of A t) at) w A Z
          choice_made m =
              let more = does_more (read_of f d.does) in
              let i = place_kept (does_keeps c.does) t.records more ∙ place_kept (does_keeps d.does) t.records (omega arith) in
              choice_on (reads_then y c (reads_make (ready_then choice_ready y c) (row_at_lem i m)))

-- ---- prefix: ( '!' | '-' | '+' ) prefix | postfix

module _ {s : Text} {cap : ℕ} {at : Place} {t : Tally} {A : List ℕ} {b : Result Prefix struct.Refused} (g : Ready s A cap at t) (e : b ≡ prefix_of s at) where
  prefix_leads : {x : Result Prefix struct.Refused} → b ≡ x → PrefixOn s at x
  prefix_leads f = subst (PrefixOn s at) (sym e ∙ f) (prefix_on s at g.stands)

  -- what is read on past the blanks, and after a sign
  pub prefix_ready : {h : Place} → b ≡ Ok (prefix.Other h) → Ready s A cap h t
  prefix_ready f = ready_at g (prefix_leads f).stands

  pub operand_ready : {sign : ℕ} {h n : Place} → b ≡ Ok (prefix.Sign sign h n) → Ready s A cap n t
  operand_ready f = ready_at g (prefix_leads f).1.stands

  module _ {comps left : ℕ} where
    -- the rule, by what stands there
    prefix_as_lem : {x : Result Prefix struct.Refused} {o : Out} {Z : List ℕ} → b ≡ x → Does layout (grammar s) cap comps left t (prefix_as s x) o A Z
        → Does layout (grammar s) cap comps left t (prefix_p s at) o A Z
    unfolding prefix_p
    prefix_as_lem f d = along (prefix_as s) (sym f ∙ e) d

    pub prefix_wrong : {j : Refusal} {p : Place} → b ≡ failed j p → Reads s cap comps left at t (prefix_p s at) (Refused j p t) A A
    prefix_wrong f = refuses (prefix_as_lem f by_stop)

    -- no sign
    pub prefix_other : {h : Place} {r : Got} {Z : List ℕ} → b ≡ Ok (prefix.Other h) → Reads s cap comps left h t (postfix_p s h) r A Z
        → Reads s cap comps left at t (prefix_p s at) r A Z
    prefix_other f d = reads_on (prefix_as_lem f) (prefix_leads f).further d

    -- a sign, which takes a level
    module _ {sign : ℕ} {h n : Place} (f : b ≡ Ok (prefix.Sign sign h n)) where
      pub prefix_deep : left ≡ 0 → Reads s cap comps left at t (prefix_p s at) (Refused TooDeep n t) A A
      prefix_deep z = refuses (prefix_as_lem f (stops (too_deep z)))

      module _ {r : Got} {B : List ℕ} (k : left ≡ 0 → ⊥) (d : Reads s cap comps (left - 1) n t (prefix_p s n) r A B) where
        operand_reads : Reads s cap comps left n t (call operand n) r A B
        unfolding grammar
        operand_reads = reads_on {from = n} {low = n} (enter k) (omega arith) d

        operand_on : {w : Got} {Z : List ℕ} → Reads s cap comps left n t (bind (call operand n) (λ q e. sign_p sign h e q)) w A Z
            → Reads s cap comps left at t (prefix_p s at) w A Z
        operand_on x = let o = prefix_leads f in let i = o.0.further in let j = o.1.further in reads_on (prefix_as_lem f) (omega arith) x

        pub prefix_stops : {j : Refusal} {p : Place} {u : Tally} → r ≡ Refused j p u → Reads s cap comps left at t (prefix_p s at) r A B
        prefix_stops x = operand_on (reads_stop x operand_reads)

        module _ {q : Place} {u : Tally} (x : r ≡ Read q u) where
          signed_ready : Ready s B cap q u
          signed_ready = ready_then (operand_ready f) x d

          -- what `signed` is called with
          pub signed_room : Room B cap u × (1 ≤ u.records)
          signed_room = (room_of signed_ready, (read_ends x d).made)

          pub prefix_signed : {w : Got} {Z : List ℕ} → Acts cap q u (sign_p sign h (last_of B u) q) w B Z → Reads s cap comps left at t (prefix_p s at) w A Z
          prefix_signed y = operand_on (reads_then x operand_reads (acts_reads y signed_ready))

-- ---- postfix: atom { '(' list | '[' expression ']' | '.' name | 'instanceof' name }

module _ {s : Text} {cap comps left : ℕ} {at : Place} {t : Tally} {A B : List ℕ} {r : Got} (d : Reads s cap comps left at t (atom_p s at) r A B) where
  pub postfix_stops : {j : Refusal} {p : Place} {u : Tally} → r ≡ Refused j p u → Reads s cap comps left at t (postfix_p s at) r A B
  unfolding postfix_p
  postfix_stops f = reads_stop f d

  pub postfix_read : {q : Place} {u : Tally} {w : Got} {Z : List ℕ} → r ≡ Read q u → Reads s cap comps left q u (postfixes_p (turns s) s (last_of B u) q) w B Z
      → Reads s cap comps left at t (postfix_p s at) w A Z
  unfolding postfix_p
  postfix_read f x = reads_then f d x

-- ---- posts: { '(' list | '[' expression ']' | '.' name | 'instanceof' name }, on the last record

-- the rule of suffixes whose base is read
abbrev pub posts_from : Text → List ℕ → Tally → Place → Rule
posts_from s pool t at = postfixes_p (turns s) s (last_of pool t) at

-- what their reader keeps
pub record Posting (s pool₀ : List ℕ) (cap comps left : ℕ) (at : Place) (t : Tally) (pool : List ℕ) (here : Place) (tally : Tally) : Type 0 where
  pub same : length pool ≡ length pool₀
  pub turn : Turning s at here
  pub begun : Begun s pool cap here tally
  pub rest : (o : Out) (B : List ℕ)
      → Does layout (grammar s) cap comps left tally (postfixes_p (suc turn.fuel) s (last_of pool tally) here) o pool B
      → Does layout (grammar s) cap comps left t (posts_from s pool₀ t at) o pool₀ B

pub posting_starts : {s A : List ℕ} {cap comps left : ℕ} {at : Place} {t : Tally} → Begun s A cap at t → Posting s A cap comps left at t A at t
posting_starts {s} {A} {cap} {comps} {left} {at} {t} g =
    record { same = refl; turn = turn_first g.ready.stands; begun = g; rest = λ o B d. d }

-- a suffix reads something
suffix_on : (s : Text) (p : Place) (one : Suffix) → PostfixOn s p (Ok (post.More one)) → Advanced s p (suffix_at one)
suffix_on s p (suffix.Call h n) a = a.1
suffix_on s p (suffix.Index h n) a = a.1
suffix_on s p (suffix.Member h span n) a = a.1
suffix_on s p (suffix.InstanceOf h span n) a = a.1

module _ {s pool₀ : List ℕ} {cap comps left : ℕ} {at : Place} {t : Tally} {pool : List ℕ} {here : Place} {tally : Tally}
    (v : Posting s pool₀ cap comps left at t pool here tally) where
  -- what `postfix_of` is called with
  pub posting_called : Stands s here × (length s ≤ 65535)
  posting_called = (v.begun.ready.stands, v.begun.ready.short)

  module _ {l : Result Postfix struct.Refused} (e : l ≡ postfix_of s here) where
    posted : {x : Result Postfix struct.Refused} {o : Out} {B : List ℕ} → l ≡ x
        → Does layout (grammar s) cap comps left tally (postfix_as s (last_of pool tally) x (postfixes_p v.turn.fuel s)) o pool B
        → Does layout (grammar s) cap comps left t (posts_from s pool₀ t at) o pool₀ B
    unfolding postfixes_p
    posted {x} {o} {B} f d = v.rest o B (along (λ (y : Result Postfix struct.Refused). postfix_as s (last_of pool tally) y (postfixes_p v.turn.fuel s)) (sym f ∙ e) d)

    post_leads : {x : Result Postfix struct.Refused} → l ≡ x → PostfixOn s here x
    post_leads f = subst (PostfixOn s here) (sym e ∙ f) (postfix_on s here v.begun.ready.stands)

    -- nothing follows
    pub posts_end : {q : Place} → l ≡ Ok (post.Rest q) → Reads s cap comps left at t (posts_from s pool₀ t at) (Read q tally) pool₀ pool
    posts_end f =
        record {
          does = posted f by_done;
          ends = record { reached = reached_on v.turn.place (post_leads f); made = v.begun.some; ids = v.begun.ready.ids };
        }

    pub posts_wrong : {j : Refusal} {q : Place} → l ≡ failed j q → Reads s cap comps left at t (posts_from s pool₀ t at) (Refused j q tally) pool₀ pool
    posts_wrong f = refuses (posted f by_stop)

    -- a suffix
    module _ {one : Suffix} (f : l ≡ Ok (post.More one)) where
      suffix_leads : Advanced s here (suffix_at one)
      suffix_leads = suffix_on s here one (post_leads f)

      pub posts_begun : SuffixBegun s pool cap one tally
      posts_begun = record { begun = record { ready = ready_at v.begun.ready suffix_leads.stands; some = v.begun.some } }

      module _ {r : Got} {C : List ℕ} (d : Reads s cap comps left (suffix_at one) tally (extend_p s (last_of pool tally) one) r pool C) where
        pub posts_stops : {j : Refusal} {q : Place} {x : Tally} → r ≡ Refused j q x → Reads s cap comps left at t (posts_from s pool₀ t at) r pool₀ C
        posts_stops y = reads_refused y (posted f (stops (refused_of y d.does)))

        module _ {q : Place} {x : Tally} (y : r ≡ Read q x) where
          further : Advanced s here q
          further = go_on suffix_leads (read_ends y d).reached

          pub posts_less : length s - q.offset < length s - here.offset
          posts_less = turn_less further

          pub posts_again : Posting s pool₀ cap comps left at t C q x
          posts_again =
              record {
                same = does_length d.does ∙ v.same;
                turn = turn_on v.turn further;
                begun = begun_then posts_begun.begun.ready y d;
                rest = λ o Z m. posted f (then (read_of y d.does) (same_turns (λ n. postfixes_p n s (last_of C x) q) (turn_fuel v.turn further) m));
              }

-- ---- suffix: '(' list | '[' expression ']' | '.' name | 'instanceof' name, on the last record

pub suffix_begun : {s : Text} {cap : ℕ} {t : Tally} {A : List ℕ} {one x : Suffix} → SuffixBegun s A cap one t → one ≡ x → Begun s A cap (suffix_at x) t
suffix_begun {s} {cap} {t} {A} g f = subst (λ (y : Suffix). Begun s A cap (suffix_at y) t) f g.begun

module _ {s : Text} {cap comps left : ℕ} {t : Tally} {A : List ℕ} {one : Suffix} where
  -- the same suffix, by what it was found to be
  suffix_as : {x : Suffix} {r : Got} {B : List ℕ} → one ≡ x → Reads s cap comps left (suffix_at x) t (extend_p s (last_of A t) x) r A B
      → Reads s cap comps left (suffix_at one) t (extend_p s (last_of A t) one) r A B
  suffix_as {x} {r} {B} f d = subst⁻¹ (λ (y : Suffix). Reads s cap comps left (suffix_at y) t (extend_p s (last_of A t) y) r A B) f d

  module _ {h n : Place} where
    pub suffix_call : {r : Got} {B : List ℕ} → one ≡ suffix.Call h n → Reads s cap comps left n t (call_p s (last_of A t) h n) r A B
        → Reads s cap comps left (suffix_at one) t (extend_p s (last_of A t) one) r A B
    suffix_call f d = suffix_as f d

    pub suffix_index : {r : Got} {B : List ℕ} → one ≡ suffix.Index h n → Reads s cap comps left n t (index_p s (last_of A t) h n) r A B
        → Reads s cap comps left (suffix_at one) t (extend_p s (last_of A t) one) r A B
    suffix_index f d = suffix_as f d

    pub suffix_member : {span : ℕ} {w : Row} {r : Got} {B : List ℕ} → SuffixBegun s A cap one t → one ≡ suffix.Member h span n
        → w ≡ row_of kinds.Member h t.records span 0 → MakesRow cap t n w r A B
        → Reads s cap comps left (suffix_at one) t (extend_p s (last_of A t) one) r A B
    suffix_member g f e m = suffix_as f (reads_make (suffix_begun g f).ready (row_as e m))

    pub suffix_instance : {span : ℕ} {w : Row} {r : Got} {B : List ℕ} → SuffixBegun s A cap one t → one ≡ suffix.InstanceOf h span n
        → w ≡ row_of kinds.InstanceOf h t.records span 0 → MakesRow cap t n w r A B
        → Reads s cap comps left (suffix_at one) t (extend_p s (last_of A t) one) r A B
    suffix_instance g f e m = suffix_as f (reads_make (suffix_begun g f).ready (row_as e m))

-- ---- call: '(' list, on the last record: at most 254 arguments, tested after the closing sign

module _ {s : Text} {cap comps left : ℕ} {at : Place} {t : Tally} {i : Items} {A B : List ℕ} (base : Node) (here : Place)
    (d : Lists s cap comps left at t (list_p (turns s) s 41 0 0 at) i A B) where
  pub call_stops : {j : Refusal} {p : Place} {u : Tally} → i ≡ items.Refused j p u → Reads s cap comps left at t (call_p s base here at) (Refused j p u) A B
  unfolding call_p
  call_stops e = list_stop d e

  module _ {q : Place} {last count : ℕ} {u : Tally} (e : i ≡ items.Read q last count u) where
    pub call_many : 255 ≤ count → Reads s cap comps left at t (call_p s base here at) (Refused TooManyArguments q u) A B
    unfolding call_p
    call_many l = list_then d e (refuses (yes_way (le-leb 255 count l) by_stop))

    pub call_made : {w : Row} {r : Got} {Z : List ℕ} → Ready s A cap at t → count < 255 → w ≡ row_of kinds.Call here base.number last 0
        → MakesRow cap u q w r B Z
        → Reads s cap comps left at t (call_p s base here at) r A Z
    unfolding call_p
    call_made g l z m = list_then d e (reads_on {from = q} {low = q} (no_way (lt-leb 255 count l)) (omega arith) (reads_make (list_ready d e g) (row_as z m)))

-- ---- index: '[' expression ']', on the last record

module _ {s : Text} {cap comps left : ℕ} {at : Place} {t : Tally} {A B : List ℕ} {r : Got} (base : Node) (here : Place)
    (d : Reads s cap comps left at t (call expression at) r A B) where
  pub index_stops : {j : Refusal} {p : Place} {u : Tally} → r ≡ Refused j p u → Reads s cap comps left at t (index_p s base here at) r A B
  unfolding index_p
  index_stops f = reads_stop f d

  module _ {q : Place} {u : Tally} (f : r ≡ Read q u) {l : Must} (e : l ≡ expected s q (ascii "]")) where
    pub index_fails : {j : Refusal} {p : Place} → l ≡ failed j p → Reads s cap comps left at t (index_p s base here at) (Refused j p u) A B
    unfolding index_p
    index_fails x = reads_then f d (reads_failed q 93 e x)

    pub index_made : {h n : Place} {w : Row} {o : Got} {Z : List ℕ} → Ready s A cap at t → l ≡ taken h n
        → w ≡ row_of kinds.Index here base.number u.records 0 → MakesRow cap u n w o B Z
        → Reads s cap comps left at t (index_p s base here at) o A Z
    unfolding index_p
    index_made g x z m =
        reads_then f d
        (reads_on (by_taken e x) (let k = (need_on q 93 e (read_ends f d).reached.stands x).further in omega arith)
        (reads_make (ready_need q 93 e (ready_then g f d) x) (row_as z m)))

-- ---- atom: literal | name | '$' name | '(' expression ')' | '[' list | '{' dictionary | lambda

module _ {s : Text} {cap : ℕ} {at : Place} {t : Tally} {A : List ℕ} {a : Result Atom struct.Refused} (g : Ready s A cap at t) (e : a ≡ atom_of s at) where
  -- what is read on after a leaf, or after a sign that opens
  atom_next : {x : Result Atom struct.Refused} → a ≡ x → AtomOn s at x
  atom_next f = atom_at g.stands e f

  pub paren_ready : {n : Place} → a ≡ Ok (atom.Paren n) → Ready s A cap n t
  paren_ready f = ready_at g (atom_next f).stands

  pub bracket_ready : {n : Place} → a ≡ Ok (atom.Bracket n) → Ready s A cap n t
  bracket_ready f = ready_at g (atom_next f).stands

  pub brace_ready : {n : Place} → a ≡ Ok (atom.Brace n) → Ready s A cap n t
  brace_ready f = ready_at g (atom_next f).stands

  pub lambda_called : a ≡ Ok atom.Bar → Ready s A cap at t × BarAt s at
  lambda_called f = (g, record { after = (atom_next f).stands })

  module _ {comps left : ℕ} where
    -- the rule, by what stands there
    atom_as_lem : {x : Result Atom struct.Refused} {o : Out} {Z : List ℕ} → a ≡ x → Does layout (grammar s) cap comps left t (atom_as s at x) o A Z
        → Does layout (grammar s) cap comps left t (atom_p s at) o A Z
    unfolding atom_p
    atom_as_lem f d = along (atom_as s at) (sym f ∙ e) d

    pub atom_wrong : {j : Refusal} {p : Place} → a ≡ failed j p → Reads s cap comps left at t (atom_p s at) (Refused j p t) A A
    atom_wrong f = refuses (atom_as_lem f by_stop)

    -- one record
    pub atom_made : {k : Kind} {v : ℕ} {n : Place} {w : Row} {r : Got} {Z : List ℕ} → a ≡ Ok (atom.Leaf k v n) → w ≡ leaf_row k at v → MakesRow cap t n w r A Z
        → Reads s cap comps left at t (atom_p s at) r A Z
    atom_made f z m =
        let o = (atom_next f).1 in
        reads_from (let i = o.further in omega arith) (reads_leaf at (sym e ∙ f) (ready_at g o.stands) (row_as z m))

    -- what a sign opens
    pub atom_paren : {n : Place} {r : Got} {Z : List ℕ} → a ≡ Ok (atom.Paren n) → Reads s cap comps left n t (paren_p s n) r A Z
        → Reads s cap comps left at t (atom_p s at) r A Z
    atom_paren f d = reads_on (atom_as_lem f) (let i = (atom_next f).further in omega arith) d

    pub atom_bracket : {n : Place} {r : Got} {Z : List ℕ} → a ≡ Ok (atom.Bracket n) → Reads s cap comps left n t (array_p s at n) r A Z
        → Reads s cap comps left at t (atom_p s at) r A Z
    atom_bracket f d = reads_on (atom_as_lem f) (let i = (atom_next f).further in omega arith) d

    pub atom_brace : {n : Place} {r : Got} {Z : List ℕ} → a ≡ Ok (atom.Brace n) → Reads s cap comps left n t (dict_p (turns s) s at [] 0 n) r A Z
        → Reads s cap comps left at t (atom_p s at) r A Z
    atom_brace f d = reads_on (atom_as_lem f) (let i = (atom_next f).further in omega arith) d

    -- a lambda, and the closure of it
    module _ {r : Got} {B : List ℕ} (f : a ≡ Ok atom.Bar) (d : Reads s cap comps left at t (call lambda at) r A B) where
      closure_on : {w : Got} {Z : List ℕ} → Reads s cap comps left at t (closure_p at) w A Z → Reads s cap comps left at t (atom_p s at) w A Z
      closure_on x = reads_on {from = at} {low = at} (atom_as_lem f) (omega arith) x

      pub atom_stops : {j : Refusal} {p : Place} {u : Tally} → r ≡ Refused j p u → Reads s cap comps left at t (atom_p s at) r A B
      unfolding closure_p
      atom_stops x = closure_on (reads_stop x d)

      pub atom_closed : {q : Place} {u : Tally} {w : Row} {o : Got} {Z : List ℕ} → r ≡ Read q u → w ≡ row_of kinds.Closure at u.records 0 0
          → MakesRow cap u q w o B Z
          → Reads s cap comps left at t (atom_p s at) o A Z
      unfolding closure_p
      atom_closed x z m = closure_on (reads_then x d (reads_make (ready_then g x d) (row_as z m)))

-- ---- paren: '(' expression ')': parentheses leave no trace

module _ {s : Text} {cap comps left : ℕ} {at : Place} {t : Tally} {A B : List ℕ} {r : Got} (d : Reads s cap comps left at t (call expression at) r A B) where
  pub paren_stops : {j : Refusal} {p : Place} {u : Tally} → r ≡ Refused j p u → Reads s cap comps left at t (paren_p s at) r A B
  unfolding paren_p
  paren_stops f = reads_stop f d

  module _ {q : Place} {u : Tally} (f : r ≡ Read q u) {l : Must} (e : l ≡ expected s q (ascii ")")) where
    pub paren_fails : {j : Refusal} {p : Place} → l ≡ failed j p → Reads s cap comps left at t (paren_p s at) (Refused j p u) A B
    unfolding paren_p
    paren_fails x = reads_then f d (reads_failed q 41 e x)

    -- the expression's record is still the last
    pub paren_read : {h n : Place} → l ≡ taken h n → Reads s cap comps left at t (paren_p s at) (Read n u) A B
    unfolding paren_p
    paren_read {h} {n} x =
        let o = read_ends f d in
        let k = need_on q 41 e o.reached.stands x in
        reads_then f d
        (reads_on {low = n} (by_taken e x) (let i = k.further in omega arith)
        (record { does = by_done; ends = record { reached = reached_here k.stands; made = o.made; ids = o.ids } }))

-- ---- array: '[' list

module _ {s : Text} {cap comps left : ℕ} {at : Place} {t : Tally} {i : Items} {A B : List ℕ} (here : Place)
    (d : Lists s cap comps left at t (list_p (turns s) s 93 0 0 at) i A B) where
  pub array_stops : {j : Refusal} {p : Place} {u : Tally} → i ≡ items.Refused j p u → Reads s cap comps left at t (array_p s here at) (Refused j p u) A B
  unfolding array_p
  array_stops e = list_stop d e

  pub array_made : {q : Place} {last count : ℕ} {u : Tally} {w : Row} {r : Got} {Z : List ℕ} → Ready s A cap at t → i ≡ items.Read q last count u
      → w ≡ row_of kinds.Array here last 0 0 → MakesRow cap u q w r B Z
      → Reads s cap comps left at t (array_p s here at) r A Z
  unfolding array_p
  array_made g e z m = list_then d e (reads_make (list_ready d e g) (row_as z m))
