-- THE READERS OF STATEMENTS: what each of their returns comes to, and what the next reader is called with. Assumes nothing.
use Rattle.std.specs.Prelude.{◌≡◌, List, [], ◌∷◌, ℕ, ◌-◌, ◌≤◌, Err, Ok, Result}
use Rattle.std.proofs.Common.{sym, subst, ◌∙◌, arith, eq-eqb, ne_eqb}
use Rattle.std.proofs.Math.Path.{ap, subst⁻¹}
use Rattle.characters.specs.declared.place.Place.{Place}
use Rattle.characters.specs.declared.refusal.Refusal.{Refusal}
use Rattle.characters.specs.declared.refusal.Refusal.TheVariants.{DeclarationAsBody}
use Rattle.characters.specs.Text.{Text, Stands, ascii, on_by}
use Rattle.characters.specs.PlaceLaws.{Reached, Advanced, reached_here, reached_on}
use Rattle.characters.specs.Tokens.{token, keyword, expected}
use Rattle.characters.specs.TokenLaws.{TokenOn, keyword_on}
use Rattle.reading.specs.declared.tally.Tally.{Tally}
use Rattle.reading.specs.Gots.{Got}
use Rattle.reading.specs.Gots.{Read, Refused}
use Rattle.reading.specs.Process.{call, plain}
use Rattle.reading.proofs.Laws.Does.{by_done, by_stop, along, yes_way, no_way, by_found, by_missing, by_halted, by_taken, by_failed, enter}
use Rattle.records.specs.declared.kind.Kind.TheVariants as kinds
use Rattle.records.specs.declared.row.Row.{Row}
use Rattle.records.specs.Nodes.{kind_at, place_at, MakesRow}
use Rattle.records.proofs.Laws.Nodes.{row_as}
use Rattle.grammar.specs.declared.heads.StatementHead.TheVariants as head
use Rattle.grammar.specs.Leaves.{row_of}
use Rattle.grammar.specs.Heads.{name_of, head_of, let_of}
use Rattle.grammar.specs.HeadLaws.{NameOn, name_of_on, HeadOn, head_on, LetOn, let_on}
use Rattle.grammar.specs.Expressions.{expression, statement, function, paren_p}
use Rattle.grammar.specs.Functions.{name_word}
use Rattle.grammar.specs.Statements.{return_p, condition_p, control_body_p, else_p, if_p, for_end_p, loop_p, while_p, assert_p, let_as, let_p, declare_p, fun_statement_p, statement_as, statement_p}
use Rattle.grammar.specs.Grammar.{grammar}
use Rattle.grammar.specs.Reads.{Ready, Reads}
use Rattle.grammar.specs.ReadLaws.{read_ends, reads_on, reads_then, reads_stop, refuses, reads_make, reads_valued, ready_then, ready_at, ready_made, let_row_lem}
use Rattle.makers.specs.Duties.{last_of, Acts}
use Rattle.makers.specs.Laws.Acts.{acts_reads, reads_from, ready_need, reads_taken, reads_failed}
use Rattle.readers.specs.Laws.Answers.{sign_found, sign_missing}
use Rattle.characters.specs.Answers.{Looked, Must, failed, found, missing, taken}
use Rattle.characters.specs.declared.refusal.Refused as struct
use Rattle.grammar.specs.Answers.{lets_name}
use Rattle.grammar.specs.declared.heads.LetHead.{LetHead}
use Rattle.grammar.specs.declared.heads.StatementHead.{StatementHead}

-- ---- where a token leads

word_found : {s : Text} {at h n : Place} {l : Looked} (w : Text) → Stands s at → l ≡ keyword s at w → l ≡ found h n → Reached s at n
word_found {s} {at} w v e f = let z = subst (TokenOn s at w) (sym e ∙ f) (keyword_on s at w v) in reached_on z.0 z.1

word_missing : {s : Text} {at h : Place} {l : Looked} (w : Text) → Stands s at → l ≡ keyword s at w → l ≡ missing h → Reached s at h
word_missing {s} {at} w v e f = subst (TokenOn s at w) (sym e ∙ f) (keyword_on s at w v)

-- ---- statement: return | break | continue | if | loop | while | for | assert | let | fun | block | expr-or-assign

-- from where it is read on, and what its reader has reached: one that begins with no keyword says itself that it moves on
abbrev pub head_next : Place → Result StatementHead struct.Refused → Place
head_next at (Ok (head.Return h n)) = n
head_next at (Ok (head.Break h n)) = n
head_next at (Ok (head.Continue h n)) = n
head_next at (Ok (head.If h n)) = n
head_next at (Ok (head.Loop h n)) = n
head_next at (Ok (head.While h n)) = n
head_next at (Ok (head.For h n)) = n
head_next at (Ok (head.Assert h n)) = n
head_next at (Ok (head.Let h n)) = n
head_next at (Ok (head.Fun h n)) = n
head_next at (Ok (head.Block h n)) = n
head_next at (Ok (head.ExprOrAssign h)) = h
head_next at (Err e) = at

abbrev pub head_past : Place → Result StatementHead struct.Refused → Place
head_past at (Ok (head.Return h n)) = n
head_past at (Ok (head.Break h n)) = n
head_past at (Ok (head.Continue h n)) = n
head_past at (Ok (head.If h n)) = n
head_past at (Ok (head.Loop h n)) = n
head_past at (Ok (head.While h n)) = n
head_past at (Ok (head.For h n)) = n
head_past at (Ok (head.Assert h n)) = n
head_past at (Ok (head.Let h n)) = n
head_past at (Ok (head.Fun h n)) = n
head_past at (Ok (head.Block h n)) = n
head_past at (Ok (head.ExprOrAssign h)) = on_by 1 h
head_past at (Err e) = on_by 1 at

over : {s : Text} {at h n : Place} → Reached s at h × Advanced s h n → Stands s n × ((on_by 1 at).offset ≤ n.offset)
over g = let a = g.0.further in let b = g.1.further in (g.1.stands, omega arith)

head_leads : {s : Text} {at : Place} (x : Result StatementHead struct.Refused) → Stands s at → HeadOn s at x → Stands s (head_next at x) × ((on_by 1 at).offset ≤ (head_past at x).offset)
head_leads (Ok (head.Return h n)) v g = over g
head_leads (Ok (head.Break h n)) v g = over g
head_leads (Ok (head.Continue h n)) v g = over g
head_leads (Ok (head.If h n)) v g = over g
head_leads (Ok (head.Loop h n)) v g = over g
head_leads (Ok (head.While h n)) v g = over g
head_leads (Ok (head.For h n)) v g = over g
head_leads (Ok (head.Assert h n)) v g = over g
head_leads (Ok (head.Let h n)) v g = over g
head_leads (Ok (head.Fun h n)) v g = over g
head_leads (Ok (head.Block h n)) v g = over g
head_leads (Ok (head.ExprOrAssign h)) v g = let a = g.further in (g.stands, omega arith)
head_leads (Err e) v g = (v, omega arith)

module _ {s A : List ℕ} {cap : ℕ} {at : Place} {t : Tally} (g : Ready s A cap at t) {l x : Result StatementHead struct.Refused} (e : l ≡ head_of s at) (f : l ≡ x) where
  head_here : HeadOn s at x
  head_here = subst (HeadOn s at) (sym e ∙ f) (head_on s at g.stands)

  -- what its reader is called with
  pub statement_ready : Ready s A cap (head_next at x) t
  statement_ready = ready_at g (head_leads x g.stands head_here).0

  -- what its reader answers, one level deeper; a head that is wrong is refused
  pub statement_read : {comps left : ℕ} {r : Got} {B : List ℕ} → (left ≡ 0 → ⊥)
      → Reads s cap comps (left - 1) (head_past at x) t (statement_as s x) r A B
      → Reads s cap comps left (on_by 1 at) t (call statement at) r A B
  unfolding grammar statement_p
  statement_read n d = reads_on {low = head_past at x} (λ o. enter n (along (statement_as s) (sym f ∙ e) o)) (head_leads x g.stands head_here).1 d

-- ---- return: 'return' [ expression ] ';'

module _ {s A : List ℕ} {cap : ℕ} {at : Place} {t : Tally} (g : Ready s A cap at t) {l : Looked} (e : l ≡ token s at (59 ∷ [])) where
  pub return_halts : {comps left : ℕ} {k : Refusal} {q : Place} (from : Place) → l ≡ failed k q
      → Reads s cap comps left at t (return_p s from at) (Refused k q t) A A
  unfolding return_p
  return_halts from f = refuses (by_halted e f)

  -- `return;`, and its implied `nil`
  module _ {h n : Place} (f : l ≡ found h n) where
    pub return_empty : Ready s A cap n t
    return_empty = ready_at g (sign_found at 59 e g.stands f).stands

    module _ (from : Place) {w : Row} {r : Got} {B : List ℕ} (i : w ≡ row_of kinds.Nil from 0 0 0) (m : MakesRow cap t n w r A B) where
      pub return_full : {comps left : ℕ} {k : Refusal} {p : Place} {u : Tally} → r ≡ Refused k p u → Reads s cap comps left at t (return_p s from at) r A B
      unfolding return_p
      return_full x = reads_on {low = n} (by_found e f) (sign_found at 59 e g.stands f).further (reads_stop {low = n} x (reads_make return_empty (row_as i m)))

      module _ {p : Place} {u : Tally} (x : r ≡ Read p u) where
        pub return_made : Ready s B cap p u
        return_made = ready_made return_empty x m

        pub return_nil : {comps left : ℕ} {v : Row} {o : Got} {Z : List ℕ} → v ≡ row_of kinds.Return from u.records 0 0 → MakesRow cap u p v o B Z
            → Reads s cap comps left at t (return_p s from at) o A Z
        unfolding return_p
        return_nil j k =
            reads_on {low = n} (by_found e f) (sign_found at 59 e g.stands f).further
            (reads_then x (reads_make return_empty (row_as i m)) (reads_make return_made (row_as j k)))

  -- what is returned
  module _ {h : Place} (f : l ≡ missing h) where
    pub return_ready : Ready s A cap h t
    return_ready = ready_at g (sign_missing at 59 e g.stands f).stands

    module _ (from : Place) {comps left : ℕ} {r : Got} {B : List ℕ} (d : Reads s cap comps left h t (call expression h) r A B) where
      pub return_stops : {k : Refusal} {p : Place} {u : Tally} → r ≡ Refused k p u → Reads s cap comps left at t (return_p s from at) r A B
      unfolding return_p
      return_stops x = reads_on {low = h} (by_missing e f) (sign_missing at 59 e g.stands f).further (reads_stop {low = h} x d)

      module _ {p : Place} {u : Tally} (x : r ≡ Read p u) {c : Must} (i : c ≡ expected s p (59 ∷ [])) where
        pub return_fails : {k : Refusal} {q : Place} → c ≡ failed k q → Reads s cap comps left at t (return_p s from at) (Refused k q u) A B
        unfolding return_p
        return_fails j = reads_on {low = h} (by_missing e f) (sign_missing at 59 e g.stands f).further (reads_then x d (reads_failed p 59 i j))

        pub return_read : {k n : Place} {w : Row} {o : Got} {Z : List ℕ} → c ≡ taken k n → w ≡ row_of kinds.Return from u.records 0 0
            → MakesRow cap u n w o B Z
            → Reads s cap comps left at t (return_p s from at) o A Z
        unfolding return_p
        return_read j y m =
            let b = ready_then return_ready x d in
            reads_on {low = h} (by_missing e f) (sign_missing at 59 e g.stands f).further
            (reads_then x d (reads_from (omega arith) (reads_taken p 59 i b.stands j (reads_make (ready_need p 59 i b j) (row_as y m)))))

-- ---- condition: '(' expression ')'

module _ {s A : List ℕ} {cap : ℕ} {at : Place} {t : Tally} (g : Ready s A cap at t) {l : Must} (e : l ≡ expected s at (40 ∷ [])) where
  pub condition_fails : {comps left : ℕ} {k : Refusal} {q : Place} → l ≡ failed k q → Reads s cap comps left at t (condition_p s at) (Refused k q t) A A
  unfolding condition_p
  condition_fails f = reads_failed at 40 e f

  pub condition_read : {comps left : ℕ} {h n : Place} {r : Got} {B : List ℕ} → l ≡ taken h n → Reads s cap comps left n t (paren_p s n) r A B
      → Reads s cap comps left at t (condition_p s at) r A B
  unfolding condition_p
  condition_read f d = reads_from (omega arith) (reads_taken at 40 e g.stands f d)

-- ---- control-body: statement, which is no declaration

module _ {s A B : List ℕ} {cap comps left : ℕ} {at : Place} {t : Tally} {r : Got} (d : Reads s cap comps left (on_by 1 at) t (call statement at) r A B) where
  pub body_stops : {k : Refusal} {p : Place} {u : Tally} → r ≡ Refused k p u → Reads s cap comps left at t (control_body_p s at) r A B
  unfolding control_body_p
  body_stops x = reads_stop {low = on_by 1 at} x d

  module _ {p : Place} {u : Tally} (x : r ≡ Read p u) {kind : ℕ} (i : kind ≡ kind_at B u.records) where
    pub body_declares : {q : Place} → kind ≡ 29 → q ≡ place_at B u.records
        → Reads s cap comps left at t (control_body_p s at) (Refused DeclarationAsBody q u) A B
    unfolding control_body_p
    body_declares k j =
        subst⁻¹ (λ (z : Place). Reads s cap comps left at t (control_body_p s at) (Refused DeclarationAsBody z u) A B) j
        (reads_from {low = on_by 1 at} (omega arith)
        (reads_then x d (refuses (yes_way (eq-eqb (kind_at B u.records) 29 (sym i ∙ k)) by_stop))))

    pub body_read : (kind ≡ 29 → ⊥) → Reads s cap comps left at t (control_body_p s at) (Read p u) A B
    unfolding control_body_p
    body_read k =
        let z = read_ends x d in
        reads_from {low = on_by 1 at} (omega arith)
        (reads_then x d
        (reads_on {low = p} (no_way (ne_eqb (kind_at B u.records) 29 (λ y. k (i ∙ y)))) (omega arith)
        (record { does = by_done; ends = record { reached = reached_here z.reached.stands; made = z.made; ids = z.ids } })))

-- ---- if: 'if' condition control-body [ 'else' control-body ]

module _ {s A B : List ℕ} {cap comps left : ℕ} {at : Place} {t : Tally} (from : Place) {r : Got} (d : Reads s cap comps left at t (condition_p s at) r A B) where
  pub if_stops : {k : Refusal} {p : Place} {u : Tally} → r ≡ Refused k p u → Reads s cap comps left at t (if_p s from at) r A B
  unfolding if_p
  if_stops x = reads_stop {low = at} x d

  module _ {p : Place} {u : Tally} (x : r ≡ Read p u) {o : Got} {C : List ℕ} (b : Reads s cap comps left p u (control_body_p s p) o B C) where
    pub if_body_stops : {k : Refusal} {q : Place} {v : Tally} → o ≡ Refused k q v → Reads s cap comps left at t (if_p s from at) o A C
    unfolding if_p
    if_body_stops y = reads_then x d (reads_stop {low = p} y b)

    -- the rule of what follows uses the numbers alone
    pub if_read : {q : Place} {v : Tally} {w : Got} {Z : List ℕ} → o ≡ Read q v
        → Reads s cap comps left q v (else_p s from (plain u.records q) (plain v.records q) q) w C Z
        → Reads s cap comps left at t (if_p s from at) w A Z
    unfolding if_p else_p
    if_read y c = reads_then x d (reads_then y b c)

-- ---- [ 'else' control-body ]

module _ {s A : List ℕ} {cap : ℕ} {at : Place} {t : Tally} (g : Ready s A cap at t) {l : Looked} (e : l ≡ keyword s at (ascii "else")) (from : Place) (test first : ℕ) where
  pub else_halts : {comps left : ℕ} {k : Refusal} {q : Place} → l ≡ failed k q
      → Reads s cap comps left at t (else_p s from (plain test at) (plain first at) at) (Refused k q t) A A
  unfolding else_p
  else_halts f = refuses (by_halted e f)

  pub else_none : {comps left : ℕ} {h : Place} {w : Row} {r : Got} {B : List ℕ} → l ≡ missing h → w ≡ row_of kinds.If from test first 0
      → MakesRow cap t h w r A B
      → Reads s cap comps left at t (else_p s from (plain test at) (plain first at) at) r A B
  unfolding else_p
  else_none {h = h} f i m =
      let a = word_missing (ascii "else") g.stands e f in
      reads_on {low = h} (by_missing e f) a.further (reads_make (ready_at g a.stands) (row_as i m))

module _ {s A : List ℕ} {cap : ℕ} {at : Place} {t : Tally} (g : Ready s A cap at t) {l : Looked} (e : l ≡ keyword s at (ascii "else")) {h n : Place} (f : l ≡ found h n) where
  pub else_ready : Ready s A cap n t
  else_ready = ready_at g (word_found (ascii "else") g.stands e f).stands

  module _ (from : Place) (test first : ℕ) {comps left : ℕ} {r : Got} {B : List ℕ} (b : Reads s cap comps left n t (control_body_p s n) r A B) where
    pub else_stops : {k : Refusal} {p : Place} {u : Tally} → r ≡ Refused k p u
        → Reads s cap comps left at t (else_p s from (plain test at) (plain first at) at) r A B
    unfolding else_p
    else_stops x = reads_on {low = n} (by_found e f) (word_found (ascii "else") g.stands e f).further (reads_stop {low = n} x b)

    pub else_read : {p : Place} {u : Tally} {w : Row} {o : Got} {Z : List ℕ} → r ≡ Read p u → w ≡ row_of kinds.If from test first u.records
        → MakesRow cap u p w o B Z
        → Reads s cap comps left at t (else_p s from (plain test at) (plain first at) at) o A Z
    unfolding else_p
    else_read x i m =
        reads_on {low = n} (by_found e f) (word_found (ascii "else") g.stands e f).further
        (reads_then x b (reads_make (ready_then else_ready x b) (row_as i m)))

-- ---- loop: 'loop' control-body

module _ {s A B : List ℕ} {cap comps left : ℕ} {at : Place} {t : Tally} (from : Place) {r : Got} (b : Reads s cap comps left at t (control_body_p s at) r A B) where
  pub loop_stops : {k : Refusal} {p : Place} {u : Tally} → r ≡ Refused k p u → Reads s cap comps left at t (loop_p s from at) r A B
  unfolding loop_p
  loop_stops x = reads_stop {low = at} x b

  pub loop_read : {p : Place} {u : Tally} {o : Got} {Z : List ℕ} → Ready s A cap at t → r ≡ Read p u
      → Acts cap p u (for_end_p from (plain 0 p) (plain 0 p) (plain 0 p) (last_of B u) p) o B Z
      → Reads s cap comps left at t (loop_p s from at) o A Z
  unfolding loop_p
  loop_read g x m = reads_then x b (acts_reads m (ready_then g x b))

-- ---- while: 'while' condition control-body

module _ {s A B : List ℕ} {cap comps left : ℕ} {at : Place} {t : Tally} (from : Place) {r : Got} (d : Reads s cap comps left at t (condition_p s at) r A B) where
  pub while_stops : {k : Refusal} {p : Place} {u : Tally} → r ≡ Refused k p u → Reads s cap comps left at t (while_p s from at) r A B
  unfolding while_p
  while_stops x = reads_stop {low = at} x d

  module _ {p : Place} {u : Tally} (x : r ≡ Read p u) {o : Got} {C : List ℕ} (b : Reads s cap comps left p u (control_body_p s p) o B C) where
    pub while_body_stops : {k : Refusal} {q : Place} {v : Tally} → o ≡ Refused k q v → Reads s cap comps left at t (while_p s from at) o A C
    unfolding while_p
    while_body_stops y = reads_then x d (reads_stop {low = p} y b)

    -- the rule of the loop uses the test's number alone
    pub while_read : {q : Place} {v : Tally} {w : Got} {Z : List ℕ} → Ready s A cap at t → o ≡ Read q v
        → Acts cap q v (for_end_p from (plain 0 q) (plain u.records q) (plain 0 q) (last_of C v) q) w C Z
        → Reads s cap comps left at t (while_p s from at) w A Z
    unfolding while_p for_end_p
    while_read g y m = reads_then x d (reads_then y b (acts_reads m (ready_then (ready_then g x d) y b)))

-- ---- assert: 'assert' condition ';'

module _ {s A B : List ℕ} {cap comps left : ℕ} {at : Place} {t : Tally} (from : Place) {r : Got} (d : Reads s cap comps left at t (condition_p s at) r A B) where
  pub assert_stops : {k : Refusal} {p : Place} {u : Tally} → r ≡ Refused k p u → Reads s cap comps left at t (assert_p s from at) r A B
  unfolding assert_p
  assert_stops x = reads_stop {low = at} x d

  module _ {p : Place} {u : Tally} (x : r ≡ Read p u) {c : Must} (i : c ≡ expected s p (59 ∷ [])) where
    pub assert_fails : {k : Refusal} {q : Place} → c ≡ failed k q → Reads s cap comps left at t (assert_p s from at) (Refused k q u) A B
    unfolding assert_p
    assert_fails j = reads_then x d (reads_failed p 59 i j)

    pub assert_read : {k n : Place} {w : Row} {o : Got} {Z : List ℕ} → Ready s A cap at t → c ≡ taken k n → w ≡ row_of kinds.Assert from u.records 0 0
        → MakesRow cap u n w o B Z
        → Reads s cap comps left at t (assert_p s from at) o A Z
    unfolding assert_p
    assert_read g j y m =
        let b = ready_then g x d in
        reads_then x d (reads_from (omega arith) (reads_taken p 59 i b.stands j (reads_make (ready_need p 59 i b j) (row_as y m))))

-- ---- let: 'let' [ 'var' ] name '=' expression ';'

module _ {s A : List ℕ} {cap : ℕ} {at : Place} {t : Tally} (g : Ready s A cap at t) {l : Result LetHead struct.Refused} (e : l ≡ let_of s at) where
  pub let_wrong : {comps left : ℕ} {k : Refusal} {q : Place} (from : Place) → l ≡ failed k q
      → Reads s cap comps left at t (let_p s from at) (Refused k q t) A A
  unfolding let_p
  let_wrong from f = refuses (along (let_as s from) (sym f ∙ e) by_stop)

  module _ {mark span : ℕ} {n : Place} (f : l ≡ lets_name mark span n) where
    let_leads : Advanced s at n
    let_leads = (subst (LetOn s at) (sym e ∙ f) (let_on s at g.stands)).0

    pub let_ready : Ready s A cap n t
    let_ready = ready_at g let_leads.stands

    module _ (from : Place) {comps left : ℕ} {r : Got} {B : List ℕ} (d : Reads s cap comps left n t (call expression n) r A B) where
      let_by : {o : Got} {Z : List ℕ} → Reads s cap comps left n t (let_as s from (lets_name mark span n)) o A Z
          → Reads s cap comps left at t (let_p s from at) o A Z
      unfolding let_p
      let_by h = reads_on {low = n} (along (let_as s from) (sym f ∙ e)) (let z = let_leads.further in omega arith) h

      pub let_stops : {k : Refusal} {p : Place} {u : Tally} → r ≡ Refused k p u → Reads s cap comps left at t (let_p s from at) r A B
      let_stops x = let_by (reads_stop {low = n} x d)

      module _ {p : Place} {u : Tally} (x : r ≡ Read p u) {c : Must} (i : c ≡ expected s p (59 ∷ [])) where
        pub let_fails : {k : Refusal} {q : Place} → c ≡ failed k q → Reads s cap comps left at t (let_p s from at) (Refused k q u) A B
        let_fails j = let_by (reads_then x d (reads_failed p 59 i j))

        pub let_read : {k m : Place} {w : Row} {o : Got} {Z : List ℕ} → c ≡ taken k m → w ≡ row_of kinds.Let from mark span u.records
            → MakesRow cap u m w o B Z
            → Reads s cap comps left at t (let_p s from at) o A Z
        unfolding declare_p
        let_read j y q =
            let b = ready_then let_ready x d in
            let_by
            (reads_then x d
            (reads_from (omega arith)
            (reads_taken p 59 i b.stands j
            (reads_valued (ready_need p 59 i b j) (let_row_lem B u.records from mark span u.records (omega arith)) (row_as y q)))))

-- ---- fun: 'fun' name function

module _ {s A : List ℕ} {cap : ℕ} {at : Place} {t : Tally} (g : Ready s A cap at t) {l : Must} (e : l ≡ name_of s at) where
  pub fun_fails : {comps left : ℕ} {k : Refusal} {q : Place} (from : Place) → l ≡ failed k q
      → Reads s cap comps left at t (fun_statement_p s from at) (Refused k q t) A A
  unfolding fun_statement_p
  fun_fails from f = refuses (by_failed e f)

  module _ {h n : Place} (f : l ≡ taken h n) where
    name_leads : NameOn s at (taken h n)
    name_leads = subst (NameOn s at) (sym e ∙ f) (name_of_on s at g.stands)

    name_further : at.offset ≤ n.offset
    name_further = let a = name_leads.0.further in let b = name_leads.1.further in omega arith

    pub fun_ready : Ready s A cap n t
    fun_ready = ready_at g name_leads.1.stands

    -- "Text is at most 65,535 bytes", so that a word has room for the name
    pub fun_packs : (h.offset ≤ 65535) × (n.offset ≤ 65535)
    fun_packs =
        let a = g.short in
        let b = name_leads.1.stands.inside in
        let c = name_leads.1.further in
        (omega arith, omega arith)

    module _ (from : Place) {word : ℕ} (i : word ≡ name_word h n) {comps left : ℕ} {r : Got} {B : List ℕ} (d : Reads s cap comps left n t (call (function from word) n) r A B) where
      named : Reads s cap comps left n t (call (function from (name_word h n)) n) r A B
      named = subst (λ (x : ℕ). Reads s cap comps left n t (call (function from x) n) r A B) i d

      pub fun_stops : {k : Refusal} {p : Place} {u : Tally} → r ≡ Refused k p u → Reads s cap comps left at t (fun_statement_p s from at) r A B
      unfolding fun_statement_p
      fun_stops x = reads_on {low = n} (by_taken e f) name_further (reads_stop {low = n} x named)

      -- the closure of it
      module _ {p : Place} {u : Tally} (x : r ≡ Read p u) {w : Row} {o : Got} {C : List ℕ} (j : w ≡ row_of kinds.Closure from u.records 0 0) (m : MakesRow cap u p w o B C) where
        closed : Ready s B cap p u
        closed = ready_then fun_ready x d

        pub fun_full : {k : Refusal} {q : Place} {v : Tally} → o ≡ Refused k q v → Reads s cap comps left at t (fun_statement_p s from at) o A C
        unfolding fun_statement_p
        fun_full y = reads_on {low = n} (by_taken e f) name_further (reads_then x named (reads_stop {low = p} y (reads_make closed (row_as j m))))

        -- and the `let` of that
        module _ {q : Place} {v : Tally} (y : o ≡ Read q v) where
          pub fun_closed : Ready s C cap q v
          fun_closed = ready_made closed y m

          pub fun_read : {z : Row} {a : Got} {Z : List ℕ} → z ≡ row_of kinds.Let from 0 word v.records → MakesRow cap v q z a C Z
              → Reads s cap comps left at t (fun_statement_p s from at) a A Z
          unfolding fun_statement_p declare_p
          fun_read k b =
              reads_on {low = n} (by_taken e f) name_further
              (reads_then x named
              (reads_then y (reads_make closed (row_as j m))
              (reads_valued fun_closed (let_row_lem C v.records from 0 (name_word h n) v.records (omega arith))
              (row_as (k ∙ ap (λ (x : ℕ). row_of kinds.Let from 0 x v.records) i) b))))
