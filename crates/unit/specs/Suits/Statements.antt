-- THE RULES OF STATEMENTS SUIT: each moves on inside the text and answers with the record of a statement. Assumes nothing.
use Rattle.std.specs.Prelude.{◌≡◌, List, [], ◌∷◌, Bool, true, false, ℕ, ◌+◌, T, eqb, length, Err, None, Ok, Option, Result, Some}
use Rattle.std.proofs.Math.Path.{refl}
use Rattle.std.proofs.Common.{sym, subst, ◌∙◌, arith, eq-eqb}
use Rattle.characters.specs.declared.place.Place.{Place}
use Rattle.characters.specs.Text.{Text, ascii, Stands}
use Rattle.characters.specs.PlaceLaws.{Reached, Advanced, reached_on, advanced_on, advanced_reached}
use Rattle.reading.specs.declared.node.Node.{Node}
use Rattle.reading.specs.Events.{Rec}
use Rattle.reading.specs.Process.{node_as}
use Rattle.reading.specs.Suits.{Claim}
use Rattle.reading.proofs.Laws.Suits.{since_same, since_with, since_trans}
use Rattle.reading.proofs.Laws.Rules.{Fits, fits_done, fits_stop, fits_make, fits_call, fits_test, fits_bind}
use Rattle.records.specs.declared.kind.Kind.{Kind}
use Rattle.records.specs.declared.kind.Kind.TheVariants as kinds
use Rattle.records.specs.Kinds.{Meaning, number_of}
use Rattle.records.specs.Kinds as table
use Rattle.records.specs.Rows.{record_of}
use Rattle.records.specs.Meanings.{is_a, Is, MayBe, none, some, Meant}
use Rattle.records.proofs.Laws.Meanings.{is_since, is_new, maybe_since}
use Rattle.grammar.specs.declared.heads.StatementHead.TheVariants as head
use Rattle.grammar.specs.declared.heads.StepHead.TheVariants as steps
use Rattle.grammar.specs.Leaves.{row_of, leaf_row}
use Rattle.grammar.specs.Heads.{head_of, step_of, assign_of, let_of}
use Rattle.grammar.specs.HeadLaws.{HeadOn, head_on, StepOn, step_on, AssignOn, assign_on, LetOn, let_on}
use Rattle.unit.specs.HeadRefusing.{HeadProper, head_proper, StepProper, step_proper, LetProper, let_proper}
use Rattle.grammar.specs.Expressions.{Rule, expression, statement, function}
use Rattle.grammar.specs.Functions.{name_word}
use Rattle.grammar.specs.Statements.{absent, return_p, jump_p, condition_p, control_body_p, else_p, if_p, for_end_p, loop_p, while_p, target_p, combine_p, store_p, increment_p, do_p, assign_as, expr_or_assign_as, expr_or_assign_p, first_part_p, test_part_p, third_part_p, for_rest_p, for_p, assert_p, declare_p, let_as, let_p, fun_statement_p, statement_as, statement_p}
use Rattle.unit.specs.Suits.Falling.{chosen, Works, MayWork, Room, called, lighter, below, still, advanced_then, fits_token, fits_expected}
use Rattle.unit.specs.Suits.Expressions.{paren_works, postfix_works}
use Rattle.unit.specs.Suits.Functions.{fits_name_of, fits_keyword, block_works}
use Rattle.characters.specs.declared.refusal.Refused.{Refused}
use Rattle.grammar.specs.declared.heads.Assignment.{Assignment}
use Rattle.grammar.specs.declared.heads.LetHead.{LetHead}
use Rattle.grammar.specs.declared.heads.StatementHead.{StatementHead}
use Rattle.grammar.specs.declared.heads.StepHead.{StepHead}

-- What may be none is one where its number is not 0.
present : {made : List Rec} {m : Meaning} {k : ℕ} → MayBe made m k → eqb k 0 ≡ false → Is made m k
present {k = k} (none e) t = let y : ◌≡◌ {A = Bool} true false = sym (eq-eqb k 0 e) ∙ t in let z : ◌≡◌ {A = ℕ} 0 1 = cc in absurd (omega arith)
present (some h) t = h

module _ (s : Text) (M : ℕ) where
  -- ---- return, break, continue

  -- A return refers to its expression, or to an implied `nil`.
  return_works : (before : List Rec) (from p : Place) → Stands s p → Room 2 s p M → Works s M before (Reached s p) table.statement (return_p s from p)
  unfolding return_p
  return_works before from p st i Q h =
      fits_token s p (ascii ";") st
      (λ a n g. fits_bind (fits_make tt (λ now w.
      fits_make (is_new w tt, tt) (λ now' w'. h now' n _ (since_trans (since_with w) (since_with w')) g (is_new w' tt)))))
      (λ a g. fits_bind (fits_call g.stands (called expression (still g i)) (λ now q e since b.
      fits_expected s q (ascii ";") b.0.stands (λ c n k.
      fits_make (b.1, tt) (λ now' w. h now' n _ (since_trans since (since_with w)) (reached_on g (advanced_reached (advanced_then b.0 k))) (is_new w tt))))))

  -- A jump is a statement that refers to none.
  jump_works : (before : List Rec) (kind : Kind) (from p : Place) → Stands s p → Meant before (record_of (row_of kind from 0 0 0))
      → T (is_a table.statement (number_of kind)) → Works s M before (Reached s p) table.statement (jump_p s kind from p)
  unfolding jump_p
  jump_works before kind from p st m k Q h =
      fits_expected s p (ascii ";") st (λ a n g. fits_make m (λ now w. h now n _ (since_with w) g (is_new w k)))

  -- ---- conditions and bodies

  -- A condition answers with what stands in its parentheses.
  condition_works : (before : List Rec) (p : Place) → Stands s p → Room 2 s p M → Works s M before (Advanced s p) table.expression (condition_p s p)
  unfolding condition_p
  condition_works before p st i Q h =
      fits_expected s p (ascii "(") st
      (λ a n g. paren_works s M before n g.stands (still g i) Q (λ now q e since x number. h now q e since (advanced_on g x) number))

  -- A body is a statement, or is refused by 28.
  control_body_works : (before : List Rec) (p : Place) → Stands s p → Room 2 s p M
      → Works s M before (Advanced s p) table.statement (control_body_p s p)
  unfolding control_body_p
  control_body_works before p st i Q h =
      fits_bind (fits_call st (called statement i) (λ now q x since b. fits_test (λ t. fits_stop tt) (λ t. fits_done (h now q x since b.0 b.1))))

  -- ---- if

  -- An if refers to its test and to its bodies; the second may be left out.
  else_works : (before : List Rec) (from : Place) (e x : Node) (p : Place) → Stands s p → Is before table.expression e.number
      → Is before table.statement x.number → Room 2 s p M → Works s M before (Reached s p) table.statement (else_p s from e x p)
  unfolding else_p
  else_works before from e x p st l m i Q h =
      fits_keyword s p (ascii "else") st
      (λ a n g. fits_bind (control_body_works before n g.stands (still g i) _ (λ now q y since z number.
      fits_make (is_since since l, (some (is_since since m), (some number, tt)))
      (λ now' w. h now' q _ (since_trans since (since_with w)) (reached_on g (advanced_reached z)) (is_new w tt)))))
      (λ a g. fits_make (l, (some m, (none refl, tt))) (λ now w. h now a _ (since_with w) g (is_new w tt)))

  if_works : (before : List Rec) (from p : Place) → Stands s p → Room 2 s p M → Works s M before (Reached s p) table.statement (if_p s from p)
  unfolding if_p
  if_works before from p st i Q h =
      fits_bind (condition_works before p st i _ (λ now q e since y test.
      fits_bind (control_body_works now q y.stands (still (advanced_reached y) i) _ (λ now' r x since' z body.
      let v : Advanced s p r = advanced_on (advanced_reached y) z in
      else_works now' from e x r v.stands (is_since since' test) body (still (advanced_reached v) i) Q
      (λ now'' r' e' since'' u number. h now'' r' e' (since_trans since (since_trans since' since'')) (reached_on (advanced_reached v) u) number)))))

  -- ---- loops

  -- A loop refers to its parts, and to an implied `true` where the test is left out.
  for_end_works : (before : List Rec) (from : Place) (first e third x : Node) (p : Place) → MayBe before table.statement first.number
      → MayBe before table.expression e.number → MayBe before table.statement third.number → Is before table.statement x.number
      → Works s M before (λ r. r ≡ p) table.statement (for_end_p from first e third x p)
  unfolding for_end_p
  for_end_works before from first e third x p f l t b Q h =
      fits_test
      (λ z. fits_bind (fits_make tt (λ now w.
      let since = since_with w in
      fits_make (maybe_since since f, (is_new w tt, (maybe_since since t, (some (is_since since b), tt))))
      (λ now' w'. h now' p _ (since_trans since (since_with w')) refl (is_new w' tt)))))
      (λ z. fits_make (f, (present l z, (t, (some b, tt)))) (λ now w. h now p _ (since_with w) refl (is_new w tt)))

  loop_works : (before : List Rec) (from p : Place) → Stands s p → Room 2 s p M → Works s M before (Reached s p) table.statement (loop_p s from p)
  unfolding loop_p
  loop_works before from p st i Q h =
      fits_bind (control_body_works before p st i _ (λ now q x since y body.
      for_end_works now from (absent q) (absent q) (absent q) x q (none refl) (none refl) (none refl) body Q
      (λ now' r e since' z number. h now' r e (since_trans since since') (subst (Reached s p) (sym z) (advanced_reached y)) number)))

  while_works : (before : List Rec) (from p : Place) → Stands s p → Room 2 s p M → Works s M before (Reached s p) table.statement (while_p s from p)
  unfolding while_p
  while_works before from p st i Q h =
      fits_bind (condition_works before p st i _ (λ now q e since y test.
      fits_bind (control_body_works now q y.stands (still (advanced_reached y) i) _ (λ now' r x since' z body.
      let v : Reached s p r = reached_on (advanced_reached y) (advanced_reached z) in
      for_end_works now' from (absent r) e (absent r) x r (none refl) (some (is_since since' test)) (none refl) body Q
      (λ now'' r' e' since'' u number. h now'' r' e' (since_trans since (since_trans since' since'')) (subst (Reached s p) (sym u) v) number)))))

  -- ---- assignments and calls

  -- What is no target is refused by 26.
  fits_target : {before : List Rec} {Q : Claim} (e : Node) {next : Rule} → Fits (chosen s) M before Q next → Fits (chosen s) M before Q (target_p e next)
  unfolding target_p
  fits_target e h = fits_test (λ t. h) (λ t. fits_stop tt)

  -- An assignment refers to its target twice: in the binary, and itself.
  combine_works : (before : List Rec) (from : Place) (op : ℕ) (e v : Node) (p : Place) → Is before table.expression e.number
      → Is before table.expression v.number → Works s M before (λ r. r ≡ p) table.statement (combine_p from op e v p)
  unfolding combine_p
  combine_works before from op e v p l m Q h =
      fits_bind (fits_make (l, (m, tt)) (λ now w.
      fits_make (is_since (since_with w) l, (is_new w tt, tt)) (λ now' w'. h now' p _ (since_trans (since_with w) (since_with w')) refl (is_new w' tt))))

  store_works : (before : List Rec) (from : Place) (op : ℕ) (e v : Node) (p : Place) → Is before table.expression e.number
      → Is before table.expression v.number → Works s M before (λ r. r ≡ p) table.statement (store_p from op e v p)
  unfolding store_p
  store_works before from op e v p l m Q h =
      fits_test (λ t. fits_make (l, (m, tt)) (λ now w. h now p _ (since_with w) refl (is_new w tt))) (λ t. combine_works before from op e v p l m Q h)

  increment_works : (before : List Rec) (end : ℕ) (from : Place) (op : ℕ) (e : Node) (p : Place) → Stands s p
      → Is before table.expression e.number → Works s M before (Reached s p) table.statement (increment_p s end from op e p)
  unfolding increment_p
  increment_works before end from op e p st l Q h =
      fits_target e (fits_expected s p (end ∷ []) st (λ a n g. fits_bind (fits_make tt (λ now w.
      combine_works now from op e (node_as (length before + 1) (record_of (leaf_row kinds.Int e.position 1)) 1) n (is_since (since_with w) l) (is_new w tt) Q
      (λ now' r e' since z number. h now' r e' (since_trans (since_with w) since) (subst (Reached s p) (sym z) g) number)))))

  -- What is no call is refused by 27.
  do_works : (before : List Rec) (from : Place) (e : Node) (p : Place) → Is before table.expression e.number
      → Works s M before (λ r. r ≡ p) table.statement (do_p from e p)
  unfolding do_p
  do_works before from e p l Q h = fits_test (λ t. fits_make (l, tt) (λ now w. h now p _ (since_with w) refl (is_new w tt))) (λ t. fits_stop tt)

  assign_works : (before : List Rec) (end : ℕ) (from : Place) (e : Node) (p : Place) → Stands s p → Is before table.expression e.number
      → Room 2 s p M → Works s M before (Reached s p) table.statement (assign_as s end from e p (assign_of s p))
  assign_works before end from e p st l i Q h = go (assign_of s p) (assign_on s p st)
    where
      go : (x : Option Assignment) → AssignOn s p x → Fits (chosen s) M before Q (assign_as s end from e p x)
      go (Some x) g =
          let y : Reached s p x.next = advanced_reached g.0 in
          fits_target e (fits_bind (fits_call y.stands (called expression (still y i)) (λ now q v since b.
          fits_expected s q (end ∷ []) b.0.stands (λ a m k.
          store_works now from x.op e v m (is_since since l) b.1 Q
          (λ now' r e' since' z number.
          h now' r e' (since_trans since since') (subst (Reached s p) (sym z) (reached_on y (advanced_reached (advanced_then b.0 k)))) number)))))
      go None g =
          fits_expected s p (end ∷ []) st
          (λ a n k. do_works before from e n l Q (λ now r e' since z number. h now r e' since (subst (Reached s p) (sym z) k) number))

  -- The expression that such a statement begins with is called where the statement stands.
  expr_or_assign_works : (before : List Rec) (end : ℕ) (p : Place) → Stands s p → Room 1 s p M
      → Works s M before (Advanced s p) table.statement (expr_or_assign_p s end p)
  unfolding expr_or_assign_p
  expr_or_assign_works before end p st i Q h = go (step_of s p) (step_on s p st) (step_proper s p)
    where
      go : (x : Result StepHead Refused) → StepOn s p x → StepProper x → Fits (chosen s) M before Q (expr_or_assign_as s end p x)
      go (Ok (steps.Step op n)) g k =
          fits_bind (postfix_works s M before n g.0.stands (lighter (omega arith) (below g.0 i)) _ (λ now q e since x number.
          increment_works now end p op e q x.stands number Q
          (λ now' q' e' since' x' number'.
          h now' q' e' (since_trans since since') (advanced_then (advanced_on (advanced_reached g.0) x) x') number')))
      go (Ok steps.Other) g k =
          fits_bind (fits_call st i.left (λ now q e since b.
          assign_works now end p e q b.0.stands b.1 (below b.0 i) Q
          (λ now' q' e' since' x' number'. h now' q' e' (since_trans since since') (advanced_then b.0 x') number')))
      go (Err e) g k = fits_stop k

  -- ---- for

  first_part_works : (before : List Rec) (p : Place) → Stands s p → Room 2 s p M → MayWork s M before (Reached s p) table.statement (first_part_p s p)
  unfolding first_part_p
  first_part_works before p st i Q h =
      fits_token s p (ascii ";") st
      (λ a n g. fits_done (h before n _ (since_same before) g (none refl)))
      (λ a g. fits_call g.stands (called statement (still g i)) (λ now q e since b. h now q e since (reached_on g (advanced_reached b.0)) (some b.1)))

  test_part_works : (before : List Rec) (p : Place) → Stands s p → Room 2 s p M → MayWork s M before (Reached s p) table.expression (test_part_p s p)
  unfolding test_part_p
  test_part_works before p st i Q h =
      fits_token s p (ascii ";") st
      (λ a n g. fits_done (h before n _ (since_same before) g (none refl)))
      (λ a g. fits_bind (fits_call g.stands (called expression (still g i)) (λ now q e since b.
      fits_expected s q (ascii ";") b.0.stands
      (λ c n k. fits_done (h now n e since (reached_on g (advanced_reached (advanced_then b.0 k))) (some b.1))))))

  third_part_works : (before : List Rec) (p : Place) → Stands s p → Room 2 s p M → MayWork s M before (Reached s p) table.statement (third_part_p s p)
  unfolding third_part_p
  third_part_works before p st i Q h =
      fits_token s p (ascii ")") st
      (λ a n g. fits_done (h before n _ (since_same before) g (none refl)))
      (λ a g. expr_or_assign_works before 41 a g.stands (lighter (omega arith) (still g i)) Q
      (λ now q e since x number. h now q e since (reached_on g (advanced_reached x)) (some number)))

  for_rest_works : (before : List Rec) (from : Place) (first e : Node) (p : Place) → Stands s p → MayBe before table.statement first.number
      → MayBe before table.expression e.number → Room 2 s p M → Works s M before (Reached s p) table.statement (for_rest_p s from first e p)
  unfolding for_rest_p
  for_rest_works before from first e p st f l i Q h =
      fits_bind (third_part_works before p st i _ (λ now q third since y t.
      fits_bind (control_body_works now q y.stands (still y i) _ (λ now' r x since' z body.
      let both = since_trans since since' in
      for_end_works now' from first e third x r (maybe_since both f) (maybe_since both l) (maybe_since since' t) body Q
      (λ now'' r' e' since'' u number. h now'' r' e' (since_trans both since'') (subst (Reached s p) (sym u) (reached_on y (advanced_reached z))) number)))))

  for_works : (before : List Rec) (from p : Place) → Stands s p → Room 2 s p M → Works s M before (Reached s p) table.statement (for_p s from p)
  unfolding for_p
  for_works before from p st i Q h =
      fits_expected s p (ascii "(") st
      (λ a n g. fits_bind (first_part_works before n g.stands (still g i) _ (λ now q first since y f.
      let u : Reached s p q = reached_on g y in
      fits_bind (test_part_works now q u.stands (still u i) _ (λ now' r e since' z l.
      let v : Reached s p r = reached_on u z in
      for_rest_works now' from first e r v.stands (maybe_since since' f) l (still v i) Q
      (λ now'' r' e' since'' x number. h now'' r' e' (since_trans since (since_trans since' since'')) (reached_on v x) number))))))

  -- ---- assert, let, fun

  assert_works : (before : List Rec) (from p : Place) → Stands s p → Room 2 s p M → Works s M before (Reached s p) table.statement (assert_p s from p)
  unfolding assert_p
  assert_works before from p st i Q h =
      fits_bind (condition_works before p st i _ (λ now q e since y number.
      fits_expected s q (ascii ";") y.stands (λ a n g.
      fits_make (number, tt) (λ now' w. h now' n _ (since_trans since (since_with w)) (advanced_reached (advanced_then y g)) (is_new w tt)))))

  declare_works : (before : List Rec) (from : Place) (mark name : ℕ) (e : Node) (p : Place) → Is before table.expression e.number
      → Works s M before (λ r. r ≡ p) table.statement (declare_p from mark name e p)
  unfolding declare_p
  declare_works before from mark name e p l Q h = fits_make (l, tt) (λ now w. h now p _ (since_with w) refl (is_new w tt))

  let_works : (before : List Rec) (from p : Place) → Stands s p → Room 2 s p M → Works s M before (Reached s p) table.statement (let_p s from p)
  unfolding let_p
  let_works before from p st i Q h = go (let_of s p) (let_on s p st) (let_proper s p)
    where
      go : (x : Result LetHead Refused) → LetOn s p x → LetProper x → Fits (chosen s) M before Q (let_as s from x)
      go (Ok t) g k =
          let y : Reached s p t.next = advanced_reached g.0 in
          fits_bind (fits_call y.stands (called expression (still y i)) (λ now q e since b.
          fits_expected s q (ascii ";") b.0.stands (λ a m c.
          declare_works now from t.mark t.span e m b.1 Q
          (λ now' r e' since' z number.
          h now' r e' (since_trans since since') (subst (Reached s p) (sym z) (reached_on y (advanced_reached (advanced_then b.0 c)))) number))))
      go (Err e) g k = fits_stop k

  -- The closure of a named function refers to it, and its `let` to the closure.
  fun_statement_works : (before : List Rec) (from p : Place) → Stands s p → Room 2 s p M
      → Works s M before (Reached s p) table.statement (fun_statement_p s from p)
  unfolding fun_statement_p
  fun_statement_works before from p st i Q h =
      fits_name_of s p st (λ a q g.
      fits_bind (fits_call g.stands (called (function from (name_word a q)) (still (advanced_reached g) i)) (λ now r f since b.
      fits_bind (fits_make (b.1, tt) (λ now' w.
      declare_works now' from 0 _ (node_as (length now + 1) (record_of (row_of kinds.Closure from f.number 0 0)) 0) r (is_new w tt) Q
      (λ now'' r' e since' z number.
      h now'' r' e (since_trans since (since_trans (since_with w) since')) (subst (Reached s p) (sym z) (reached_on (advanced_reached g) (advanced_reached b.0))) number))))))

  -- ---- statements

  -- A statement moves on over its keyword or sign before it calls another.
  pub statement_works : (before : List Rec) (p : Place) → Stands s p → Room 1 s p M → Works s M before (Advanced s p) table.statement (statement_p s p)
  unfolding statement_p
  statement_works before p st i Q h = go (head_of s p) (head_on s p st) (head_proper s p)
    where
      -- what is read after a keyword
      after : {a n : Place} {P : Rule} → (Room 2 s n M → Works s M before (Reached s n) table.statement P) → Reached s p a × Advanced s a n
          → Fits (chosen s) M before Q P
      after {a} {n} works g =
          let y : Advanced s p n = advanced_on g.0 g.1 in
          works (below y i) Q (λ now q e since x number. h now q e since (advanced_then y x) number)

      go : (x : Result StatementHead Refused) → HeadOn s p x → HeadProper x → Fits (chosen s) M before Q (statement_as s x)
      go (Ok (head.Return a n)) g k = after (return_works before a n g.1.stands) g
      go (Ok (head.Break a n)) g k = after (λ r. jump_works before kinds.Break a n g.1.stands tt tt) g
      go (Ok (head.Continue a n)) g k = after (λ r. jump_works before kinds.Continue a n g.1.stands tt tt) g
      go (Ok (head.If a n)) g k = after (if_works before a n g.1.stands) g
      go (Ok (head.Loop a n)) g k = after (loop_works before a n g.1.stands) g
      go (Ok (head.While a n)) g k = after (while_works before a n g.1.stands) g
      go (Ok (head.For a n)) g k = after (for_works before a n g.1.stands) g
      go (Ok (head.Assert a n)) g k = after (assert_works before a n g.1.stands) g
      go (Ok (head.Let a n)) g k = after (let_works before a n g.1.stands) g
      go (Ok (head.Fun a n)) g k = after (fun_statement_works before a n g.1.stands) g
      go (Ok (head.Block a n)) g k =
          after (λ r Q' h'. block_works s M before a n g.1.stands r Q' (λ now q e since x number. h' now q e since (advanced_reached x) number)) g
      go (Ok (head.ExprOrAssign a)) g k =
          expr_or_assign_works before 59 a g.stands (still g i) Q (λ now q e since x number. h now q e since (advanced_on g x) number)
      go (Err e) g k = fits_stop k
