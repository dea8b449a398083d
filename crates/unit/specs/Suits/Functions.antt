-- THE RULES OF PARAMETERS, BLOCKS, FUNCTIONS AND LAMBDAS SUIT: a block answers with the record of a statement, a function and a lambda with
-- that of a function. Assumes nothing.
use Rattle.std.specs.Prelude.{◌≡◌, eqb, length, Err, Ok}
use Rattle.std.proofs.Math.Path.{refl}
use Rattle.std.proofs.Common.{sym, subst, arith}
use mathlib.Core.List.{List, [], ◌∷◌}
use Prim.Native.Nat.{ℕ, zero, suc, ◌+◌, ◌-◌, ◌*◌, ◌≤◌, ◌<◌}
use Rattle.characters.specs.declared.place.Place.{Place}
use Rattle.characters.specs.declared.place.Span.{Span}
use Rattle.characters.specs.Text.{Text, ascii, on_by, Stands}
use Rattle.characters.specs.PlaceLaws.{Reached, Advanced, reached_on, advanced_on, advanced_reached}
use Rattle.characters.specs.Names.{name, free_by, free_name, part, word_of}
use Rattle.characters.specs.NameLaws.{NamedOn, name_on}
use Rattle.characters.specs.Tokens.{keyword}
use Rattle.characters.specs.TokenLaws.{TokenOn, keyword_on}
use Rattle.literals.specs.NumberLaws.{choice as either}
use Rattle.reading.specs.declared.node.Node.{Node}
use Rattle.reading.specs.Events.{Rec}
use Rattle.reading.specs.Process.{look, must}
use Rattle.reading.specs.Suits.{Claim}
use Rattle.reading.proofs.Laws.Suits.{since_same, since_with, since_trans}
use Rattle.reading.proofs.Laws.Rules.{Fits, fits_done, fits_stop, fits_make, fits_compare, fits_fresh, fits_call, fits_test, fits_look, fits_must, fits_bind}
use Rattle.records.specs.Kinds as table
use Rattle.records.specs.Rows.{record_of}
use Rattle.records.specs.Meanings.{Is, MayBe, none, some}
use Rattle.records.proofs.Laws.Meanings.{is_new, maybe_since}
use Rattle.grammar.specs.Heads.{name_of, end_of}
use Rattle.grammar.specs.HeadLaws.{NameOn, name_of_on, EndOn, end_on}
use Rattle.unit.specs.Refusing.{MustProper, LookProper, name_proper}
use Rattle.unit.specs.HeadRefusing.{free_proper, name_of_proper, keyword_proper, end_proper}
use Rattle.grammar.specs.Expressions.{Rule, expression, statement, turns}
use Rattle.grammar.specs.Functions.{name_span, name_word, new_name, param_row, param_p, params_p, parameters_p, block_item_p, statements_p, block_p, fun_p, body_block_p, function_p, implied_return_p, lambda_body_p, lambda_p}
use Rattle.unit.specs.Suits.Falling.{chosen, Works, MayWork, Room, called, still, beyond, advanced_then, turned, enough, fits_close, fits_follow, fits_token, fits_expected}
use Rattle.characters.specs.Answers.{Must}

-- ---- by what the leaves find

-- Where a name leads that is no reserved word: over it.
abbrev FreeOn : Text → Place → Must → Type 0
FreeOn s p (Ok t) = Advanced s p t.next
FreeOn s p (Err e) = Unit {0}

free_on : (s : Text) (p : Place) → Stands s p → FreeOn s p (free_name s p)
unfolding free_name
free_on s p st = go (name s p) (name_on s p st)
  where
    go : (r : Must) → NamedOn s p r → FreeOn s p (free_by s r)
    go (Ok t) g = either (FreeOn s p) (eqb (word_of (part s t.here.offset t.next.offset)) 0) (λ e. g.1) (λ e. tt)
    go (Err e) g = tt

module _ (s : Text) {M : ℕ} {before : List Rec} {Q : Claim} where
  -- A name is gone over;
  pub fits_name : (p : Place) → Stands s p → {f : Place → Place → Rule} → ((a n : Place) → Advanced s p n → Fits (chosen s) M before Q (f a n))
      → Fits (chosen s) M before Q (must (name s p) f)
  fits_name p st x = fits_must (λ a n e. x a n (subst (NamedOn s p) e (name_on s p st)).1) (λ k a e. subst MustProper e (name_proper s p))

  -- so is one where reserved words are barred,
  pub fits_free : (p : Place) → Stands s p → {f : Place → Place → Rule} → ((a n : Place) → Advanced s p n → Fits (chosen s) M before Q (f a n))
      → Fits (chosen s) M before Q (must (free_name s p) f)
  fits_free p st x = fits_must (λ a n e. x a n (subst (FreeOn s p) e (free_on s p st))) (λ k a e. subst MustProper e (free_proper s p))

  -- and one past the blanks.
  pub fits_name_of : (p : Place) → Stands s p → {f : Place → Place → Rule} → ((a n : Place) → Advanced s p n → Fits (chosen s) M before Q (f a n))
      → Fits (chosen s) M before Q (must (name_of s p) f)
  fits_name_of p st x =
      fits_must (λ a n e. let g = subst (NameOn s p) e (name_of_on s p st) in x a n (advanced_on g.0 g.1)) (λ k a e. subst MustProper e (name_of_proper s p))

  -- A keyword is gone over, or the blanks before it.
  pub fits_keyword : (p : Place) (w : Text) → Stands s p → {f : Place → Place → Rule} {g : Place → Rule}
      → ((a n : Place) → Reached s p n → Fits (chosen s) M before Q (f a n))
      → ((a : Place) → Reached s p a → Fits (chosen s) M before Q (g a)) → Fits (chosen s) M before Q (look (keyword s p w) f g)
  fits_keyword p w st x y =
      fits_look (λ a n e. let g = subst (TokenOn s p w) e (keyword_on s p w st) in x a n (reached_on g.0 g.1))
      (λ a e. y a (subst (TokenOn s p w) e (keyword_on s p w st)))
      (λ k a e. subst LookProper e (keyword_proper s p w))

  -- The end of a block is gone over, or a statement stands there.
  fits_end : (p : Place) → Stands s p → {f : Place → Place → Rule} {g : Place → Rule}
      → ((a n : Place) → Advanced s p n → Fits (chosen s) M before Q (f a n))
      → ((a : Place) → Reached s p a → Fits (chosen s) M before Q (g a)) → Fits (chosen s) M before Q (look (end_of s p) f g)
  fits_end p st x y =
      fits_look (λ a n e. let g = subst (EndOn s p) e (end_on s p st) in x a n (advanced_on g.0 g.1)) (λ a e. y a (subst (EndOn s p) e (end_on s p st)))
      (λ k a e. subst LookProper e (end_proper s p))

  -- A new name is refused by 30, or the rule goes on.
  pub fits_new_name : (q at : Place) (new : Span) (names : List Span) (next : Rule) → Fits (chosen s) M before Q next
      → Fits (chosen s) M before Q (new_name s q at new names next)
  unfolding new_name
  fits_new_name q at new [] next h = h
  fits_new_name q at new (k ∷ ks) next h = fits_bind (fits_compare (fits_test (λ e. fits_stop tt) (λ e. fits_new_name q at new ks next h)))

-- ---- parameters

module _ (s : Text) (M : ℕ) where
  -- A parameter moves on over its name, and its item refers to the item before.
  param_works : (before : List Rec) (names : List Span) (last : ℕ) (p : Place) → Stands s p → MayBe before table.items last
      → Works s M before (Advanced s p) table.items (param_p s names last p)
  unfolding param_p
  param_works before names last p st l Q h =
      fits_free s p st (λ k q g. fits_new_name s q q (name_span k q) names _ (fits_make {r = record_of (param_row (name_word k q) last)} {v = 0} (l, tt) (λ now w. h now q _ (since_with w) g (is_new w tt))))

  -- A list of parameters has turns enough, for each reads a comma.
  params_work : (f : ℕ) (before : List Rec) (end : ℕ) (names : List Span) (last count : ℕ) (p : Place) → Stands s p
      → length s - p.offset < f → MayBe before table.items last → MayWork s M before (Advanced s p) table.items (params_p f s end names last count p)
  unfolding params_p
  params_work zero before end names last count p st k l Q h = absurd (omega arith)
  params_work (suc f) before end names last count p st k l Q h =
      fits_close s p end st
      (λ a n g. fits_done (h before n _ (since_same before) g l))
      (λ a g. fits_bind (param_works before names last a g.stands l _ (λ now q e since x number.
      let r : Reached s p q = reached_on g (advanced_reached x) in
      fits_follow s q end x.stands
      (λ b n y. fits_done (h now n _ since (advanced_on r y) (some number)))
      (λ n y.
      let z : Advanced s p n = advanced_on r y in
      params_work f now end _ e.number (count + 1) n z.stands (turned z k) (some number) Q
      (λ now' q' e' since' x' number'. h now' q' e' (since_trans since since') (advanced_on (advanced_reached z) x') number')))))

  -- Parameters move on, and answer with their last item, if any.
  parameters_work : (before : List Rec) (end : ℕ) (p : Place) → Stands s p → MayWork s M before (Advanced s p) table.items (parameters_p s end p)
  unfolding parameters_p
  parameters_work before end p st Q h =
      fits_bind (params_work (turns s) before end [] 0 0 p st (enough s p) (none refl) _ (λ now q e since x number.
      fits_test (λ t. fits_stop tt) (λ t. fits_done (h now q e since x number))))

  -- ---- blocks

  -- A statement moves on, and its item refers to it and to the item before.
  block_item_works : (before : List Rec) (last : ℕ) (p : Place) → Stands s p → MayBe before table.items last → Room 2 s p M
      → Works s M before (Advanced s p) table.items (block_item_p last p)
  unfolding block_item_p
  block_item_works before last p st l i Q h =
      fits_bind (fits_call st (called statement i) (λ now q e since b.
      fits_make (some b.1, (maybe_since since l, tt)) (λ now' w. h now' q _ (since_trans since (since_with w)) b.0 (is_new w tt))))

  -- The statements of a block have turns enough, for each moves on.
  statements_work : (f : ℕ) (before : List Rec) (from : Place) (last : ℕ) (p : Place) → Stands s p → length s - p.offset < f
      → MayBe before table.items last → Room 2 s p M → Works s M before (Advanced s p) table.statement (statements_p f s from last p)
  unfolding statements_p
  statements_work zero before from last p st k l i Q h = absurd (omega arith)
  statements_work (suc f) before from last p st k l i Q h =
      fits_end s p st
      (λ a n g. fits_make (l, tt) (λ now w. h now n _ (since_with w) g (is_new w tt)))
      (λ a g. fits_bind (block_item_works before last a g.stands l (still g i) _ (λ now q e since x number.
      let z : Advanced s p q = advanced_on g x in
      statements_work f now from e.number q z.stands (turned z k) (some number) (still (advanced_reached z) i) Q
      (λ now' q' e' since' x' number'. h now' q' e' (since_trans since since') (advanced_on (advanced_reached z) x') number'))))

  -- A block moves on over its end.
  pub block_works : (before : List Rec) (from p : Place) → Stands s p → Room 2 s p M → Works s M before (Advanced s p) table.statement (block_p s from p)
  unfolding block_p
  block_works before from p st i Q h = statements_work (turns s) before from 0 p st (enough s p) (none refl) i Q h

  -- ---- functions

  -- The record of a function refers to its last parameter item, if any, and to its body.
  fun_works : (before : List Rec) (from : Place) (name : ℕ) (params body : Node) (q : Place) → MayBe before table.items params.number
      → Is before table.statement body.number → Works s M before (λ r. r ≡ q) table.function (fun_p from name params body q)
  unfolding fun_p
  fun_works before from name params body q l b Q h =
      fits_bind (fits_fresh (λ k. fits_make (l, (some b, tt)) (λ now w. h now q _ (since_with w) refl (is_new w tt))))

  -- The block of a body moves on.
  body_block_works : (before : List Rec) (p : Place) → Stands s p → Room 2 s p M → Works s M before (Advanced s p) table.statement (body_block_p s p)
  unfolding body_block_p
  body_block_works before p st i Q h =
      fits_expected s p (ascii "{") st
      (λ a n g. block_works before a n g.stands (still g i) Q (λ now q e since x number. h now q e since (advanced_on g x) number))

  -- A function moves on over its parameters before it calls a statement.
  pub function_works : (before : List Rec) (from : Place) (name : ℕ) (p : Place) → Stands s p → 3 * (length s - p.offset) ≤ M
      → Works s M before (Advanced s p) table.function (function_p s from name p)
  unfolding function_p
  function_works before from name p st i Q h =
      fits_expected s p (ascii "(") st
      (λ a n g. fits_bind (parameters_work before 41 n g.stands _ (λ now q l since x params.
      let y : Advanced s p q = advanced_on g x in
      fits_bind (body_block_works now q y.stands (beyond y i) _ (λ now' r b since' x' body.
      fun_works now' from name l b r (maybe_since since' params) body Q
      (λ now'' r' e since'' z number.
      h now'' r' e (since_trans since (since_trans since' since'')) (subst (Advanced s p) (sym z) (advanced_then y (advanced_reached x'))) number))))))

  -- ---- lambdas

  -- An implied return refers to its expression.
  implied_return_works : (before : List Rec) (from p : Place) → Stands s p → Room 2 s p M
      → Works s M before (Advanced s p) table.statement (implied_return_p from p)
  unfolding implied_return_p
  implied_return_works before from p st i Q h =
      fits_bind (fits_call st (called expression i) (λ now q e since b.
      fits_make (b.1, tt) (λ now' w. h now' q _ (since_trans since (since_with w)) b.0 (is_new w tt))))

  -- The body of a lambda is a block, or an implied return.
  lambda_body_works : (before : List Rec) (from p : Place) → Stands s p → Room 2 s p M
      → Works s M before (Advanced s p) table.statement (lambda_body_p s from p)
  unfolding lambda_body_p
  lambda_body_works before from p st i Q h =
      fits_token s p (ascii "{") st
      (λ a n g. block_works before a n g.stands (still g i) Q (λ now q e since x number. h now q e since (advanced_on g x) number))
      (λ a g. implied_return_works before from a g.stands (still g i) Q (λ now q e since x number. h now q e since (advanced_on g x) number))

  -- A lambda moves on over its first `|` before it calls anything.
  pub lambda_works : (before : List Rec) (p : Place) → Advanced s p (on_by 1 p) → 3 * (length s - p.offset) ≤ M
      → Works s M before (Advanced s p) table.function (lambda_p s p)
  unfolding lambda_p
  lambda_works before p a i Q h =
      fits_bind (parameters_work before 124 (on_by 1 p) a.stands _ (λ now q l since x params.
      let y : Advanced s p q = advanced_on (advanced_reached a) x in
      fits_bind (lambda_body_works now p q y.stands (beyond y i) _ (λ now' r b since' x' body.
      fun_works now' p 0 l b r (maybe_since since' params) body Q
      (λ now'' r' e since'' z number.
      h now'' r' e (since_trans since (since_trans since' since'')) (subst (Advanced s p) (sym z) (advanced_then y (advanced_reached x'))) number)))))
