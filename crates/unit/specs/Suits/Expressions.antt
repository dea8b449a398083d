-- THE RULES OF EXPRESSIONS SUIT: each moves on inside the text, so every loop has turns enough; it answers with the record of an expression;
-- and its records' fields are what the table says of them. Assumes nothing.
use Rattle.std.specs.Prelude.{◌≡◌, Bool, length, Err, Ok, Result}
use Rattle.std.proofs.Math.Path.{refl}
use Rattle.std.proofs.Common.{sym, subst, arith}
use mathlib.Core.List.{List, [], ◌∷◌}
use Prim.Native.Nat.{ℕ, zero, suc, ◌+◌, ◌-◌, ◌<◌}
use Rattle.characters.specs.declared.place.Place.{Place}
use Rattle.characters.specs.declared.place.Span.{Span}
use Rattle.characters.specs.Text.{Text, ascii, Stands}
use Rattle.characters.specs.PlaceLaws.{Reached, Advanced, reached_here, reached_on, advanced_on, advanced_reached}
use Rattle.reading.specs.declared.node.Node.{Node}
use Rattle.reading.specs.Events.{Rec}
use Rattle.reading.specs.Process.{must}
use Rattle.reading.specs.Suits.{Since, Claim}
use Rattle.reading.proofs.Laws.Suits.{since_same, since_with, since_trans}
use Rattle.reading.proofs.Laws.Rules.{Fits, fits_done, fits_stop, fits_make, fits_compare, fits_call, fits_test, fits_must, fits_bind}
use Rattle.records.specs.Kinds as table
use Rattle.records.specs.Meanings.{Is, MayBe, none, some}
use Rattle.records.proofs.Laws.Meanings.{is_since, is_new, maybe_since}
use Rattle.grammar.specs.declared.leaves.Prefix.TheVariants as prefix
use Rattle.grammar.specs.declared.leaves.Atom.TheVariants as atom
use Rattle.grammar.specs.declared.leaves.Postfix.TheVariants as post
use Rattle.grammar.specs.declared.leaves.Suffix.{Suffix}
use Rattle.grammar.specs.declared.leaves.Suffix.TheVariants as suffix
use Rattle.grammar.specs.declared.leaves.Link.{Link}
use Rattle.grammar.specs.declared.leaves.Link.TheVariants as link
use Rattle.grammar.specs.Leaves.{prefix_of, atom_of, postfix_of, link_of, key_at}
use Rattle.grammar.specs.LeafLaws.{PrefixOn, prefix_on, PostfixOn, postfix_on, KeyOn, key_on}
use Rattle.grammar.specs.LinkLaws.{LinkOn, link_on}
use Rattle.grammar.specs.AtomLaws.{AtomOn, atom_on}
use Rattle.unit.specs.Refusing.{MustProper, PrefixProper, prefix_proper, AtomProper, atom_proper, PostfixProper, postfix_proper, key_proper}
use Rattle.grammar.specs.Expressions.{expression, operand, Rule, turns, element_p, list_p, new_key, value_p, pair_p, dict_p, paren_p, array_p, closure_p, atom_as, atom_p, call_p, index_p, extend_p, postfix_as, postfixes_p, postfix_p, minus_p, plus_p, sign_p, prefix_as, prefix_p, Pending, reduce_p, choice_p, link_as, chain_p, expression_p}
use Rattle.unit.specs.Suits.Falling.{chosen, Works, MayWork, Room, called, below, still, advanced_then, turned, enough, fits_close, fits_follow, fits_token, fits_expected}
use Rattle.characters.specs.declared.refusal.Refused.{Refused}
use Rattle.grammar.specs.declared.leaves.Atom.{Atom}
use Rattle.grammar.specs.declared.leaves.Postfix.{Postfix}
use Rattle.grammar.specs.declared.leaves.Prefix.{Prefix}

-- ---- keys

module _ (s : Text) {M : ℕ} {before : List Rec} {Q : Claim} where
  -- A key is gone over.
  pub fits_key : (p : Place) → Stands s p → {f : Place → Place → Rule} → ((a n : Place) → Advanced s p n → Fits (chosen s) M before Q (f a n))
      → Fits (chosen s) M before Q (must (key_at s p) f)
  fits_key p st x = fits_must (λ a n e. x a n (subst (KeyOn s p) e (key_on s p st)).1) (λ k a e. subst MustProper e (key_proper s p))

  -- A new key is refused by 30, or the rule goes on.
  pub fits_new : (q : Place) (key : Span) (keys : List Span) (next : Rule) → Fits (chosen s) M before Q next
      → Fits (chosen s) M before Q (new_key s q key keys next)
  unfolding new_key
  fits_new q key [] next h = h
  fits_new q key (k ∷ ks) next h = fits_bind (fits_compare (fits_test (λ e. fits_stop tt) (λ e. fits_new q key ks next h)))

-- ---- lists and dictionaries

module _ (s : Text) (M : ℕ) where
  -- An element moves on, and its item refers to it and to the item before.
  element_works : (before : List Rec) (last : ℕ) (p : Place) → Stands s p → MayBe before table.items last → Room 2 s p M
      → Works s M before (Advanced s p) table.items (element_p last p)
  unfolding element_p
  element_works before last p st l i Q h =
      fits_bind (fits_call st (called expression i) (λ now q e a b.
      fits_make (b.1, (maybe_since a l, tt)) (λ now' w. h now' q _ (since_trans a (since_with w)) b.0 (is_new w tt))))

  -- A list has turns enough, for each reads a comma.
  list_works : (f : ℕ) (before : List Rec) (end last count : ℕ) (p : Place) → Stands s p → length s - p.offset < f → MayBe before table.items last
      → Room 2 s p M → MayWork s M before (Advanced s p) table.items (list_p f s end last count p)
  unfolding list_p
  list_works zero before end last count p st k l i Q h = absurd (omega arith)
  list_works (suc f) before end last count p st k l i Q h =
      fits_close s p end st
      (λ a n g. fits_done (h before n _ (since_same before) g l))
      (λ a g. fits_bind (element_works before last a g.stands l (still g i) _ (λ now q e since x number.
      let r : Reached s p q = reached_on g (advanced_reached x) in
      fits_follow s q end x.stands
      (λ b n y. fits_done (h now n _ since (advanced_on r y) (some number)))
      (λ n y.
      let z : Advanced s p n = advanced_on r y in
      list_works f now end e.number (count + 1) n z.stands (turned z k) (some number) (still (advanced_reached z) i) Q
      (λ now' q' e' since' x' number'. h now' q' e' (since_trans since since') (advanced_on (advanced_reached z) x') number')))))

  -- A value is an expression past the colon, or the record of `true`.
  value_works : (before : List Rec) (from q : Place) → Stands s q → Room 2 s q M → Works s M before (Reached s q) table.expression (value_p s from q)
  unfolding value_p
  value_works before from q st i Q h =
      fits_token s q (ascii ":") st
      (λ a n g. fits_call g.stands (called expression (still g i)) (λ now r e since b. h now r e since (reached_on g (advanced_reached b.0)) b.1))
      (λ a g. fits_make tt (λ now w. h now a _ (since_with w) g (is_new w tt)))

  -- A pair moves on over its key, and its item refers to its value and to the item before.
  pair_works : (before : List Rec) (from : Place) (keys : List Span) (last : ℕ) (p : Place) → Stands s p → MayBe before table.items last
      → Room 2 s p M → Works s M before (Advanced s p) table.items (pair_p s from keys last p)
  unfolding pair_p
  pair_works before from keys last p st l i Q h =
      fits_key s p st (λ a q g. fits_new s q _ keys _ (fits_bind (value_works before from q g.stands (still (advanced_reached g) i) _ (λ now r v since x number.
      fits_make (number, (maybe_since since l, tt)) (λ now' w. h now' r _ (since_trans since (since_with w)) (advanced_then g x) (is_new w tt))))))

  -- A dictionary has turns enough, for each reads a comma.
  dict_works : (f : ℕ) (before : List Rec) (from : Place) (keys : List Span) (last : ℕ) (p : Place) → Stands s p → length s - p.offset < f
      → MayBe before table.items last → Room 2 s p M → Works s M before (Advanced s p) table.expression (dict_p f s from keys last p)
  unfolding dict_p
  dict_works zero before from keys last p st k l i Q h = absurd (omega arith)
  dict_works (suc f) before from keys last p st k l i Q h =
      fits_close s p 125 st
      (λ a n g. fits_make (l, tt) (λ now w. h now n _ (since_with w) g (is_new w tt)))
      (λ a g. fits_bind (pair_works before from keys last a g.stands l (still g i) _ (λ now q e since x number.
      let r : Reached s p q = reached_on g (advanced_reached x) in
      fits_follow s q 125 x.stands
      (λ b n y. fits_make (some number, tt) (λ now' w. h now' n _ (since_trans since (since_with w)) (advanced_on r y) (is_new w tt)))
      (λ n y.
      let z : Advanced s p n = advanced_on r y in
      dict_works f now from _ e.number n z.stands (turned z k) (some number) (still (advanced_reached z) i) Q
      (λ now' q' e' since' x' number'. h now' q' e' (since_trans since since') (advanced_on (advanced_reached z) x') number')))))

  -- ---- atoms

  -- Parentheses move on, and answer with what stands in them.
  pub paren_works : (before : List Rec) (p : Place) → Stands s p → Room 2 s p M → Works s M before (Advanced s p) table.expression (paren_p s p)
  unfolding paren_p
  paren_works before p st i Q h =
      fits_bind (fits_call st (called expression i) (λ now q e a b. fits_expected s q (ascii ")") b.0.stands (λ c n g.
      fits_done (h now n e a (advanced_then b.0 g) b.1))))

  -- An array refers to its last item.
  array_works : (before : List Rec) (from p : Place) → Stands s p → Room 2 s p M → Works s M before (Advanced s p) table.expression (array_p s from p)
  unfolding array_p
  array_works before from p st i Q h =
      fits_bind (list_works (turns s) before 93 0 0 p st (enough s p) (none refl) i _ (λ now q e since x number.
      fits_make (number, tt) (λ now' w. h now' q _ (since_trans since (since_with w)) x (is_new w tt))))

  -- An atom moves on, and goes deeper only past the sign that opens it.
  atom_works : (before : List Rec) (p : Place) → Stands s p → Room 0 s p M → Works s M before (Advanced s p) table.expression (atom_p s p)
  unfolding atom_p closure_p
  atom_works before p st i Q h = go (atom_of s p) (atom_on s p st) (atom_proper s p)
    where
      go : (x : Result Atom Refused) → AtomOn s p x → AtomProper x → Fits (chosen s) M before Q (atom_as s p x)
      go (Ok (atom.Leaf kind v n)) g k = fits_make (g.0.meant before p v) (λ now w. h now n _ (since_with w) g.1 (is_new w g.0.expression))
      go (Ok (atom.Paren n)) g k =
          paren_works before n g.stands (below g i) Q (λ now q e since x number. h now q e since (advanced_on (advanced_reached g) x) number)
      go (Ok (atom.Bracket n)) g k =
          array_works before p n g.stands (below g i) Q (λ now q e since x number. h now q e since (advanced_on (advanced_reached g) x) number)
      go (Ok (atom.Brace n)) g k =
          dict_works (turns s) before p [] 0 n g.stands (enough s n) (none refl) (below g i) Q
          (λ now q e since x number. h now q e since (advanced_on (advanced_reached g) x) number)
      go (Ok atom.Bar) g k =
          fits_bind (fits_call g i.left (λ now q f since b. fits_make (b.1, tt)
          (λ now' w. h now' q _ (since_trans since (since_with w)) b.0 (is_new w tt))))
      go (Err e) g k = fits_stop k

  -- ---- what follows a base

  -- A call refers to its base and to its last argument.
  call_works : (before : List Rec) (base : Node) (a p : Place) → Stands s p → Is before table.expression base.number → Room 2 s p M
      → Works s M before (Advanced s p) table.expression (call_p s base a p)
  unfolding call_p
  call_works before base a p st l i Q h =
      fits_bind (list_works (turns s) before 41 0 0 p st (enough s p) (none refl) i _ (λ now q e since x number.
      fits_test (λ t. fits_stop tt)
      (λ t. fits_make (is_since since l, (number, tt)) (λ now' w. h now' q _ (since_trans since (since_with w)) x (is_new w tt)))))

  -- An index refers to its base and to what stands in the brackets.
  index_works : (before : List Rec) (base : Node) (a p : Place) → Stands s p → Is before table.expression base.number → Room 2 s p M
      → Works s M before (Advanced s p) table.expression (index_p s base a p)
  unfolding index_p
  index_works before base a p st l i Q h =
      fits_bind (fits_call st (called expression i) (λ now q e since b. fits_expected s q (ascii "]") b.0.stands (λ c n g.
      fits_make (is_since since l, (b.1, tt)) (λ now' w. h now' n _ (since_trans since (since_with w)) (advanced_then b.0 g) (is_new w tt)))))

  -- A base with one suffix more moves on.
  extend_works : (before : List Rec) (base : Node) (p : Place) (x : Suffix) → PostfixOn s p (Ok (post.More x)) → Is before table.expression base.number
      → Room 0 s p M → Works s M before (Advanced s p) table.expression (extend_p s base x)
  extend_works before base p (suffix.Call a n) g l i Q h =
      call_works before base a n g.1.stands l (below g.1 i) Q
      (λ now q e since x number. h now q e since (advanced_on (advanced_reached g.1) x) number)
  extend_works before base p (suffix.Index a n) g l i Q h =
      index_works before base a n g.1.stands l (below g.1 i) Q
      (λ now q e since x number. h now q e since (advanced_on (advanced_reached g.1) x) number)
  extend_works before base p (suffix.Member a span n) g l i Q h = fits_make (l, tt) (λ now w. h now n _ (since_with w) g.1 (is_new w tt))
  extend_works before base p (suffix.InstanceOf a span n) g l i Q h = fits_make (l, tt) (λ now w. h now n _ (since_with w) g.1 (is_new w tt))

  -- The suffixes have turns enough, for each is gone over.
  postfixes_work : (f : ℕ) (before : List Rec) (base : Node) (p : Place) → Stands s p → length s - p.offset < f → Is before table.expression base.number
      → Room 0 s p M → Works s M before (Reached s p) table.expression (postfixes_p f s base p)
  unfolding postfixes_p
  postfixes_work zero before base p st k l i Q h = absurd (omega arith)
  postfixes_work (suc f) before base p st k l i Q h =
      go (postfix_of s p) (postfix_on s p st) (postfix_proper s p)
      (λ now q e since x number.
      postfixes_work f now e q x.stands (turned x k) number (still (advanced_reached x) i) Q
      (λ now' q' e' since' x' number'. h now' q' e' (since_trans since since') (reached_on (advanced_reached x) x') number'))
    where
      go : (x : Result Postfix Refused) → PostfixOn s p x → PostfixProper x
          → ((now : List Rec) (q : Place) (e : Node) → Since before now → Advanced s p q → Is now table.expression e.number → Fits (chosen s) M now Q (postfixes_p f s e q))
          → Fits (chosen s) M before Q (postfix_as s base x (postfixes_p f s))
      go (Ok (post.More x)) g c again = fits_bind (extend_works before base p x g l i _ again)
      go (Ok (post.Rest a)) g c again = fits_done (h before a base (since_same before) g l)
      go (Err e) g c again = fits_stop c

  -- An atom and its suffixes move on.
  pub postfix_works : (before : List Rec) (p : Place) → Stands s p → Room 0 s p M → Works s M before (Advanced s p) table.expression (postfix_p s p)
  unfolding postfix_p
  postfix_works before p st i Q h =
      fits_bind (atom_works before p st i _ (λ now q e since x number.
      postfixes_work (turns s) now e q x.stands (enough s q) number (still (advanced_reached x) i) Q
      (λ now' q' e' since' x' number'.
      h now' q' e' (since_trans since since') (advanced_then x x') number')))

  -- ---- prefix signs

  -- Minus makes a record that refers to none, or to its operand.
  minus_works : (before : List Rec) (e : Node) (q : Place) → Is before table.expression e.number → Works s M before (λ r. r ≡ q) table.expression (minus_p e q)
  unfolding minus_p
  minus_works before e q l Q h =
      fits_test (λ t. fits_make tt (λ now w. h now q _ (since_with w) refl (is_new w tt)))
      (λ t. fits_test (λ t. fits_make tt (λ now w. h now q _ (since_with w) refl (is_new w tt)))
      (λ t. fits_make (l, tt) (λ now w. h now q _ (since_with w) refl (is_new w tt))))

  -- Plus answers with its operand, or is refused by 24.
  plus_works : (before : List Rec) (e : Node) (q : Place) → Is before table.expression e.number → Works s M before (λ r. r ≡ q) table.expression (plus_p e q)
  unfolding plus_p
  plus_works before e q l Q h = fits_test (λ t. fits_done (h before q e (since_same before) refl l)) (λ t. fits_stop tt)

  -- A sign makes a record of its operand where that ended.
  sign_works : (before : List Rec) (sign : ℕ) (a : Place) (e : Node) (q : Place) → Is before table.expression e.number
      → Works s M before (λ r. r ≡ q) table.expression (sign_p sign a e q)
  unfolding sign_p
  sign_works before sign a e q l Q h =
      fits_test (λ t. fits_make (l, tt) (λ now w. h now q _ (since_with w) refl (is_new w tt)))
      (λ t. fits_test (λ t. minus_works before e q l Q h) (λ t. plus_works before e q l Q h))

  -- A prefix moves on, and goes deeper only past its sign.
  pub prefix_works : (before : List Rec) (p : Place) → Stands s p → Room 0 s p M → Works s M before (Advanced s p) table.expression (prefix_p s p)
  unfolding prefix_p
  prefix_works before p st i Q h = go (prefix_of s p) (prefix_on s p st) (prefix_proper s p)
    where
      go : (x : Result Prefix Refused) → PrefixOn s p x → PrefixProper x → Fits (chosen s) M before Q (prefix_as s x)
      go (Ok (prefix.Sign sign a n)) g k =
          let y : Advanced s p n = advanced_on g.0 g.1 in
          fits_bind (fits_call y.stands (called operand (below y i)) (λ now q e since b. sign_works now sign a e q b.1 Q
          (λ now' q' e' since' z number. h now' q' e' (since_trans since since') (subst (Advanced s p) (sym z) (advanced_on (advanced_reached y) b.0)) number)))
      go (Ok (prefix.Other a)) g k =
          postfix_works before a g.stands (still g i) Q (λ now q e since x number. h now q e since (advanced_on g x) number)
      go (Err e) g k = fits_stop k

-- ---- chains

-- The left sides of pending operators are expressions.
abbrev Held : List Rec → Pending → Type 0
Held made [] = Unit {0}
Held made (x ∷ xs) = Is made table.expression x.left × Held made xs

-- They stay so where more records were made.
held_since : {before now : List Rec} (xs : Pending) → Since before now → Held before xs → Held now xs
held_since [] since h = tt
held_since (x ∷ xs) since h = (is_since since h.0, held_since xs since h.1)

module _ (s : Text) (M : ℕ) where
  -- Binaries are made of records that were made, and the rule goes on.
  reduce_fits : (new : ℕ) (p : Place) (xs : Pending) (right : Node) (next : Pending → Node → Rule) (before : List Rec) (Q : Claim)
      → Held before xs → Is before table.expression right.number
      → ((now : List Rec) (ys : Pending) (e : Node) → Since before now → Held now ys → Is now table.expression e.number → Fits (chosen s) M now Q (next ys e))
      → Fits (chosen s) M before Q (reduce_p new p xs right next)
  unfolding reduce_p
  reduce_fits new p [] right next before Q hs l k = k before [] right (since_same before) tt l
  reduce_fits new p (x ∷ xs) right next before Q hs l k =
      fits_test
      (λ t. fits_bind (fits_make (hs.0, (l, tt)) (λ now w.
      reduce_fits new p xs _ next now Q (held_since xs (since_with w) hs.1) (is_new w tt)
      (λ now' ys e since hs' l'. k now' ys e (since_trans (since_with w) since) hs' l'))))
      (λ t. k before (x ∷ xs) right (since_same before) hs l)

  -- A chosen refers to its test and to both arms, each past a sign.
  choice_works : (before : List Rec) (e : Node) (p : Place) → Stands s p → Is before table.expression e.number → Room 2 s p M
      → Works s M before (Advanced s p) table.expression (choice_p s e p)
  unfolding choice_p
  choice_works before e p st l i Q h =
      fits_bind (fits_call st (called expression i) (λ now q a since b. fits_expected s q (ascii ":") b.0.stands (λ c n g.
      let r : Reached s p n = reached_on (advanced_reached b.0) g in
      fits_bind (fits_call r.stands (called expression (still r i)) (λ now' q' a' since' b'.
      fits_make (is_since (since_trans since since') l, (is_since since' b.1, (b'.1, tt)))
      (λ now'' w. h now'' q' _ (since_trans since (since_trans since' (since_with w))) (advanced_on r b'.0) (is_new w tt)))))))

  -- A chain has turns enough, for each reads an operator.
  chain_works : (f : ℕ) (before : List Rec) (allowed : Bool) (xs : Pending) (right : Node) (p : Place) → Stands s p
      → length s - p.offset < f → Held before xs → Is before table.expression right.number → Room 0 s p M
      → Works s M before (Reached s p) table.expression (chain_p f s allowed xs right p)
  unfolding chain_p
  chain_works zero before allowed xs right p st k hs l i Q h = absurd (omega arith)
  chain_works (suc f) before allowed xs right p st k hs l i Q h =
      go (link_of s p) (link_on s p st)
      (λ now ys e q since x hs' number.
      chain_works f now allowed ys e q x.stands (turned x k) hs' number (still (advanced_reached x) i) Q
      (λ now' q' e' since' x' number'. h now' q' e' (since_trans since since') (reached_on (advanced_reached x) x') number'))
    where
      -- The chain ends here.
      over : Fits (chosen s) M before Q (link_as s allowed xs right p link.End (λ ys r q. chain_p f s allowed ys r q))
      over = reduce_fits _ p xs right _ before Q hs l (λ now ys e since hs' number. fits_done (h now p e since (reached_here st) number))

      go : (x : Link) → LinkOn s p x
          → ((now : List Rec) (ys : Pending) (e : Node) (q : Place) → Since before now → Advanced s p q → Held now ys → Is now table.expression e.number → Fits (chosen s) M now Q (chain_p f s allowed ys e q))
          → Fits (chosen s) M before Q (link_as s allowed xs right p x (λ ys r q. chain_p f s allowed ys r q))
      go (link.Choice n) g again =
          reduce_fits _ n xs right _ before Q hs l (λ now ys e since hs' number.
          choice_works now e n g.stands number (below g i) Q
          (λ now' q e' since' x number'. h now' q e' (since_trans since since') (advanced_reached (advanced_on (advanced_reached g) x)) number'))
      go (link.Operator op n) g again =
          reduce_fits _ n xs right _ before Q hs l (λ now ys e since hs' number.
          fits_bind (prefix_works s M now n g.0.stands (still (advanced_reached g.0) i) _ (λ now' q r since' x number'.
          again now' _ r q (since_trans since since') (advanced_on (advanced_reached g.0) x) (is_since since' number, held_since ys since' hs') number')))
      go link.Assign g again = fits_test (λ t. over) (λ t. fits_stop tt)
      go link.End g again = over

  -- An expression moves on.
  pub expression_works : (before : List Rec) (allowed : Bool) (p : Place) → Stands s p → Room 0 s p M
      → Works s M before (Advanced s p) table.expression (expression_p s allowed p)
  unfolding expression_p
  expression_works before allowed p st i Q h =
      fits_bind (prefix_works s M before p st i _ (λ now q e since x number.
      chain_works (turns s) now allowed [] e q x.stands (enough s q) tt number (still (advanced_reached x) i) Q
      (λ now' q' e' since' x' number'.
      h now' q' e' (since_trans since since') (advanced_then x x') number')))
