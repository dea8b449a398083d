-- THE RULES OF CLASSES SUIT: a class moves on inside the text and answers with the record of a class. Assumes nothing.
use Rattle.std.specs.Prelude.{◌≡◌, Bool, length, Err, Ok, Result}
use Rattle.std.proofs.Math.Path.{refl}
use Rattle.std.proofs.Common.{sym, subst, arith}
use mathlib.Core.List.{List, []}
use Prim.Native.Nat.{ℕ, zero, suc, ◌-◌, ◌*◌, ◌≤◌, ◌<◌}
use Rattle.characters.specs.declared.place.Place.{Place}
use Rattle.characters.specs.declared.place.Span.{Span}
use Rattle.characters.specs.Text.{Text, Stands}
use Rattle.characters.specs.PlaceLaws.{Advanced, advanced_on, advanced_reached}
use Rattle.reading.specs.declared.node.Node.{Node}
use Rattle.reading.specs.Events.{Rec}
use Rattle.reading.proofs.Laws.Suits.{since_same, since_with, since_trans}
use Rattle.reading.proofs.Laws.Rules.{Fits, fits_done, fits_stop, fits_make, fits_fresh, fits_call, fits_test, fits_bind}
use Rattle.records.specs.Kinds as table
use Rattle.records.specs.Meanings.{Is, MayBe, none, some}
use Rattle.records.proofs.Laws.Meanings.{is_new, maybe_since}
use Rattle.grammar.specs.Heads.{class_of}
use Rattle.grammar.specs.HeadLaws.{ClassOn, class_on}
use Rattle.unit.specs.HeadRefusing.{ClassProper, class_proper}
use Rattle.grammar.specs.Expressions.{function, turns}
use Rattle.grammar.specs.Functions.{name_span, name_word}
use Rattle.grammar.specs.Classes.{is_init, method_end_p, method_p, methods_p, class_end_p, class_as, class_p}
use Rattle.unit.specs.Suits.Falling.{chosen, Works, MayWork, Room, called, still, beyond, advanced_then, turned, enough, fits_close}
use Rattle.unit.specs.Suits.Functions.{fits_name, fits_name_of, fits_new_name}
use Rattle.characters.specs.declared.refusal.Refused.{Refused}
use Rattle.grammar.specs.declared.heads.ClassHead.{ClassHead}

module _ (s : Text) (M : ℕ) where
  -- A method's item refers to its function and to the item before; an `init` without parameter is refused by 32.
  method_end_works : (before : List Rec) (init : Bool) (f : Node) (last : ℕ) (p : Place) → Is before table.function f.number
      → MayBe before table.items last → Works s M before (λ r. r ≡ p) table.items (method_end_p init f last p)
  unfolding method_end_p
  method_end_works before init f last p l m Q h =
      fits_test (λ t. fits_stop tt) (λ t. fits_make (l, (m, tt)) (λ now w. h now p _ (since_with w) refl (is_new w tt)))

  method_works : (before : List Rec) (names : List Span) (last : ℕ) (p : Place) → Stands s p → MayBe before table.items last → Room 2 s p M
      → Works s M before (Advanced s p) table.items (method_p s names last p)
  unfolding method_p
  method_works before names last p st l i Q h =
      fits_name s p st (λ a q g.
      fits_new_name s q q (name_span a q) names _ (fits_bind (fits_call {nt = function a (name_word a q)} g.stands (called (function a (name_word a q)) (still (advanced_reached g) i)) (λ now r f since b.
      method_end_works now (is_init s a q) f last r b.1 (maybe_since since l) Q
      (λ now' r' e since' z number. h now' r' e (since_trans since since') (subst (Advanced s p) (sym z) (advanced_then g (advanced_reached b.0))) number)))))

  -- The methods of a class have turns enough, for each reads a name.
  methods_work : (f : ℕ) (before : List Rec) (names : List Span) (last : ℕ) (p : Place) → Stands s p → length s - p.offset < f
      → MayBe before table.items last → Room 2 s p M → MayWork s M before (Advanced s p) table.items (methods_p f s names last p)
  unfolding methods_p
  methods_work zero before names last p st k l i Q h = absurd (omega arith)
  methods_work (suc f) before names last p st k l i Q h =
      fits_close s p 125 st
      (λ a n g. fits_done (h before n _ (since_same before) g l))
      (λ a g. fits_bind (method_works before names last a g.stands l (still g i) _ (λ now q e since x number.
      let z : Advanced s p q = advanced_on g x in
      methods_work f now _ e.number q z.stands (turned z k) (some number) (still (advanced_reached z) i) Q
      (λ now' q' e' since' x' number'. h now' q' e' (since_trans since since') (advanced_on (advanced_reached z) x') number'))))

  -- The record of a class refers to its last method item, if any.
  class_end_works : (before : List Rec) (from : Place) (name parent : ℕ) (methods : Node) (p : Place) → MayBe before table.items methods.number
      → Works s M before (λ r. r ≡ p) table.class (class_end_p from name parent methods p)
  unfolding class_end_p
  class_end_works before from name parent methods p l Q h =
      fits_bind (fits_fresh (λ k. fits_make (l, tt) (λ now w. h now p _ (since_with w) refl (is_new w tt))))

  -- A class moves on over its name before it calls a function.
  pub class_works : (before : List Rec) (from : Place) (names : List Span) (p : Place) → Stands s p → 3 * (length s - p.offset) ≤ M
      → Works s M before (Advanced s p) table.class (class_p s from names p)
  unfolding class_p
  class_works before from names p st i Q h =
      fits_name_of s p st (λ a q g. fits_new_name s q from (name_span a q) names _ (go a q g (class_of s q) (class_on s q g.stands) (class_proper s q)))
    where
      go : (a q : Place) → Advanced s p q → (x : Result ClassHead Refused) → ClassOn s q x → ClassProper x → Fits (chosen s) M before Q (class_as s from (name_word a q) x)
      go a q g (Ok t) y k =
          let z : Advanced s p t.next = advanced_on (advanced_reached g) y in
          fits_bind (methods_work (turns s) before [] 0 t.next z.stands (enough s t.next) (none refl) (beyond z i) _ (λ now r l since x items.
          class_end_works now from _ t.parent l r items Q
          (λ now' r' e since' u number.
          h now' r' e (since_trans since since') (subst (Advanced s p) (sym u) (advanced_on (advanced_reached z) x)) number)))
      go a q g (Err e) y k = fits_stop k
