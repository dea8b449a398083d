-- THE RULES OF THE UNIT SUIT, and with them THE GRAMMAR SUITS: every text that can be held. Assumes nothing.
use Rattle.std.specs.Prelude.{◌≡◌, Bool, true, false, ◌&&◌, eqb, length, Err, Ok, Result}
use Rattle.std.proofs.Math.Path.{refl}
use Rattle.std.proofs.Common.{sym, subst, arith}
use mathlib.Core.List.{List, []}
use Prim.Native.Nat.{ℕ, zero, suc, ◌+◌, ◌-◌, ◌*◌, ◌≤◌, ◌<◌}
use Rattle.characters.specs.declared.place.Place.{Place}
use Rattle.characters.specs.Text.{Text, byte_at, ascii, Stands, start as first}
use Rattle.characters.specs.PlaceLaws.{Reached, Advanced, reached_on, advanced_on, advanced_reached}
use Rattle.characters.specs.Blanks.{file_start}
use Rattle.characters.specs.BlankLaws.{line_end_on}
use Rattle.literals.specs.NumberLaws.{choice as either}
use Rattle.reading.specs.declared.node.Node.{Node}
use Rattle.reading.specs.Events.{Rec}
use Rattle.reading.specs.Process.{make}
use Rattle.reading.specs.Suits.{Since, Suits}
use Rattle.reading.proofs.Laws.Suits.{since_with, since_trans}
use Rattle.reading.proofs.Laws.Rules.{Fits, fits_stop, fits_make, fits_fresh, fits_call, fits_test, fits_bind}
use Rattle.records.specs.Kinds as table
use Rattle.records.specs.Rows.{record_of}
use Rattle.records.specs.Meanings.{Is, MayBe, none, some}
use Rattle.records.proofs.Laws.Meanings.{is_new, maybe_since, meant_earlier}
use Rattle.grammar.specs.declared.heads.ItemHead.TheVariants.{End, Class, Statement}
use Rattle.grammar.specs.Heads.{item_of}
use Rattle.grammar.specs.HeadLaws.{ItemOn, item_on}
use Rattle.unit.specs.HeadRefusing.{ItemProper, item_proper}
use Rattle.grammar.specs.Expressions.{Routine, expression, before_assignment, operand, statement, function, lambda, class, turns, stated_row}
use Rattle.grammar.specs.Grammar.{grammar}
use Rattle.grammar.specs.Units.{Declared, nothing, declared_name, unit_item_p, class_item_p, unit_end_p, item_as, items_p, unit_p, start_of}
use Rattle.unit.specs.Suits.Falling.{Begins, chosen, Works, Room, called, still, turned, enough}
use Rattle.unit.specs.Suits.Expressions.{prefix_works, expression_works}
use Rattle.unit.specs.Suits.Functions.{fits_keyword, fits_new_name, function_works, lambda_works}
use Rattle.unit.specs.Suits.Statements.{statement_works}
use Rattle.unit.specs.Suits.Classes.{class_works}
use Rattle.characters.specs.declared.refusal.Refused.{Refused}
use Rattle.grammar.specs.declared.heads.ItemHead.{ItemHead}

-- ---- the unit

module _ (s : Text) (M : ℕ) where
  -- A statement's item refers to it and to the item before; a function's name that is not new is refused by 30.
  unit_item_works : (before : List Rec) (d : Declared) (x : Node) (last : ℕ) (q : Place) → Is before table.statement x.number
      → MayBe before table.items last → Works s M before (λ r. r ≡ q) table.items (unit_item_p s d x last q)
  unfolding unit_item_p
  unit_item_works before d x last q l m Q h =
      fits_test (λ t. fits_new_name s q x.position (declared_name x) d.funs _ stated)
      (λ t. fits_test (λ t. fits_make (some l, (m, tt)) (λ now w. h now q _ (since_with w) refl (is_new w tt))) (λ t. stated))
    where
      stated : Fits (chosen s) M before Q (make q (record_of (stated_row x last)) 0)
      stated = fits_make (some l, (m, tt)) (λ now w. h now q _ (since_with w) refl (is_new w tt))

  -- A class's declaration refers to it, and the item to the declaration.
  class_item_works : (before : List Rec) (from : Place) (c : Node) (last : ℕ) (q : Place) → Is before table.class c.number
      → MayBe before table.items last → Works s M before (λ r. r ≡ q) table.items (class_item_p from c last q)
  unfolding class_item_p
  class_item_works before from c last q l m Q h =
      fits_bind (fits_make (l, tt) (λ now w.
      fits_make (some (is_new w tt), (maybe_since (since_with w) m, tt))
      (λ now' w'. h now' q _ (since_trans (since_with w) (since_with w')) refl (is_new w' tt))))

  -- The unit's block refers to the last item, and its function to the block.
  unit_end_works : (before : List Rec) (from : Place) (last : ℕ) (p : Place) → MayBe before table.items last
      → Works s M before (λ r. r ≡ p) table.function (unit_end_p from last p)
  unfolding unit_end_p
  unit_end_works before from last p l Q h =
      fits_bind (fits_make (l, tt) (λ now w.
      fits_bind (fits_fresh (λ k. fits_make (none refl, (some (is_new w tt), tt))
      (λ now' w'. h now' p _ (since_trans (since_with w) (since_with w')) refl (is_new w' tt))))))

  -- The items of the unit have turns enough, for each moves on.
  items_work : (f : ℕ) (before : List Rec) (from : Place) (d : Declared) (last : ℕ) (p : Place) → Stands s p → length s - p.offset < f
      → MayBe before table.items last → Room 2 s p M → Works s M before (Reached s p) table.function (items_p f s from d last p)
  unfolding items_p
  items_work zero before from d last p st k l i Q h = absurd (omega arith)
  items_work (suc f) before from d last p st k l i Q h =
      go (item_of s p) (item_on s p st) (item_proper s p)
      (λ now e j q since x number.
      items_work f now from e j q x.stands (turned x k) (some number) (still (advanced_reached x) i) Q
      (λ now' q' e' since' x' number'. h now' q' e' (since_trans since since') (reached_on (advanced_reached x) x') number'))
    where
      go : (x : Result ItemHead Refused) → ItemOn s p x → ItemProper x
          → ((now : List Rec) (e : Declared) (j : ℕ) (q : Place) → Since before now → Advanced s p q → Is now table.items j → Fits (chosen s) M now Q (items_p f s from e j q))
          → Fits (chosen s) M before Q (item_as s from d last x (λ e j q. items_p f s from e j q))
      go (Ok (End a)) g c again =
          unit_end_works before from last a l Q (λ now q e since z number. h now q e since (subst (Reached s p) (sym z) g) number)
      go (Ok (Class a n)) g c again =
          let y : Advanced s p n = advanced_on g.0 g.1 in
          fits_bind (fits_call y.stands (called (class a d.classes) (still (advanced_reached y) i)) (λ now q e since b.
          fits_bind (class_item_works now a e last q b.1 (maybe_since since l) _ (λ now' r j since' z number.
          again now' _ j.number r (since_trans since since') (subst (Advanced s p) (sym z) (advanced_on (advanced_reached y) b.0)) number))))
      go (Ok (Statement a)) g c again =
          fits_bind (fits_call g.stands (called statement (still g i)) (λ now q e since b.
          fits_bind (unit_item_works now d e last q b.1 (maybe_since since l) _ (λ now' r j since' z number.
          again now' _ j.number r (since_trans since since') (subst (Advanced s p) (sym z) (advanced_on g b.0)) number))))
      go (Err e) g c again = fits_stop c

  -- A unit is read to its end, or is refused; by 4 where it begins with `from`.
  unit_works : (p : Place) → Stands s p → Room 2 s p M → Works s M [] (Reached s p) table.function (unit_p s p)
  unfolding unit_p
  unit_works p st i Q h =
      fits_keyword s p (ascii "from") st (λ a n g. fits_stop tt)
      (λ a g. items_work (turns s) [] a nothing 0 a g.stands (enough s a) (none refl) (still g i) Q
      (λ now q e since x number. h now q e since (reached_on g x) number))

-- ---- the grammar

-- Each routine's rule meets its claim below its own measure.
rules_fit : (s : Text) (nt : Routine) (p : Place) (before : List Rec) → Begins s nt p
    → Fits (chosen s) ((chosen s).measure nt p) before ((chosen s).claim nt p before) (grammar s nt p)
unfolding grammar
rules_fit s expression p before st = expression_works s _ before false p st (record { left = omega arith }) _ (λ now q n a b c. (b, c))
rules_fit s before_assignment p before st = expression_works s _ before true p st (record { left = omega arith }) _ (λ now q n a b c. (b, c))
rules_fit s operand p before st = prefix_works s _ before p st (record { left = omega arith }) _ (λ now q n a b c. (b, c))
rules_fit s statement p before st = statement_works s _ before p st (record { left = omega arith }) _ (λ now q n a b c. (b, c))
rules_fit s (function from name) p before st = function_works s _ before from name p st (omega arith) _ (λ now q n a b c. (b, c))
rules_fit s lambda p before st = lambda_works s _ before p st (omega arith) _ (λ now q n a b c. (b, c))
rules_fit s (class from names) p before st = class_works s _ before from names p st (omega arith) _ (λ now q n a b c. (b, c))

-- Levels enough for every text: three for each byte, and three.
abbrev pub enough_levels : Text → ℕ
enough_levels s = 3 + 3 * length s

-- The first place stands in a text that can be held, and so does the one past a line that opens with `#!`.
first_stands : (s : Text) → length s ≤ 65535 → Stands s first
first_stands s l = record { short = omega arith; inside = omega arith; lines = omega arith; columns = omega arith }

pub start_stands : (s : Text) (file : Bool) → length s ≤ 65535 → Stands s (start_of file s)
unfolding file_start
start_stands s true l =
    either (Stands s) (eqb (byte_at s 0) 35 && eqb (byte_at s 1) 33) (λ e. (line_end_on s first (first_stands s l)).stands) (λ e. first_stands s l)
start_stands s false l = first_stands s l

-- THE GRAMMAR SUITS: a unit from its start on, in string form and in file form, in a text of at most 65,535 bytes.
pub suits : (s : Text) (file : Bool) → length s ≤ 65535 → Suits (grammar s) (chosen s) (unit_p s (start_of file s)) (enough_levels s)
suits s file l =
    record {
      rules = λ nt p before a. (rules_fit s nt p before a).meets;
      whole = (unit_works s (enough_levels s) (start_of file s) (start_stands s file l) (record { left = omega arith }) _ (λ now q n a b c. tt)).meets;
      earlier = meant_earlier;
    }
