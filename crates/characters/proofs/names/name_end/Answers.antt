-- `name_end` goes along the bytes of a name. Assumes nothing.
use Rattle.std.proofs.Common.{◌≡◌, length, refl, sym, ◌∙◌, get_or, arith}
use borrow.Author.Tests.{not-false}
use Rattle.characters.specs.Names.{is_name_byte}
use Rattle.characters.specs.NameLaws.{small_is_name}
use Rattle.characters.specs.CountLaws.{run_starts, run_on, run_ends, run_out}
use Rattle.characters.proofs.names.name_end.Goals as goal
use Rattle.characters.proofs.names.name_end.Goals.{else-not-is_small-via-then-not-is_small+else-not-is_name_byte, else-not-is_small-via-else-not-is_small}

pub loop-i-init : goal.loop-i-init
loop-i-init c = run_starts is_name_byte _ c.requires.0

pub overflow_cast-b : goal.overflow_cast-b
overflow_cast-b c = omega (arith, c.type_inv.text c.loop-i.i)

pub returns-then-not-is_name_byte : goal.returns-then-not-is_name_byte
returns-then-not-is_name_byte c = run_ends is_name_byte c.args.text.now _ c.loop-i.invariant c.is_name_byte.ensures c.if-not-is_name_byte.true-raw refl c.loop-i-test.true

pub loop-i-preserved : goal.loop-i-preserved
loop-i-preserved c =
    elim c.else-not-is_small.branch [
      | else-not-is_small-via-then-not-is_small+else-not-is_name_byte w ↦ run_on is_name_byte c.args.text.now _ c.loop-i.invariant w.is_name_byte.ensures w.if-not-is_name_byte.false-raw refl c.loop-i-test.true
      | else-not-is_small-via-else-not-is_small w ↦ run_on is_name_byte c.args.text.now _ c.loop-i.invariant (sym (small_is_name (get_or c.args.text.now c.loop-i.i 0) (sym c.is_small.ensures ∙ not-false _ w.if-not-is_small.false-raw))) refl refl c.loop-i-test.true
    ]

pub returns : goal.returns
returns c = (let e : length c.args.text.now ≡ c.loop-i.i = omega arith in e) ∙ run_out is_name_byte c.args.text.now _ c.loop-i.invariant refl c.loop-i-test.false
