-- `slotted` looks into the one slot that a name can be in. Assumes nothing.
use Rattle.std.proofs.Common.{refl, ap, ◌∙◌, arith}
use Rattle.characters.specs.WordNumbers.{number_of_word}
use Rattle.characters.proofs.Words.{other_head, empty_slot, other_rest, the_word}
use Rattle.characters.proofs.names.slotted.Goals as goal

pub overflow_mul-slot : goal.overflow_mul-slot
overflow_mul-slot c = let l = c.requires in let a = c.byte-a.ensures.inside (omega arith) in omega arith

pub overflow_add-slot : goal.overflow_add-slot
overflow_add-slot c = let l = c.requires in let a = c.byte-a.ensures.inside (omega arith) in let b = c.byte-b.ensures.inside (omega arith) in omega arith

pub overflow_add-slot-2 : goal.overflow_add-slot-2
overflow_add-slot-2 c = let l = c.requires in let a = c.byte-a.ensures.inside (omega arith) in let b = c.byte-b.ensures.inside (omega arith) in omega arith

pub overflow_mul-head-2 : goal.overflow_mul-head-2
overflow_mul-head-2 c = let l = c.requires in let a = c.byte-a.ensures.inside (omega arith) in omega arith

pub overflow_add-head : goal.overflow_add-head
overflow_add-head c = let l = c.requires in let a = c.byte-a.ensures.inside (omega arith) in omega arith

pub overflow_add-head-2 : goal.overflow_add-head-2
overflow_add-head-2 c = let l = c.requires in let a = c.byte-a.ensures.inside (omega arith) in let b = c.byte-b.ensures.inside (omega arith) in omega arith

pub returns-in_err-held : goal.returns-in_err-held
returns-in_err-held c = ap number_of_word c.from_residual.ensures ∙ empty_slot _ _ _ c.requires.0 c.requires.1 _ _ c.byte-a.ensures c.byte-b.ensures c.requires.2 _ c.in_err-held.ensures refl

pub returns-then-head : goal.returns-then-head
returns-then-head c = other_head _ _ _ c.requires.0 c.requires.1 _ _ c.byte-a.ensures c.byte-b.ensures c.requires.2 _ _ c.in_ok-held.ensures c.head.ensures c.if-head.true

pub returns-then-rest : goal.returns-then-rest
returns-then-rest c = other_rest _ _ _ c.requires.0 c.requires.1 _ _ c.byte-a.ensures c.byte-b.ensures c.requires.2 _ _ _ c.in_ok-held.ensures c.rest.ensures c.fold-rest.ensures c.if-rest.true

pub returns : goal.returns
returns c = the_word _ _ _ c.requires.0 c.requires.1 _ _ c.byte-a.ensures c.byte-b.ensures c.requires.2 (λ i. omega (arith, c.type_inv.text i)) _ _ _ _ c.in_ok-held.ensures c.head.ensures c.if-head.false c.rest.ensures c.fold-rest.ensures c.if-rest.false
