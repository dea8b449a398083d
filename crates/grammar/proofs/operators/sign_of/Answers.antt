-- `sign_of` tells by a match what the table says: each arm computes. Assumes nothing.
use mathlib.Core.Path.{refl}
use Rattle.characters.specs.Tokens.{spells}
use Rattle.grammar.specs.Operators.{first_of, any_of, is_assignment}
use Rattle.grammar.specs.LinkLaws.{sign_of}
use Rattle.grammar.proofs.Links.{two, three, pair, one, plain, none}
use Rattle.grammar.proofs.operators.sign_of.Goals as goal

pub returns-then-b-eq61 : goal.returns-then-b-eq61
unfolding sign_of first_of any_of is_assignment spells
returns-then-b-eq61 c = two _ _ c.args.c 33 c.in-33.is 61 c.if-b-eq61.true

pub returns-else-b-eq61 : goal.returns-else-b-eq61
unfolding sign_of first_of any_of is_assignment spells
returns-else-b-eq61 c = plain _ _ c.args.c 33 c.in-33.is c.if-b-eq61.false refl

pub returns-then-b-eq61-2 : goal.returns-then-b-eq61-2
unfolding sign_of first_of any_of is_assignment spells
returns-then-b-eq61-2 c = two _ _ c.args.c 37 c.in-37.is 61 c.if-b-eq61-2.true

pub returns-else-b-eq61-2 : goal.returns-else-b-eq61-2
unfolding sign_of first_of any_of is_assignment spells
returns-else-b-eq61-2 c = plain _ _ c.args.c 37 c.in-37.is c.if-b-eq61-2.false refl

pub returns-in-38-b : goal.returns-in-38-b
unfolding sign_of first_of any_of is_assignment spells
returns-in-38-b c = two _ _ c.args.c 38 c.in-38.is 38 c.in-38-b.is

pub returns-in-61-b : goal.returns-in-61-b
unfolding sign_of first_of any_of is_assignment spells
returns-in-61-b c = two _ _ c.args.c 38 c.in-38.is 61 c.in-61-b.is

pub returns-in_default-b : goal.returns-in_default-b
unfolding sign_of first_of any_of is_assignment spells
returns-in_default-b c = one _ _ c.args.c 38 c.in-38.is c.in_default-b.in_default-b-own.rest.1 c.in_default-b.in_default-b-own.rest.0.1

pub returns-then-b-eq61-3 : goal.returns-then-b-eq61-3
unfolding sign_of first_of any_of is_assignment spells
returns-then-b-eq61-3 c = two _ _ c.args.c 42 c.in-42.is 61 c.if-b-eq61-3.true

pub returns-else-b-eq61-3 : goal.returns-else-b-eq61-3
unfolding sign_of first_of any_of is_assignment spells
returns-else-b-eq61-3 c = plain _ _ c.args.c 42 c.in-42.is c.if-b-eq61-3.false refl

pub returns-then-b-eq61-4 : goal.returns-then-b-eq61-4
unfolding sign_of first_of any_of is_assignment spells
returns-then-b-eq61-4 c = two _ _ c.args.c 43 c.in-43.is 61 c.if-b-eq61-4.true

pub returns-else-b-eq61-4 : goal.returns-else-b-eq61-4
unfolding sign_of first_of any_of is_assignment spells
returns-else-b-eq61-4 c = plain _ _ c.args.c 43 c.in-43.is c.if-b-eq61-4.false refl

pub returns-then-b-eq61-5 : goal.returns-then-b-eq61-5
unfolding sign_of first_of any_of is_assignment spells
returns-then-b-eq61-5 c = two _ _ c.args.c 45 c.in-45.is 61 c.if-b-eq61-5.true

pub returns-else-b-eq61-5 : goal.returns-else-b-eq61-5
unfolding sign_of first_of any_of is_assignment spells
returns-else-b-eq61-5 c = plain _ _ c.args.c 45 c.in-45.is c.if-b-eq61-5.false refl

pub returns-then-b-eq61-6 : goal.returns-then-b-eq61-6
unfolding sign_of first_of any_of is_assignment spells
returns-then-b-eq61-6 c = two _ _ c.args.c 47 c.in-47.is 61 c.if-b-eq61-6.true

pub returns-else-b-eq61-6 : goal.returns-else-b-eq61-6
unfolding sign_of first_of any_of is_assignment spells
returns-else-b-eq61-6 c = plain _ _ c.args.c 47 c.in-47.is c.if-b-eq61-6.false refl

pub returns-then-c-eq61 : goal.returns-then-c-eq61
unfolding sign_of first_of any_of is_assignment spells
returns-then-c-eq61 c = three _ _ c.args.c 60 c.in-60.is 60 61 c.in-60-b.is c.if-c-eq61.true

pub returns-else-c-eq61 : goal.returns-else-c-eq61
unfolding sign_of first_of any_of is_assignment spells
returns-else-c-eq61 c = pair _ _ c.args.c 60 c.in-60.is 60 c.in-60-b.is c.if-c-eq61.false

pub returns-in-61-b-2 : goal.returns-in-61-b-2
unfolding sign_of first_of any_of is_assignment spells
returns-in-61-b-2 c = two _ _ c.args.c 60 c.in-60.is 61 c.in-61-b-2.is

pub returns-in_default-b-2 : goal.returns-in_default-b-2
unfolding sign_of first_of any_of is_assignment spells
returns-in_default-b-2 c = one _ _ c.args.c 60 c.in-60.is c.in_default-b-2.in_default-b-2-own.rest.1 c.in_default-b-2.in_default-b-2-own.rest.0.1

pub returns-then-b-eq61-7 : goal.returns-then-b-eq61-7
unfolding sign_of first_of any_of is_assignment spells
returns-then-b-eq61-7 c = two _ _ c.args.c 61 c.in-61.is 61 c.if-b-eq61-7.true

pub returns-else-b-eq61-7 : goal.returns-else-b-eq61-7
unfolding sign_of first_of any_of is_assignment spells
returns-else-b-eq61-7 c = one _ _ c.args.c 61 c.in-61.is c.if-b-eq61-7.false c.if-b-eq61-7.false

pub returns-in-61-b-3 : goal.returns-in-61-b-3
unfolding sign_of first_of any_of is_assignment spells
returns-in-61-b-3 c = two _ _ c.args.c 62 c.in-62.is 61 c.in-61-b-3.is

pub returns-then-c-eq61-2 : goal.returns-then-c-eq61-2
unfolding sign_of first_of any_of is_assignment spells
returns-then-c-eq61-2 c = three _ _ c.args.c 62 c.in-62.is 62 61 c.in-62-b.is c.if-c-eq61-2.true

pub returns-else-c-eq61-2 : goal.returns-else-c-eq61-2
unfolding sign_of first_of any_of is_assignment spells
returns-else-c-eq61-2 c = pair _ _ c.args.c 62 c.in-62.is 62 c.in-62-b.is c.if-c-eq61-2.false

pub returns-in_default-b-3 : goal.returns-in_default-b-3
unfolding sign_of first_of any_of is_assignment spells
returns-in_default-b-3 c = one _ _ c.args.c 62 c.in-62.is c.in_default-b-3.in_default-b-3-own.rest.0.1 c.in_default-b-3.in_default-b-3-own.rest.1

pub returns-in-63 : goal.returns-in-63
unfolding sign_of first_of any_of is_assignment spells
returns-in-63 c = two _ c.args.b c.args.c 63 c.in-63.is _ refl

pub returns-then-b-eq61-8 : goal.returns-then-b-eq61-8
unfolding sign_of first_of any_of is_assignment spells
returns-then-b-eq61-8 c = two _ _ c.args.c 94 c.in-94.is 61 c.if-b-eq61-8.true

pub returns-else-b-eq61-8 : goal.returns-else-b-eq61-8
unfolding sign_of first_of any_of is_assignment spells
returns-else-b-eq61-8 c = plain _ _ c.args.c 94 c.in-94.is c.if-b-eq61-8.false refl

pub returns-in-61-b-4 : goal.returns-in-61-b-4
unfolding sign_of first_of any_of is_assignment spells
returns-in-61-b-4 c = two _ _ c.args.c 124 c.in-124.is 61 c.in-61-b-4.is

pub returns-in-124-b : goal.returns-in-124-b
unfolding sign_of first_of any_of is_assignment spells
returns-in-124-b c = two _ _ c.args.c 124 c.in-124.is 124 c.in-124-b.is

pub returns-in_default-b-4 : goal.returns-in_default-b-4
unfolding sign_of first_of any_of is_assignment spells
returns-in_default-b-4 c = one _ _ c.args.c 124 c.in-124.is c.in_default-b-4.in_default-b-4-own.rest.0.1 c.in_default-b-4.in_default-b-4-own.rest.1

pub returns-in_default : goal.returns-in_default
unfolding sign_of first_of any_of is_assignment spells
returns-in_default c = none _ c.args.b c.args.c c.in_default.in_default-own.rest
