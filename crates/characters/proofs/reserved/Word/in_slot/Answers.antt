-- `in_slot` has an arm for each word. Assumes nothing.
use Rattle.characters.specs.Words.{slots}
use Rattle.characters.specs.TableLaws.{at_key, no_key}
use Rattle.characters.proofs.reserved.Word.in_slot.Goals as goal

pub returns-in-2 : goal.returns-in-2
unfolding slots
returns-in-2 c = at_key slots c.in-2.is

pub returns-in-3 : goal.returns-in-3
unfolding slots
returns-in-3 c = at_key slots c.in-3.is

pub returns-in-5 : goal.returns-in-5
unfolding slots
returns-in-5 c = at_key slots c.in-5.is

pub returns-in-6 : goal.returns-in-6
unfolding slots
returns-in-6 c = at_key slots c.in-6.is

pub returns-in-17 : goal.returns-in-17
unfolding slots
returns-in-17 c = at_key slots c.in-17.is

pub returns-in-19 : goal.returns-in-19
unfolding slots
returns-in-19 c = at_key slots c.in-19.is

pub returns-in-21 : goal.returns-in-21
unfolding slots
returns-in-21 c = at_key slots c.in-21.is

pub returns-in-23 : goal.returns-in-23
unfolding slots
returns-in-23 c = at_key slots c.in-23.is

pub returns-in-24 : goal.returns-in-24
unfolding slots
returns-in-24 c = at_key slots c.in-24.is

pub returns-in-25 : goal.returns-in-25
unfolding slots
returns-in-25 c = at_key slots c.in-25.is

pub returns-in-28 : goal.returns-in-28
unfolding slots
returns-in-28 c = at_key slots c.in-28.is

pub returns-in-30 : goal.returns-in-30
unfolding slots
returns-in-30 c = at_key slots c.in-30.is

pub returns-in-31 : goal.returns-in-31
unfolding slots
returns-in-31 c = at_key slots c.in-31.is

pub returns-in-32 : goal.returns-in-32
unfolding slots
returns-in-32 c = at_key slots c.in-32.is

pub returns-in-35 : goal.returns-in-35
unfolding slots
returns-in-35 c = at_key slots c.in-35.is

pub returns-in-39 : goal.returns-in-39
unfolding slots
returns-in-39 c = at_key slots c.in-39.is

pub returns-in-41 : goal.returns-in-41
unfolding slots
returns-in-41 c = at_key slots c.in-41.is

pub returns-in-43 : goal.returns-in-43
unfolding slots
returns-in-43 c = at_key slots c.in-43.is

pub returns-in-45 : goal.returns-in-45
unfolding slots
returns-in-45 c = at_key slots c.in-45.is

pub returns-in-46 : goal.returns-in-46
unfolding slots
returns-in-46 c = at_key slots c.in-46.is

pub returns-in-49 : goal.returns-in-49
unfolding slots
returns-in-49 c = at_key slots c.in-49.is

pub returns-in-50 : goal.returns-in-50
unfolding slots
returns-in-50 c = at_key slots c.in-50.is

pub returns-in-55 : goal.returns-in-55
unfolding slots
returns-in-55 c = at_key slots c.in-55.is

pub returns-in-57 : goal.returns-in-57
unfolding slots
returns-in-57 c = at_key slots c.in-57.is

pub returns-in-60 : goal.returns-in-60
unfolding slots
returns-in-60 c = at_key slots c.in-60.is

pub returns-in-61 : goal.returns-in-61
unfolding slots
returns-in-61 c = at_key slots c.in-61.is

pub returns-in-62 : goal.returns-in-62
unfolding slots
returns-in-62 c = at_key slots c.in-62.is

pub returns-in-63 : goal.returns-in-63
unfolding slots
returns-in-63 c = at_key slots c.in-63.is

pub returns-in_default : goal.returns-in_default
unfolding slots
returns-in_default c = no_key slots c.args.slot c.in_default.in_default-own.rest
