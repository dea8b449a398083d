-- `head` has an arm for each word. Assumes nothing.
use Rattle.std.proofs.Common.{ap}
use Rattle.characters.specs.Words.{heads}
use Rattle.characters.specs.WordNumbers.{number_of}
use Rattle.characters.specs.TableLaws.{at_key}
use Rattle.characters.proofs.reserved.Word.head.Goals as goal

pub returns-in-True : goal.returns-in-True
unfolding heads
returns-in-True c = at_key heads (ap number_of c.in-True.is)

pub returns-in-False : goal.returns-in-False
unfolding heads
returns-in-False c = at_key heads (ap number_of c.in-False.is)

pub returns-in-Nil : goal.returns-in-Nil
unfolding heads
returns-in-Nil c = at_key heads (ap number_of c.in-Nil.is)

pub returns-in-Let : goal.returns-in-Let
unfolding heads
returns-in-Let c = at_key heads (ap number_of c.in-Let.is)

pub returns-in-Var : goal.returns-in-Var
unfolding heads
returns-in-Var c = at_key heads (ap number_of c.in-Var.is)

pub returns-in-Fun : goal.returns-in-Fun
unfolding heads
returns-in-Fun c = at_key heads (ap number_of c.in-Fun.is)

pub returns-in-Class : goal.returns-in-Class
unfolding heads
returns-in-Class c = at_key heads (ap number_of c.in-Class.is)

pub returns-in-Extends : goal.returns-in-Extends
unfolding heads
returns-in-Extends c = at_key heads (ap number_of c.in-Extends.is)

pub returns-in-If : goal.returns-in-If
unfolding heads
returns-in-If c = at_key heads (ap number_of c.in-If.is)

pub returns-in-Else : goal.returns-in-Else
unfolding heads
returns-in-Else c = at_key heads (ap number_of c.in-Else.is)

pub returns-in-Loop : goal.returns-in-Loop
unfolding heads
returns-in-Loop c = at_key heads (ap number_of c.in-Loop.is)

pub returns-in-While : goal.returns-in-While
unfolding heads
returns-in-While c = at_key heads (ap number_of c.in-While.is)

pub returns-in-For : goal.returns-in-For
unfolding heads
returns-in-For c = at_key heads (ap number_of c.in-For.is)

pub returns-in-Return : goal.returns-in-Return
unfolding heads
returns-in-Return c = at_key heads (ap number_of c.in-Return.is)

pub returns-in-Break : goal.returns-in-Break
unfolding heads
returns-in-Break c = at_key heads (ap number_of c.in-Break.is)

pub returns-in-Continue : goal.returns-in-Continue
unfolding heads
returns-in-Continue c = at_key heads (ap number_of c.in-Continue.is)

pub returns-in-Assert : goal.returns-in-Assert
unfolding heads
returns-in-Assert c = at_key heads (ap number_of c.in-Assert.is)

pub returns-in-Instanceof : goal.returns-in-Instanceof
unfolding heads
returns-in-Instanceof c = at_key heads (ap number_of c.in-Instanceof.is)

pub returns-in-Import : goal.returns-in-Import
unfolding heads
returns-in-Import c = at_key heads (ap number_of c.in-Import.is)

pub returns-in-Try : goal.returns-in-Try
unfolding heads
returns-in-Try c = at_key heads (ap number_of c.in-Try.is)

pub returns-in-Catch : goal.returns-in-Catch
unfolding heads
returns-in-Catch c = at_key heads (ap number_of c.in-Catch.is)

pub returns-in-Finally : goal.returns-in-Finally
unfolding heads
returns-in-Finally c = at_key heads (ap number_of c.in-Finally.is)

pub returns-in-Throw : goal.returns-in-Throw
unfolding heads
returns-in-Throw c = at_key heads (ap number_of c.in-Throw.is)

pub returns-in-Yield : goal.returns-in-Yield
unfolding heads
returns-in-Yield c = at_key heads (ap number_of c.in-Yield.is)

pub returns-in-Do : goal.returns-in-Do
unfolding heads
returns-in-Do c = at_key heads (ap number_of c.in-Do.is)

pub returns-in-In : goal.returns-in-In
unfolding heads
returns-in-In c = at_key heads (ap number_of c.in-In.is)

pub returns-in-Match : goal.returns-in-Match
unfolding heads
returns-in-Match c = at_key heads (ap number_of c.in-Match.is)

pub returns-in-Export : goal.returns-in-Export
unfolding heads
returns-in-Export c = at_key heads (ap number_of c.in-Export.is)
