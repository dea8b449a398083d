-- `rest` has an arm for each word. Assumes nothing.
use Rattle.std.specs.Prelude.{◌≡◌, ◌⊎◌, get_or}
use Rattle.std.proofs.Common.{ap, inl, inr}
use Rattle.characters.specs.declared.reserved.Word.{Word}
use Rattle.characters.specs.declared.reserved.Word.TheVariants as words
use Rattle.characters.specs.Words.{rests}
use Rattle.characters.specs.WordNumbers.{number_of}
use Rattle.characters.specs.TableLaws.{at_key}
use Rattle.characters.proofs.reserved.Word.rest.Goals as goal

pub returns-in-True : goal.returns-in-True
unfolding rests
returns-in-True c = at_key rests (ap number_of c.in-True.is)

pub returns-in-False : goal.returns-in-False
unfolding rests
returns-in-False c = at_key rests (ap number_of c.in-False.is)

pub returns-in-Nil : goal.returns-in-Nil
unfolding rests
returns-in-Nil c = at_key rests (ap number_of c.in-Nil.is)

pub returns-in-Let : goal.returns-in-Let
unfolding rests
returns-in-Let c = at_key rests (ap number_of c.in-Let.is)

pub returns-in-Var : goal.returns-in-Var
unfolding rests
returns-in-Var c = at_key rests (ap number_of c.in-Var.is)

pub returns-in-Fun : goal.returns-in-Fun
unfolding rests
returns-in-Fun c = at_key rests (ap number_of c.in-Fun.is)

pub returns-in-Class : goal.returns-in-Class
unfolding rests
returns-in-Class c = at_key rests (ap number_of c.in-Class.is)

pub returns-in-Extends : goal.returns-in-Extends
unfolding rests
returns-in-Extends c = at_key rests (ap number_of c.in-Extends.is)

pub returns-in-Else : goal.returns-in-Else
unfolding rests
returns-in-Else c = at_key rests (ap number_of c.in-Else.is)

pub returns-in-Loop : goal.returns-in-Loop
unfolding rests
returns-in-Loop c = at_key rests (ap number_of c.in-Loop.is)

pub returns-in-While : goal.returns-in-While
unfolding rests
returns-in-While c = at_key rests (ap number_of c.in-While.is)

pub returns-in-For : goal.returns-in-For
unfolding rests
returns-in-For c = at_key rests (ap number_of c.in-For.is)

pub returns-in-Return : goal.returns-in-Return
unfolding rests
returns-in-Return c = at_key rests (ap number_of c.in-Return.is)

pub returns-in-Break : goal.returns-in-Break
unfolding rests
returns-in-Break c = at_key rests (ap number_of c.in-Break.is)

pub returns-in-Continue : goal.returns-in-Continue
unfolding rests
returns-in-Continue c = at_key rests (ap number_of c.in-Continue.is)

pub returns-in-Assert : goal.returns-in-Assert
unfolding rests
returns-in-Assert c = at_key rests (ap number_of c.in-Assert.is)

pub returns-in-Instanceof : goal.returns-in-Instanceof
unfolding rests
returns-in-Instanceof c = at_key rests (ap number_of c.in-Instanceof.is)

pub returns-in-Import : goal.returns-in-Import
unfolding rests
returns-in-Import c = at_key rests (ap number_of c.in-Import.is)

pub returns-in-Try : goal.returns-in-Try
unfolding rests
returns-in-Try c = at_key rests (ap number_of c.in-Try.is)

pub returns-in-Catch : goal.returns-in-Catch
unfolding rests
returns-in-Catch c = at_key rests (ap number_of c.in-Catch.is)

pub returns-in-Finally : goal.returns-in-Finally
unfolding rests
returns-in-Finally c = at_key rests (ap number_of c.in-Finally.is)

pub returns-in-Throw : goal.returns-in-Throw
unfolding rests
returns-in-Throw c = at_key rests (ap number_of c.in-Throw.is)

pub returns-in-Yield : goal.returns-in-Yield
unfolding rests
returns-in-Yield c = at_key rests (ap number_of c.in-Yield.is)

pub returns-in-Match : goal.returns-in-Match
unfolding rests
returns-in-Match c = at_key rests (ap number_of c.in-Match.is)

pub returns-in-Export : goal.returns-in-Export
unfolding rests
returns-in-Export c = at_key rests (ap number_of c.in-Export.is)

-- the words of two letters
two_letters : {w : Word} → (w ≡ words.If) ⊎ (w ≡ words.Do) ⊎ (w ≡ words.In) → 0 ≡ get_or rests (number_of w) 0
unfolding rests
two_letters (inl e) = at_key rests (ap number_of e)
two_letters (inr (inl e)) = at_key rests (ap number_of e)
two_letters (inr (inr e)) = at_key rests (ap number_of e)

pub returns-in-If : goal.returns-in-If
returns-in-If c = two_letters c.in-If.is
