-- `field` prints by the form that it is given. Assumes nothing.
use Rattle.listing.specs.Laws.Words.{split}
use Rattle.listing.specs.Laws.Fields.{in_form}
use Rattle.listing.specs.Listing.{field}
use Rattle.listing.specs.Laws.Sheets.{none}
use Rattle.listing.proofs.fields.field.Goals as goal

pub returns-in-Hidden : goal.returns-in-Hidden
unfolding field
returns-in-Hidden c = in_form _ _ _ c.in-Hidden.is none

pub returns-in-Plain : goal.returns-in-Plain
unfolding field
returns-in-Plain c = in_form _ _ _ c.in-Plain.is c.plain.ensures

pub returns-in-Named : goal.returns-in-Named
unfolding field
returns-in-Named c = in_form _ _ _ c.in-Named.is c.named.ensures

pub returns-in-Quoted : goal.returns-in-Quoted
unfolding field
returns-in-Quoted c = in_form _ _ _ c.in-Quoted.is c.string.ensures

pub returns-in-Array : goal.returns-in-Array
unfolding field
returns-in-Array c = in_form _ _ _ c.in-Array.is c.array.ensures

pub returns-in-Float : goal.returns-in-Float
unfolding field
returns-in-Float c = in_form _ _ _ c.in-Float.is c.float.ensures

pub returns-in-Int : goal.returns-in-Int
unfolding field
returns-in-Int c = in_form _ _ _ c.in-Int.is c.int.ensures

pub returns-in-Prefix : goal.returns-in-Prefix
unfolding field split
returns-in-Prefix c = in_form _ _ _ c.in-Prefix.is c.word.ensures

pub returns-in-Sign : goal.returns-in-Sign
unfolding field split
returns-in-Sign c = in_form _ _ _ c.in-Sign.is c.word-in-Sign.ensures
