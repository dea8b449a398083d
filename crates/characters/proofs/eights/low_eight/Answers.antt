-- `low_eight` looks at the top bits of eight bytes. Assumes nothing.
use Rattle.std.proofs.Common.{refl, arith, eqb-true}
use Rattle.characters.specs.EightLaws.{low_eight}
use Rattle.characters.proofs.eights.low_eight.Goals as goal

pub returns : goal.returns
returns c = λ t. low_eight c.args.text.now c.args.i (λ j. let z = c.type_inv.text j in omega arith) c.eight-w.ensures refl (eqb-true _ 0 t)
