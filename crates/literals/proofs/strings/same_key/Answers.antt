-- `same_key` compares what two keys spell, and no key is longer than the text. Assumes nothing.
use Rattle.std.proofs.Common.{ap, arith, length}
use Rattle.literals.specs.SpellingLaws.{key_length}
use Rattle.literals.proofs.strings.same_key.Goals as goal

pub same-requires : goal.same-requires
same-requires c = let x = (key_length c.args.text.now c.args.a.from c.args.a.to) in let y = (key_length c.args.text.now c.args.b.from c.args.b.to) in let u = ap length c.key-x.ensures in let v = ap length c.key-y.ensures in omega arith
