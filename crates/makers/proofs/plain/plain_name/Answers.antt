-- `plain_name` reads a name and goes by its word. Assumes nothing.
use Rattle.std.proofs.Common.{refl, ap, ◌∙◌, arith}
use Rattle.characters.specs.WordNumbers.{numbered_back, number_of, number_of_word}
use Rattle.makers.specs.Laws.PlainMade.{name_ends, spans_short, name_made, word_made}
use Rattle.records.specs.declared.kind.Kind.TheVariants as kinds
use Rattle.makers.proofs.plain.plain_name.Goals as goal

pub word-requires : goal.word-requires
word-requires c = let z = name_ends c.requires.1 c.requires.3 c.name_end-to.ensures in (omega arith, z.1)

pub pack-span-requires : goal.pack-span-requires
pack-span-requires c = spans_short c.requires.0 c.requires.1 (name_ends c.requires.1 c.requires.3 c.name_end-to.ensures)

pub returns-in-None : goal.returns-in-None
returns-in-None c = name_made c.requires.1 c.requires.3 c.name_end-to.ensures (numbered_back _ c.word.ensures) c.lay.ensures refl (ap number_of_word c.in-None.is) c.requires.0 c.pack-span.ensures c.row-made_row.ensures

pub returns-in-Some-True : goal.returns-in-Some-True
returns-in-Some-True c = word_made c.requires.1 c.requires.3 c.name_end-to.ensures (numbered_back _ c.word.ensures) c.lay-in-Some-True.ensures refl 1 kinds.True (ap number_of_word c.in-Some-True.is ∙ ap number_of c.in-Some-True.field-0-is) refl c.row-made_row-in-Some-True.ensures

pub returns-in-Some-False : goal.returns-in-Some-False
returns-in-Some-False c = word_made c.requires.1 c.requires.3 c.name_end-to.ensures (numbered_back _ c.word.ensures) c.lay-in-Some-False.ensures refl 2 kinds.False (ap number_of_word c.in-Some-False.is ∙ ap number_of c.in-Some-False.field-0-is) refl c.row-made_row-in-Some-False.ensures

pub returns-in-Some-Nil : goal.returns-in-Some-Nil
returns-in-Some-Nil c = word_made c.requires.1 c.requires.3 c.name_end-to.ensures (numbered_back _ c.word.ensures) c.lay-in-Some-Nil.ensures refl 3 kinds.Nil (ap number_of_word c.in-Some-Nil.is ∙ ap number_of c.in-Some-Nil.field-0-is) refl c.row-made_row-in-Some-Nil.ensures
