-- `spanned` lends the part that a word says. Assumes nothing.
use Rattle.std.proofs.Common.{ap, ◌∙◌}
use Rattle.characters.specs.declared.place.Span.{Span}
use Rattle.characters.specs.Names.{part}
use Rattle.listing.proofs.fields.spanned.Goals as goal

pub returns : goal.returns
returns c = c.part.ensures ∙ ap (λ (x : Span). part c.args.text.now x.from x.to) c.unpack-span.ensures
