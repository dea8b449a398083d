-- `fields` prints each field by its form. Assumes nothing.
use Rattle.std.proofs.Common.{sym}
use Rattle.listing.specs.Laws.Fields.{in_form}
use Rattle.listing.specs.Laws.Sheets.{then}
use Rattle.listing.proofs.lines.fields.Goals as goal

pub returns : goal.returns
returns c = then (then (then (in_form _ _ _ (sym c.form.ensures) c.field-first.ensures) (in_form _ _ _ (sym c.form-2.ensures) c.field-second.ensures)) (in_form _ _ _ (sym c.form-3.ensures) c.field-third.ensures)) (in_form _ _ _ (sym c.form-4.ensures) c.field.ensures)
