-- The laws of fields. Assumes nothing.
use Rattle.std.specs.Prelude.{◌≡◌, ℕ}
use Rattle.std.proofs.Common.{sym, ap}
use Rattle.characters.specs.Text.{Text}
use Rattle.listing.specs.declared.fields.Form.{Form}
use Rattle.listing.specs.Sheets.{Sheet, Writes}
use Rattle.listing.specs.Listing.{field}
use Rattle.listing.specs.Laws.Sheets.{said}

-- A field is printed by the form that it has.
pub in_form : (s : Text) (word next : ℕ) {f g : Form} {w l : Sheet} → f ≡ g → Writes (field s g word next) w l → Writes (field s f word next) w l
in_form s word next e p = said (ap (λ (h : Form). field s h word next) (sym e)) p
