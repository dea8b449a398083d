-- WHAT A `?` HANDS ON: the answer is the refusal that was met, so what is proved of that refusal holds of the answer. Assumes nothing.
use Rattle.std.specs.Prelude.{◌≡◌, Result, IsErr, IsErrAnd, List, ℕ}
use Rattle.characters.specs.declared.place.Place.{Place}
use Rattle.characters.specs.declared.refusal.Refused as struct
use Rattle.characters.specs.Answers.{handed}
use Rattle.characters.specs.Text.{Text}
use Rattle.reading.specs.declared.tally.Tally.{Tally}
use Rattle.reading.specs.Gots.{Refused, got_of}
use Rattle.grammar.specs.Expressions.{Rule}
use Rattle.grammar.specs.Reads.{Reads}
use Rattle.makers.specs.declared.answers.Items.{Items}
use Rattle.makers.specs.declared.answers.Part.{Part}
use Rattle.makers.specs.Answers.Items as items
use Rattle.makers.specs.Answers.Part as part
use Rattle.makers.specs.Duties.{Lists, Parts}
use Rattle.makers.specs.Names.{Paired}

module _ {s : Text} {cap comps left : ℕ} {from : Place} {t u : Tally} {e : struct.Refused} {A B : List ℕ} where
  pub reads_exit : {P : Rule} (r : Result Place struct.Refused) → IsErr r × IsErrAnd r (λ x. x ≡ e)
      → Reads s cap comps left from t P (Refused e.refusal e.at u) A B → Reads s cap comps left from t P (got_of r u) A B
  reads_exit r h d = rw (handed h) d

  pub lists_exit : {P : Rule} (r : Result Items struct.Refused) → IsErr r × IsErrAnd r (λ x. x ≡ e)
      → Lists s cap comps left from t P (items.Refused e.refusal e.at u) A B → Lists s cap comps left from t P (items.items_by r u) A B
  lists_exit r h d = rw (handed h) d

  pub parts_exit : {P : Rule} (r : Result Part struct.Refused) → IsErr r × IsErrAnd r (λ x. x ≡ e)
      → Parts s cap comps left from t P (part.Refused e.refusal e.at u) A B → Parts s cap comps left from t P (part.part_by r u) A B
  parts_exit r h d = rw (handed h) d

  pub paired_exit : {last : ℕ} {at : Place} (r : Result Place struct.Refused) → IsErr r × IsErrAnd r (λ x. x ≡ e)
      → Paired s cap comps left from last at t (Refused e.refusal e.at u) A B → Paired s cap comps left from last at t (got_of r u) A B
  paired_exit r h d = rw (handed h) d
