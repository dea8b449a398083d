-- A case that `next` hands out lies in the list. Assumes nothing.
use Rattle.std.specs.Prelude.{Option, Some, Ok, ◌≡◌, ℕ}
use Rattle.std.proofs.Common.{sym, ap, ◌∙◌}
use Rattle.characters.specs.Text.{Text}
use Rattle.cases.specs.declared.Case.{Case}
use Rattle.cases.specs.Cases.{Met, case_at}
use Rattle.cases.specs.CaseLaws.{Lies, lies}

pub there : (s : Text) (o : ℕ) {m : Met} {f : Option Case} {c : Case} → m ≡ case_at s o → m ≡ Ok f → f ≡ Some c → case_at s o ≡ Ok (Some c)
there s o e f g = sym e ∙ f ∙ ap Ok g

pub within : {s : Text} {o : ℕ} {c : Case} → case_at s o ≡ Ok (Some c) → Lies s o c.from c.to c.next
within {s} {o} {c} e = lies s o {k = c.kind} {f = c.from} {t = c.to} {n = c.next} e
