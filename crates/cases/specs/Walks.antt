-- A walk from case to case ends where nothing is left, or where no case begins. Assumes nothing.
use Rattle.std.specs.Prelude.{Result, Ok, Err, Some, ◌≡◌, ℕ}
use Rattle.characters.specs.Text.{Text}
use Rattle.cases.specs.declared.Case.{Case}
use Rattle.cases.specs.declared.BadCase.{BadCase}
use Rattle.cases.specs.Cases.{ended, case_at}

-- how the walk from an offset on ends
pub data Walked : Text → ℕ → Result Unit BadCase → Type 0 where
  ends : {s : Text} {o : ℕ} → case_at s o ≡ ended → Walked s o (Ok tt)
  stops : {s : Text} {o : ℕ} {e : BadCase} → case_at s o ≡ Err e → Walked s o (Err e)
  goes_on : {s : Text} {o : ℕ} {c : Case} {r : Result Unit BadCase} → case_at s o ≡ Ok (Some c) → Walked s c.next r → Walked s o r
