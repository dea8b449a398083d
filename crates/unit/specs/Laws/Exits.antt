-- WHAT A `?` HANDS ON, where the goal names what was answered. Assumes nothing.
use Rattle.std.specs.Prelude.{◌≡◌, Result, Err, IsErr, IsErrAnd}
use Rattle.std.proofs.Common.{sym, ◌∙◌}
use Rattle.characters.specs.declared.refusal.Refused.{Refused}
use Rattle.characters.specs.Answers.{handed}

-- a refusal that is handed on is the one that was met
pub still_refused : {T : Type 0} {r o : Result T Refused} {d : Refused} → IsErr r × IsErrAnd r (λ (x : Refused). x ≡ d) → o ≡ Err d → r ≡ o
still_refused h e = handed h ∙ sym e
