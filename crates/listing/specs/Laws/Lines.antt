-- The laws of lines: a record's by what the pool has, and the last one by the answer's number. Assumes nothing.
use Rattle.std.specs.Prelude.{◌≡◌, Bool, true, false, List, [], ◌∷◌, ◌++◌, ℕ, None, Some}
use Rattle.std.proofs.Math.Path.{sym}
use Rattle.std.proofs.Common.{ap, eq-eqb, ne_eqb}
use Rattle.characters.specs.Text.{Text, ascii}
use Rattle.reading.specs.declared.answer.Answer.{Answer}
use Rattle.records.specs.declared.row.Row.{Row}
use Rattle.records.specs.Rows.{row_at}
use Rattle.listing.specs.Listing.{decimal, place, line_of, line_by, line_at, counts, last_line}

pub line_here : (s : Text) (pool : List ℕ) (n : ℕ) {w : Row} → Some w ≡ row_at pool n → line_of s n w ≡ line_at s pool n
unfolding line_at
line_here s pool n e = ap (line_by s n) e

pub line_lacking : (s : Text) (pool : List ℕ) (n : ℕ) → None ≡ row_at pool n → decimal n ++ (32 ∷ 63 ∷ 10 ∷ []) ≡ line_at s pool n
unfolding line_at
line_lacking s pool n e = ap (line_by s n) e

module _ (a : Answer) where
  abbrev by : Bool → Text
  by t =
      elim t as (λ u. Text) [
        | true ↦ ascii "ok " ++ counts a
        | false ↦ ascii "refused " ++ decimal a.number ++ (32 ∷ place a.line a.column) ++ (32 ∷ counts a)
      ]

  pub last_ok : a.number ≡ 0 → ascii "ok " ++ counts a ≡ last_line a
  unfolding last_line
  last_ok e = sym (ap by (eq-eqb a.number 0 e))

  pub last_refused : (a.number ≡ 0 → ⊥) → ascii "refused " ++ decimal a.number ++ (32 ∷ place a.line a.column) ++ (32 ∷ counts a) ≡ last_line a
  unfolding last_line
  last_refused e = sym (ap by (ne_eqb a.number 0 e))
