-- UTF-8 as the code goes about it: a byte opens at most one row of the table, and the row's width and second range say what is to follow.
-- Nothing here need be believed: `sequence_by_lead` of proofs/Utf8Steps holds it to the table. Assumes nothing.
use Rattle.std.specs.Prelude.{Bool, true, false, [], ◌∷◌, ℕ, zero, suc, length, replicate}
use Rattle.characters.specs.declared.utf8.Lead.{Lead}
use Rattle.characters.specs.Text.{Text}
use Rattle.characters.specs.Utf8.{Range, ◌to◌, Row, tail, fits}

-- what the code keeps of a row: its width, and the range of its second byte
abbrev pub keep : ℕ → Range → Lead
keep width second = record { 0 = width; 1 = second.low; 2 = second.high }

abbrev pub lead_of : Row → Lead
lead_of [] = keep 0 (0 to 0)
lead_of (r ∷ []) = keep 1 (0 to 0)
lead_of (r ∷ second ∷ row) = keep (suc (suc (length row))) second

-- the ranges of the bytes after the lead: the second byte's, and tails
abbrev pub after_by : ℕ → Range → Row
after_by zero r = []
after_by (suc zero) r = []
after_by (suc (suc n)) r = r ∷ replicate n tail

abbrev pub width_if : Bool → ℕ → ℕ
width_if true n = n
width_if false n = 0

-- the width, where the bytes after the lead are there; else 0
abbrev pub followed_by : Lead → Text → ℕ
followed_by l s = width_if (fits (after_by l.0 (l.1 to l.2)) s) l.0
