-- What the readers of the cycle are called with and read by, where it is no rule of the grammar's specs by itself. Assumes nothing.
use Rattle.std.specs.Prelude.{List, ℕ}
use Rattle.characters.specs.declared.place.Place.{Place}
use Rattle.characters.specs.Text.{Text, Stands, on_by}
use Rattle.reading.specs.declared.tally.Tally.{Tally}
use Rattle.grammar.specs.declared.leaves.Suffix.{Suffix}
use Rattle.grammar.specs.declared.leaves.Suffix.TheVariants.{Call, Index, Member, InstanceOf}
use Rattle.makers.specs.Duties.{Begun}

-- a lambda's `|` stands here
pub record BarAt (s : Text) (at : Place) : Type 0 where
  pub after : Stands s (on_by 1 at)

-- the place after a suffix's sign, from where it is read on
abbrev pub suffix_at : Suffix → Place
suffix_at (Call h n) = n
suffix_at (Index h n) = n
suffix_at (Member h span n) = n
suffix_at (InstanceOf h span n) = n

-- what a suffix is read on with
pub record SuffixBegun (s pool : List ℕ) (cap : ℕ) (one : Suffix) (t : Tally) : Type 0 where
  pub begun : Begun s pool cap (suffix_at one) t
