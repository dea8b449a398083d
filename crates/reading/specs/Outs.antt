-- What code answers that reads by a process: read up to a place, with a node, or refused at a place; either with the tally reached.
-- The code itself hands these on apart: a `Result`, and the tally in what it was lent. Assumes nothing.
use Rattle.std.specs.Prelude.{Result, Ok, Err}
use Rattle.characters.specs.declared.place.Place.{Place}
use Rattle.characters.specs.declared.refusal.Refusal.{Refusal}
use Rattle.characters.specs.declared.refusal.Refused.{Refused as Refusing}
use Rattle.reading.specs.declared.node.Node.{Node}
use Rattle.reading.specs.declared.tally.Tally.{Tally}

pub data Out : Type 0 where
  Read : Place → Node → Tally → Out
  Refused : Refusal → Place → Tally → Out

-- The answer of code that has a node, read up to this place, or a refusal; and the tally that it leaves.
abbrev pub out_at : Place → Result Node Refusing → Tally → Out
out_at p (Ok n) u = Read p n u
out_at p (Err e) u = Refused e.refusal e.at u
