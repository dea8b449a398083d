-- `put` is one byte more. Assumes nothing.
use Rattle.listing.specs.Laws.Sheets.{put_room, put_full}
use Rattle.listing.proofs.sheet.put.Goals as goal

pub returns-then-at-out : goal.returns-then-at-out
returns-then-at-out c = put_room _ _ _ c.if-at-out.true

pub returns : goal.returns
returns c = put_full _ _ _ c.if-at-out.false
