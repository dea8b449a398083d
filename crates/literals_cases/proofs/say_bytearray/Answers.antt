-- A bytearray is read from the place after its `#[`. Assumes nothing.
use Rattle.literals_cases.proofs.Going.{past_token}
use Rattle.literals_cases.proofs.say_bytearray.Goals as goal

pub say_contents-requires : goal.say_contents-requires
say_contents-requires c = past_token _ c.requires c.in-Ok-Found.ensures c.in-Ok-Found.field-0-is
