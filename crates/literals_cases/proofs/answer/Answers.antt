-- The literal is looked for from the place after `x = `. Assumes nothing.
use Rattle.literals_cases.proofs.Going.{past_token}
use Rattle.literals_cases.proofs.answer.Goals as goal

pub past_signs-requires : goal.past_signs-requires
past_signs-requires c = past_token _ c.start_of.ensures c.in-Ok-Found.ensures c.in-Ok-Found.field-0-is
