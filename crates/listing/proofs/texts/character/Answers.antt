-- `character` prints the bytes that RFC 3629 gives a character. Assumes nothing.
use Rattle.listing.specs.Laws.Texts.{utf8_one, utf8_two, utf8_three, utf8_four}
use Rattle.listing.specs.Laws.Sheets.{said}
use Rattle.listing.proofs.texts.character.Goals as goal

pub returns-then-v-lt128 : goal.returns-then-v-lt128
returns-then-v-lt128 c = said (utf8_one _ c.if-v-lt128.true) c.put.ensures

pub returns-then-v-lt2048 : goal.returns-then-v-lt2048
returns-then-v-lt2048 c = said (utf8_two _ c.if-v-lt128.false c.if-v-lt2048.true) c.copy.ensures

pub returns-then-v-lt65536 : goal.returns-then-v-lt65536
returns-then-v-lt65536 c = said (utf8_three _ c.if-v-lt2048.false c.if-v-lt65536.true) c.copy-then-v-lt65536.ensures

pub returns : goal.returns
returns c = said (utf8_four _ c.if-v-lt65536.false) c.copy-2.ensures
