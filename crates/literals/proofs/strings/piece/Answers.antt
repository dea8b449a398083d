-- `piece` gives one character of what a string spells. Assumes nothing.
use Rattle.std.proofs.Common.{ap, ◌+◌, arith, drop, length-drop, rules}
use Rattle.characters.specs.Utf8Laws.{sequence_length}
use Rattle.literals.specs.Strings.{reach}
use Rattle.literals.specs.SpellingLaws.{piece_ascii, piece_escape, piece_long, piece_none, piece_odd}
use Rattle.literals.specs.StringLaws.{byte_in, escape_inside, not_ended}
use Rattle.literals.proofs.strings.piece.Goals as goal

pub returns-then-b-eq256 : goal.returns-then-b-eq256
returns-then-b-eq256 c = search (piece_none, rules)

pub overflow_add-next : goal.overflow_add-next
overflow_add-next c = let l = byte_in c.byte-b.ensures (not_ended c.byte-b.ensures c.if-b-eq256.false) in search rules

pub escape-requires : goal.escape-requires
escape-requires c = let l = byte_in c.byte-b.ensures (not_ended c.byte-b.ensures c.if-b-eq256.false) in search rules

pub after_escape-requires : goal.after_escape-requires
after_escape-requires c = let l = byte_in c.byte-b.ensures (not_ended c.byte-b.ensures c.if-b-eq256.false) in let z = escape_inside c.args.text.now (c.args.at + 1) (omega arith) in let w = ap reach c.escape.ensures in omega arith

pub returns-then-b-eq92 : goal.returns-then-b-eq92
returns-then-b-eq92 c = search (piece_escape, rules)

pub returns-then-b-lt128 : goal.returns-then-b-lt128
returns-then-b-lt128 c = search (piece_ascii, rules)

pub overflow_cast-width : goal.overflow_cast-width
overflow_cast-width c = let z = sequence_length (drop c.args.at c.args.text.now) in let w = length-drop c.args.at c.args.text.now in search rules

pub returns-then-width-eq0 : goal.returns-then-width-eq0
returns-then-width-eq0 c = search (piece_odd, rules)

pub overflow_add-next-2 : goal.overflow_add-next-2
overflow_add-next-2 c = let z = sequence_length (drop c.args.at c.args.text.now) in let w = length-drop c.args.at c.args.text.now in search rules

pub returns : goal.returns
returns c = search (piece_long, rules)
