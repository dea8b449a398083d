-- `stray` gives the place of each wrong escape. Assumes nothing.
use Rattle.std.specs.Prelude.{Err}
use Rattle.std.proofs.Common.{ap, arith, rules}
use Rattle.literals.specs.Strings.{reach}
use Rattle.literals.specs.StringLaws.{on_stands, stray_hex, stray_short, stray_unknown}
use Rattle.literals.proofs.strings.stray.Goals as goal

pub on-requires : goal.on-requires
on-requires c = let z = ap reach (ap Err c.in-Short.is) in search rules

pub two_on-requires : goal.two_on-requires
two_on-requires c = let z = ap reach (ap Err c.in-NotHex.is) in on_stands 1 c.requires.0 (omega arith) c.on-in-NotHex.ensures

pub returns-in-Short : goal.returns-in-Short
returns-in-Short c = stray_short c.args.text.now c.args.at c.in-Short.is c.on.ensures

pub returns-in-NotHex : goal.returns-in-NotHex
returns-in-NotHex c = stray_hex c.args.text.now c.args.at c.in-NotHex.is c.on-in-NotHex.ensures c.two_on.ensures

pub returns-in-Unknown : goal.returns-in-Unknown
returns-in-Unknown c = stray_unknown c.args.text.now c.args.at c.in-Unknown.is c.next.ensures
