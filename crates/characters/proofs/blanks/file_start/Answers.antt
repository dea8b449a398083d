-- `file_start` passes over a first line that opens with `#!`. Assumes nothing.
use Rattle.std.proofs.Common.{ap, sym, ◌∙◌, drop}
use mathlib.Core.Path.{subst⁻¹}
use Rattle.characters.specs.declared.place.Place.{Place}
use Rattle.characters.specs.Blanks.{line_end}
use Rattle.characters.specs.Text.{Stands}
use Rattle.characters.proofs.Passing.{file_plain, file_hash, file_line}
use Rattle.characters.proofs.blanks.file_start.Goals as goal

pub returns-then-a-ne35 : goal.returns-then-a-ne35
returns-then-a-ne35 c = c.start-first.ensures ∙ sym (file_plain c.args.text.now _ c.byte-a.ensures c.if-a-ne35.true)

pub returns-then-b-ne33 : goal.returns-then-b-ne33
returns-then-b-ne33 c = c.start-first.ensures ∙ sym (file_hash c.args.text.now _ _ c.byte-a.ensures c.if-a-ne35.false c.byte-b.ensures c.if-b-ne33.true)

pub line_end-requires : goal.line_end-requires
line_end-requires c = subst⁻¹ (λ (x : Place). Stands c.args.text.now x) c.start-first.ensures c.requires

pub returns : goal.returns
returns c = c.line_end.ensures ∙ ap (λ (x : Place). line_end (drop x.offset c.args.text.now) x) c.start-first.ensures ∙ sym (file_line c.args.text.now _ _ c.byte-a.ensures c.if-a-ne35.false c.byte-b.ensures c.if-b-ne33.false)
