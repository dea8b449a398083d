-- `form` tells the form by its letter. Assumes nothing.
use Rattle.std.proofs.Common.{sym, ap, ◌∙◌}
use Rattle.listing.specs.Laws.Kinds.{form_of, form_read, form_none}
use Rattle.listing.proofs.kinds.form.Goals as goal

pub returns-in-110 : goal.returns-in-110
returns-in-110 c = sym (ap form_of c.in-110.is) ∙ form_read c.args.kind c.args.i c.requires c.letter-b.ensures

pub returns-in-109 : goal.returns-in-109
returns-in-109 c = sym (ap form_of c.in-109.is) ∙ form_read c.args.kind c.args.i c.requires c.letter-b.ensures

pub returns-in-115 : goal.returns-in-115
returns-in-115 c = sym (ap form_of c.in-115.is) ∙ form_read c.args.kind c.args.i c.requires c.letter-b.ensures

pub returns-in-120 : goal.returns-in-120
returns-in-120 c = sym (ap form_of c.in-120.is) ∙ form_read c.args.kind c.args.i c.requires c.letter-b.ensures

pub returns-in-102 : goal.returns-in-102
returns-in-102 c = sym (ap form_of c.in-102.is) ∙ form_read c.args.kind c.args.i c.requires c.letter-b.ensures

pub returns-in-105 : goal.returns-in-105
returns-in-105 c = sym (ap form_of c.in-105.is) ∙ form_read c.args.kind c.args.i c.requires c.letter-b.ensures

pub returns-in-117 : goal.returns-in-117
returns-in-117 c = sym (ap form_of c.in-117.is) ∙ form_read c.args.kind c.args.i c.requires c.letter-b.ensures

pub returns-in-111 : goal.returns-in-111
returns-in-111 c = sym (ap form_of c.in-111.is) ∙ form_read c.args.kind c.args.i c.requires c.letter-b.ensures

pub returns-in_default : goal.returns-in_default
returns-in_default c = form_none _ c.in_default.in_default-own.rest ∙ form_read c.args.kind c.args.i c.requires c.letter-b.ensures
