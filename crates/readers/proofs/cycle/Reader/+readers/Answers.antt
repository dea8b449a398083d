-- The readers of the cycle meet their contracts, one with the other. Assumes nothing.
use Rattle.std.proofs.Common.{rules, false, refl, arith, ap, Ok}
use Rattle.grammar.specs.ReadLaws.{read_ends, reads_stop, reads_then, ready_at, refuses, ready_then, read_stored}
use Rattle.makers.specs.Laws.Acts.{begun_then, not_false, not_true, room_of, ready_need, alone_reads, last_stored}
use Rattle.makers.specs.Laws.Chaining.{chain_assigns, chain_ends, chain_refuses, chaining_room, chaining_starts, choice_begun, choice_full, choice_read, operator_again, operator_full, operator_less, operator_ready, operator_room, operator_stops}
use Rattle.makers.specs.Laws.Plain.{as_expression, enters, plain_called, plain_counts, plain_first, plain_on, plain_posts, plain_read, plain_term, plain_whole, reads_not, reads_over, ready_not, rest_near}
use Rattle.makers.specs.Laws.PlainEnds.{near_stands}
use Rattle.reading.proofs.Laws.Does.{too_deep, by_stop}
use Rattle.records.proofs.Laws.Nodes.{does_length}
use Rattle.readers.specs.Laws.Answers.{list_ready, ready_found, ready_missing, parts_ready}
use Rattle.readers.specs.Laws.Exits.{reads_exit, lists_exit, parts_exit, paired_exit}
use Rattle.readers.specs.Laws.Operands.{array_made, array_stops, atom_brace, atom_bracket, atom_closed, atom_made, atom_paren, atom_stops, atom_wrong, brace_ready, bracket_ready, call_made, call_many, call_stops, choice_fails, choice_like, choice_made, choice_ready, choice_stops, choice_stops_last, index_fails, index_made, index_stops, lambda_called, operand_ready, paren_fails, paren_read, paren_ready, paren_stops, postfix_read, postfix_stops, posting_called, posting_starts, posts_again, posts_begun, posts_end, posts_less, posts_stops, posts_wrong, prefix_deep, prefix_other, prefix_ready, prefix_signed, prefix_stops, prefix_wrong, signed_room, suffix_begun, suffix_call, suffix_index, suffix_instance, suffix_member}
use Rattle.makers.specs.Laws.NamesRead.{dict_ends, dict_first, dict_follow_end, dict_follow_ends, dict_follow_halts, dict_further, dict_halts, dict_here, dict_next, dict_on, dict_refused, key_taken, pair_clashes, pair_fails, pair_made, pair_ready, pair_stops, taken_packs}
use Rattle.makers.specs.Laws.Turns.{turn_less}
use Rattle.readers.specs.Laws.Lists.{element_deep, element_made, element_stops, list_again, list_counts, list_ends, list_first, list_follow_ends, list_follow_halts, list_halts, list_here, list_less, list_next, list_refused, value_halts, value_implied, value_read}
use Rattle.readers.specs.Laws.Functions.{bar_ready, bar_room, block_again, block_ends, block_first, block_full, block_halts, block_here, block_less, block_next, block_stops, function_bare, function_fails, function_made, function_refused, function_stops, lambda_made, lambda_refused, lambda_stops, params_ready, result_block, result_halts, result_made, result_stops}
use Rattle.readers.specs.Laws.Statements.{assert_fails, assert_read, assert_stops, body_declares, body_read, body_stops, condition_fails, condition_read, else_halts, else_none, else_read, else_ready, else_stops, fun_closed, fun_fails, fun_full, fun_packs, fun_read, fun_ready, fun_stops, if_body_stops, if_read, if_stops, let_fails, let_read, let_ready, let_stops, let_wrong, loop_read, loop_stops, return_fails, return_full, return_halts, return_made, return_nil, return_read, return_ready, return_stops, statement_read, statement_ready, while_body_stops, while_read, while_stops}
use Rattle.readers.specs.Laws.Loops.{as_first, as_test, as_third, ended_fails, ended_read, ended_stops, for_lacks, for_read, for_stops, for_told, part_absent, part_halts, part_read, part_ready, part_stops, round_made, round_stops, round_told}
use Rattle.readers.specs.Laws.Assignments.{assign_read, assign_stops, assign_wrong, do_lacks, do_made, do_refused, step_made, step_ready, step_stops, store_combined, store_lacks, store_made, store_ready, store_refused, store_stops, target_made}
use Rattle.readers.proofs.cycle.Reader.+readers.Goals as goal

-- ---- expressions

pub chain-loop-book-init : goal.chain-loop-book-init
chain-loop-book-init t c = record { lent = refl; turns = chaining_starts c.requires c.empty-pending.ensures }

pub chain-link_of-requires : goal.chain-link_of-requires
chain-link_of-requires t c = c.loop-book.invariant.turns.begun.ready.stands

pub chain-reduce-requires : goal.chain-reduce-requires
chain-reduce-requires t c = chaining_room c.loop-book.invariant.turns

pub chain-returns-in_err-reduce-in-End-clause-reads : goal.chain-returns-in_err-reduce-in-End-clause-reads
chain-returns-in_err-reduce-in-End-clause-reads t c = reads_exit _ c.from_residual.ensures (chain_ends c.loop-book.invariant.turns c.link_of.ensures c.in_err-reduce-in-End.ensures.acts c.in-End.is)

pub chain-returns-in-End-clause-reads : goal.chain-returns-in-End-clause-reads
chain-returns-in-End-clause-reads t c = chain_ends c.loop-book.invariant.turns c.link_of.ensures c.in_ok-reduce-in-End.ensures.acts c.in-End.is

pub chain-returns-then-not-assigning-clause-reads : goal.chain-returns-then-not-assigning-clause-reads
chain-returns-then-not-assigning-clause-reads t c = chain_refuses c.loop-book.invariant.turns c.link_of.ensures c.in-Assign.is (not_true _ c.if-not-assigning.true-raw)

pub chain-reduce-requires-in-Assign : goal.chain-reduce-requires-in-Assign
chain-reduce-requires-in-Assign t c = chaining_room c.loop-book.invariant.turns

pub chain-returns-in_err-reduce-in-Assign-clause-reads : goal.chain-returns-in_err-reduce-in-Assign-clause-reads
chain-returns-in_err-reduce-in-Assign-clause-reads t c = reads_exit _ c.from_residual-in_err-reduce-in-Assign.ensures (chain_assigns c.loop-book.invariant.turns c.link_of.ensures c.in_err-reduce-in-Assign.ensures.acts c.in-Assign.is (not_false _ c.if-not-assigning.false-raw))

pub chain-returns-in-Assign-clause-reads : goal.chain-returns-in-Assign-clause-reads
chain-returns-in-Assign-clause-reads t c = chain_assigns c.loop-book.invariant.turns c.link_of.ensures c.in_ok-reduce-in-Assign.ensures.acts c.in-Assign.is (not_false _ c.if-not-assigning.false-raw)

pub chain-reduce-requires-in-Choice : goal.chain-reduce-requires-in-Choice
chain-reduce-requires-in-Choice t c = chaining_room c.loop-book.invariant.turns

pub chain-returns-in_err-reduce-in-Choice-clause-reads : goal.chain-returns-in_err-reduce-in-Choice-clause-reads
chain-returns-in_err-reduce-in-Choice-clause-reads t c = reads_exit _ c.from_residual-in_err-reduce-in-Choice.ensures (choice_full c.loop-book.invariant.turns c.link_of.ensures c.in-Choice.is c.in_err-reduce-in-Choice.ensures.acts refl)

pub chain-choice-requires : goal.chain-choice-requires
chain-choice-requires t c = (search rules, choice_begun c.loop-book.invariant.turns c.link_of.ensures c.in-Choice.is c.in_ok-reduce-in-Choice.ensures.acts refl)

pub chain-returns-in-Choice-clause-reads : goal.chain-returns-in-Choice-clause-reads
chain-returns-in-Choice-clause-reads t c = choice_read c.loop-book.invariant.turns c.link_of.ensures c.in-Choice.is c.in_ok-reduce-in-Choice.ensures.acts refl c.choice.ensures.reads

pub chain-reduce-requires-in-Operator : goal.chain-reduce-requires-in-Operator
chain-reduce-requires-in-Operator t c = chaining_room c.loop-book.invariant.turns

pub chain-returns-in_err-waiting-in-Operator-clause-reads : goal.chain-returns-in_err-waiting-in-Operator-clause-reads
chain-returns-in_err-waiting-in-Operator-clause-reads t c = reads_exit _ c.from_residual-in_err-waiting-in-Operator.ensures (operator_full c.loop-book.invariant.turns c.link_of.ensures c.in-Operator.is c.strength_of-strength.ensures c.in_err-waiting-in-Operator.ensures.acts refl)

pub chain-term-requires : goal.chain-term-requires
chain-term-requires t c = (search rules, operator_ready c.loop-book.invariant.turns c.link_of.ensures c.in-Operator.is c.strength_of-strength.ensures c.in_ok-waiting-in-Operator.ensures.acts refl)

pub chain-returns-in_err-here-in-Operator-clause-reads : goal.chain-returns-in_err-here-in-Operator-clause-reads
chain-returns-in_err-here-in-Operator-clause-reads t c = reads_exit _ c.from_residual-in_err-here-in-Operator.ensures (operator_stops c.loop-book.invariant.turns c.link_of.ensures c.in-Operator.is c.strength_of-strength.ensures c.in_ok-waiting-in-Operator.ensures.acts refl c.in_err-here-in-Operator.ensures.reads refl)

pub chain-push-pending-requires : goal.chain-push-pending-requires
chain-push-pending-requires t c = operator_room c.loop-book.invariant.turns c.link_of.ensures c.in-Operator.is c.strength_of-strength.ensures c.in_ok-waiting-in-Operator.ensures.acts refl

pub chain-loop-book-smaller : goal.chain-loop-book-smaller
chain-loop-book-smaller t c = operator_less c.loop-book.invariant.turns c.link_of.ensures c.in-Operator.is c.strength_of-strength.ensures c.in_ok-waiting-in-Operator.ensures.acts refl c.in_ok-here-in-Operator.ensures.reads refl

pub chain-loop-book-preserved : goal.chain-loop-book-preserved
chain-loop-book-preserved t c = record { lent = cc; turns = operator_again c.loop-book.invariant.turns c.link_of.ensures c.in-Operator.is c.strength_of-strength.ensures c.in_ok-waiting-in-Operator.ensures.acts refl c.in_ok-here-in-Operator.ensures.reads refl c.push-pending.ensures }

pub expr-returns-then-left-eq0-clause-reads : goal.expr-returns-then-left-eq0-clause-reads
expr-returns-then-left-eq0-clause-reads t c = refuses (too_deep c.if-left-eq0.true)

pub expr-plain-n-requires : goal.expr-plain-n-requires
expr-plain-n-requires t c = plain_called c.requires c.near-from.ensures

pub expr-long-requires : goal.expr-long-requires
expr-long-requires t c = let k = ready_not c.plain-n.ensures c.if-n-eq0.true c.requires in search rules

pub expr-returns-then-n-eq0-clause-reads : goal.expr-returns-then-n-eq0-clause-reads
expr-returns-then-n-eq0-clause-reads t c = enters c.args.assigning c.if-left-eq0.false (reads_not c.plain-n.ensures c.if-n-eq0.true c.long.ensures.reads)

pub expr-on-q-requires : goal.expr-on-q-requires
expr-on-q-requires t c = plain_on c.plain-n.ensures c.if-n-eq0.false

pub expr-recorded-book-requires : goal.expr-recorded-book-requires
expr-recorded-book-requires t c = plain_counts c.plain-n.ensures c.if-n-eq0.false c.requires.small

pub expr-over-requires : goal.expr-over-requires
expr-over-requires t c = (plain_read c.requires c.near-from.ensures c.plain-n.ensures c.if-n-eq0.false c.on-q.ensures c.recorded-book.ensures).begun.ready.stands

pub expr-returns-then-over-clause-reads : goal.expr-returns-then-over-clause-reads
expr-returns-then-over-clause-reads t c = plain_whole (plain_read c.requires c.near-from.ensures c.plain-n.ensures c.if-n-eq0.false c.on-q.ensures c.recorded-book.ensures) c.if-left-eq0.false c.over.ensures c.if-over.true

pub expr-rest-requires : goal.expr-rest-requires
expr-rest-requires t c = let k = (plain_read c.requires c.near-from.ensures c.plain-n.ensures c.if-n-eq0.false c.on-q.ensures c.recorded-book.ensures).begun in search rules

pub expr-returns-clause-reads : goal.expr-returns-clause-reads
expr-returns-clause-reads t c = plain_first (plain_read c.requires c.near-from.ensures c.plain-n.ensures c.if-n-eq0.false c.on-q.ensures c.recorded-book.ensures) c.args.assigning c.if-left-eq0.false c.rest.ensures.reads

pub long-returns-in_err-q-clause-reads : goal.long-returns-in_err-q-clause-reads
long-returns-in_err-q-clause-reads t c = reads_exit _ c.from_residual.ensures (as_expression c.args.at c.args.assigning (reads_stop refl c.in_err-q.ensures.reads))

pub long-over-requires : goal.long-over-requires
long-over-requires t c = (read_ends refl c.in_ok-q.ensures.reads).reached.stands

pub long-returns-then-over-clause-reads : goal.long-returns-then-over-clause-reads
long-returns-then-over-clause-reads t c = as_expression c.args.at c.args.assigning (reads_over refl c.in_ok-q.ensures.reads (begun_then c.requires refl c.in_ok-q.ensures.reads) c.over.ensures c.if-over.true)

pub long-chain-requires : goal.long-chain-requires
long-chain-requires t c = (search rules, (begun_then c.requires refl c.in_ok-q.ensures.reads))

pub long-returns-clause-reads : goal.long-returns-clause-reads
long-returns-clause-reads t c = as_expression c.args.at c.args.assigning (reads_then refl c.in_ok-q.ensures.reads c.chain.ensures.reads)

pub rest-near-near_by-requires : goal.rest-near-near_by-requires
rest-near-near_by-requires t c = c.requires.ready.stands

pub rest-rests-requires : goal.rest-rests-requires
rest-rests-requires t c = near_stands c.requires.ready.stands c.near-near_by.ensures

pub rest-chain-requires : goal.rest-chain-requires
rest-chain-requires t c = (search rules, record { ready = ready_at c.requires.ready (near_stands c.requires.ready.stands c.near-near_by.ensures); some = c.requires.some })

pub rest-returns-then-rests-clause-reads : goal.rest-returns-then-rests-clause-reads
rest-returns-then-rests-clause-reads t c = rest_near c.args.assigning c.requires c.near-near_by.ensures c.rests.ensures c.if-rests.true c.chain.ensures.reads

pub rest-returns-in_err-q-clause-reads : goal.rest-returns-in_err-q-clause-reads
rest-returns-in_err-q-clause-reads t c = reads_exit _ c.from_residual.ensures (reads_stop refl c.in_err-q.ensures.reads)

pub rest-over-requires : goal.rest-over-requires
rest-over-requires t c = (read_ends refl c.in_ok-q.ensures.reads).reached.stands

pub rest-returns-then-over-clause-reads : goal.rest-returns-then-over-clause-reads
rest-returns-then-over-clause-reads t c = reads_over refl c.in_ok-q.ensures.reads (begun_then c.requires.ready refl c.in_ok-q.ensures.reads) c.over.ensures c.if-over.true

pub rest-chain-requires-2 : goal.rest-chain-requires-2
rest-chain-requires-2 t c = (search rules, (begun_then c.requires.ready refl c.in_ok-q.ensures.reads))

pub rest-returns-clause-reads : goal.rest-returns-clause-reads
rest-returns-clause-reads t c = reads_then refl c.in_ok-q.ensures.reads c.chain-2.ensures.reads

pub term-plain-n-requires : goal.term-plain-n-requires
term-plain-n-requires t c = plain_called c.requires c.near-from.ensures

pub term-prefix-requires : goal.term-prefix-requires
term-prefix-requires t c = (search rules, ready_not c.plain-n.ensures c.if-n-eq0.true c.requires)

pub term-returns-then-n-eq0-clause-reads : goal.term-returns-then-n-eq0-clause-reads
term-returns-then-n-eq0-clause-reads t c = reads_not c.plain-n.ensures c.if-n-eq0.true c.prefix.ensures.reads

pub term-on-next-requires : goal.term-on-next-requires
term-on-next-requires t c = plain_on c.plain-n.ensures c.if-n-eq0.false

pub term-recorded-book-requires : goal.term-recorded-book-requires
term-recorded-book-requires t c = plain_counts c.plain-n.ensures c.if-n-eq0.false c.requires.small

pub term-near-q-requires : goal.term-near-q-requires
term-near-q-requires t c = (plain_read c.requires c.near-from.ensures c.plain-n.ensures c.if-n-eq0.false c.on-next.ensures c.recorded-book.ensures).begun.ready.stands

pub term-rests-requires : goal.term-rests-requires
term-rests-requires t c = near_stands (plain_read c.requires c.near-from.ensures c.plain-n.ensures c.if-n-eq0.false c.on-next.ensures c.recorded-book.ensures).begun.ready.stands c.near-q.ensures

pub term-returns-then-rests-clause-reads : goal.term-returns-then-rests-clause-reads
term-returns-then-rests-clause-reads t c = plain_term (plain_read c.requires c.near-from.ensures c.plain-n.ensures c.if-n-eq0.false c.on-next.ensures c.recorded-book.ensures) c.near-q.ensures c.rests.ensures c.if-rests.true

pub term-posts-requires : goal.term-posts-requires
term-posts-requires t c = (search rules, (plain_read c.requires c.near-from.ensures c.plain-n.ensures c.if-n-eq0.false c.on-next.ensures c.recorded-book.ensures).begun)

pub term-returns-clause-reads : goal.term-returns-clause-reads
term-returns-clause-reads t c = plain_posts (plain_read c.requires c.near-from.ensures c.plain-n.ensures c.if-n-eq0.false c.on-next.ensures c.recorded-book.ensures) c.posts.ensures.reads

-- ---- operands

pub array-make-requires : goal.array-make-requires
array-make-requires t c = (list_ready c.in_ok-items.ensures.reads refl c.requires).lent

pub array-returns-in_err-items-clause-reads : goal.array-returns-in_err-items-clause-reads
array-returns-in_err-items-clause-reads t c = reads_exit _ c.from_residual.ensures (array_stops c.args.here c.in_err-items.ensures.reads refl)

pub array-returns-clause-reads : goal.array-returns-clause-reads
array-returns-clause-reads t c = array_made c.args.here c.in_ok-items.ensures.reads c.requires refl c.row-made.ensures c.make.ensures.makes

pub atom-atom_of-requires : goal.atom-atom_of-requires
atom-atom_of-requires t c = (c.requires.stands, c.requires.short)

pub atom-returns-in_err-kind-clause-reads : goal.atom-returns-in_err-kind-clause-reads
atom-returns-in_err-kind-clause-reads t c = reads_exit _ c.from_residual.ensures (atom_wrong c.requires c.in_err-kind.ensures refl)

pub atom-make-requires : goal.atom-make-requires
atom-make-requires t c = c.requires.lent

pub atom-paren-requires : goal.atom-paren-requires
atom-paren-requires t c = (search rules, paren_ready c.requires c.in_ok-kind.ensures (ap Ok c.in-Paren.is))

pub atom-array-requires : goal.atom-array-requires
atom-array-requires t c = (search rules, bracket_ready c.requires c.in_ok-kind.ensures (ap Ok c.in-Bracket.is))

pub atom-dict-requires : goal.atom-dict-requires
atom-dict-requires t c = (search rules, brace_ready c.requires c.in_ok-kind.ensures (ap Ok c.in-Brace.is))

pub atom-lambda-requires : goal.atom-lambda-requires
atom-lambda-requires t c = (search rules, lambda_called c.requires c.in_ok-kind.ensures (ap Ok c.in-Bar.is))

pub atom-returns-in_err-q-in-Bar-clause-reads : goal.atom-returns-in_err-q-in-Bar-clause-reads
atom-returns-in_err-q-in-Bar-clause-reads t c = reads_exit _ c.from_residual-in_err-q-in-Bar.ensures (atom_stops c.requires c.in_ok-kind.ensures (ap Ok c.in-Bar.is) c.in_err-q-in-Bar.ensures.reads refl)

pub atom-make-requires-in-Bar : goal.atom-make-requires-in-Bar
atom-make-requires-in-Bar t c = (ready_then c.requires refl c.in_ok-q-in-Bar.ensures.reads).lent

pub atom-returns-in-Leaf-clause-reads : goal.atom-returns-in-Leaf-clause-reads
atom-returns-in-Leaf-clause-reads t c = atom_made c.requires c.in_ok-kind.ensures (ap Ok c.in-Leaf.is) c.leaf_row-made.ensures c.make.ensures.makes

pub atom-returns-in-Paren-clause-reads : goal.atom-returns-in-Paren-clause-reads
atom-returns-in-Paren-clause-reads t c = atom_paren c.requires c.in_ok-kind.ensures (ap Ok c.in-Paren.is) c.paren.ensures.reads

pub atom-returns-in-Bracket-clause-reads : goal.atom-returns-in-Bracket-clause-reads
atom-returns-in-Bracket-clause-reads t c = atom_bracket c.requires c.in_ok-kind.ensures (ap Ok c.in-Bracket.is) c.array.ensures.reads

pub atom-returns-in-Brace-clause-reads : goal.atom-returns-in-Brace-clause-reads
atom-returns-in-Brace-clause-reads t c = atom_brace c.requires c.in_ok-kind.ensures (ap Ok c.in-Brace.is) c.dict.ensures.reads

pub atom-returns-in_ok-q-in-Bar-clause-reads : goal.atom-returns-in_ok-q-in-Bar-clause-reads
atom-returns-in_ok-q-in-Bar-clause-reads t c = atom_closed c.requires c.in_ok-kind.ensures (ap Ok c.in-Bar.is) c.in_ok-q-in-Bar.ensures.reads refl c.row-made.ensures c.make-in-Bar.ensures.makes

pub call-list-requires : goal.call-list-requires
call-list-requires t c = (search rules, c.requires.ready)

pub call-returns-in_err-items-clause-reads : goal.call-returns-in_err-items-clause-reads
call-returns-in_err-items-clause-reads t c = reads_exit _ c.from_residual.ensures (call_stops _ c.args.here c.in_err-items.ensures.reads refl)

pub call-returns-then-items-ge255-clause-reads : goal.call-returns-then-items-ge255-clause-reads
call-returns-then-items-ge255-clause-reads t c = call_many _ c.args.here c.in_ok-items.ensures.reads refl c.if-items-ge255.true

pub call-make-requires : goal.call-make-requires
call-make-requires t c = (list_ready c.in_ok-items.ensures.reads refl c.requires.ready).lent

pub call-returns-clause-reads : goal.call-returns-clause-reads
call-returns-clause-reads t c = call_made _ c.args.here c.in_ok-items.ensures.reads refl c.requires.ready c.if-items-ge255.false c.row-made.ensures c.make.ensures.makes

pub choice-returns-in_err-q-clause-reads : goal.choice-returns-in_err-q-clause-reads
choice-returns-in_err-q-clause-reads t c = reads_exit _ c.from_residual.ensures (choice_stops c.requires c.in_err-q.ensures.reads refl)

pub choice-need-requires : goal.choice-need-requires
choice-need-requires t c = (read_ends refl c.in_ok-q.ensures.reads).reached.stands

pub choice-returns-in_err-colon-clause-reads : goal.choice-returns-in_err-colon-clause-reads
choice-returns-in_err-colon-clause-reads t c = reads_exit _ c.from_residual-in_err-colon.ensures (choice_fails c.requires c.in_ok-q.ensures.reads refl c.in_err-colon.ensures refl)

pub choice-expr-requires-2 : goal.choice-expr-requires-2
choice-expr-requires-2 t c = (search rules, choice_ready c.requires c.in_ok-q.ensures.reads refl c.in_ok-colon.ensures refl)

pub choice-returns-in_err-r-clause-reads : goal.choice-returns-in_err-r-clause-reads
choice-returns-in_err-r-clause-reads t c = reads_exit _ c.from_residual-in_err-r.ensures (choice_stops_last c.requires c.in_ok-q.ensures.reads refl c.in_ok-colon.ensures refl c.in_err-r.ensures.reads refl)

pub choice-make_like-requires : goal.choice-make_like-requires
choice-make_like-requires t c = choice_like c.requires c.in_ok-q.ensures.reads refl c.in_ok-colon.ensures refl c.in_ok-r.ensures.reads refl

pub choice-returns-clause-reads : goal.choice-returns-clause-reads
choice-returns-clause-reads t c = choice_made c.requires c.in_ok-q.ensures.reads refl c.in_ok-colon.ensures refl c.in_ok-r.ensures.reads refl c.make_like.ensures.makes

pub index-expr-requires : goal.index-expr-requires
index-expr-requires t c = (search rules, c.requires.ready)

pub index-returns-in_err-q-clause-reads : goal.index-returns-in_err-q-clause-reads
index-returns-in_err-q-clause-reads t c = reads_exit _ c.from_residual.ensures (index_stops _ c.args.here c.in_err-q.ensures.reads refl)

pub index-need-requires : goal.index-need-requires
index-need-requires t c = (read_ends refl c.in_ok-q.ensures.reads).reached.stands

pub index-make-requires : goal.index-make-requires
index-make-requires t c = (ready_then c.requires.ready refl c.in_ok-q.ensures.reads).lent

pub index-returns-in_err-close-clause-reads : goal.index-returns-in_err-close-clause-reads
index-returns-in_err-close-clause-reads t c = reads_exit _ c.from_residual-in_err-close.ensures (index_fails _ c.args.here c.in_ok-q.ensures.reads refl c.in_err-close.ensures refl)

pub index-returns-clause-reads : goal.index-returns-clause-reads
index-returns-clause-reads t c = index_made _ c.args.here c.in_ok-q.ensures.reads refl c.in_ok-close.ensures c.requires.ready refl c.row-made.ensures c.make.ensures.makes

pub paren-returns-in_err-q-clause-reads : goal.paren-returns-in_err-q-clause-reads
paren-returns-in_err-q-clause-reads t c = reads_exit _ c.from_residual.ensures (paren_stops c.in_err-q.ensures.reads refl)

pub paren-need-requires : goal.paren-need-requires
paren-need-requires t c = (read_ends refl c.in_ok-q.ensures.reads).reached.stands

pub paren-returns-in_err-close-clause-reads : goal.paren-returns-in_err-close-clause-reads
paren-returns-in_err-close-clause-reads t c = reads_exit _ c.from_residual-in_err-close.ensures (paren_fails c.in_ok-q.ensures.reads refl c.in_err-close.ensures refl)

pub paren-returns-clause-reads : goal.paren-returns-clause-reads
paren-returns-clause-reads t c = paren_read c.in_ok-q.ensures.reads refl c.in_ok-close.ensures refl

pub postfix-returns-in_err-q-clause-reads : goal.postfix-returns-in_err-q-clause-reads
postfix-returns-in_err-q-clause-reads t c = reads_exit _ c.from_residual.ensures (postfix_stops c.in_err-q.ensures.reads refl)

pub postfix-posts-requires : goal.postfix-posts-requires
postfix-posts-requires t c = (search rules, begun_then c.requires refl c.in_ok-q.ensures.reads)

pub postfix-returns-clause-reads : goal.postfix-returns-clause-reads
postfix-returns-clause-reads t c = postfix_read c.in_ok-q.ensures.reads refl c.posts.ensures.reads

pub posts-loop-q-init : goal.posts-loop-q-init
posts-loop-q-init t c = record { lent = refl; turns = posting_starts c.requires }

pub posts-postfix_of-requires : goal.posts-postfix_of-requires
posts-postfix_of-requires t c = posting_called c.loop-q.invariant.turns

pub posts-returns-in_err-q-clause-reads : goal.posts-returns-in_err-q-clause-reads
posts-returns-in_err-q-clause-reads t c = reads_exit _ c.from_residual.ensures (posts_wrong c.loop-q.invariant.turns c.in_err-q.ensures refl)

pub posts-returns-in-Rest-clause-reads : goal.posts-returns-in-Rest-clause-reads
posts-returns-in-Rest-clause-reads t c = posts_end c.loop-q.invariant.turns c.in_ok-q.ensures (ap Ok c.in-Rest.is)

pub posts-suffix-requires : goal.posts-suffix-requires
posts-suffix-requires t c = (search rules, posts_begun c.loop-q.invariant.turns c.in_ok-q.ensures (ap Ok c.in-More.is))

pub posts-returns-in_err-here-in-More-clause-reads : goal.posts-returns-in_err-here-in-More-clause-reads
posts-returns-in_err-here-in-More-clause-reads t c = reads_exit _ c.from_residual-in_err-here-in-More.ensures (posts_stops c.loop-q.invariant.turns c.in_ok-q.ensures (ap Ok c.in-More.is) c.in_err-here-in-More.ensures.reads refl)

pub posts-loop-q-smaller : goal.posts-loop-q-smaller
posts-loop-q-smaller t c = posts_less c.loop-q.invariant.turns c.in_ok-q.ensures (ap Ok c.in-More.is) c.in_ok-here-in-More.ensures.reads refl

pub posts-loop-q-preserved : goal.posts-loop-q-preserved
posts-loop-q-preserved t c = record { lent = cc; turns = posts_again c.loop-q.invariant.turns c.in_ok-q.ensures (ap Ok c.in-More.is) c.in_ok-here-in-More.ensures.reads refl }

pub prefix-prefix_of-requires : goal.prefix-prefix_of-requires
prefix-prefix_of-requires t c = c.requires.stands

pub prefix-returns-in_err-here-clause-reads : goal.prefix-returns-in_err-here-clause-reads
prefix-returns-in_err-here-clause-reads t c = reads_exit _ c.from_residual.ensures (prefix_wrong c.requires c.in_err-here.ensures refl)

pub prefix-postfix-requires : goal.prefix-postfix-requires
prefix-postfix-requires t c = (search rules, prefix_ready c.requires c.in_ok-here.ensures (ap Ok c.in-Other.is))

pub prefix-returns-then-left-eq0-clause-reads : goal.prefix-returns-then-left-eq0-clause-reads
prefix-returns-then-left-eq0-clause-reads t c = prefix_deep c.requires c.in_ok-here.ensures (ap Ok c.in-Sign.is) c.if-left-eq0.true

pub prefix-prefix-requires : goal.prefix-prefix-requires
prefix-prefix-requires t c = (search rules, operand_ready c.requires c.in_ok-here.ensures (ap Ok c.in-Sign.is))

pub prefix-returns-in_err-q-in-Sign-clause-reads : goal.prefix-returns-in_err-q-in-Sign-clause-reads
prefix-returns-in_err-q-in-Sign-clause-reads t c = reads_exit _ c.from_residual-in_err-q-in-Sign.ensures (prefix_stops c.requires c.in_ok-here.ensures (ap Ok c.in-Sign.is) c.if-left-eq0.false c.in_err-q-in-Sign.ensures.reads refl)

pub prefix-signed-requires : goal.prefix-signed-requires
prefix-signed-requires t c = signed_room c.requires c.in_ok-here.ensures (ap Ok c.in-Sign.is) c.if-left-eq0.false c.in_ok-q-in-Sign.ensures.reads refl

pub prefix-returns-in-Other-clause-reads : goal.prefix-returns-in-Other-clause-reads
prefix-returns-in-Other-clause-reads t c = prefix_other c.requires c.in_ok-here.ensures (ap Ok c.in-Other.is) c.postfix.ensures.reads

pub prefix-returns-in_ok-q-in-Sign-clause-reads : goal.prefix-returns-in_ok-q-in-Sign-clause-reads
prefix-returns-in_ok-q-in-Sign-clause-reads t c = prefix_signed c.requires c.in_ok-here.ensures (ap Ok c.in-Sign.is) c.if-left-eq0.false c.in_ok-q-in-Sign.ensures.reads refl c.signed.ensures.acts

pub suffix-call-requires : goal.suffix-call-requires
suffix-call-requires t c = (search rules, suffix_begun c.requires c.in-Call.is)

pub suffix-index-requires : goal.suffix-index-requires
suffix-index-requires t c = (search rules, suffix_begun c.requires c.in-Index.is)

pub suffix-make-requires : goal.suffix-make-requires
suffix-make-requires t c = c.requires.begun.ready.lent

pub suffix-make-requires-in-InstanceOf : goal.suffix-make-requires-in-InstanceOf
suffix-make-requires-in-InstanceOf t c = c.requires.begun.ready.lent

pub suffix-returns-in-Call-clause-reads : goal.suffix-returns-in-Call-clause-reads
suffix-returns-in-Call-clause-reads t c = suffix_call c.in-Call.is c.call.ensures.reads

pub suffix-returns-in-Index-clause-reads : goal.suffix-returns-in-Index-clause-reads
suffix-returns-in-Index-clause-reads t c = suffix_index c.in-Index.is c.index.ensures.reads

pub suffix-returns-in-Member-clause-reads : goal.suffix-returns-in-Member-clause-reads
suffix-returns-in-Member-clause-reads t c = suffix_member c.requires c.in-Member.is c.row-made.ensures c.make.ensures.makes

pub suffix-returns-in-InstanceOf-clause-reads : goal.suffix-returns-in-InstanceOf-clause-reads
suffix-returns-in-InstanceOf-clause-reads t c = suffix_instance c.requires c.in-InstanceOf.is c.row-made-in-InstanceOf.ensures c.make-in-InstanceOf.ensures.makes

-- ---- lists

pub dict-loop-next-init : goal.dict-loop-next-init
dict-loop-next-init t c = record { lent = refl; turns = dict_first c.requires }

pub dict-close_of-requires : goal.dict-close_of-requires
dict-close_of-requires t c = c.loop-next.invariant.turns.ready.stands

pub dict-returns-in_err-next-clause-reads : goal.dict-returns-in_err-next-clause-reads
dict-returns-in_err-next-clause-reads t c = reads_exit _ c.from_residual.ensures (dict_halts c.loop-next.invariant.turns c.in_err-next.ensures refl)

pub dict-make-requires : goal.dict-make-requires
dict-make-requires t c = c.loop-next.invariant.turns.ready.lent

pub dict-returns-in-Found-clause-reads : goal.dict-returns-in-Found-clause-reads
dict-returns-in-Found-clause-reads t c = dict_ends c.loop-next.invariant.turns c.in_ok-next.ensures (ap Ok c.in-Found.is) c.row-made.ensures c.make.ensures.makes

pub dict-pair-requires : goal.dict-pair-requires
dict-pair-requires t c = let k = dict_here c.loop-next.invariant.turns c.in_ok-next.ensures (ap Ok c.in-Missing.is) in search rules

pub dict-returns-in_err-r-in-Missing-clause-reads : goal.dict-returns-in_err-r-in-Missing-clause-reads
dict-returns-in_err-r-in-Missing-clause-reads t c = reads_exit _ c.from_residual-in_err-r-in-Missing.ensures (dict_refused c.loop-next.invariant.turns c.in_ok-next.ensures (ap Ok c.in-Missing.is) c.in_err-r-in-Missing.ensures.reads refl)

pub dict-follow_of-requires : goal.dict-follow_of-requires
dict-follow_of-requires t c = (dict_next c.loop-next.invariant.turns c.in_ok-next.ensures (ap Ok c.in-Missing.is) c.in_ok-r-in-Missing.ensures.reads refl).stands

pub dict-returns-in_err-next-in-Missing-clause-reads : goal.dict-returns-in_err-next-in-Missing-clause-reads
dict-returns-in_err-next-in-Missing-clause-reads t c = reads_exit _ c.from_residual-in_err-next-in-Missing.ensures (dict_follow_halts c.loop-next.invariant.turns c.in_ok-next.ensures (ap Ok c.in-Missing.is) c.in_ok-r-in-Missing.ensures.reads refl c.in_err-next-in-Missing.ensures refl)

pub dict-make-requires-in-Found-2 : goal.dict-make-requires-in-Found-2
dict-make-requires-in-Found-2 t c = (dict_follow_end c.loop-next.invariant.turns c.in_ok-next.ensures (ap Ok c.in-Missing.is) c.in_ok-r-in-Missing.ensures.reads refl c.in_ok-next-in-Missing.ensures (ap Ok c.in-Found-2.is)).lent

pub dict-returns-in-Found-2-clause-reads : goal.dict-returns-in-Found-2-clause-reads
dict-returns-in-Found-2-clause-reads t c = dict_follow_ends c.loop-next.invariant.turns c.in_ok-next.ensures (ap Ok c.in-Missing.is) c.in_ok-r-in-Missing.ensures.reads refl c.in_ok-next-in-Missing.ensures (ap Ok c.in-Found-2.is) c.row-made-in-Found-2.ensures c.make-in-Found-2.ensures.makes

pub dict-loop-next-smaller : goal.dict-loop-next-smaller
dict-loop-next-smaller t c = turn_less (dict_further c.loop-next.invariant.turns c.in_ok-next.ensures (ap Ok c.in-Missing.is) c.in_ok-r-in-Missing.ensures.reads refl c.in_ok-next-in-Missing.ensures (ap Ok c.in-Missing-2.is))

pub dict-loop-next-preserved : goal.dict-loop-next-preserved
dict-loop-next-preserved t c = record { lent = cc; turns = dict_on c.loop-next.invariant.turns c.in_ok-next.ensures (ap Ok c.in-Missing.is) c.in_ok-r-in-Missing.ensures.reads refl c.in_ok-next-in-Missing.ensures (ap Ok c.in-Missing-2.is) (does_length c.in_ok-r-in-Missing.ensures.reads.does) }

pub elem-returns-then-left-eq0-clause-reads : goal.elem-returns-then-left-eq0-clause-reads
elem-returns-then-left-eq0-clause-reads t c = element_deep c.args.last c.if-left-eq0.true

pub elem-plain-n-requires : goal.elem-plain-n-requires
elem-plain-n-requires t c = plain_called c.requires c.near-from.ensures

pub elem-long-requires : goal.elem-long-requires
elem-long-requires t c = let k = ready_not c.plain-n.ensures c.if-n-eq0.true c.requires in search rules

pub elem-returns-in_err-q-clause-reads : goal.elem-returns-in_err-q-clause-reads
elem-returns-in_err-q-clause-reads t c = reads_exit _ c.from_residual.ensures (element_stops c.args.last (enters false c.if-left-eq0.false (reads_not c.plain-n.ensures c.if-n-eq0.true c.in_err-q.ensures.reads)) refl)

pub elem-held-requires : goal.elem-held-requires
elem-held-requires t c = room_of (ready_then c.requires refl (enters false c.if-left-eq0.false (reads_not c.plain-n.ensures c.if-n-eq0.true c.in_ok-q.ensures.reads)))

pub elem-returns-then-n-eq0-clause-reads : goal.elem-returns-then-n-eq0-clause-reads
elem-returns-then-n-eq0-clause-reads t c = element_made c.args.last (enters false c.if-left-eq0.false (reads_not c.plain-n.ensures c.if-n-eq0.true c.in_ok-q.ensures.reads)) c.requires refl c.held.ensures.acts

pub elem-on-q-requires : goal.elem-on-q-requires
elem-on-q-requires t c = plain_on c.plain-n.ensures c.if-n-eq0.false

pub elem-recorded-book-requires : goal.elem-recorded-book-requires
elem-recorded-book-requires t c = plain_counts c.plain-n.ensures c.if-n-eq0.false c.requires.small

pub elem-over-requires : goal.elem-over-requires
elem-over-requires t c = (plain_read c.requires c.near-from.ensures c.plain-n.ensures c.if-n-eq0.false c.on-q.ensures c.recorded-book.ensures).begun.ready.stands

pub elem-held-requires-then-over : goal.elem-held-requires-then-over
elem-held-requires-then-over t c = room_of (plain_read c.requires c.near-from.ensures c.plain-n.ensures c.if-n-eq0.false c.on-q.ensures c.recorded-book.ensures).begun.ready

pub elem-returns-then-over-clause-reads : goal.elem-returns-then-over-clause-reads
elem-returns-then-over-clause-reads t c = element_made c.args.last (plain_whole (plain_read c.requires c.near-from.ensures c.plain-n.ensures c.if-n-eq0.false c.on-q.ensures c.recorded-book.ensures) c.if-left-eq0.false c.over.ensures c.if-over.true) c.requires refl c.held-then-over.ensures.acts

pub elem-rest-requires : goal.elem-rest-requires
elem-rest-requires t c = let k = (plain_read c.requires c.near-from.ensures c.plain-n.ensures c.if-n-eq0.false c.on-q.ensures c.recorded-book.ensures).begun in search rules

pub elem-returns-in_err-r-clause-reads : goal.elem-returns-in_err-r-clause-reads
elem-returns-in_err-r-clause-reads t c = reads_exit _ c.from_residual-in_err-r.ensures (element_stops c.args.last (plain_first (plain_read c.requires c.near-from.ensures c.plain-n.ensures c.if-n-eq0.false c.on-q.ensures c.recorded-book.ensures) false c.if-left-eq0.false c.in_err-r.ensures.reads) refl)

pub elem-held-requires-2 : goal.elem-held-requires-2
elem-held-requires-2 t c = room_of (ready_then c.requires refl (plain_first (plain_read c.requires c.near-from.ensures c.plain-n.ensures c.if-n-eq0.false c.on-q.ensures c.recorded-book.ensures) false c.if-left-eq0.false c.in_ok-r.ensures.reads))

pub elem-returns-clause-reads : goal.elem-returns-clause-reads
elem-returns-clause-reads t c = element_made c.args.last (plain_first (plain_read c.requires c.near-from.ensures c.plain-n.ensures c.if-n-eq0.false c.on-q.ensures c.recorded-book.ensures) false c.if-left-eq0.false c.in_ok-r.ensures.reads) c.requires refl c.held-2.ensures.acts

pub list-loop-next-init : goal.list-loop-next-init
list-loop-next-init t c = record { lent = refl; turns = list_first c.requires }

pub list-close_of-requires : goal.list-close_of-requires
list-close_of-requires t c = c.loop-next.invariant.turns.ready.stands

pub list-returns-in_err-next-clause-reads : goal.list-returns-in_err-next-clause-reads
list-returns-in_err-next-clause-reads t c = lists_exit _ c.from_residual.ensures (list_halts c.loop-next.invariant.turns c.in_err-next.ensures refl)

pub list-returns-in-Found-clause-reads : goal.list-returns-in-Found-clause-reads
list-returns-in-Found-clause-reads t c = list_ends c.loop-next.invariant.turns c.in_ok-next.ensures (ap Ok c.in-Found.is)

pub list-elem-requires : goal.list-elem-requires
list-elem-requires t c = let k = list_here c.loop-next.invariant.turns c.in_ok-next.ensures (ap Ok c.in-Missing.is) in search rules

pub list-returns-in_err-r-in-Missing-clause-reads : goal.list-returns-in_err-r-in-Missing-clause-reads
list-returns-in_err-r-in-Missing-clause-reads t c = lists_exit _ c.from_residual-in_err-r-in-Missing.ensures (list_refused c.loop-next.invariant.turns c.in_ok-next.ensures (ap Ok c.in-Missing.is) c.in_err-r-in-Missing.ensures.reads refl)

pub list-overflow_add-count : goal.list-overflow_add-count
list-overflow_add-count t c = let z = list_counts c.loop-next.invariant.turns in omega arith

pub list-follow_of-requires : goal.list-follow_of-requires
list-follow_of-requires t c = (list_next c.loop-next.invariant.turns c.in_ok-next.ensures (ap Ok c.in-Missing.is) c.in_ok-r-in-Missing.ensures.reads refl).stands

pub list-returns-in_err-next-in-Missing-clause-reads : goal.list-returns-in_err-next-in-Missing-clause-reads
list-returns-in_err-next-in-Missing-clause-reads t c = lists_exit _ c.from_residual-in_err-next-in-Missing.ensures (list_follow_halts c.loop-next.invariant.turns c.in_ok-next.ensures (ap Ok c.in-Missing.is) c.in_ok-r-in-Missing.ensures.reads refl c.in_err-next-in-Missing.ensures refl)

pub list-returns-in-Found-2-clause-reads : goal.list-returns-in-Found-2-clause-reads
list-returns-in-Found-2-clause-reads t c = list_follow_ends c.loop-next.invariant.turns c.in_ok-next.ensures (ap Ok c.in-Missing.is) c.in_ok-r-in-Missing.ensures.reads refl c.in_ok-next-in-Missing.ensures (ap Ok c.in-Found-2.is)

pub list-loop-next-smaller : goal.list-loop-next-smaller
list-loop-next-smaller t c = list_less c.loop-next.invariant.turns c.in_ok-next.ensures (ap Ok c.in-Missing.is) c.in_ok-r-in-Missing.ensures.reads refl c.in_ok-next-in-Missing.ensures (ap Ok c.in-Missing-2.is)

pub list-loop-next-preserved : goal.list-loop-next-preserved
list-loop-next-preserved t c = record { lent = cc; turns = list_again c.loop-next.invariant.turns c.in_ok-next.ensures (ap Ok c.in-Missing.is) c.in_ok-r-in-Missing.ensures.reads refl c.in_ok-next-in-Missing.ensures (ap Ok c.in-Missing-2.is) }

pub pair-key_at-requires : goal.pair-key_at-requires
pair-key_at-requires t c = c.requires.0.stands

pub pair-returns-in_err-key-clause-reads : goal.pair-returns-in_err-key-clause-reads
pair-returns-in_err-key-clause-reads t c = paired_exit _ c.from_residual.ensures (pair_fails c.requires.0 c.requires.1 c.in_err-key.ensures refl)

pub pair-compare_key-requires : goal.pair-compare_key-requires
pair-compare_key-requires t c = (let z = c.requires.0.short in omega arith, c.requires.1.chained)

pub pair-returns-in_err-compare_key-clause-reads : goal.pair-returns-in_err-compare_key-clause-reads
pair-returns-in_err-compare_key-clause-reads t c = paired_exit _ c.from_residual-in_err-compare_key.ensures (rw c.compare_key.ensures.same (pair_clashes c.requires.0 c.requires.1 c.in_ok-key.ensures refl c.in_err-compare_key.ensures.compared refl))

pub pair-value-requires : goal.pair-value-requires
pair-value-requires t c = let k = pair_ready c.requires.0 c.requires.1 c.in_ok-key.ensures refl c.in_ok-compare_key.ensures.compared refl in (search rules, rw c.compare_key.ensures.same k)

pub pair-returns-in_err-q-clause-reads : goal.pair-returns-in_err-q-clause-reads
pair-returns-in_err-q-clause-reads t c = let d = rw c.compare_key.ensures.same at c.in_err-q.ensures.reads in paired_exit _ c.from_residual-in_err-q.ensures (pair_stops c.requires.0 c.requires.1 c.in_ok-key.ensures refl c.in_ok-compare_key.ensures.compared refl d refl)

pub pair-pair_row-made-requires : goal.pair-pair_row-made-requires
pair-pair_row-made-requires t c = taken_packs c.requires.0 (key_taken c.requires.0.stands c.in_ok-key.ensures refl)

pub pair-make-requires : goal.pair-make-requires
pair-make-requires t c = let d = rw c.compare_key.ensures.same at c.in_ok-q.ensures.reads in (ready_then (pair_ready c.requires.0 c.requires.1 c.in_ok-key.ensures refl c.in_ok-compare_key.ensures.compared refl) refl d).lent

pub pair-returns-clause-reads : goal.pair-returns-clause-reads
pair-returns-clause-reads t c = let d = rw c.compare_key.ensures.same at c.in_ok-q.ensures.reads in pair_made c.requires.0 c.requires.1 c.in_ok-key.ensures refl c.in_ok-compare_key.ensures.compared refl d refl c.pair_row-made.ensures c.make.ensures.makes

pub value-sign-requires : goal.value-sign-requires
value-sign-requires t c = c.requires.stands

pub value-returns-in_err-next-clause-reads : goal.value-returns-in_err-next-clause-reads
value-returns-in_err-next-clause-reads t c = reads_exit _ c.from_residual.ensures (value_halts c.args.from c.requires c.in_err-next.ensures refl)

pub value-expr-requires : goal.value-expr-requires
value-expr-requires t c = let k = ready_found c.args.at 58 c.in_ok-next.ensures c.requires (ap Ok c.in-Found.is) in search rules

pub value-make-requires : goal.value-make-requires
value-make-requires t c = c.requires.lent

pub value-returns-in-Found-clause-reads : goal.value-returns-in-Found-clause-reads
value-returns-in-Found-clause-reads t c = value_read c.args.from c.requires c.in_ok-next.ensures (ap Ok c.in-Found.is) c.expr.ensures.reads

pub value-returns-in-Missing-clause-reads : goal.value-returns-in-Missing-clause-reads
value-returns-in-Missing-clause-reads t c = value_implied c.args.from c.requires c.in_ok-next.ensures (ap Ok c.in-Missing.is) c.row-made.ensures c.make.ensures.makes

-- ---- functions

pub block-loop-next-init : goal.block-loop-next-init
block-loop-next-init t c = record { lent = refl; turns = block_first c.requires }

pub block-end_of-requires : goal.block-end_of-requires
block-end_of-requires t c = c.loop-next.invariant.turns.ready.stands

pub block-returns-in_err-next-clause-reads : goal.block-returns-in_err-next-clause-reads
block-returns-in_err-next-clause-reads t c = reads_exit _ c.from_residual.ensures (block_halts c.loop-next.invariant.turns c.in_err-next.ensures refl)

pub block-make-requires : goal.block-make-requires
block-make-requires t c = c.loop-next.invariant.turns.ready.lent

pub block-returns-in-Found-clause-reads : goal.block-returns-in-Found-clause-reads
block-returns-in-Found-clause-reads t c = block_ends c.loop-next.invariant.turns c.in_ok-next.ensures (ap Ok c.in-Found.is) c.row-made.ensures c.make.ensures.makes

pub block-statement-requires : goal.block-statement-requires
block-statement-requires t c = let k = block_here c.loop-next.invariant.turns c.in_ok-next.ensures (ap Ok c.in-Missing.is) in search rules

pub block-returns-in_err-r-in-Missing-clause-reads : goal.block-returns-in_err-r-in-Missing-clause-reads
block-returns-in_err-r-in-Missing-clause-reads t c = reads_exit _ c.from_residual-in_err-r-in-Missing.ensures (block_stops c.loop-next.invariant.turns c.in_ok-next.ensures (ap Ok c.in-Missing.is) c.in_err-r-in-Missing.ensures.reads refl)

pub block-stated-requires : goal.block-stated-requires
block-stated-requires t c = room_of (block_next c.loop-next.invariant.turns c.in_ok-next.ensures (ap Ok c.in-Missing.is) c.in_ok-r-in-Missing.ensures.reads refl)

pub block-returns-in_err-here-in-Missing-clause-reads : goal.block-returns-in_err-here-in-Missing-clause-reads
block-returns-in_err-here-in-Missing-clause-reads t c = reads_exit _ c.from_residual-in_err-here-in-Missing.ensures (block_full c.loop-next.invariant.turns c.in_ok-next.ensures (ap Ok c.in-Missing.is) c.in_ok-r-in-Missing.ensures.reads refl c.in_err-here-in-Missing.ensures.acts refl)

pub block-loop-next-smaller : goal.block-loop-next-smaller
block-loop-next-smaller t c = block_less c.loop-next.invariant.turns c.in_ok-next.ensures (ap Ok c.in-Missing.is) c.in_ok-r-in-Missing.ensures.reads refl c.in_ok-here-in-Missing.ensures.acts refl

pub block-loop-next-preserved : goal.block-loop-next-preserved
block-loop-next-preserved t c = record { lent = cc; turns = block_again c.loop-next.invariant.turns c.in_ok-next.ensures (ap Ok c.in-Missing.is) c.in_ok-r-in-Missing.ensures.reads refl c.in_ok-here-in-Missing.ensures.acts refl }

pub func-returns-then-left-eq0-clause-reads : goal.func-returns-then-left-eq0-clause-reads
func-returns-then-left-eq0-clause-reads t c = refuses (too_deep c.if-left-eq0.true)

pub func-need-requires : goal.func-need-requires
func-need-requires t c = c.requires.stands

pub func-returns-in_err-round-clause-reads : goal.func-returns-in_err-round-clause-reads
func-returns-in_err-round-clause-reads t c = reads_exit _ c.from_residual.ensures (function_fails c.if-left-eq0.false c.requires c.in_err-round.ensures refl)

pub func-parameters-requires : goal.func-parameters-requires
func-parameters-requires t c = ready_need c.args.at 40 c.in_ok-round.ensures c.requires refl

pub func-returns-in_err-params-clause-reads : goal.func-returns-in_err-params-clause-reads
func-returns-in_err-params-clause-reads t c = reads_exit _ c.from_residual-in_err-params.ensures (function_refused c.if-left-eq0.false c.requires c.in_ok-round.ensures refl c.in_err-params.ensures.acts refl)

pub func-need-requires-2 : goal.func-need-requires-2
func-need-requires-2 t c = (params_ready c.in_ok-params.ensures.acts refl c.requires).stands

pub func-returns-in_err-brace-clause-reads : goal.func-returns-in_err-brace-clause-reads
func-returns-in_err-brace-clause-reads t c = reads_exit _ c.from_residual-in_err-brace.ensures (function_bare c.if-left-eq0.false c.requires c.in_ok-round.ensures refl c.in_ok-params.ensures.acts refl c.in_err-brace.ensures refl)

pub func-block-requires : goal.func-block-requires
func-block-requires t c = let k = (ready_need c.in_ok-params.params.at 123 c.in_ok-brace.ensures (params_ready c.in_ok-params.ensures.acts refl c.requires) refl) in let n = c.if-left-eq0.false in search rules

pub func-returns-in_err-q-clause-reads : goal.func-returns-in_err-q-clause-reads
func-returns-in_err-q-clause-reads t c = reads_exit _ c.from_residual-in_err-q.ensures (function_stops c.if-left-eq0.false c.requires c.in_ok-round.ensures refl c.in_ok-params.ensures.acts refl c.in_ok-brace.ensures refl c.in_err-q.ensures.reads refl)

pub func-make_fun-requires : goal.func-make_fun-requires
func-make_fun-requires t c = room_of (ready_then (ready_need c.in_ok-params.params.at 123 c.in_ok-brace.ensures (params_ready c.in_ok-params.ensures.acts refl c.requires) refl) refl c.in_ok-q.ensures.reads)

pub func-returns-clause-reads : goal.func-returns-clause-reads
func-returns-clause-reads t c = function_made c.if-left-eq0.false c.requires c.in_ok-round.ensures refl c.in_ok-params.ensures.acts refl c.in_ok-brace.ensures refl c.in_ok-q.ensures.reads refl c.make_fun.ensures.acts

pub lambda-returns-then-left-eq0-clause-reads : goal.lambda-returns-then-left-eq0-clause-reads
lambda-returns-then-left-eq0-clause-reads t c = refuses (too_deep c.if-left-eq0.true)

pub lambda-on-after-requires : goal.lambda-on-after-requires
lambda-on-after-requires t c = bar_room c.requires.1

pub lambda-parameters-requires : goal.lambda-parameters-requires
lambda-parameters-requires t c = bar_ready c.requires.0 c.requires.1 c.on-after.ensures

pub lambda-returns-in_err-params-clause-reads : goal.lambda-returns-in_err-params-clause-reads
lambda-returns-in_err-params-clause-reads t c = reads_exit _ c.from_residual.ensures (lambda_refused c.if-left-eq0.false c.on-after.ensures c.in_err-params.ensures.acts refl)

pub lambda-result-requires : goal.lambda-result-requires
lambda-result-requires t c = let k = (params_ready c.in_ok-params.ensures.acts refl c.requires.0) in search rules

pub lambda-returns-in_err-q-clause-reads : goal.lambda-returns-in_err-q-clause-reads
lambda-returns-in_err-q-clause-reads t c = reads_exit _ c.from_residual-in_err-q.ensures (lambda_stops c.if-left-eq0.false c.on-after.ensures c.in_ok-params.ensures.acts refl c.in_err-q.ensures.reads refl)

pub lambda-make_fun-requires : goal.lambda-make_fun-requires
lambda-make_fun-requires t c = room_of (ready_then (params_ready c.in_ok-params.ensures.acts refl c.requires.0) refl c.in_ok-q.ensures.reads)

pub lambda-returns-clause-reads : goal.lambda-returns-clause-reads
lambda-returns-clause-reads t c = lambda_made c.if-left-eq0.false c.on-after.ensures c.in_ok-params.ensures.acts refl c.in_ok-q.ensures.reads (params_ready c.in_ok-params.ensures.acts refl c.requires.0) refl c.make_fun.ensures.acts

pub result-sign-requires : goal.result-sign-requires
result-sign-requires t c = c.requires.stands

pub result-returns-in_err-here-clause-reads : goal.result-returns-in_err-here-clause-reads
result-returns-in_err-here-clause-reads t c = reads_exit _ c.from_residual.ensures (result_halts c.args.from c.requires c.in_err-here.ensures refl)

pub result-block-requires : goal.result-block-requires
result-block-requires t c = let k = ready_found c.args.at 123 c.in_ok-here.ensures c.requires (ap Ok c.in-Found.is) in search rules

pub result-expr-requires : goal.result-expr-requires
result-expr-requires t c = let k = (ready_missing c.args.at 123 c.in_ok-here.ensures c.requires (ap Ok c.in-Missing.is)) in search rules

pub result-returns-in_err-q-in-Missing-clause-reads : goal.result-returns-in_err-q-in-Missing-clause-reads
result-returns-in_err-q-in-Missing-clause-reads t c = reads_exit _ c.from_residual-in_err-q-in-Missing.ensures (result_stops c.args.from c.requires c.in_ok-here.ensures (ap Ok c.in-Missing.is) c.in_err-q-in-Missing.ensures.reads refl)

pub result-make-requires : goal.result-make-requires
result-make-requires t c = (ready_then (ready_missing c.args.at 123 c.in_ok-here.ensures c.requires (ap Ok c.in-Missing.is)) refl c.in_ok-q-in-Missing.ensures.reads).lent

pub result-returns-in-Found-clause-reads : goal.result-returns-in-Found-clause-reads
result-returns-in-Found-clause-reads t c = result_block c.args.from c.requires c.in_ok-here.ensures (ap Ok c.in-Found.is) c.block.ensures.reads

pub result-returns-in_ok-q-in-Missing-clause-reads : goal.result-returns-in_ok-q-in-Missing-clause-reads
result-returns-in_ok-q-in-Missing-clause-reads t c = result_made c.args.from c.requires c.in_ok-here.ensures (ap Ok c.in-Missing.is) c.in_ok-q-in-Missing.ensures.reads refl c.row-made.ensures c.make.ensures.makes

-- ---- statements

pub asserts-returns-in_err-q-clause-reads : goal.asserts-returns-in_err-q-clause-reads
asserts-returns-in_err-q-clause-reads t c = reads_exit _ c.from_residual.ensures (assert_stops c.args.from c.in_err-q.ensures.reads refl)

pub asserts-need-requires : goal.asserts-need-requires
asserts-need-requires t c = (read_ends refl c.in_ok-q.ensures.reads).reached.stands

pub asserts-make-requires : goal.asserts-make-requires
asserts-make-requires t c = (ready_then c.requires refl c.in_ok-q.ensures.reads).lent

pub asserts-returns-in_err-end-clause-reads : goal.asserts-returns-in_err-end-clause-reads
asserts-returns-in_err-end-clause-reads t c = reads_exit _ c.from_residual-in_err-end.ensures (assert_fails c.args.from c.in_ok-q.ensures.reads refl c.in_err-end.ensures refl)

pub asserts-returns-clause-reads : goal.asserts-returns-clause-reads
asserts-returns-clause-reads t c = assert_read c.args.from c.in_ok-q.ensures.reads refl c.in_ok-end.ensures c.requires refl c.row-made.ensures c.make.ensures.makes

pub body-returns-in_err-q-clause-reads : goal.body-returns-in_err-q-clause-reads
body-returns-in_err-q-clause-reads t c = reads_exit _ c.from_residual.ensures (body_stops c.in_err-q.ensures.reads refl)

pub body-kind_of-kind-requires : goal.body-kind_of-kind-requires
body-kind_of-kind-requires t c = read_stored c.requires refl c.in_ok-q.ensures.reads

pub body-position_of-position-requires : goal.body-position_of-position-requires
body-position_of-position-requires t c = read_stored c.requires refl c.in_ok-q.ensures.reads

pub body-returns-then-kind-clause-reads : goal.body-returns-then-kind-clause-reads
body-returns-then-kind-clause-reads t c = body_declares c.in_ok-q.ensures.reads refl c.kind_of-kind.ensures c.if-kind.true c.position_of-position.ensures

pub body-returns-clause-reads : goal.body-returns-clause-reads
body-returns-clause-reads t c = body_read c.in_ok-q.ensures.reads refl c.kind_of-kind.ensures c.if-kind.false

pub cond-returns-in_err-round-clause-reads : goal.cond-returns-in_err-round-clause-reads
cond-returns-in_err-round-clause-reads t c = reads_exit _ c.from_residual.ensures (condition_fails c.requires c.in_err-round.ensures refl)

pub cond-paren-requires : goal.cond-paren-requires
cond-paren-requires t c = (search rules, ready_need c.args.at 40 c.in_ok-round.ensures c.requires refl)

pub cond-returns-clause-reads : goal.cond-returns-clause-reads
cond-returns-clause-reads t c = condition_read c.requires c.in_ok-round.ensures refl c.paren.ensures.reads

pub elses-returns-in_err-here-clause-reads : goal.elses-returns-in_err-here-clause-reads
elses-returns-in_err-here-clause-reads t c = reads_exit _ c.from_residual.ensures (else_halts c.requires c.in_err-here.ensures c.args.from c.args.test c.args.first refl)

pub elses-body-requires : goal.elses-body-requires
elses-body-requires t c = (search rules, else_ready c.requires c.in_ok-here.ensures (ap Ok c.in-Found.is))

pub elses-returns-in_err-q-in-Found-clause-reads : goal.elses-returns-in_err-q-in-Found-clause-reads
elses-returns-in_err-q-in-Found-clause-reads t c = reads_exit _ c.from_residual-in_err-q-in-Found.ensures (else_stops c.requires c.in_ok-here.ensures (ap Ok c.in-Found.is) c.args.from c.args.test c.args.first c.in_err-q-in-Found.ensures.reads refl)

pub elses-make-requires-in-Found : goal.elses-make-requires-in-Found
elses-make-requires-in-Found t c = (ready_then (else_ready c.requires c.in_ok-here.ensures (ap Ok c.in-Found.is)) refl c.in_ok-q-in-Found.ensures.reads).lent

pub elses-returns-in-Missing-clause-reads : goal.elses-returns-in-Missing-clause-reads
elses-returns-in-Missing-clause-reads t c = else_none c.requires c.in_ok-here.ensures c.args.from c.args.test c.args.first (ap Ok c.in-Missing.is) c.row-made.ensures c.make.ensures.makes

pub elses-returns-in_ok-q-in-Found-clause-reads : goal.elses-returns-in_ok-q-in-Found-clause-reads
elses-returns-in_ok-q-in-Found-clause-reads t c = else_read c.requires c.in_ok-here.ensures (ap Ok c.in-Found.is) c.args.from c.args.test c.args.first c.in_ok-q-in-Found.ensures.reads refl c.row-made-in-Found.ensures c.make-in-Found.ensures.makes

pub funs-returns-in_err-name-clause-reads : goal.funs-returns-in_err-name-clause-reads
funs-returns-in_err-name-clause-reads t c = reads_exit _ c.from_residual.ensures (fun_fails c.requires c.in_err-name.ensures c.args.from refl)

pub funs-name_word-word-requires : goal.funs-name_word-word-requires
funs-name_word-word-requires t c = fun_packs c.requires c.in_ok-name.ensures refl

pub funs-func-requires : goal.funs-func-requires
funs-func-requires t c = (search rules, fun_ready c.requires c.in_ok-name.ensures refl)

pub funs-returns-in_err-q-clause-reads : goal.funs-returns-in_err-q-clause-reads
funs-returns-in_err-q-clause-reads t c = reads_exit _ c.from_residual-in_err-q.ensures (fun_stops c.requires c.in_ok-name.ensures refl c.args.from c.name_word-word.ensures c.in_err-q.ensures.reads refl)

pub funs-make-requires : goal.funs-make-requires
funs-make-requires t c = (ready_then (fun_ready c.requires c.in_ok-name.ensures refl) refl c.in_ok-q.ensures.reads).lent

pub funs-returns-in_err-r-clause-reads : goal.funs-returns-in_err-r-clause-reads
funs-returns-in_err-r-clause-reads t c = reads_exit _ c.from_residual-in_err-r.ensures (fun_full c.requires c.in_ok-name.ensures refl c.args.from c.name_word-word.ensures c.in_ok-q.ensures.reads refl c.row-closure.ensures c.in_err-r.ensures.makes refl)

pub funs-make-requires-2 : goal.funs-make-requires-2
funs-make-requires-2 t c = (fun_closed c.requires c.in_ok-name.ensures refl c.args.from c.name_word-word.ensures c.in_ok-q.ensures.reads refl c.row-closure.ensures c.in_ok-r.ensures.makes refl).lent

pub funs-returns-clause-reads : goal.funs-returns-clause-reads
funs-returns-clause-reads t c = fun_read c.requires c.in_ok-name.ensures refl c.args.from c.name_word-word.ensures c.in_ok-q.ensures.reads refl c.row-closure.ensures c.in_ok-r.ensures.makes refl c.row-made.ensures c.make-2.ensures.makes

pub ifs-returns-in_err-q-clause-reads : goal.ifs-returns-in_err-q-clause-reads
ifs-returns-in_err-q-clause-reads t c = reads_exit _ c.from_residual.ensures (if_stops c.args.from c.in_err-q.ensures.reads refl)

pub ifs-body-requires : goal.ifs-body-requires
ifs-body-requires t c = (search rules, ready_then c.requires refl c.in_ok-q.ensures.reads)

pub ifs-returns-in_err-r-clause-reads : goal.ifs-returns-in_err-r-clause-reads
ifs-returns-in_err-r-clause-reads t c = reads_exit _ c.from_residual-in_err-r.ensures (if_body_stops c.args.from c.in_ok-q.ensures.reads refl c.in_err-r.ensures.reads refl)

pub ifs-elses-requires : goal.ifs-elses-requires
ifs-elses-requires t c = (search rules, ready_then (ready_then c.requires refl c.in_ok-q.ensures.reads) refl c.in_ok-r.ensures.reads)

pub ifs-returns-clause-reads : goal.ifs-returns-clause-reads
ifs-returns-clause-reads t c = if_read c.args.from c.in_ok-q.ensures.reads refl c.in_ok-r.ensures.reads refl c.elses.ensures.reads

pub lets-returns-in_err-head-clause-reads : goal.lets-returns-in_err-head-clause-reads
lets-returns-in_err-head-clause-reads t c = reads_exit _ c.from_residual.ensures (let_wrong c.requires c.in_err-head.ensures c.args.from refl)

pub lets-expr-requires : goal.lets-expr-requires
lets-expr-requires t c = (search rules, let_ready c.requires c.in_ok-head.ensures refl)

pub lets-returns-in_err-q-clause-reads : goal.lets-returns-in_err-q-clause-reads
lets-returns-in_err-q-clause-reads t c = reads_exit _ c.from_residual-in_err-q.ensures (let_stops c.requires c.in_ok-head.ensures refl c.args.from c.in_err-q.ensures.reads refl)

pub lets-need-requires : goal.lets-need-requires
lets-need-requires t c = (read_ends refl c.in_ok-q.ensures.reads).reached.stands

pub lets-make-requires : goal.lets-make-requires
lets-make-requires t c = (ready_then (let_ready c.requires c.in_ok-head.ensures refl) refl c.in_ok-q.ensures.reads).lent

pub lets-returns-in_err-end-clause-reads : goal.lets-returns-in_err-end-clause-reads
lets-returns-in_err-end-clause-reads t c = reads_exit _ c.from_residual-in_err-end.ensures (let_fails c.requires c.in_ok-head.ensures refl c.args.from c.in_ok-q.ensures.reads refl c.in_err-end.ensures refl)

pub lets-returns-clause-reads : goal.lets-returns-clause-reads
lets-returns-clause-reads t c = let_read c.requires c.in_ok-head.ensures refl c.args.from c.in_ok-q.ensures.reads refl c.in_ok-end.ensures refl c.row-made.ensures c.make.ensures.makes

pub loops-returns-in_err-q-clause-reads : goal.loops-returns-in_err-q-clause-reads
loops-returns-in_err-q-clause-reads t c = reads_exit _ c.from_residual.ensures (loop_stops c.args.from c.in_err-q.ensures.reads refl)

pub loops-make_for-requires : goal.loops-make_for-requires
loops-make_for-requires t c = room_of (ready_then c.requires refl c.in_ok-q.ensures.reads)

pub loops-returns-clause-reads : goal.loops-returns-clause-reads
loops-returns-clause-reads t c = loop_read c.args.from c.in_ok-q.ensures.reads c.requires refl c.make_for.ensures.acts

pub rets-returns-in_err-next-clause-reads : goal.rets-returns-in_err-next-clause-reads
rets-returns-in_err-next-clause-reads t c = reads_exit _ c.from_residual.ensures (return_halts c.requires c.in_err-next.ensures c.args.from refl)

pub rets-returns-in_err-q-in-Found-clause-reads : goal.rets-returns-in_err-q-in-Found-clause-reads
rets-returns-in_err-q-in-Found-clause-reads t c = reads_exit _ c.from_residual-in_err-q-in-Found.ensures (return_full c.requires c.in_ok-next.ensures (ap Ok c.in-Found.is) c.args.from c.row-nil.ensures c.in_err-q-in-Found.ensures.makes refl)

pub rets-make-requires-in-Found : goal.rets-make-requires-in-Found
rets-make-requires-in-Found t c = (return_made c.requires c.in_ok-next.ensures (ap Ok c.in-Found.is) c.args.from c.row-nil.ensures c.in_ok-q-in-Found.ensures.makes refl).lent

pub rets-returns-in_ok-q-in-Found-clause-reads : goal.rets-returns-in_ok-q-in-Found-clause-reads
rets-returns-in_ok-q-in-Found-clause-reads t c = return_nil c.requires c.in_ok-next.ensures (ap Ok c.in-Found.is) c.args.from c.row-nil.ensures c.in_ok-q-in-Found.ensures.makes refl c.row-made.ensures c.make-in-Found.ensures.makes

pub rets-expr-requires : goal.rets-expr-requires
rets-expr-requires t c = (search rules, return_ready c.requires c.in_ok-next.ensures (ap Ok c.in-Missing.is))

pub rets-returns-in_err-q-in-Missing-clause-reads : goal.rets-returns-in_err-q-in-Missing-clause-reads
rets-returns-in_err-q-in-Missing-clause-reads t c = reads_exit _ c.from_residual-in_err-q-in-Missing.ensures (return_stops c.requires c.in_ok-next.ensures (ap Ok c.in-Missing.is) c.args.from c.in_err-q-in-Missing.ensures.reads refl)

pub rets-need-requires : goal.rets-need-requires
rets-need-requires t c = (read_ends refl c.in_ok-q-in-Missing.ensures.reads).reached.stands

pub rets-make-requires-in-Missing : goal.rets-make-requires-in-Missing
rets-make-requires-in-Missing t c = (ready_then (return_ready c.requires c.in_ok-next.ensures (ap Ok c.in-Missing.is)) refl c.in_ok-q-in-Missing.ensures.reads).lent

pub rets-returns-in_err-end-in-Missing-clause-reads : goal.rets-returns-in_err-end-in-Missing-clause-reads
rets-returns-in_err-end-in-Missing-clause-reads t c = reads_exit _ c.from_residual-in_err-end-in-Missing.ensures (return_fails c.requires c.in_ok-next.ensures (ap Ok c.in-Missing.is) c.args.from c.in_ok-q-in-Missing.ensures.reads refl c.in_err-end-in-Missing.ensures refl)

pub rets-returns-in_ok-end-in-Missing-clause-reads : goal.rets-returns-in_ok-end-in-Missing-clause-reads
rets-returns-in_ok-end-in-Missing-clause-reads t c = return_read c.requires c.in_ok-next.ensures (ap Ok c.in-Missing.is) c.args.from c.in_ok-q-in-Missing.ensures.reads refl c.in_ok-end-in-Missing.ensures refl c.row-made-in-Missing.ensures c.make-in-Missing.ensures.makes

pub statement-returns-then-left-eq0-clause-reads : goal.statement-returns-then-left-eq0-clause-reads
statement-returns-then-left-eq0-clause-reads t c = refuses (too_deep c.if-left-eq0.true)

pub statement-returns-in_err-here-clause-reads : goal.statement-returns-in_err-here-clause-reads
statement-returns-in_err-here-clause-reads t c = reads_exit _ c.from_residual.ensures (statement_read c.requires c.in_err-here.ensures refl c.if-left-eq0.false (refuses by_stop))

pub statement-assign-requires : goal.statement-assign-requires
statement-assign-requires t c = (search rules, statement_ready c.requires c.in_ok-here.ensures (ap Ok c.in-ExprOrAssign.is))

pub statement-lets-requires : goal.statement-lets-requires
statement-lets-requires t c = (search rules, statement_ready c.requires c.in_ok-here.ensures (ap Ok c.in-Let.is))

pub statement-ifs-requires : goal.statement-ifs-requires
statement-ifs-requires t c = (search rules, statement_ready c.requires c.in_ok-here.ensures (ap Ok c.in-If.is))

pub statement-rets-requires : goal.statement-rets-requires
statement-rets-requires t c = (search rules, statement_ready c.requires c.in_ok-here.ensures (ap Ok c.in-Return.is))

pub statement-block-requires : goal.statement-block-requires
statement-block-requires t c = (search rules, statement_ready c.requires c.in_ok-here.ensures (ap Ok c.in-Block.is))

pub statement-fors-requires : goal.statement-fors-requires
statement-fors-requires t c = (search rules, statement_ready c.requires c.in_ok-here.ensures (ap Ok c.in-For.is))

pub statement-whiles-requires : goal.statement-whiles-requires
statement-whiles-requires t c = (search rules, statement_ready c.requires c.in_ok-here.ensures (ap Ok c.in-While.is))

pub statement-funs-requires : goal.statement-funs-requires
statement-funs-requires t c = (search rules, statement_ready c.requires c.in_ok-here.ensures (ap Ok c.in-Fun.is))

pub statement-loops-requires : goal.statement-loops-requires
statement-loops-requires t c = (search rules, statement_ready c.requires c.in_ok-here.ensures (ap Ok c.in-Loop.is))

pub statement-asserts-requires : goal.statement-asserts-requires
statement-asserts-requires t c = (search rules, statement_ready c.requires c.in_ok-here.ensures (ap Ok c.in-Assert.is))

pub statement-jump-requires : goal.statement-jump-requires
statement-jump-requires t c = statement_ready c.requires c.in_ok-here.ensures (ap Ok c.in-Break.is)

pub statement-jump-requires-in-Continue : goal.statement-jump-requires-in-Continue
statement-jump-requires-in-Continue t c = statement_ready c.requires c.in_ok-here.ensures (ap Ok c.in-Continue.is)

pub statement-returns-in-ExprOrAssign-clause-reads : goal.statement-returns-in-ExprOrAssign-clause-reads
statement-returns-in-ExprOrAssign-clause-reads t c = statement_read c.requires c.in_ok-here.ensures (ap Ok c.in-ExprOrAssign.is) c.if-left-eq0.false c.assign.ensures.reads

pub statement-returns-in-Let-clause-reads : goal.statement-returns-in-Let-clause-reads
statement-returns-in-Let-clause-reads t c = statement_read c.requires c.in_ok-here.ensures (ap Ok c.in-Let.is) c.if-left-eq0.false c.lets.ensures.reads

pub statement-returns-in-If-clause-reads : goal.statement-returns-in-If-clause-reads
statement-returns-in-If-clause-reads t c = statement_read c.requires c.in_ok-here.ensures (ap Ok c.in-If.is) c.if-left-eq0.false c.ifs.ensures.reads

pub statement-returns-in-Return-clause-reads : goal.statement-returns-in-Return-clause-reads
statement-returns-in-Return-clause-reads t c = statement_read c.requires c.in_ok-here.ensures (ap Ok c.in-Return.is) c.if-left-eq0.false c.rets.ensures.reads

pub statement-returns-in-Block-clause-reads : goal.statement-returns-in-Block-clause-reads
statement-returns-in-Block-clause-reads t c = statement_read c.requires c.in_ok-here.ensures (ap Ok c.in-Block.is) c.if-left-eq0.false c.block.ensures.reads

pub statement-returns-in-For-clause-reads : goal.statement-returns-in-For-clause-reads
statement-returns-in-For-clause-reads t c = statement_read c.requires c.in_ok-here.ensures (ap Ok c.in-For.is) c.if-left-eq0.false c.fors.ensures.reads

pub statement-returns-in-While-clause-reads : goal.statement-returns-in-While-clause-reads
statement-returns-in-While-clause-reads t c = statement_read c.requires c.in_ok-here.ensures (ap Ok c.in-While.is) c.if-left-eq0.false c.whiles.ensures.reads

pub statement-returns-in-Fun-clause-reads : goal.statement-returns-in-Fun-clause-reads
statement-returns-in-Fun-clause-reads t c = statement_read c.requires c.in_ok-here.ensures (ap Ok c.in-Fun.is) c.if-left-eq0.false c.funs.ensures.reads

pub statement-returns-in-Loop-clause-reads : goal.statement-returns-in-Loop-clause-reads
statement-returns-in-Loop-clause-reads t c = statement_read c.requires c.in_ok-here.ensures (ap Ok c.in-Loop.is) c.if-left-eq0.false c.loops.ensures.reads

pub statement-returns-in-Assert-clause-reads : goal.statement-returns-in-Assert-clause-reads
statement-returns-in-Assert-clause-reads t c = statement_read c.requires c.in_ok-here.ensures (ap Ok c.in-Assert.is) c.if-left-eq0.false c.asserts.ensures.reads

pub statement-returns-in-Break-clause-reads : goal.statement-returns-in-Break-clause-reads
statement-returns-in-Break-clause-reads t c = statement_read c.requires c.in_ok-here.ensures (ap Ok c.in-Break.is) c.if-left-eq0.false (alone_reads c.jump.ensures.acts)

pub statement-returns-in-Continue-clause-reads : goal.statement-returns-in-Continue-clause-reads
statement-returns-in-Continue-clause-reads t c = statement_read c.requires c.in_ok-here.ensures (ap Ok c.in-Continue.is) c.if-left-eq0.false (alone_reads c.jump-in-Continue.ensures.acts)

pub whiles-returns-in_err-q-clause-reads : goal.whiles-returns-in_err-q-clause-reads
whiles-returns-in_err-q-clause-reads t c = reads_exit _ c.from_residual.ensures (while_stops c.args.from c.in_err-q.ensures.reads refl)

pub whiles-body-requires : goal.whiles-body-requires
whiles-body-requires t c = (search rules, ready_then c.requires refl c.in_ok-q.ensures.reads)

pub whiles-returns-in_err-r-clause-reads : goal.whiles-returns-in_err-r-clause-reads
whiles-returns-in_err-r-clause-reads t c = reads_exit _ c.from_residual-in_err-r.ensures (while_body_stops c.args.from c.in_ok-q.ensures.reads refl c.in_err-r.ensures.reads refl)

pub whiles-make_for-requires : goal.whiles-make_for-requires
whiles-make_for-requires t c = room_of (ready_then (ready_then c.requires refl c.in_ok-q.ensures.reads) refl c.in_ok-r.ensures.reads)

pub whiles-returns-clause-reads : goal.whiles-returns-clause-reads
whiles-returns-clause-reads t c = while_read c.args.from c.in_ok-q.ensures.reads refl c.in_ok-r.ensures.reads c.requires refl c.make_for.ensures.acts

-- ---- loops

pub first-sign-requires : goal.first-sign-requires
first-sign-requires t c = c.requires.stands

pub first-returns-in_err-next-clause-reads : goal.first-returns-in_err-next-clause-reads
first-returns-in_err-next-clause-reads t c = parts_exit _ c.from_residual.ensures (as_first (part_halts c.requires 59 c.in_err-next.ensures refl))

pub first-returns-in-Found-clause-reads : goal.first-returns-in-Found-clause-reads
first-returns-in-Found-clause-reads t c = as_first (part_absent c.requires 59 c.in_ok-next.ensures (ap Ok c.in-Found.is))

pub first-statement-requires : goal.first-statement-requires
first-statement-requires t c = (search rules, part_ready c.requires 59 c.in_ok-next.ensures (ap Ok c.in-Missing.is))

pub first-returns-in_err-q-in-Missing-clause-reads : goal.first-returns-in_err-q-in-Missing-clause-reads
first-returns-in_err-q-in-Missing-clause-reads t c = parts_exit _ c.from_residual-in_err-q-in-Missing.ensures (as_first (part_stops c.requires 59 c.in_ok-next.ensures (ap Ok c.in-Missing.is) (omega arith) c.in_err-q-in-Missing.ensures.reads refl))

pub first-returns-in_ok-q-in-Missing-clause-reads : goal.first-returns-in_ok-q-in-Missing-clause-reads
first-returns-in_ok-q-in-Missing-clause-reads t c = as_first (part_read c.requires 59 c.in_ok-next.ensures (ap Ok c.in-Missing.is) (omega arith) c.in_ok-q-in-Missing.ensures.reads refl)

pub fors-need-requires : goal.fors-need-requires
fors-need-requires t c = c.requires.stands

pub fors-returns-in_err-round-clause-reads : goal.fors-returns-in_err-round-clause-reads
fors-returns-in_err-round-clause-reads t c = reads_exit _ c.from_residual.ensures (for_lacks c.args.from c.in_err-round.ensures refl)

pub fors-first-requires : goal.fors-first-requires
fors-first-requires t c = (search rules, ready_need c.args.at 40 c.in_ok-round.ensures c.requires refl)

pub fors-returns-in_err-one-clause-reads : goal.fors-returns-in_err-one-clause-reads
fors-returns-in_err-one-clause-reads t c = reads_exit _ c.from_residual-in_err-one.ensures (for_told c.args.from c.requires c.in_ok-round.ensures refl c.in_err-one.ensures.reads refl)

pub fors-test-requires : goal.fors-test-requires
fors-test-requires t c = (search rules, parts_ready c.in_ok-one.ensures.reads refl (ready_need c.args.at 40 c.in_ok-round.ensures c.requires refl))

pub fors-returns-in_err-two-clause-reads : goal.fors-returns-in_err-two-clause-reads
fors-returns-in_err-two-clause-reads t c = reads_exit _ c.from_residual-in_err-two.ensures (for_stops c.args.from c.requires c.in_ok-round.ensures refl c.in_ok-one.ensures.reads refl c.in_err-two.ensures.reads refl)

pub fors-round-requires : goal.fors-round-requires
fors-round-requires t c = (search rules, parts_ready c.in_ok-two.ensures.reads refl (parts_ready c.in_ok-one.ensures.reads refl (ready_need c.args.at 40 c.in_ok-round.ensures c.requires refl)))

pub fors-returns-clause-reads : goal.fors-returns-clause-reads
fors-returns-clause-reads t c = for_read c.args.from c.requires c.in_ok-round.ensures refl c.in_ok-one.ensures.reads refl c.in_ok-two.ensures.reads refl c.round.ensures.reads

pub round-returns-in_err-three-clause-reads : goal.round-returns-in_err-three-clause-reads
round-returns-in_err-three-clause-reads t c = reads_exit _ c.from_residual.ensures (round_told c.args.one c.args.two c.args.from c.in_err-three.ensures.reads refl)

pub round-body-requires : goal.round-body-requires
round-body-requires t c = (search rules, parts_ready c.in_ok-three.ensures.reads refl c.requires)

pub round-returns-in_err-q-clause-reads : goal.round-returns-in_err-q-clause-reads
round-returns-in_err-q-clause-reads t c = reads_exit _ c.from_residual-in_err-q.ensures (round_stops c.args.one c.args.two c.args.from c.in_ok-three.ensures.reads refl c.in_err-q.ensures.reads refl)

pub round-make_for-requires : goal.round-make_for-requires
round-make_for-requires t c = room_of (ready_then (parts_ready c.in_ok-three.ensures.reads refl c.requires) refl c.in_ok-q.ensures.reads)

pub round-returns-clause-reads : goal.round-returns-clause-reads
round-returns-clause-reads t c = round_made c.args.one c.args.two c.args.from c.in_ok-three.ensures.reads refl c.in_ok-q.ensures.reads c.requires refl c.make_for.ensures.acts

pub test-sign-requires : goal.test-sign-requires
test-sign-requires t c = c.requires.stands

pub test-returns-in_err-next-clause-reads : goal.test-returns-in_err-next-clause-reads
test-returns-in_err-next-clause-reads t c = parts_exit _ c.from_residual.ensures (as_test (part_halts c.requires 59 c.in_err-next.ensures refl))

pub test-returns-in-Found-clause-reads : goal.test-returns-in-Found-clause-reads
test-returns-in-Found-clause-reads t c = as_test (part_absent c.requires 59 c.in_ok-next.ensures (ap Ok c.in-Found.is))

pub test-expr-requires : goal.test-expr-requires
test-expr-requires t c = (search rules, part_ready c.requires 59 c.in_ok-next.ensures (ap Ok c.in-Missing.is))

pub test-returns-in_err-q-in-Missing-clause-reads : goal.test-returns-in_err-q-in-Missing-clause-reads
test-returns-in_err-q-in-Missing-clause-reads t c = parts_exit _ c.from_residual-in_err-q-in-Missing.ensures (as_test (part_stops c.requires 59 c.in_ok-next.ensures (ap Ok c.in-Missing.is) (omega arith) (ended_stops c.in_err-q-in-Missing.ensures.reads refl) refl))

pub test-need-requires : goal.test-need-requires
test-need-requires t c = (read_ends refl c.in_ok-q-in-Missing.ensures.reads).reached.stands

pub test-returns-in_err-end-in-Missing-clause-reads : goal.test-returns-in_err-end-in-Missing-clause-reads
test-returns-in_err-end-in-Missing-clause-reads t c = parts_exit _ c.from_residual-in_err-end-in-Missing.ensures (as_test (part_stops c.requires 59 c.in_ok-next.ensures (ap Ok c.in-Missing.is) (omega arith) (ended_fails c.in_ok-q-in-Missing.ensures.reads refl c.in_err-end-in-Missing.ensures refl) refl))

pub test-returns-in_ok-end-in-Missing-clause-reads : goal.test-returns-in_ok-end-in-Missing-clause-reads
test-returns-in_ok-end-in-Missing-clause-reads t c = as_test (part_read c.requires 59 c.in_ok-next.ensures (ap Ok c.in-Missing.is) (omega arith) (ended_read c.in_ok-q-in-Missing.ensures.reads refl c.in_ok-end-in-Missing.ensures (part_ready c.requires 59 c.in_ok-next.ensures (ap Ok c.in-Missing.is)) refl) refl)

pub third-sign-requires : goal.third-sign-requires
third-sign-requires t c = c.requires.stands

pub third-returns-in_err-next-clause-reads : goal.third-returns-in_err-next-clause-reads
third-returns-in_err-next-clause-reads t c = parts_exit _ c.from_residual.ensures (as_third (part_halts c.requires 41 c.in_err-next.ensures refl))

pub third-returns-in-Found-clause-reads : goal.third-returns-in-Found-clause-reads
third-returns-in-Found-clause-reads t c = as_third (part_absent c.requires 41 c.in_ok-next.ensures (ap Ok c.in-Found.is))

pub third-assign-requires : goal.third-assign-requires
third-assign-requires t c = (search rules, part_ready c.requires 41 c.in_ok-next.ensures (ap Ok c.in-Missing.is))

pub third-returns-in_err-q-in-Missing-clause-reads : goal.third-returns-in_err-q-in-Missing-clause-reads
third-returns-in_err-q-in-Missing-clause-reads t c = parts_exit _ c.from_residual-in_err-q-in-Missing.ensures (as_third (part_stops c.requires 41 c.in_ok-next.ensures (ap Ok c.in-Missing.is) (omega arith) c.in_err-q-in-Missing.ensures.reads refl))

pub third-returns-in_ok-q-in-Missing-clause-reads : goal.third-returns-in_ok-q-in-Missing-clause-reads
third-returns-in_ok-q-in-Missing-clause-reads t c = as_third (part_read c.requires 41 c.in_ok-next.ensures (ap Ok c.in-Missing.is) (omega arith) c.in_ok-q-in-Missing.ensures.reads refl)

-- ---- assignments

pub assign-step_of-requires : goal.assign-step_of-requires
assign-step_of-requires t c = c.requires.stands

pub assign-returns-in_err-op-clause-reads : goal.assign-returns-in_err-op-clause-reads
assign-returns-in_err-op-clause-reads t c = reads_exit _ c.from_residual.ensures (assign_wrong c.args.end c.requires c.in_err-op.ensures refl)

pub assign-postfix-requires : goal.assign-postfix-requires
assign-postfix-requires t c = (search rules, step_ready c.requires c.in_ok-op.ensures (ap Ok c.in-Step.is))

pub assign-returns-in_err-q-in-Step-clause-reads : goal.assign-returns-in_err-q-in-Step-clause-reads
assign-returns-in_err-q-in-Step-clause-reads t c = reads_exit _ c.from_residual-in_err-q-in-Step.ensures (step_stops c.args.end c.requires c.in_ok-op.ensures (ap Ok c.in-Step.is) c.in_err-q-in-Step.ensures.reads refl)

pub assign-increment-requires : goal.assign-increment-requires
assign-increment-requires t c = begun_then (step_ready c.requires c.in_ok-op.ensures (ap Ok c.in-Step.is)) refl c.in_ok-q-in-Step.ensures.reads

pub assign-returns-in_ok-q-in-Step-clause-reads : goal.assign-returns-in_ok-q-in-Step-clause-reads
assign-returns-in_ok-q-in-Step-clause-reads t c = step_made c.args.end c.requires c.in_ok-op.ensures (ap Ok c.in-Step.is) c.in_ok-q-in-Step.ensures.reads refl c.increment.ensures.acts

pub assign-returns-in_err-q-in-Other-clause-reads : goal.assign-returns-in_err-q-in-Other-clause-reads
assign-returns-in_err-q-in-Other-clause-reads t c = reads_exit _ c.from_residual-in_err-q-in-Other.ensures (assign_stops c.args.end c.requires c.in_ok-op.ensures (ap Ok c.in-Other.is) c.in_err-q-in-Other.ensures.reads refl)

pub assign-store-requires : goal.assign-store-requires
assign-store-requires t c = (search rules, begun_then c.requires refl c.in_ok-q-in-Other.ensures.reads)

pub assign-returns-in_ok-q-in-Other-clause-reads : goal.assign-returns-in_ok-q-in-Other-clause-reads
assign-returns-in_ok-q-in-Other-clause-reads t c = assign_read c.args.end c.requires c.in_ok-op.ensures (ap Ok c.in-Other.is) c.in_ok-q-in-Other.ensures.reads refl c.store.ensures.reads

pub store-kind_of-kind-requires : goal.store-kind_of-kind-requires
store-kind_of-kind-requires t c = last_stored (room_of c.requires.ready) c.requires.some

pub store-assign_of-requires : goal.store-assign_of-requires
store-assign_of-requires t c = c.requires.ready.stands

pub store-need-requires : goal.store-need-requires
store-need-requires t c = c.requires.ready.stands

pub store-returns-in_err-last-in-None-clause-reads : goal.store-returns-in_err-last-in-None-clause-reads
store-returns-in_err-last-in-None-clause-reads t c = reads_exit _ c.from_residual.ensures (do_lacks c.args.end c.args.from c.requires c.kind_of-kind.ensures c.assign_of.ensures c.in-None.is c.in_err-last-in-None.ensures refl)

pub store-position_of-position-requires : goal.store-position_of-position-requires
store-position_of-position-requires t c = last_stored (room_of c.requires.ready) c.requires.some

pub store-returns-then-kind-clause-reads : goal.store-returns-then-kind-clause-reads
store-returns-then-kind-clause-reads t c = do_refused c.args.end c.args.from c.requires c.kind_of-kind.ensures c.assign_of.ensures c.in-None.is c.in_ok-last-in-None.ensures refl c.if-kind.true c.position_of-position.ensures

pub store-make-requires : goal.store-make-requires
store-make-requires t c = c.requires.ready.lent

pub store-returns-else-kind-clause-reads : goal.store-returns-else-kind-clause-reads
store-returns-else-kind-clause-reads t c = do_made c.args.end c.args.from c.requires c.kind_of-kind.ensures c.assign_of.ensures c.in-None.is c.in_ok-last-in-None.ensures refl c.if-kind.false c.row-made.ensures c.make.ensures.makes

pub store-position_of-position-requires-then-not-is_target : goal.store-position_of-position-requires-then-not-is_target
store-position_of-position-requires-then-not-is_target t c = last_stored (room_of c.requires.ready) c.requires.some

pub store-returns-then-not-is_target-clause-reads : goal.store-returns-then-not-is_target-clause-reads
store-returns-then-not-is_target-clause-reads t c = store_refused c.args.end c.args.from c.requires c.kind_of-kind.ensures c.assign_of.ensures c.in-Some.is c.is_target.ensures (not_true _ c.if-not-is_target.true-raw) c.position_of-position-then-not-is_target.ensures

pub store-expr-requires : goal.store-expr-requires
store-expr-requires t c = (search rules, store_ready c.requires c.assign_of.ensures c.in-Some.is)

pub store-returns-in_err-q-in-Some-clause-reads : goal.store-returns-in_err-q-in-Some-clause-reads
store-returns-in_err-q-in-Some-clause-reads t c = reads_exit _ c.from_residual-in_err-q-in-Some.ensures (store_stops c.args.end c.args.from c.requires c.kind_of-kind.ensures c.assign_of.ensures c.in-Some.is c.is_target.ensures (not_false _ c.if-not-is_target.false-raw) c.in_err-q-in-Some.ensures.reads refl)

pub store-need-requires-in-Some : goal.store-need-requires-in-Some
store-need-requires-in-Some t c = (read_ends refl c.in_ok-q-in-Some.ensures.reads).reached.stands

pub store-returns-in_err-last-in-Some-clause-reads : goal.store-returns-in_err-last-in-Some-clause-reads
store-returns-in_err-last-in-Some-clause-reads t c = reads_exit _ c.from_residual-in_err-last-in-Some.ensures (store_lacks c.args.end c.args.from c.requires c.kind_of-kind.ensures c.assign_of.ensures c.in-Some.is c.is_target.ensures (not_false _ c.if-not-is_target.false-raw) c.in_ok-q-in-Some.ensures.reads refl c.in_err-last-in-Some.ensures refl)

pub store-make-requires-then-assignment-eq0 : goal.store-make-requires-then-assignment-eq0
store-make-requires-then-assignment-eq0 t c = (ready_then (store_ready c.requires c.assign_of.ensures c.in-Some.is) refl c.in_ok-q-in-Some.ensures.reads).lent

pub store-returns-then-assignment-eq0-clause-reads : goal.store-returns-then-assignment-eq0-clause-reads
store-returns-then-assignment-eq0-clause-reads t c = store_made c.args.end c.args.from c.requires c.kind_of-kind.ensures c.assign_of.ensures c.in-Some.is c.is_target.ensures (not_false _ c.if-not-is_target.false-raw) c.in_ok-q-in-Some.ensures.reads refl c.in_ok-last-in-Some.ensures refl c.if-assignment-eq0.true c.row-made-then-assignment-eq0.ensures c.make-then-assignment-eq0.ensures.makes

pub store-combine-requires : goal.store-combine-requires
store-combine-requires t c = (room_of (ready_then (store_ready c.requires c.assign_of.ensures c.in-Some.is) refl c.in_ok-q-in-Some.ensures.reads), c.requires.some, target_made refl c.in_ok-q-in-Some.ensures.reads)

pub store-returns-else-assignment-eq0-clause-reads : goal.store-returns-else-assignment-eq0-clause-reads
store-returns-else-assignment-eq0-clause-reads t c = store_combined c.args.end c.args.from c.requires c.kind_of-kind.ensures c.assign_of.ensures c.in-Some.is c.is_target.ensures (not_false _ c.if-not-is_target.false-raw) c.in_ok-q-in-Some.ensures.reads refl c.in_ok-last-in-Some.ensures refl c.if-assignment-eq0.false c.combine.ensures.acts
