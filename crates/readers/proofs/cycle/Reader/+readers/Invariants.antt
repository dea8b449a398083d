-- What falls on the way round the cycle: a factor times the levels left, and a rank; and what its loops keep. Assumes nothing.
use Rattle.std.proofs.Common.{◌+◌, ◌*◌, length, ◌-◌, ◌≡◌}
use Rattle.makers.specs.Laws.Chaining.{Chaining}
use Rattle.readers.specs.Laws.Operands.{Posting}
use Rattle.makers.specs.Laws.NamesRead.{Dicting}
use Rattle.readers.specs.Laws.Lists.{Listing}
use Rattle.readers.specs.Laws.Functions.{Blocking}
use Rattle.readers.proofs.cycle.Reader.+readers.Given as goal

abbrev pub decreases-array : goal.decreases-array
decreases-array l = 10 * l.left + 2

abbrev pub decreases-asserts : goal.decreases-asserts
decreases-asserts l = 10 * l.left + 3

abbrev pub decreases-assign : goal.decreases-assign
decreases-assign l = 10 * l.left + 6

abbrev pub decreases-atom : goal.decreases-atom
decreases-atom l = 10 * l.left + 4

abbrev pub decreases-block : goal.decreases-block
decreases-block l = 10 * l.left + 1

abbrev pub decreases-body : goal.decreases-body
decreases-body l = 10 * l.left + 1

abbrev pub decreases-call : goal.decreases-call
decreases-call l = 10 * l.left + 2

abbrev pub decreases-chain : goal.decreases-chain
decreases-chain l = 10 * l.left + 8

abbrev pub decreases-choice : goal.decreases-choice
decreases-choice l = 10 * l.left + 1

abbrev pub decreases-cond : goal.decreases-cond
decreases-cond l = 10 * l.left + 2

abbrev pub decreases-dict : goal.decreases-dict
decreases-dict l = 10 * l.left + 3

abbrev pub decreases-elem : goal.decreases-elem
decreases-elem l = 10 * l.left

abbrev pub decreases-elses : goal.decreases-elses
decreases-elses l = 10 * l.left + 2

abbrev pub decreases-expr : goal.decreases-expr
decreases-expr l = 10 * l.left

abbrev pub decreases-first : goal.decreases-first
decreases-first l = 10 * l.left + 1

abbrev pub decreases-fors : goal.decreases-fors
decreases-fors l = 10 * l.left + 9

abbrev pub decreases-func : goal.decreases-func
decreases-func l = 10 * l.left

abbrev pub decreases-funs : goal.decreases-funs
decreases-funs l = 10 * l.left + 1

abbrev pub decreases-ifs : goal.decreases-ifs
decreases-ifs l = 10 * l.left + 3

abbrev pub decreases-index : goal.decreases-index
decreases-index l = 10 * l.left + 1

abbrev pub decreases-lambda : goal.decreases-lambda
decreases-lambda l = 10 * l.left

abbrev pub decreases-lets : goal.decreases-lets
decreases-lets l = 10 * l.left + 1

abbrev pub decreases-list : goal.decreases-list
decreases-list l = 10 * l.left + 1

abbrev pub decreases-long : goal.decreases-long
decreases-long l = 10 * l.left + 9

abbrev pub decreases-loops : goal.decreases-loops
decreases-loops l = 10 * l.left + 2

abbrev pub decreases-pair : goal.decreases-pair
decreases-pair l = 10 * l.left + 2

abbrev pub decreases-paren : goal.decreases-paren
decreases-paren l = 10 * l.left + 1

abbrev pub decreases-postfix : goal.decreases-postfix
decreases-postfix l = 10 * l.left + 5

abbrev pub decreases-posts : goal.decreases-posts
decreases-posts l = 10 * l.left + 4

abbrev pub decreases-prefix : goal.decreases-prefix
decreases-prefix l = 10 * l.left + 6

abbrev pub decreases-rest : goal.decreases-rest
decreases-rest l = 10 * l.left + 9

abbrev pub decreases-result : goal.decreases-result
decreases-result l = 10 * l.left + 2

abbrev pub decreases-rets : goal.decreases-rets
decreases-rets l = 10 * l.left + 1

abbrev pub decreases-round : goal.decreases-round
decreases-round l = 10 * l.left + 8

abbrev pub decreases-statement : goal.decreases-statement
decreases-statement l = 10 * l.left

abbrev pub decreases-store : goal.decreases-store
decreases-store l = 10 * l.left + 1

abbrev pub decreases-suffix : goal.decreases-suffix
decreases-suffix l = 10 * l.left + 3

abbrev pub decreases-term : goal.decreases-term
decreases-term l = 10 * l.left + 7

abbrev pub decreases-test : goal.decreases-test
decreases-test l = 10 * l.left + 1

abbrev pub decreases-third : goal.decreases-third
decreases-third l = 10 * l.left + 7

abbrev pub decreases-value : goal.decreases-value
decreases-value l = 10 * l.left + 1

abbrev pub decreases-whiles : goal.decreases-whiles
decreases-whiles l = 10 * l.left + 3

abbrev pub invariant-chain-loop-book : goal.invariant-chain-loop-book
invariant-chain-loop-book l =
    record {
      lent : l.book.pool.ghost_name ≡ l.initial.book.pool.ghost_name;
      turns : Chaining l.self.text.now l.initial.book.pool.now l.self.cap l.self.comps l.left l.assigning l.initial.here l.initial.book.tally l.book.pool.now l.pending l.here l.book.tally;
    }

abbrev pub decreases-chain-loop-book : goal.decreases-chain-loop-book
decreases-chain-loop-book l = length l.self.text.now - l.here.offset

abbrev pub invariant-posts-loop-q : goal.invariant-posts-loop-q
invariant-posts-loop-q l =
    record {
      lent : l.book.pool.ghost_name ≡ l.initial.book.pool.ghost_name;
      turns : Posting l.self.text.now l.initial.book.pool.now l.self.cap l.self.comps l.left l.initial.here l.initial.book.tally l.book.pool.now l.here l.book.tally;
    }

abbrev pub decreases-posts-loop-q : goal.decreases-posts-loop-q
decreases-posts-loop-q l = length l.self.text.now - l.here.offset

abbrev pub invariant-dict-loop-next : goal.invariant-dict-loop-next
invariant-dict-loop-next l =
    record {
      lent : l.book.pool.ghost_name ≡ l.initial.book.pool.ghost_name;
      turns : Dicting l.self.text.now l.initial.book.pool.now l.self.cap l.self.comps l.left l.from l.initial.here l.initial.book.tally l.book.pool.now l.here l.book.tally l.last;
    }

abbrev pub decreases-dict-loop-next : goal.decreases-dict-loop-next
decreases-dict-loop-next l = length l.self.text.now - l.here.offset

abbrev pub invariant-list-loop-next : goal.invariant-list-loop-next
invariant-list-loop-next l =
    record {
      lent : l.book.pool.ghost_name ≡ l.initial.book.pool.ghost_name;
      turns : Listing l.self.text.now l.initial.book.pool.now l.self.cap l.self.comps l.left l.end l.initial.here l.initial.book.tally l.book.pool.now l.here l.book.tally l.last l.count;
    }

abbrev pub decreases-list-loop-next : goal.decreases-list-loop-next
decreases-list-loop-next l = length l.self.text.now - l.here.offset

abbrev pub invariant-block-loop-next : goal.invariant-block-loop-next
invariant-block-loop-next l =
    record {
      lent : l.book.pool.ghost_name ≡ l.initial.book.pool.ghost_name;
      turns : Blocking l.self.text.now l.initial.book.pool.now l.self.cap l.self.comps l.left l.from l.initial.here l.initial.book.tally l.book.pool.now l.here l.book.tally l.last;
    }

abbrev pub decreases-block-loop-next : goal.decreases-block-loop-next
decreases-block-loop-next l = length l.self.text.now - l.here.offset
