use Rattle.std.proofs.Common.{◌∙◌, arith}
use Rattle.lexer_match.specs.Nfa.{Reads}
use Rattle.lexer_match.specs.StateSets.{ReadsFrom}
use Rattle.lexer_match.specs.Table.{IsReached}
use Rattle.lexer_match.proofs.Found.{option_as, reached_as, set_of}
use Rattle.lexer_match.proofs.subsets.Subsets.start.Goals as goal

pub reached-requires-clause-inside : goal.reached-requires-clause-inside
reached-requires-clause-inside c = omega (arith, c.in_ok-begin.ensures.size, c.requires.ready.size, c.requires.state)

pub returns-clause-ready : goal.returns-clause-ready
returns-clause-ready c =
    let made = c.in_ok-begin.ensures in
    let set = set_of c.args.nfa.now c.begin.new.self.states.items c.begin.new.self.marks.items made.marked (made.size ∙ c.requires.ready.size) made.followed in
    record { size = made.size ∙ c.requires.ready.size; marked = made.marked; sets = c.in_ok-reached.ensures.sets c.args.nfa.now set c.requires.ready.sets }

pub returns-clause-start : goal.returns-clause-start
returns-clause-start c =
    let P = c.args.nfa.now in
    let made = c.in_ok-begin.ensures in
    let states = c.begin.new.self.states.items in
    let sets = c.reached.new.self.sets.items in
    let set = set_of P states c.begin.new.self.marks.items made.marked (made.size ∙ c.requires.ready.size) made.followed in
    option_as c.in_ok-reached.reached (IsReached P sets (ReadsFrom P states)) (IsReached P sets (Reads P c.args.state))
    (λ r is. reached_as P sets (ReadsFrom P states) (Reads P c.args.state) r made.reads is) (c.in_ok-reached.ensures.reached P c.requires.live set)
