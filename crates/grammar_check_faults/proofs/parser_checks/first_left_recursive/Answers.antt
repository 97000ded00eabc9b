use Rattle.std.proofs.Common.{ℕ, List, Vec, Global, IfOk, map, sym, subst}
use Rattle.grammar_tree.specs.Derives.{bodies}
use Rattle.grammar_check_nodes.specs.Flags.{flag}
use Rattle.grammar_check_nodes.specs.First.{IsFirstOrNone}
use Rattle.grammar_check_nodes.specs.Graph.{IsClosed, IsOnCycle}
use Rattle.grammar_check_faults.specs.inner.ParserFaults.{LeadsBackAt}
use Rattle.grammar_check_parser_rules.proofs.Lent.{back_leads, closed, leads_back}
use Rattle.grammar_check_faults.proofs.FirstForms.{ok_first}
use Rattle.grammar_check_faults.proofs.parser_checks.first_left_recursive.Goals as goal

abbrev items : Vec ℕ Global → List ℕ
items v = v.items

pub first_on_cycle-requires-clause-closed : goal.first_on_cycle-requires-clause-closed
first_on_cycle-requires-clause-closed c =
    let P : List (Vec ℕ Global) → Type 0 = λ l. IsClosed (map items l) in
    subst P (sym c.deref.ensures.value) (closed c.args.names.now (flag c.args.flags.now) (map items c.in_ok-edges.edges.items) c.in_ok-edges.ensures)

pub returns : goal.returns
returns c =
    let G = c.args.names.now in
    let edges = map items c.in_ok-edges.edges.items in
    let P : List (Vec ℕ Global) → Type 0 = λ l. IfOk c.first_on_cycle.result (IsFirstOrNone (IsOnCycle (map items l))) in
    ok_first (IsOnCycle edges) (LeadsBackAt (bodies G)) c.first_on_cycle.result (leads_back G c.args.flags.now edges c.requires.empty c.in_ok-edges.ensures)
    (back_leads G c.args.flags.now edges c.requires.empty c.in_ok-edges.ensures)
    (subst P c.deref.ensures.value c.first_on_cycle.ensures)
