use Rattle.std.proofs.Common.{ℕ, List, sym, subst}
use Rattle.grammar_tree.specs.Faults.{FragmentLoop}
use Rattle.grammar_tree.specs.GrammarView.{grammar_of}
use Rattle.grammar_check_nodes.specs.First.{IsFirstOrNone}
use Rattle.grammar_check_nodes.specs.Graph.{IsClosed, IsOnCycle}
use Rattle.grammar_check_lexer_rules.specs.Lexer.{lexer_edges}
use Rattle.grammar_check_lexer_rules.proofs.Lent.{closed, loops, uses_itself}
use Rattle.grammar_check_faults.proofs.AnswerForms.{loops_are_rules, named_first}
use Rattle.grammar_check_faults.proofs.FirstForms.{same_first}
use Rattle.grammar_check_faults.proofs.answer.fragment_loop.Goals as goal

pub first_on_cycle-requires-clause-closed : goal.first_on_cycle-requires-clause-closed
first_on_cycle-requires-clause-closed c = let P : List (List ℕ) → Type 0 =
    IsClosed in subst P (sym c.requires.edges) (closed (grammar_of c.args.grammar.now).rules)

pub returns : goal.returns
returns c =
    let G = grammar_of c.args.grammar.now in
    let P : List (List ℕ) → Type 0 = λ l. IsFirstOrNone (IsOnCycle l) c.in_ok-index.index in
    let first =
    same_first (IsOnCycle (lexer_edges G.rules)) (FragmentLoop G) (loops G c.requires.one)
    (λ i h. uses_itself G c.requires.one i h.0 h.1 h.2) c.in_ok-index.index (subst P c.requires.edges c.in_ok-index.ensures) in
    named_first G (FragmentLoop G) (loops_are_rules G) c.in_ok-index.index c.in_ok-name.name c.in_ok-name.ensures first
