use Rattle.std.proofs.Common.{ℕ, List, ◌∙◌, subst}
use Rattle.std.proofs.lemmas.Result.{err_from_is_err_and}
use Rattle.edge_io.specs.Files.{Holds}
use Rattle.reduce_trees_input.specs.Faults.{IsInputFault}
use Rattle.reduce_trees_input.specs.Parsed.{IsParsed, MakesInputOf}
use Rattle.command_words.specs.Lines.{grammar_read}
use Rattle.command_ends.specs.World.{seen}
use Rattle.command_problem.proofs.CallLemmas.{all_read_calls, grammar_calls, input_fault_calls, unread_input_calls}
use Rattle.command_problem.proofs.ReadLemmas.{fault_fails, gives_tree, grammar_fails}
use Rattle.command_problem.proofs.read.read_tree.Goals as goal

pub returns-in-Ok-clause-tree : goal.returns-in-Ok-clause-tree
returns-in-Ok-clause-tree g c =
    let grammar = c.in_ok-checked.checked in
    let bytes = c.in_ok-bytes.bytes.items in
    gives_tree (grammar_read c.args.grammar) c.args.input.now
    (seen g.F.Files.content g.F.Files.faults c.args.files.now) grammar bytes c.in-Ok.found c.in_ok-checked.ensures.grammar
    (subst (Holds bytes) (c.in_ok-checked.ensures.same c.args.input.now) c.in_ok-bytes.ensures.bytes) c.in_ok-bytes.ensures.limit c.is_checked.ensures
    (subst (λ (t : List ℕ). IsParsed grammar t c.in-Ok.found) c.deref.ensures.value c.in-Ok.ensures.parsed)
    (subst (λ (t : List ℕ). MakesInputOf grammar t c.in-Ok.found) c.deref.ensures.value c.in-Ok.ensures.input)

pub returns-in-Err-clause-refused : goal.returns-in-Err-clause-refused
returns-in-Err-clause-refused g c =
    let grammar = c.in_ok-checked.checked in
    let bytes = c.in_ok-bytes.bytes.items in
    fault_fails (grammar_read c.args.grammar) c.args.input.now (seen g.F.Files.content g.F.Files.faults c.args.files.now)
    (seen g.F.Files.content g.F.Files.faults c.read_input.new.files) grammar c.in_ok-checked.ensures.grammar bytes
    (subst (Holds bytes) (c.in_ok-checked.ensures.same c.args.input.now) c.in_ok-bytes.ensures.bytes) c.in_ok-bytes.ensures.limit
    (c.in_ok-bytes.ensures.quiet ∙ c.in_ok-checked.ensures.quiet) c.in-Err.fault
    (subst (λ (t : List ℕ). IsInputFault grammar t c.in-Err.fault) c.deref.ensures.value c.in-Err.ensures.fault) c.of_input.result c.of_input.ensures

pub returns-in_err-checked-clause-refused : goal.returns-in_err-checked-clause-refused
returns-in_err-checked-clause-refused g c =
    let p = err_from_is_err_and c.from_residual.result c.from_residual.ensures.1 in
    rw (p.1, p.2) (grammar_fails (grammar_read c.args.grammar) c.args.input.now (seen g.F.Files.content g.F.Files.faults c.args.files.now)
    (seen g.F.Files.content g.F.Files.faults c.grammar_of_files.new.files) c.in_err-checked.field-0.0 c.in_err-checked.ensures.refused)

pub returns-in-Ok-clause-read : goal.returns-in-Ok-clause-read
returns-in-Ok-clause-read g c =
    all_read_calls (grammar_read c.args.grammar) c.args.input.now _ _ _ c.in_ok-checked.ensures.read c.in_ok-bytes.ensures.calls

pub returns-in-Err-clause-calls : goal.returns-in-Err-clause-calls
returns-in-Err-clause-calls g c =
    input_fault_calls (grammar_read c.args.grammar) c.args.input.now _ _ _ c.in_ok-checked.ensures.read c.in-Err.fault c.of_input.result c.of_input.ensures
    c.in_ok-bytes.ensures.calls

pub returns-in_err-checked-clause-calls : goal.returns-in_err-checked-clause-calls
returns-in_err-checked-clause-calls g c =
    let p = err_from_is_err_and c.from_residual.result c.from_residual.ensures.1 in
    rw (p.1, p.2) (grammar_calls (grammar_read c.args.grammar) c.args.input.now (seen g.F.Files.content g.F.Files.faults c.args.files.now)
    (seen g.F.Files.content g.F.Files.faults c.grammar_of_files.new.files) _ _ c.in_err-checked.field-0.0 c.in_err-checked.ensures.refused
    c.in_err-checked.ensures.calls)

pub returns-in_err-bytes-clause-calls : goal.returns-in_err-bytes-clause-calls
returns-in_err-bytes-clause-calls g c =
    let p = err_from_is_err_and c.from_residual-in_err-bytes.result c.from_residual-in_err-bytes.ensures.1 in
    rw (p.1, p.2) (unread_input_calls (grammar_read c.args.grammar) c.args.input.now _ _ _ c.in_ok-checked.ensures.read _
    (seen g.F.Files.content g.F.Files.faults c.grammar_of_files.new.files) (seen g.F.Files.content g.F.Files.faults c.read_input.new.files)
    c.in_err-bytes.field-0.0 c.in_err-bytes.ensures.refused c.in_err-bytes.ensures.calls)
