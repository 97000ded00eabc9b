use Rattle.std.proofs.Common.{◌≡◌, ℕ, List, Bor, ◌∙◌, ap, map, subst, true}
use Rattle.std.proofs.lemmas.Result.{err_from_is_err_and}
use Rattle.keep_guard.specs.Keep.{holds_all}
use Rattle.command_words.specs.Commands.{GrammarOptions}
use Rattle.command_words.specs.Lines.{check_read, grammar_read, mode_of}
use Rattle.command_ends.specs.Status.{KeepsFail}
use Rattle.command_ends.specs.World.{seen}
use Rattle.command_problem.proofs.Lent.{problem_calls, tree_reads, tree_fails}
use Rattle.command_check.specs.Check.{checked_problem}
use Rattle.command_check.proofs.FileLemmas.{problem_fails, tree_keeps_fail, tree_setup}
use Rattle.command_check.proofs.files.tree_setup.Goals as goal

pub returns-in_err-checked-clause-refused : goal.returns-in_err-checked-clause-refused
returns-in_err-checked-clause-refused g c =
    let p = err_from_is_err_and c.from_residual.result c.from_residual.ensures.1 in
    let options = check_read c.args.line.now in
    let files = seen g.F.Files.content g.F.Files.faults c.args.files.now in
    let files' = seen g.F.Files.content g.F.Files.faults c.read_tree.new.files in
    let trees : GrammarOptions =
    record { grammar = grammar_read c.args.trees.grammar; mode = c.args.trees.mode; squeeze = c.args.trees.squeeze } in
    let refusal = c.in_err-checked.field-0.0 in
    rw (p.1, p.2) (problem_fails options files files' _ _ refusal
    (tree_fails (checked_problem options) files trees (ap mode_of c.requires) files' refusal c.in_err-checked.ensures.refused)
    (problem_calls (checked_problem options) trees (ap mode_of c.requires) _ _ refusal c.in_err-checked.ensures.calls))

pub returns-in_err-keeps-clause-refused : goal.returns-in_err-keeps-clause-refused
returns-in_err-keeps-clause-refused g c =
    let p = err_from_is_err_and c.from_residual-in_err-keeps.result c.from_residual-in_err-keeps.ensures.1 in
    let trees : GrammarOptions =
    record { grammar = grammar_read c.args.trees.grammar; mode = c.args.trees.mode; squeeze = c.args.trees.squeeze } in
    let options = check_read c.args.line.now in
    let refusal = c.in_err-keeps.field-0.0 in
    rw (p.1, p.2) (tree_keeps_fail options (seen g.F.Files.content g.F.Files.faults c.args.files.now) c.inputs_are_one.ensures
    c.inputs_are_in_language.ensures trees (ap mode_of c.requires) _ c.in_ok-checked.ensures.tree
    (seen g.F.Files.content g.F.Files.faults c.read_tree.new.files) _ _ refusal c.in_ok-checked.ensures.quiet
    (subst (λ (start : List ℕ). KeepsFail options.keeps start refusal) c.as_bytes.ensures.value
    (subst (λ (texts : List (Bor (List ℕ))). KeepsFail (map (λ text. text.now) texts) c.as_bytes.result.now refusal) c.deref.ensures.value
    c.in_err-keeps.ensures.refused))
    (tree_reads (checked_problem options) trees (ap mode_of c.requires) _ _ c.in_ok-checked.ensures.read))

pub returns-clause-setup : goal.returns-clause-setup
returns-clause-setup g c =
    let trees : GrammarOptions =
    record { grammar = grammar_read c.args.trees.grammar; mode = c.args.trees.mode; squeeze = c.args.trees.squeeze } in
    let options = check_read c.args.line.now in
    tree_setup options (seen g.F.Files.content g.F.Files.faults c.args.files.now) c.inputs_are_one.ensures
    c.inputs_are_in_language.ensures trees (ap mode_of c.requires) _ c.in_ok-checked.ensures.tree
    c.in_ok-keeps.keeps
    (c.in_ok-keeps.ensures.keeps ∙ ap (λ (texts : List (Bor (List ℕ))). map (λ text. text.now) texts) c.deref.ensures.value)
    (subst (λ (start : List ℕ). holds_all options.keeps start ≡ true) c.as_bytes.ensures.value
    (subst (λ (texts : List (Bor (List ℕ))). holds_all (map (λ text. text.now) texts) c.as_bytes.result.now ≡ true) c.deref.ensures.value
    c.in_ok-keeps.ensures.kept))

pub returns-clause-read : goal.returns-clause-read
returns-clause-read g c =
    let trees : GrammarOptions =
    record { grammar = grammar_read c.args.trees.grammar; mode = c.args.trees.mode; squeeze = c.args.trees.squeeze } in
    tree_reads (checked_problem (check_read c.args.line.now)) trees (ap mode_of c.requires) _ _ c.in_ok-checked.ensures.read
