use Rattle.std.proofs.Common.{sym, ap, ◌∙◌}
use Rattle.grammar_tree.specs.View.{token_ref}
use Rattle.grammar_tree.specs.Written.{Reference}
use Rattle.grammar_tree.proofs.parser_term.TokenRef.copy.Goals as goal

pub returns-in_ok-copy-in-Name : goal.returns-in_ok-copy-in-Name
returns-in_ok-copy-in-Name c = ap Reference.name c.in_ok-copy-in-Name.ensures ∙ sym (ap token_ref c.in-Name.is)
