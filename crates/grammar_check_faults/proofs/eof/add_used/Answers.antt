use Rattle.std.proofs.Common.{◌++◌, [], ◌∷◌, sym, ap, ◌∙◌}
use Rattle.std.specs.List.{filter_map}
use Rattle.std.specs.Str.{chars}
use Rattle.grammar_tree.specs.Kinds.{as_name}
use Rattle.grammar_tree.specs.View.{token_ref}
use Rattle.grammar_tree.specs.declared.parser_term.TokenRef.{TokenRef}
use Rattle.grammar_check_faults.specs.inner.Seen.{seen_in}
use Rattle.grammar_check_faults.proofs.SeenForms.{seen_push}
use Rattle.grammar_check_faults.proofs.eof.add_used.Goals as goal

pub returns-in_ok-add-in-Name : goal.returns-in_ok-add-in-Name
returns-in_ok-add-in-Name c = λ texts finds bytes utf8.
    c.in_ok-add-in-Name.ensures (seen_in texts) finds bytes utf8
    ∙ seen_push texts c.in-Name.name (chars bytes)
    ∙ ap (λ (r : TokenRef). seen_in (texts ++ filter_map as_name (token_ref r ∷ [])) (chars bytes)) (sym c.in-Name.is)
