use Rattle.std.proofs.Common.{◌++◌, ◌∷◌, [], map, take, sym, ap, ◌∙◌, arith}
use Rattle.std.specs.List.{filter_map}
use Rattle.std.proofs.lemmas.List.{take_more}
use Rattle.std.proofs.lemmas.List.Elements.{filter_map-append}
use Rattle.grammar_tree.specs.GrammarView.{rule_of}
use Rattle.grammar_check_lexer_rules.specs.Lexer.{lexer_index}
use Rattle.grammar_check_lexer_rules.proofs.lexer_tables.alts_successors.Goals as goal

pub loop-name-preserved : goal.loop-name-preserved
loop-name-preserved c =
    let i = c.loop-name.name-index in
    let used = c.deref-name-items.result.now in
    let f = lexer_index (map rule_of c.args.names.now.rules.now) in
    let more = take_more used i c.name-item.result (omega arith) ∙ ap (λ n. take i used ++ n ∷ []) (sym c.name-item.is) in
    c.in_ok-add_index.ensures
    ∙ ap (λ l. l ++ filter_map f (c.name-item.result ∷ [])) c.loop-name.invariant
    ∙ sym (filter_map-append f (take i used) (c.name-item.result ∷ []))
    ∙ ap (filter_map f) (sym more)
