-- What contracts see of a frame where a term or an alternative is pushed.
use Rattle.std.proofs.Common.{◌≡◌, List, Vec, Global, [], ◌∷◌, ◌++◌, map, sym, ap, ◌∙◌}
use Rattle.std.proofs.lemmas.List.{map-append}
use Rattle.grammar_tree.specs.Written.{WrittenTerm, LexerTerm}
use Rattle.grammar_tree.specs.View.{parser_term, parser_terms, parser_alts, parser_node, parser_seq_node, parser_alts_node}
use Rattle.grammar_tree.specs.View.{lex_term, lex_terms, lex_alts, lex_node, lex_seq_node, lex_alts_node}
use Rattle.grammar_tree.specs.declared.parser_term.ParserTerm.{ParserTerm}
use Rattle.grammar_tree.specs.declared.parser_term.ParserTerms.{ParserTerms, out-ParserTerms, fold_out-ParserTerms, roll-ParserTerms, fold-roll-ParserTerms}
use Rattle.grammar_tree.specs.declared.parser_term.ParserAlts.{ParserAlts, out-ParserAlts, fold_out-ParserAlts, roll-ParserAlts, fold-roll-ParserAlts}
use Rattle.grammar_tree.specs.declared.lex_term.LexTerm.{LexTerm}
use Rattle.grammar_tree.specs.declared.lex_term.LexTerms.{LexTerms, out-LexTerms, fold_out-LexTerms, roll-LexTerms, fold-roll-LexTerms}
use Rattle.grammar_tree.specs.declared.lex_term.LexAlts.{LexAlts, out-LexAlts, fold_out-LexAlts, roll-LexAlts, fold-roll-LexAlts}
use Rattle.grammar_reader_machine.specs.Machine as m

abbrev pub frame_with : {T : Type 0} → List (List T) → List T → m.Frame T
frame_with alts terms = record { alts = alts; terms = terms }

pub with_terms : {T : Type 0} (alts : List (List T)) {t u : List T} → t ≡ u → frame_with alts t ≡ frame_with alts u
with_terms alts same = ap (frame_with alts) same

pub term_pushed : (was : ParserTerms) (now : Vec ParserTerm Global) (t : ParserTerm) → now.items ≡ (out-ParserTerms was).items.items ++ t ∷ []
    → parser_terms (roll-ParserTerms (record { items = now })) ≡ parser_terms was ++ parser_term t ∷ []
term_pushed was now t pushed =
    let seen = fold_out-ParserTerms WrittenTerm (List (List WrittenTerm)) (List WrittenTerm) parser_node parser_alts_node parser_seq_node in
    fold-roll-ParserTerms WrittenTerm (List (List WrittenTerm)) (List WrittenTerm) parser_node parser_alts_node parser_seq_node (record { items = now })
    ∙ ap (map parser_term) pushed
    ∙ map-append parser_term (out-ParserTerms was).items.items (t ∷ [])
    ∙ ap (λ l. l ++ parser_term t ∷ []) (sym (seen was))

pub alt_pushed : (was : ParserAlts) (now : Vec ParserTerms Global) (s : ParserTerms) → now.items ≡ (out-ParserAlts was).items.items ++ s ∷ []
    → parser_alts (roll-ParserAlts (record { items = now })) ≡ parser_alts was ++ parser_terms s ∷ []
alt_pushed was now s pushed =
    let seen = fold_out-ParserAlts WrittenTerm (List (List WrittenTerm)) (List WrittenTerm) parser_node parser_alts_node parser_seq_node in
    fold-roll-ParserAlts WrittenTerm (List (List WrittenTerm)) (List WrittenTerm) parser_node parser_alts_node parser_seq_node (record { items = now })
    ∙ ap (map parser_terms) pushed
    ∙ map-append parser_terms (out-ParserAlts was).items.items (s ∷ [])
    ∙ ap (λ l. l ++ parser_terms s ∷ []) (sym (seen was))

pub lex_term_pushed : (was : LexTerms) (now : Vec LexTerm Global) (t : LexTerm) → now.items ≡ (out-LexTerms was).items.items ++ t ∷ []
    → lex_terms (roll-LexTerms (record { items = now })) ≡ lex_terms was ++ lex_term t ∷ []
lex_term_pushed was now t pushed =
    let seen = fold_out-LexTerms LexerTerm (List (List LexerTerm)) (List LexerTerm) lex_node lex_alts_node lex_seq_node in
    fold-roll-LexTerms LexerTerm (List (List LexerTerm)) (List LexerTerm) lex_node lex_alts_node lex_seq_node (record { items = now })
    ∙ ap (map lex_term) pushed
    ∙ map-append lex_term (out-LexTerms was).items.items (t ∷ [])
    ∙ ap (λ l. l ++ lex_term t ∷ []) (sym (seen was))

pub lex_alt_pushed : (was : LexAlts) (now : Vec LexTerms Global) (s : LexTerms) → now.items ≡ (out-LexAlts was).items.items ++ s ∷ []
    → lex_alts (roll-LexAlts (record { items = now })) ≡ lex_alts was ++ lex_terms s ∷ []
lex_alt_pushed was now s pushed =
    let seen = fold_out-LexAlts LexerTerm (List (List LexerTerm)) (List LexerTerm) lex_node lex_alts_node lex_seq_node in
    fold-roll-LexAlts LexerTerm (List (List LexerTerm)) (List LexerTerm) lex_node lex_alts_node lex_seq_node (record { items = now })
    ∙ ap (map lex_terms) pushed
    ∙ map-append lex_terms (out-LexAlts was).items.items (s ∷ [])
    ∙ ap (λ l. l ++ lex_terms s ∷ []) (sym (seen was))
