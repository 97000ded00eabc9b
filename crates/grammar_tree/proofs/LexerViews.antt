-- What contracts see of each form of term, as equations, for the proofs of code that reads or makes terms.
use Rattle.std.proofs.Common.{◌≡◌, ℕ, List, Box, Global, sym, ap, ◌∙◌}
use Rattle.grammar_tree.specs.Written.{LexerTerm, lexer_alts}
use Rattle.grammar_tree.specs.View.{lex_term, lex_alts, lex_node, lex_seq_node, lex_alts_node}
use Rattle.grammar_tree.specs.declared.lex_term.LexAlts.{LexAlts}
use Rattle.grammar_tree.specs.declared.lex_term.LexTerm.{LexTerm, LexTerm-F, fold-roll-LexTerm}
use Rattle.grammar_tree.specs.declared.lex_term.LexTerm.TheVariants.{Opt, Star, Plus, rolls-Literal, rolls-Set, rolls-Name, rolls-Short}
use Rattle.grammar_tree.specs.declared.lex_term.LexTerm.TheVariants.{rolls-Block, rolls-Opt, rolls-Star, rolls-Plus}

pub lex_term-Literal : (x : List ℕ) → lex_term (LexTerm.Literal x) ≡ LexerTerm.literal x
lex_term-Literal x =
    ap lex_term (sym (rolls-Literal x)) ∙ fold-roll-LexTerm LexerTerm (List (List LexerTerm)) (List LexerTerm) lex_node lex_alts_node lex_seq_node
    (LexTerm-F.Literal x)

pub lex_term-Set : (x : List (ℕ × ℕ)) → lex_term (LexTerm.Set x) ≡ LexerTerm.set x
lex_term-Set x =
    ap lex_term (sym (rolls-Set x)) ∙ fold-roll-LexTerm LexerTerm (List (List LexerTerm)) (List LexerTerm) lex_node lex_alts_node lex_seq_node (LexTerm-F.Set x)

pub lex_term-Name : (x : List ℕ) → lex_term (LexTerm.Name x) ≡ LexerTerm.name x
lex_term-Name x =
    ap lex_term (sym (rolls-Name x)) ∙ fold-roll-LexTerm LexerTerm (List (List LexerTerm)) (List LexerTerm) lex_node lex_alts_node lex_seq_node
    (LexTerm-F.Name x)

pub lex_term-Short : (x : List (ℕ × ℕ)) → lex_term (LexTerm.Short x) ≡ LexerTerm.short x
lex_term-Short x =
    ap lex_term (sym (rolls-Short x)) ∙ fold-roll-LexTerm LexerTerm (List (List LexerTerm)) (List LexerTerm) lex_node lex_alts_node lex_seq_node
    (LexTerm-F.Short x)

pub lex_term-Block : (x : LexAlts) → lex_term (LexTerm.Block x) ≡ LexerTerm.block (lexer_alts (lex_alts x))
lex_term-Block x =
    ap lex_term (sym (rolls-Block x)) ∙ fold-roll-LexTerm LexerTerm (List (List LexerTerm)) (List LexerTerm) lex_node lex_alts_node lex_seq_node
    (LexTerm-F.Block x)

pub lex_term-Opt : (x : Box LexTerm Global) → lex_term (Opt x) ≡ LexerTerm.opt (lex_term x.value)
lex_term-Opt x =
    ap lex_term (sym (rolls-Opt x)) ∙ fold-roll-LexTerm LexerTerm (List (List LexerTerm)) (List LexerTerm) lex_node lex_alts_node lex_seq_node (LexTerm-F.Opt x)

pub lex_term-Star : (x : Box LexTerm Global) → lex_term (Star x) ≡ LexerTerm.star (lex_term x.value)
lex_term-Star x =
    ap lex_term (sym (rolls-Star x)) ∙ fold-roll-LexTerm LexerTerm (List (List LexerTerm)) (List LexerTerm) lex_node lex_alts_node lex_seq_node
    (LexTerm-F.Star x)

pub lex_term-Plus : (x : Box LexTerm Global) → lex_term (Plus x) ≡ LexerTerm.plus (lex_term x.value)
lex_term-Plus x =
    ap lex_term (sym (rolls-Plus x)) ∙ fold-roll-LexTerm LexerTerm (List (List LexerTerm)) (List LexerTerm) lex_node lex_alts_node lex_seq_node
    (LexTerm-F.Plus x)
