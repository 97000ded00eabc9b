-- What contracts see of each form of term, as equations, for the proofs of code that reads or makes terms.
use Rattle.std.proofs.Common.{◌≡◌, ℕ, List, Box, Global, map, sym, ap, ◌∙◌}
use Rattle.grammar_tree.specs.Written.{WrittenTerm, written_alts}
use Rattle.grammar_tree.specs.View.{parser_term, parser_alts, token_ref, parser_node, parser_seq_node, parser_alts_node}
use Rattle.grammar_tree.specs.declared.parser_term.TokenRefs.{TokenRefs}
use Rattle.grammar_tree.specs.declared.parser_term.ParserAlts.{ParserAlts}
use Rattle.grammar_tree.specs.declared.parser_term.ParserTerm.{ParserTerm, ParserTerm-F, fold-roll-ParserTerm}
use Rattle.grammar_tree.specs.declared.parser_term.ParserTerm.TheVariants.{Opt, Star, Plus, rolls-Literal, rolls-Name, rolls-Not, rolls-Any}
use Rattle.grammar_tree.specs.declared.parser_term.ParserTerm.TheVariants.{rolls-Eof, rolls-Block, rolls-Opt, rolls-Star, rolls-Plus}

pub parser_term-Literal : (x : List ℕ) → parser_term (ParserTerm.Literal x) ≡ WrittenTerm.literal x
parser_term-Literal x =
    ap parser_term (sym (rolls-Literal x)) ∙ fold-roll-ParserTerm WrittenTerm (List (List WrittenTerm))
    (List WrittenTerm) parser_node parser_alts_node parser_seq_node (ParserTerm-F.Literal x)

pub parser_term-Name : (x : List ℕ) → parser_term (ParserTerm.Name x) ≡ WrittenTerm.name x
parser_term-Name x =
    ap parser_term (sym (rolls-Name x)) ∙ fold-roll-ParserTerm WrittenTerm (List (List WrittenTerm))
    (List WrittenTerm) parser_node parser_alts_node parser_seq_node (ParserTerm-F.Name x)

pub parser_term-Not : (x : TokenRefs) → parser_term (ParserTerm.Not x) ≡ WrittenTerm.but (map token_ref x.items.items)
parser_term-Not x =
    ap parser_term (sym (rolls-Not x)) ∙ fold-roll-ParserTerm WrittenTerm (List (List WrittenTerm))
    (List WrittenTerm) parser_node parser_alts_node parser_seq_node (ParserTerm-F.Not x)

pub parser_term-Any : parser_term ParserTerm.Any ≡ WrittenTerm.any
parser_term-Any =
    ap parser_term (sym rolls-Any) ∙ fold-roll-ParserTerm WrittenTerm (List (List WrittenTerm))
    (List WrittenTerm) parser_node parser_alts_node parser_seq_node ParserTerm-F.Any

pub parser_term-Eof : parser_term ParserTerm.Eof ≡ WrittenTerm.eof
parser_term-Eof =
    ap parser_term (sym rolls-Eof) ∙ fold-roll-ParserTerm WrittenTerm (List (List WrittenTerm))
    (List WrittenTerm) parser_node parser_alts_node parser_seq_node ParserTerm-F.Eof

pub parser_term-Block : (x : ParserAlts) → parser_term (ParserTerm.Block x) ≡ WrittenTerm.block (written_alts (parser_alts x))
parser_term-Block x =
    ap parser_term (sym (rolls-Block x)) ∙ fold-roll-ParserTerm WrittenTerm (List (List WrittenTerm))
    (List WrittenTerm) parser_node parser_alts_node parser_seq_node (ParserTerm-F.Block x)

pub parser_term-Opt : (x : Box ParserTerm Global) → parser_term (Opt x) ≡ WrittenTerm.opt (parser_term x.value)
parser_term-Opt x =
    ap parser_term (sym (rolls-Opt x)) ∙ fold-roll-ParserTerm WrittenTerm (List (List WrittenTerm))
    (List WrittenTerm) parser_node parser_alts_node parser_seq_node (ParserTerm-F.Opt x)

pub parser_term-Star : (x : Box ParserTerm Global) → parser_term (Star x) ≡ WrittenTerm.star (parser_term x.value)
parser_term-Star x =
    ap parser_term (sym (rolls-Star x)) ∙ fold-roll-ParserTerm WrittenTerm (List (List WrittenTerm))
    (List WrittenTerm) parser_node parser_alts_node parser_seq_node (ParserTerm-F.Star x)

pub parser_term-Plus : (x : Box ParserTerm Global) → parser_term (Plus x) ≡ WrittenTerm.plus (parser_term x.value)
parser_term-Plus x =
    ap parser_term (sym (rolls-Plus x)) ∙ fold-roll-ParserTerm WrittenTerm (List (List WrittenTerm))
    (List WrittenTerm) parser_node parser_alts_node parser_seq_node (ParserTerm-F.Plus x)
