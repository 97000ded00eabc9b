use Rattle.std.proofs.Common.{List, map, subst}
use Rattle.grammar_tree.specs.Lexes.{is_gap_kind}
use Rattle.lexer.specs.declared.candidates.Beginning.{Beginning}
use Rattle.lexer.specs.declared.gaps.Singles.{Singles}
use Rattle.lexer.specs.inner.Gaps.{AreDecided}
use Rattle.lexer.proofs.Singles.{are_gap_chars}
use Rattle.lexer.proofs.gaps.gap_characters.Goals as goal

pub returns : goal.returns
returns c G named of =
    let d = c.in_ok-decided.decided in
    let Q : List Singles → Type 0 = λ l. AreDecided (is_gap_kind G) l d in
    are_gap_chars G c.args.nfa.now (map (λ (b : Beginning). b.alternative) c.args.beginnings.now) of c.in_ok-singles.singles.items
    c.in_ok-singles.ensures.singles d (subst Q c.deref.ensures.value (c.in_ok-decided.ensures G named))
