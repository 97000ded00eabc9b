use Rattle.std.proofs.Common.{ℕ, List, subst}
use Rattle.std.specs.Prelude.{string_bytes}
use Rattle.std.specs.Str.{chars}
use Rattle.grammar_tree.specs.Lexes.{StopsAt}
use Rattle.lexer.specs.declared.token.LexFault.{LexFault}
use Rattle.lexer.specs.Tokens.{ReportsStop}
use Rattle.reduce_trees.proofs.start_text.StartText.new.Goals as goal

pub unreachable-requires : goal.unreachable-requires
unreachable-requires c =
    let G = c.args.lexer.grammar in
    let P : List ℕ → Type 0 = λ s. ReportsStop G (chars s) c.in-Err-NoToken.field-0 in
    let Q : LexFault → Type 0 = λ f. ReportsStop G (chars (string_bytes c.args.text)) f in
    let stops : StopsAt G (chars (string_bytes c.args.text)) c.in-Err-NoToken.field-0-0 =
    subst Q c.in-Err-NoToken.field-0-is (subst P c.as_str.ensures.value c.in-Err-NoToken.ensures.fault) in
    c.tokens_have_no_stop.ensures G (chars (string_bytes c.args.text)) c.requires.tokens.0 c.in-Err-NoToken.field-0-0 c.requires.tokens.1 stops
