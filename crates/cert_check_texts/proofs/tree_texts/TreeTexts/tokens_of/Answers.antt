use Rattle.std.proofs.Common.{List, subst}
use Rattle.std.specs.Str.{chars}
use Rattle.grammar_tree.specs.Lexes.{PlacedToken}
use Rattle.lexer.specs.Tokens.{HasTokens}
use Rattle.cert_check_texts.specs.Texts.{TreeStart}
use Rattle.cert_check_texts.specs.inner.Fields.{tokens_in}
use Rattle.cert_check_texts.proofs.Language.{never}
use Rattle.cert_check_texts.proofs.tree_texts.TreeTexts.tokens_of.Goals as goal

pub returns-in-Ok : goal.returns-in-Ok
returns-in-Ok c =
    subst (λ (t : TreeStart). HasTokens t.grammar.grammar (chars c.args.text.now) (tokens_in c.in-Ok.tokens)) c.self.view_is c.in-Ok.ensures.tokens

pub returns-in-Err-NoToken : goal.returns-in-Err-NoToken
returns-in-Err-NoToken c =
    subst (λ (t : TreeStart). (tokens : List PlacedToken) → ¬ HasTokens t.grammar.grammar (chars c.args.text.now) tokens) c.self.view_is
    (λ tokens has. never c.tokens_have_no_stop.ensures c.self.inside.lexer.grammar
    (chars c.args.text.now) tokens has c.in-Err-NoToken.field-0 c.in-Err-NoToken.field-0-0 c.in-Err-NoToken.field-0-is c.in-Err-NoToken.ensures.fault)
