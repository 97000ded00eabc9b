use Rattle.std.specs.Str.{chars}
use Rattle.cert_check_texts.proofs.Language.{never}
use Rattle.cert_check_texts.proofs.tree_texts.tokens_of_start.Goals as goal

pub unreachable-requires : goal.unreachable-requires
unreachable-requires c =
    let language = c.requires.language in
    never c.tokens_have_no_stop.ensures c.args.lexer.now.grammar (chars c.args.start.now) language.tokens language.has c.in-Err-NoToken.field-0
    c.in-Err-NoToken.field-0-0 c.in-Err-NoToken.field-0-is c.in-Err-NoToken.ensures.fault
