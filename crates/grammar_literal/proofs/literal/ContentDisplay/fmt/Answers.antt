use Rattle.std.proofs.Common.{ap, rules, sym, ◌∙◌}
use Rattle.std.specs.Prelude.{encode_utf8_all}
use Rattle.std.proofs.Output.{has_written_append, has_written_of_eq}
use Rattle.std.proofs.lemmas.Iterator.{YieldsList-from_chars}
use Rattle.std.proofs.lemmas.Iterator.Consumers.{YieldsList-end}
use Rattle.grammar_literal.specs.Literal.{content}
use Rattle.grammar_literal.proofs.Printed.{content_more, map_same}
use Rattle.grammar_literal.proofs.literal.ContentDisplay.fmt.Goals as goal

pub loop-c-preserved : goal.loop-c-preserved
loop-c-preserved g c =
    λ plain. has_written_of_eq _ _ _ _ _ (content_more c.loop-c.yielded c.in-Some.c) (has_written_append _ _ _ _ _ _ (c.loop-c.invariant plain) (search rules))

pub returns-clause-writes : goal.returns-clause-writes
returns-clause-writes g c = λ plain ok.
    let all =
    YieldsList-end (YieldsList-from_chars c.as_str.result.now c.as_str.utf8 cc) c.loop-c.yielded _ c.loop-c.yielded_by _ _ c.in-None.is c.next.ensures.steps in
    let chars = sym (map_same c.loop-c.yielded) ∙ all.0 ∙ c.as_str.ensures in
    has_written_of_eq _ _ _ _ _ (ap (λ cs. encode_utf8_all (content cs)) chars) (c.loop-c.invariant plain)
