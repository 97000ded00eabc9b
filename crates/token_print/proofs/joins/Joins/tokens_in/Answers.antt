use Rattle.token_print.proofs.SpelledNext.{begun_are, first_le, tokens_rise}
use Rattle.token_print.proofs.joins.Joins.tokens_in.Goals as goal

pub returns-clause-rises : goal.returns-clause-rises
returns-clause-rises c =
    first_le c.args.self.now.layout.tokens.now c.args.from c.args.to c.tokens_before-first.result c.tokens_before-end.result c.requires.rises
    c.tokens_before-end.ensures.inside
    c.tokens_before-first.ensures.before c.tokens_before-first.ensures.others c.tokens_before-end.ensures.before c.tokens_before-end.ensures.others
    c.tokens_before-first.ensures.inside

pub returns-clause-tokens : goal.returns-clause-tokens
returns-clause-tokens c =
    begun_are c.args.self.now.layout.tokens.now c.args.from c.args.to c.tokens_before-first.result c.tokens_before-end.result c.requires.rises
    c.tokens_before-end.ensures.inside
    c.tokens_before-first.ensures.before c.tokens_before-first.ensures.others c.tokens_before-end.ensures.before c.tokens_before-end.ensures.others
    c.tokens_before-first.ensures.inside c.args.self.now.layout.start.now

pub tokens_before-first-requires : goal.tokens_before-first-requires
tokens_before-first-requires c = tokens_rise c.args.self.now.layout.start.now c.args.self.now.layout.tokens.now c.requires.order

pub tokens_before-end-requires : goal.tokens_before-end-requires
tokens_before-end-requires c = tokens_rise c.args.self.now.layout.start.now c.args.self.now.layout.tokens.now c.requires.order
