use Rattle.std.proofs.Common.{ap, ◌∙◌}
use Rattle.grammar_tree.specs.Written.{lexer_alts}
use Rattle.grammar_tree.specs.Kinds.{is_just}
use Rattle.grammar_names.proofs.Literals.{not_one_of, one_of}
use Rattle.grammar_names.proofs.names.single_literal.Goals as goal

pub returns-then-alts-ne1 : goal.returns-then-alts-ne1
returns-then-alts-ne1 c t = not_one_of c.args.alts.now c.as_slice-alts.result.now t c.as_slice-alts.ensures.value c.if-alts-ne1.true

pub returns : goal.returns
returns c t =
    let one = one_of c.args.alts.now c.as_slice-alts.result.now c.index-alts-0.result c.as_slice-alts.ensures.value c.if-alts-ne1.false c.index-alts-0.is in
    ap (λ a. is_just t (lexer_alts a)) one ∙ c.literal_alone.ensures t
