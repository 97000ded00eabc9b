use Rattle.std.proofs.Common.{◌∙◌, ℕ, List, length, sym, ap, arith}
use Rattle.reduce_trees_mode.specs.Input.{TreeInput}
use Rattle.reduce_trees_mode.specs.InputOf.{input_of}
use Rattle.spell_shrink.proofs.StepFields.{lent_tokens_are, own_agrees, own_is, own_kept_numbers}
use Rattle.spell_shrink.proofs.spell_step.SpellStep+TreeParts+F.new.Goals as goal

pub own-requires-clause-tokens : goal.own-requires-clause-tokens
own-requires-clause-tokens g c =
    let parts = c.args.parts.now in
    let input : TreeInput =
    input_of parts.start.grammar parts.formed parts.tree parts.start.bytes parts.tokens.items.items (g.F.Relation.admits parts.guard) parts.squeezes in
    lent_tokens_are input c.is_input.ensures.is c.lexer.result.now c.in_ok-layout.layout.start.now _ c.lexer.ensures c.in_ok-layout.ensures.start
    c.tokens.ensures

pub own-requires-clause-same : goal.own-requires-clause-same
own-requires-clause-same g c = c.in_ok-layout.ensures.tokens ∙ sym c.tokens.ensures

pub own-requires-clause-kept : goal.own-requires-clause-kept
own-requires-clause-kept g c =
    let parts = c.args.parts.now in
    let input : TreeInput =
    input_of parts.start.grammar parts.formed parts.tree parts.start.bytes parts.tokens.items.items (g.F.Relation.admits parts.guard) parts.squeezes in
    own_kept_numbers input c.args.style c.args.kept.items _ c.in_ok-layout.ensures.tokens c.requires.own

pub own-requires-clause-small : goal.own-requires-clause-small
own-requires-clause-small g c =
    let long = ap (λ (l : List ℕ). length l) c.in_ok-layout.ensures.start in omega (arith, long, c.is_input.ensures.short)

pub invariant_of-result : goal.invariant_of-result
invariant_of-result g c =
    let parts = c.args.parts.now in
    let input : TreeInput =
    input_of parts.start.grammar parts.formed parts.tree parts.start.bytes parts.tokens.items.items (g.F.Relation.admits parts.guard) parts.squeezes in
    let made = c.in_ok-layout in
    record {
      agrees =
          own_agrees input c.args.style c.in_ok-spelled.spelled c.args.kept.items made.layout.start.now _ made.ensures.start made.ensures.tokens
          c.in_ok-spelled.ensures.own c.args.words.now c.requires.words c.lexer.result.now made.layout.skips made.layout.style c.lexer.ensures
          made.ensures.skips made.ensures.style c.in_ok-spelled.ensures.print c.requires.own;
    }

pub returns-clause-respelling : goal.returns-clause-respelling
returns-clause-respelling g c =
    let parts = c.args.parts.now in
    let input : TreeInput =
    input_of parts.start.grammar parts.formed parts.tree parts.start.bytes parts.tokens.items.items (g.F.Relation.admits parts.guard) parts.squeezes in
    let made = c.in_ok-layout in
    own_is input c.args.style c.in_ok-spelled.spelled c.args.kept.items made.layout.start.now _ made.ensures.start made.ensures.tokens
    c.in_ok-spelled.ensures.own
