use Rattle.std.proofs.Common.{map, ap, ◌∙◌, sym}
use Rattle.grammar_tree.specs.Written.{Source, TokenKind}
use Rattle.grammar_tree.specs.Kinds.{same_text}
use Rattle.grammar_tree.specs.GrammarView.{rule_of, kind_of, source_of}
use Rattle.grammar_names.specs.inner.Names.{can_stand_for}
use Rattle.grammar_names.proofs.Adding.{added_so, added_to_none}
use Rattle.grammar_names.proofs.names.add_literal.Goals as goal

pub returns-in-Some : goal.returns-in-Some
returns-in-Some c =
    let kind = λ (s : Source). (let k : TokenKind = record { name = c.args.kind.now.name; gap = c.args.kind.now.gap; source = s } in k) in
    added_so c.add-in-Some.result c.args.index.now c.add-in-Some.new.self (same_text c.in-Some.literal.now)
    (can_stand_for (map rule_of c.args.rules.now) (kind_of c.args.kind.now)) c.args.number
    (λ t. sym (ap (λ s. can_stand_for (map rule_of c.args.rules.now) (kind (source_of s)) t) c.in-Written.is ∙ c.in-Some.ensures t))
    c.add-in-Some.ensures

pub returns-in-None : goal.returns-in-None
returns-in-None c =
    let kind = λ (s : Source). (let k : TokenKind = record { name = c.args.kind.now.name; gap = c.args.kind.now.gap; source = s } in k) in
    added_to_none c.args.index.now (can_stand_for (map rule_of c.args.rules.now) (kind_of c.args.kind.now)) c.args.number
    (λ t. ap (λ s. can_stand_for (map rule_of c.args.rules.now) (kind (source_of s)) t) c.in-Written.is ∙ c.in-None.ensures t)
