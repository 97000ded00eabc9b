use Rattle.grammar_tree.specs.GrammarView.{source_of}
use Rattle.grammar_tree.proofs.EqualParts.{same_kind}
use Rattle.grammar_tree.proofs.rule.Kind.copy.Goals as goal

pub returns : goal.returns
returns c = same_kind c.args.self.now.gap (source_of c.args.self.now.source) c.in_ok-copy.ensures
