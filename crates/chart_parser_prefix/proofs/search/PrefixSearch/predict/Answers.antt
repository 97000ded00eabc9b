use Rattle.std.proofs.Common.{subst, sym}
use Rattle.chart_parser_prefix.proofs.Alternatives.{other_predicts}
use Rattle.chart_parser_prefix.proofs.Growing.{grown_none}
use Rattle.chart_parser_prefix.specs.inner.Expected.{Predicts}
use Rattle.chart_parser_prefix.specs.inner.Walk.{ExpectsAll, IsGrownBy}
use Rattle.normal_form.specs.declared.normal.Sym.{Sym}
use Rattle.chart_parser_prefix.proofs.search.PrefixSearch.predict.Goals as goal

pub returns-in_default-clause-grown : goal.returns-in_default-clause-grown
returns-in_default-clause-grown c = grown_none c.args.lists.now.items

pub returns-in_default-clause-all : goal.returns-in_default-clause-all
returns-in_default-clause-all c s m h = absurd (other_predicts c.args.self.now.normal.now c.args.self.now.kinds.now c.in_default.not-Rule h)

pub returns-clause-grown : goal.returns-clause-grown
returns-clause-grown c =
    subst (λ (t : Sym). IsGrownBy (Predicts c.args.self.now.normal.now c.args.self.now.kinds.now t c.args.first) c.args.lists.now.items
    c.predict_rule.new.lists.items) (sym c.in-Rule.is) c.in_ok-predict_rule.ensures.grown

pub returns-clause-all : goal.returns-clause-all
returns-clause-all c =
    subst (λ (t : Sym). ExpectsAll (Predicts c.args.self.now.normal.now c.args.self.now.kinds.now t c.args.first) c.predict_rule.new.lists.items)
    (sym c.in-Rule.is) c.in_ok-predict_rule.ensures.all
