use Rattle.std.proofs.Common.{◌≡◌, ◌∙◌, ap, rules, replicate, subst, true, List}
use Rattle.std.specs.Prelude.{IfOk}
use Rattle.list_ddmin.specs.ListStep.{kept_of}
use Rattle.reduce_core.specs.declared.lines.Line.{Line}
use Rattle.reduce_core.proofs.Keeping.{kept_of-all}
use Rattle.reduce_core.proofs.lines.Lines.copy.Goals as goal

pub returns : goal.returns
returns c =
    let all : c.deref.result.now ≡ replicate c.len.result true = search rules in
    subst (λ (same : List Line). IfOk c.kept.result (λ lines. lines ≡ same))
    (ap (λ keep. kept_of keep c.args.self.now) (all ∙ ap (λ n. replicate n true) c.len.ensures) ∙ kept_of-all c.args.self.now) c.kept.ensures
