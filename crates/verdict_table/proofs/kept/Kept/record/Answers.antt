use Rattle.std.proofs.Common.{◌≡◌, List, Option, Some, option_map, sym, ap, ◌∙◌}
use Rattle.script_gate_trait.specs.declared.gate.Verdict.{Verdict}
use Rattle.verdict_table.specs.TableState.{verdict_in}
use Rattle.verdict_table.specs.declared.record.Record.{Record}
use Rattle.verdict_table.proofs.kept.Kept.record.Goals as goal

pub record-requires-clause-first : goal.record-requires-clause-first
record-requires-clause-first c = c.in-Filled.ensures.there.0

pub record-requires-clause-within : goal.record-requires-clause-within
record-requires-clause-within c = c.in-Filled.ensures.there.1

pub returns-in-Filled : goal.returns-in-Filled
returns-in-Filled c =
    let found : ◌≡◌ {A = Option Record} (Some c.record.result.now) (Some (record { text = c.args.text.now; verdict = c.in-Filled.verdict })) =
    sym c.record.ensures ∙ c.in-Filled.ensures.there.2 in
    let known : ◌≡◌ {A = Option Verdict} (Some c.in-Filled.verdict) (verdict_in c.args.self.now c.args.text.now) =
    c.in-Filled.ensures.verdict ∙ ap (λ (rs : List Record). verdict_in rs c.args.text.now) c.self.view_is in
    found ∙ ap (λ (o : Option Verdict). option_map (λ (verdict : Verdict). record { text = c.args.text.now; verdict = verdict }) o) known
