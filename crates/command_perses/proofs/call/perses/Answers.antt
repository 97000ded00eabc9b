use Rattle.std.proofs.Common.{refl, subst, sym, map, string_bytes}
use Rattle.command_words.specs.Lines.{check_read, grammar_read, reduce_read, selftest_read}
use Rattle.command_ends.specs.World.{World, seen}
use Rattle.command_perses.specs.Call.{NamesNoFile, ReachesNoGate, RunsCommand, world}
use Rattle.command_perses.specs.Call.RunsCommand.{reduce, check, normal, selftest}
use Rattle.command_perses.proofs.HeadlineLemmas.{headline_of}
use Rattle.command_perses.proofs.CallLemmas.{check_not_usage, is_named, line_is, normal_not_usage, reduce_not_usage, refused_nameless, refused_status}
use Rattle.command_perses.proofs.CallLemmas.{refused_usage, runs_refused, selftest_not_usage}
use Rattle.command_perses.proofs.call.perses.Goals as goal

pub returns-in-Err-clause-runs : goal.returns-in-Err-clause-runs
returns-in-Err-clause-runs g c =
    let old : World =
    world g.F.Files.content g.F.Files.calls g.F.Files.faults g.G.Gate.log g.G.Gate.faults g.J.Sink.put_so_far g.J.Sink.faults
    g.O.Sink.put_so_far g.O.Sink.faults c.args.files.now c.args.workers.now c.args.journal c.args.out.now in
    runs_refused g.G.Gate.may_say old (seen g.O.Sink.put_so_far g.O.Sink.faults c.end_refused.new.out) c.end_refused.result
    (map string_bytes c.args.words.now) c.in-Err.refusal c.in-Err.ensures.refused c.end_refused.ensures.ends

pub returns-in-Err-clause-headline : goal.returns-in-Err-clause-headline
returns-in-Err-clause-headline g c =
    headline_of c.equal_bytes_have_one_history.ensures.histories c.answers_are_bounded.ensures _ _ _ _ (returns-in-Err-clause-runs g c)

pub returns-in-Err-clause-usage : goal.returns-in-Err-clause-usage
returns-in-Err-clause-usage g c two =
    refused_usage _ _ c.end_refused.result (map string_bytes c.args.words.now) c.in-Err.refusal c.in-Err.ensures.refused c.end_refused.ensures.ends two

pub returns-in-Err-clause-no_other : goal.returns-in-Err-clause-no_other
returns-in-Err-clause-no_other g c none =
    refused_status _ _ c.end_refused.result (map string_bytes c.args.words.now) c.in-Err.refusal c.in-Err.ensures.refused c.end_refused.ensures.ends

pub returns-in-Ok-Reduce-clause-runs : goal.returns-in-Ok-Reduce-clause-runs
returns-in-Ok-Reduce-clause-runs g c =
    let at = c.in-Ok-Reduce in
    let old : World =
    world g.F.Files.content g.F.Files.calls g.F.Files.faults g.G.Gate.log g.G.Gate.faults g.J.Sink.put_so_far g.J.Sink.faults
    g.O.Sink.put_so_far g.O.Sink.faults c.args.files.now c.args.workers.now c.args.journal c.args.out.now in
    let new : World =
    world g.F.Files.content g.F.Files.calls g.F.Files.faults g.G.Gate.log g.G.Gate.faults g.J.Sink.put_so_far g.J.Sink.faults
    g.O.Sink.put_so_far g.O.Sink.faults c.reduce.new.files c.reduce.new.workers c.reduce.result.journal c.reduce.new.out in
    subst (RunsCommand g.G.Gate.may_say old new c.reduce.result.status) (line_is _ _ _ at.field-0-is at.ensures.line)
    (reduce (reduce_read at.line) c.reduce.ensures.reduces)

pub returns-in-Ok-Reduce-clause-headline : goal.returns-in-Ok-Reduce-clause-headline
returns-in-Ok-Reduce-clause-headline g c =
    headline_of c.equal_bytes_have_one_history.ensures.histories c.answers_are_bounded.ensures _ _ _ _ (returns-in-Ok-Reduce-clause-runs g c)

pub returns-in-Ok-Reduce-clause-usage : goal.returns-in-Ok-Reduce-clause-usage
returns-in-Ok-Reduce-clause-usage g c two = absurd (reduce_not_usage _ _ _ _ _ c.reduce.ensures.reduces two)

pub returns-in-Ok-Check-clause-runs : goal.returns-in-Ok-Check-clause-runs
returns-in-Ok-Check-clause-runs g c =
    let at = c.in-Ok-Check in
    let old : World =
    world g.F.Files.content g.F.Files.calls g.F.Files.faults g.G.Gate.log g.G.Gate.faults g.J.Sink.put_so_far g.J.Sink.faults
    g.O.Sink.put_so_far g.O.Sink.faults c.args.files.now c.args.workers.now c.args.journal c.args.out.now in
    let new : World =
    world g.F.Files.content g.F.Files.calls g.F.Files.faults g.G.Gate.log g.G.Gate.faults g.J.Sink.put_so_far g.J.Sink.faults
    g.O.Sink.put_so_far g.O.Sink.faults c.check.new.files c.args.workers.now c.args.journal c.check.new.out in
    subst (RunsCommand g.G.Gate.may_say old new c.check.result) (line_is _ _ _ at.field-0-is at.ensures.line)
    (check (check_read at.line) c.check.ensures.ends (record { no_history = refl; gates = refl; journal = refl }))

pub returns-in-Ok-Check-clause-headline : goal.returns-in-Ok-Check-clause-headline
returns-in-Ok-Check-clause-headline g c =
    headline_of c.equal_bytes_have_one_history.ensures.histories c.answers_are_bounded.ensures _ _ _ _ (returns-in-Ok-Check-clause-runs g c)

pub returns-in-Ok-Check-clause-usage : goal.returns-in-Ok-Check-clause-usage
returns-in-Ok-Check-clause-usage g c two = absurd (check_not_usage _ _ _ _ _ _ _ _ c.check.ensures.ends two)

pub returns-in-Ok-Normal-clause-runs : goal.returns-in-Ok-Normal-clause-runs
returns-in-Ok-Normal-clause-runs g c =
    let at = c.in-Ok-Normal in
    let old : World =
    world g.F.Files.content g.F.Files.calls g.F.Files.faults g.G.Gate.log g.G.Gate.faults g.J.Sink.put_so_far g.J.Sink.faults
    g.O.Sink.put_so_far g.O.Sink.faults c.args.files.now c.args.workers.now c.args.journal c.args.out.now in
    let new : World =
    world g.F.Files.content g.F.Files.calls g.F.Files.faults g.G.Gate.log g.G.Gate.faults g.J.Sink.put_so_far g.J.Sink.faults
    g.O.Sink.put_so_far g.O.Sink.faults c.normal.new.files c.args.workers.now c.args.journal c.normal.new.out in
    subst (RunsCommand g.G.Gate.may_say old new c.normal.result) (line_is _ _ _ at.field-0-is at.ensures.line)
    (normal (grammar_read at.grammar) c.normal.ensures.ends (record { no_history = refl; gates = refl; journal = refl }))

pub returns-in-Ok-Normal-clause-headline : goal.returns-in-Ok-Normal-clause-headline
returns-in-Ok-Normal-clause-headline g c =
    headline_of c.equal_bytes_have_one_history.ensures.histories c.answers_are_bounded.ensures _ _ _ _ (returns-in-Ok-Normal-clause-runs g c)

pub returns-in-Ok-Normal-clause-usage : goal.returns-in-Ok-Normal-clause-usage
returns-in-Ok-Normal-clause-usage g c two = absurd (normal_not_usage _ _ _ _ _ _ _ _ c.normal.ensures.ends two)

pub returns-in-Ok-Selftest-clause-runs : goal.returns-in-Ok-Selftest-clause-runs
returns-in-Ok-Selftest-clause-runs g c =
    let at = c.in-Ok-Selftest in
    let old : World =
    world g.F.Files.content g.F.Files.calls g.F.Files.faults g.G.Gate.log g.G.Gate.faults g.J.Sink.put_so_far g.J.Sink.faults
    g.O.Sink.put_so_far g.O.Sink.faults c.args.files.now c.args.workers.now c.args.journal c.args.out.now in
    let new : World =
    world g.F.Files.content g.F.Files.calls g.F.Files.faults g.G.Gate.log g.G.Gate.faults g.J.Sink.put_so_far g.J.Sink.faults
    g.O.Sink.put_so_far g.O.Sink.faults c.args.files.now c.args.workers.now c.args.journal c.selftest.new.out in
    subst (RunsCommand g.G.Gate.may_say old new c.selftest.result) (line_is _ _ _ at.field-0-is at.ensures.line)
    (selftest (selftest_read at.line) c.selftest.ensures.ends refl refl (record { no_history = refl; gates = refl; journal = refl }))

pub returns-in-Ok-Selftest-clause-headline : goal.returns-in-Ok-Selftest-clause-headline
returns-in-Ok-Selftest-clause-headline g c =
    headline_of c.equal_bytes_have_one_history.ensures.histories c.answers_are_bounded.ensures _ _ _ _ (returns-in-Ok-Selftest-clause-runs g c)

pub returns-in-Ok-Selftest-clause-usage : goal.returns-in-Ok-Selftest-clause-usage
returns-in-Ok-Selftest-clause-usage g c two = absurd (selftest_not_usage _ _ _ _ c.selftest.ensures.ends two)

pub returns-in-Err-clause-handed_in : goal.returns-in-Err-clause-handed_in
returns-in-Err-clause-handed_in g c = λ outside. (refl, refl)

pub returns-in-Err-clause-files_handed_in : goal.returns-in-Err-clause-files_handed_in
returns-in-Err-clause-files_handed_in g c = λ no_file. refl

pub returns-in-Ok-Reduce-clause-handed_in : goal.returns-in-Ok-Reduce-clause-handed_in
returns-in-Ok-Reduce-clause-handed_in g c =
    let at = c.in-Ok-Reduce in
    λ outside. c.reduce.ensures.handed_in
    (subst (λ command. ReachesNoGate command c.reduce.result.status) (sym (line_is _ _ _ at.field-0-is at.ensures.line)) outside)

pub returns-in-Ok-Reduce-clause-files_handed_in : goal.returns-in-Ok-Reduce-clause-files_handed_in
returns-in-Ok-Reduce-clause-files_handed_in g c =
    let at = c.in-Ok-Reduce in λ no_file. absurd (subst NamesNoFile (sym (line_is _ _ _ at.field-0-is at.ensures.line)) no_file)

pub returns-in-Ok-Check-clause-handed_in : goal.returns-in-Ok-Check-clause-handed_in
returns-in-Ok-Check-clause-handed_in g c = λ outside. (refl, refl)

pub returns-in-Ok-Check-clause-files_handed_in : goal.returns-in-Ok-Check-clause-files_handed_in
returns-in-Ok-Check-clause-files_handed_in g c =
    let at = c.in-Ok-Check in λ no_file. absurd (subst NamesNoFile (sym (line_is _ _ _ at.field-0-is at.ensures.line)) no_file)

pub returns-in-Ok-Normal-clause-handed_in : goal.returns-in-Ok-Normal-clause-handed_in
returns-in-Ok-Normal-clause-handed_in g c = λ outside. (refl, refl)

pub returns-in-Ok-Normal-clause-files_handed_in : goal.returns-in-Ok-Normal-clause-files_handed_in
returns-in-Ok-Normal-clause-files_handed_in g c =
    let at = c.in-Ok-Normal in λ no_file. absurd (subst NamesNoFile (sym (line_is _ _ _ at.field-0-is at.ensures.line)) no_file)

pub returns-in-Ok-Selftest-clause-handed_in : goal.returns-in-Ok-Selftest-clause-handed_in
returns-in-Ok-Selftest-clause-handed_in g c = λ outside. (refl, refl)

pub returns-in-Ok-Selftest-clause-files_handed_in : goal.returns-in-Ok-Selftest-clause-files_handed_in
returns-in-Ok-Selftest-clause-files_handed_in g c = λ no_file. refl

pub returns-in-Err-clause-nameless : goal.returns-in-Err-clause-nameless
returns-in-Err-clause-nameless g c nameless =
    refused_nameless _ _ c.end_refused.result (map string_bytes c.args.words.now) c.in-Err.refusal c.in-Err.ensures.refused
    c.end_refused.ensures.ends nameless

pub returns-in-Ok-Reduce-clause-nameless : goal.returns-in-Ok-Reduce-clause-nameless
returns-in-Ok-Reduce-clause-nameless g c nameless =
    let at = c.in-Ok-Reduce in absurd (is_named (map string_bytes c.args.words.now) _ (line_is _ _ _ at.field-0-is at.ensures.line) nameless)

pub returns-in-Ok-Check-clause-nameless : goal.returns-in-Ok-Check-clause-nameless
returns-in-Ok-Check-clause-nameless g c nameless =
    let at = c.in-Ok-Check in absurd (is_named (map string_bytes c.args.words.now) _ (line_is _ _ _ at.field-0-is at.ensures.line) nameless)

pub returns-in-Ok-Normal-clause-nameless : goal.returns-in-Ok-Normal-clause-nameless
returns-in-Ok-Normal-clause-nameless g c nameless =
    let at = c.in-Ok-Normal in absurd (is_named (map string_bytes c.args.words.now) _ (line_is _ _ _ at.field-0-is at.ensures.line) nameless)

pub returns-in-Ok-Selftest-clause-nameless : goal.returns-in-Ok-Selftest-clause-nameless
returns-in-Ok-Selftest-clause-nameless g c nameless =
    let at = c.in-Ok-Selftest in absurd (is_named (map string_bytes c.args.words.now) _ (line_is _ _ _ at.field-0-is at.ensures.line) nameless)
