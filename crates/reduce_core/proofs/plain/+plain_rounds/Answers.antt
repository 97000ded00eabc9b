use Rattle.std.proofs.Common.{◌≡◌, ◌≤◌, ◌<◌, ◌+◌, ◌++◌, ◌∙◌, ap, sym, subst, rules, arith, List, [], length, map}
use Rattle.std.proofs.lemmas.Result.{IfOk-weaker}
use Rattle.std.specs.List.{AllByRecursion}
use Rattle.list_ddmin.specs.ListStep.{Outcome, kept_of}
use Rattle.reduce_rounds.specs.Reduction.{Reduction}
use Rattle.reduce_core.specs.inner.Plain.{texts_asked}
use Rattle.keep_guard.specs.Relation.{Rises}
use Rattle.reduce_core.specs.declared.lines.Line.{Line}
use Rattle.reduce_core.specs.Lines.{numbers_of}
use Rattle.reduce_core.proofs.LinesLemmas.{kept_of-rises}
use Rattle.reduce_core.proofs.Keeping.{length-kept_of}
use Rattle.reduce_core.proofs.PlainLemmas.{last-round, next-rounds, rounds-few}
use Rattle.reduce_core.proofs.plain.+plain_rounds.Goals as goal

pub texts-requires-clause-fits : goal.texts-requires-clause-fits
texts-requires-clause-fits g t c =
    let are = ap (λ (o : Outcome). o.questions) (sym c.round.view_is) ∙ ap (λ vs. map (λ v. v.items) vs) (sym c.deref.ensures.value) in
    subst (λ l. AllByRecursion (λ keep. length keep ≡ length c.args.lines) l) are c.in_ok-round.ensures.fits.questions

pub kept-requires : goal.kept-requires
kept-requires g t c = ap length c.deref-2.ensures.value ∙ ap (λ (o : Outcome). length o.result) c.round.view_is ∙ c.in_ok-round.ensures.fits.result

pub returns-then-len : goal.returns-then-len
returns-then-len g t c =
    let verdict = g.T.Test.verdict c.args.test.now in
    let texts = map (λ v. v.items) c.in_ok-texts.texts.items in
    let questions = ap (λ vs. map (λ v. v.items) vs) c.deref.ensures.value ∙ ap (λ (o : Outcome). o.questions) c.round.view_is in
    let texts_are = c.in_ok-texts.ensures ∙ ap (λ keeps. texts_asked (g.F.Relation.admits c.args.guard.now) c.args.lines keeps) questions in
    let left_is =
    c.in_ok-remaining.ensures ∙ ap (λ keep. kept_of keep c.args.lines) (c.deref-2.ensures.value ∙ ap (λ (o : Outcome). o.result) c.round.view_is) in
    let one = ap (λ (later : Reduction (List Line)). record later { questions = texts ++ later.questions; rounds = later.rounds + 1 }) c.nothing_more.ensures in
    IfOk-weaker c.after_round.result _ _
    (λ found is start. is ∙ one
    ∙ last-round (g.F.Relation.admits c.args.guard.now) verdict start c.args.lines c.in_ok-round.round texts c.in_ok-remaining.remaining
    c.in_ok-round.ensures.round texts_are left_is (omega arith))
    c.after_round.ensures

pub plain_rounds-requires : goal.plain_rounds-requires
plain_rounds-requires g t c κs within =
    let fewer : length (kept_of c.deref-2.result.now c.args.lines) ≤ length c.args.lines = length-kept_of c.deref-2.result.now c.args.lines in
    let remaining = ap length c.in_ok-remaining.ensures in
    let falls : length c.in_ok-remaining.remaining < length c.args.lines = omega arith in
    let rising : Rises (numbers_of c.in_ok-remaining.remaining) =
    subst (λ (lines : List Line). Rises (numbers_of lines)) (sym c.in_ok-remaining.ensures)
    (kept_of-rises c.deref-2.result.now c.args.lines c.requires.rising) in
    search rules

pub after_round-requires-2 : goal.after_round-requires-2
after_round-requires-2 g t c =
    let fewer : length (kept_of c.deref-2.result.now c.args.lines) ≤ length c.args.lines = length-kept_of c.deref-2.result.now c.args.lines in
    let remaining = ap length c.in_ok-remaining.ensures in
    let few = rounds-few (g.F.Relation.admits c.args.guard.now) (g.T.Test.verdict c.args.test.now) [] c.in_ok-remaining.remaining in
    let rounds = ap (λ (r : Reduction (List Line)). r.rounds) (c.in_ok-later.ensures []) in
    omega arith

pub returns : goal.returns
returns g t c =
    let verdict = g.T.Test.verdict c.args.test.now in
    let texts = map (λ v. v.items) c.in_ok-texts.texts.items in
    let questions = ap (λ vs. map (λ v. v.items) vs) c.deref.ensures.value ∙ ap (λ (o : Outcome). o.questions) c.round.view_is in
    let texts_are = c.in_ok-texts.ensures ∙ ap (λ keeps. texts_asked (g.F.Relation.admits c.args.guard.now) c.args.lines keeps) questions in
    let left_is = c.in_ok-remaining.ensures ∙ ap (λ keep. kept_of keep c.args.lines)
    (c.deref-2.ensures.value ∙ ap (λ (o : Outcome). o.result) c.round.view_is) in
    IfOk-weaker c.after_round-2.result _ _
    (λ found is start. is
    ∙ ap (λ (later : Reduction (List Line)). record later { questions = texts ++ later.questions; rounds = later.rounds + 1 }) (c.in_ok-later.ensures start)
    ∙ next-rounds (g.F.Relation.admits c.args.guard.now) verdict start c.args.lines c.in_ok-round.round texts c.in_ok-remaining.remaining
    c.in_ok-round.ensures.round texts_are left_is (omega arith))
    c.after_round-2.ensures
