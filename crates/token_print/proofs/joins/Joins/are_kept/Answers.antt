use Rattle.std.proofs.Common.{◌<◌, ◌^◌, List, ℕ, refl, sym, ap, ◌∙◌, subst, arith, true≢false, eqb-true, eq-eqb, length, map}
use Rattle.std.specs.List.{All}
use Rattle.std.specs.List.Sorted.{IsStrictlyIncreasing}
use Rattle.std.specs.Prelude.{MatchOption}
use Rattle.std.proofs.lemmas.Str.{IsCharBoundary-start}
use Rattle.grammar_tree.specs.Written.{WrittenGrammar}
use Rattle.lexer.specs.Tokens.{token_of}
use Rattle.token_print.specs.LexingLaws.{AreInOrder}
use Rattle.token_print.specs.declared.joins.Progress.{Progress}
use Rattle.token_print.specs.declared.layout.Layout.{Layout}
use Rattle.token_print.specs.declared.runs.Run.{Run}
use Rattle.token_print.specs.inner.Ahead.{HasPassed, all_ahead}
use Rattle.token_print.specs.inner.Joins.{IsJoinsOf, IsKeptFrom, IsPassed, ReadsFewFrom, runs_of}
use Rattle.token_print.proofs.AheadRuns.{copies_short, passed_at_first, passed_more, short_after}
use Rattle.token_print.proofs.Going.{few_after, few_passed, passed_none, passed_on}
use Rattle.token_print.proofs.Reading.{at_none, at_some, current_is, kept_at_end}
use Rattle.token_print.proofs.SpelledNext.{kept_there, none_left}
use Rattle.token_print.proofs.joins.Joins.are_kept.Goals as goal

pub new-runs-requires-clause-kept : goal.new-runs-requires-clause-kept
new-runs-requires-clause-kept g c = kept_there c.args.self.now.layout.tokens.now c.args.self.now.kept.now c.requires.of.kept

pub loop-progress-init : goal.loop-progress-init
loop-progress-init g c =
    let j = c.args.self.now in
    let P : List Run → Type 0 = λ l. HasPassed 0 (runs_of j) l in
    record {
      passed =
          passed_none (g.R.PieceReader.grammar c.args.reader.now) j (record { at = 0; found = 0 }) (g.R.PieceReader.reads c.args.reader.now)
          (IsCharBoundary-start j.text.now c.requires.of.text) (omega arith);
      ahead = subst P (sym c.new-runs.ensures.runs) (passed_at_first 0 (runs_of j));
      layout = c.new-runs.ensures.layout;
      kept = c.new-runs.ensures.kept;
      grammar = refl;
    }

pub go_to-requires-clause-rise : goal.go_to-requires-clause-rise
go_to-requires-clause-rise g c =
    let P : List ℕ → Type 0 = λ l. IsStrictlyIncreasing l in subst P (sym c.loop-progress.invariant.kept) c.requires.of.kept.rise

pub go_to-requires-clause-kept : goal.go_to-requires-clause-kept
go_to-requires-clause-kept g c =
    let j = c.args.self.now in
    let P : List ℕ → Type 0 = λ l. All (λ i. i < length j.layout.tokens.now) l in
    let Q : Layout → Type 0 = λ layout. All (λ i. i < length layout.tokens.now) c.loop-progress.runs.kept.now in
    subst Q (sym c.loop-progress.invariant.layout) (subst P (sym c.loop-progress.invariant.kept) (kept_there j.layout.tokens.now j.kept.now c.requires.of.kept))

pub go_to-requires-clause-order : goal.go_to-requires-clause-order
go_to-requires-clause-order g c =
    let P : Layout → Type 0 =
    λ layout. AreInOrder layout.start.now (map token_of layout.tokens.now) in subst P (sym c.loop-progress.invariant.layout) c.requires.of.order

pub go_to-requires-clause-small : goal.go_to-requires-clause-small
go_to-requires-clause-small g c =
    let P : Layout → Type 0 =
    λ layout. length layout.start.now < 2 ^ 32 in subst P (sym c.loop-progress.invariant.layout) (omega (arith, c.requires.of.small_start))

pub go_to-requires-clause-runs : goal.go_to-requires-clause-runs
go_to-requires-clause-runs g c =
    let j = c.args.self.now in
    short_after c.loop-progress.progress.at (runs_of j) (all_ahead c.loop-progress.runs)
    (copies_short j.layout.start.now j.text.now 0 (runs_of j) c.requires.of.copied (omega (arith, c.requires.of.small))) c.loop-progress.invariant.ahead

pub step-requires-clause-of : goal.step-requires-clause-of
step-requires-clause-of g c =
    let P : WrittenGrammar → Type 0 = λ G. IsJoinsOf G c.args.self.now in subst P (sym c.loop-progress.invariant.grammar) c.requires.of

pub step-requires-clause-starts : goal.step-requires-clause-starts
step-requires-clause-starts g c = c.loop-progress.invariant.passed.boundary

pub step-requires-clause-found : goal.step-requires-clause-found
step-requires-clause-found g c = c.loop-progress.invariant.passed.few

pub step-requires-clause-few : goal.step-requires-clause-few
step-requires-clause-few g c = omega (arith, c.loop-progress.invariant.passed.slow, c.requires.few, c.requires.of.small, c.loop-progress-test.true)

pub step-requires-clause-current : goal.step-requires-clause-current
step-requires-clause-current g c =
    let j = c.args.self.now in
    let at = c.loop-progress.progress.at in
    let runs = c.go_to.new.self in
    current_is at (runs_of j) runs.layout runs.kept.now runs.next runs.current
    (passed_more at at (runs_of j) (all_ahead c.loop-progress.runs) (all_ahead runs) (omega arith) c.loop-progress.invariant.ahead c.go_to.ensures.runs)
    c.go_to.ensures.current

pub returns-in_err-passed-clause-reads : goal.returns-in_err-passed-clause-reads
returns-in_err-passed-clause-reads g c =
    let j = c.args.self.now in
    let P : WrittenGrammar → Type 0 =
    λ G. ReadsFewFrom G j c.loop-progress.progress.at (g.R.PieceReader.reads c.loop-progress.reader) (g.R.PieceReader.reads c.step.new.reader) in
    few_after (g.R.PieceReader.grammar c.args.reader.now) j c.loop-progress.invariant.passed
    (subst P c.loop-progress.invariant.grammar c.step.ensures.reads)

pub returns-in_err-passed-clause-grammar : goal.returns-in_err-passed-clause-grammar
returns-in_err-passed-clause-grammar g c = c.step.ensures.grammar ∙ c.loop-progress.invariant.grammar

pub returns-in-None-clause-grammar : goal.returns-in-None-clause-grammar
returns-in-None-clause-grammar g c = c.step.ensures.grammar ∙ c.loop-progress.invariant.grammar

pub returns-in-None-clause-reads : goal.returns-in-None-clause-reads
returns-in-None-clause-reads g c =
    let j = c.args.self.now in
    let P : WrittenGrammar → Type 0 = λ G. ReadsFewFrom G j c.loop-progress.progress.at (g.R.PieceReader.reads c.loop-progress.reader)
    (g.R.PieceReader.reads c.step.new.reader) in
    few_after (g.R.PieceReader.grammar c.args.reader.now) j
    c.loop-progress.invariant.passed (subst P c.loop-progress.invariant.grammar c.step.ensures.reads)

pub returns-in-None-clause-keeps : goal.returns-in-None-clause-keeps
returns-in-None-clause-keeps g c =
    let j = c.args.self.now in
    let p = c.loop-progress.progress in
    let P : WrittenGrammar → Type 0 =
    λ G. MatchOption c.in_ok-passed.passed (¬ IsKeptFrom G j p)
    (λ q. (p.at < q.at) × IsPassed G j p q (g.R.PieceReader.reads c.loop-progress.reader) (g.R.PieceReader.reads c.step.new.reader)) in
    let G = g.R.PieceReader.grammar c.args.reader.now in
    let none = at_none c.in_ok-passed.passed (¬ IsKeptFrom G j p) _ c.in-None.is (subst P c.loop-progress.invariant.grammar c.in_ok-passed.ensures.passed) in
    (λ t. absurd (true≢false (sym t)), λ k. absurd (none (c.loop-progress.invariant.passed.keeps.0 k)))

pub loop-progress-preserved : goal.loop-progress-preserved
loop-progress-preserved g c =
    let j = c.args.self.now in
    let p = c.loop-progress.progress in
    let q = c.in-Some.next in
    let G = g.R.PieceReader.grammar c.args.reader.now in
    let P : WrittenGrammar → Type 0 =
    λ H. MatchOption c.in_ok-passed.passed (¬ IsKeptFrom H j p)
    (λ r. (p.at < r.at) × IsPassed H j p r (g.R.PieceReader.reads c.loop-progress.reader) (g.R.PieceReader.reads c.step.new.reader)) in
    let (rises, passed) =
    at_some c.in_ok-passed.passed q (¬ IsKeptFrom G j p)
    (λ (r : Progress). (p.at < r.at) × IsPassed G j p r (g.R.PieceReader.reads c.loop-progress.reader) (g.R.PieceReader.reads c.step.new.reader))
    c.in-Some.is (subst P c.loop-progress.invariant.grammar c.in_ok-passed.ensures.passed) in
    let runs = c.go_to.new.self in
    let at_p =
    passed_more p.at p.at (runs_of j) (all_ahead c.loop-progress.runs) (all_ahead runs) (omega arith) c.loop-progress.invariant.ahead c.go_to.ensures.runs in
    record {
      passed = passed_on G j c.loop-progress.invariant.passed passed;
      ahead = passed_more p.at q.at (runs_of j) (all_ahead runs) (all_ahead runs) (omega (arith, rises)) at_p (passed_at_first q.at (all_ahead runs));
      layout = c.go_to.ensures.layout ∙ c.loop-progress.invariant.layout;
      kept = ap (λ k. k.now) c.go_to.ensures.kept ∙ c.loop-progress.invariant.kept;
      grammar = c.step.ensures.grammar ∙ c.loop-progress.invariant.grammar;
    }

pub loop-progress-smaller : goal.loop-progress-smaller
loop-progress-smaller g c =
    let j = c.args.self.now in
    let p = c.loop-progress.progress in
    let q = c.in-Some.next in
    let H = g.R.PieceReader.grammar c.loop-progress.reader in
    let (rises, passed) =
    at_some c.in_ok-passed.passed q (¬ IsKeptFrom H j p)
    (λ (r : Progress). (p.at < r.at) × IsPassed H j p r (g.R.PieceReader.reads c.loop-progress.reader) (g.R.PieceReader.reads c.step.new.reader))
    c.in-Some.is c.in_ok-passed.ensures.passed in
    omega (arith, rises, passed.boundary.0)

pub returns-clause-reads : goal.returns-clause-reads
returns-clause-reads g c = few_passed (g.R.PieceReader.grammar c.args.reader.now) c.args.self.now c.loop-progress.invariant.passed

pub returns-clause-keeps : goal.returns-clause-keeps
returns-clause-keeps g c =
    let j = c.args.self.now in
    let p = c.loop-progress.progress in
    let i = c.loop-progress.invariant.passed in
    let ends = kept_at_end (g.R.PieceReader.grammar c.args.reader.now) j c.requires.of p (omega (arith, c.loop-progress-test.false)) i.few
    (none_left j.layout.start.now j.layout.tokens.now j.kept.now (kept_there j.layout.tokens.now j.kept.now c.requires.of.kept) p.found i.few) in
    (λ t. i.keeps.1 (ends.1 (eqb-true p.found (length j.kept.now) t)), λ k. eq-eqb p.found (length j.kept.now) (ends.0 (i.keeps.0 k)))
