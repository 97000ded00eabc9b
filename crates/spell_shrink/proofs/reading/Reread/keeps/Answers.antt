use Rattle.std.proofs.Common.{◌<◌, ◌≤◌, ◌∙◌, length, refl, rules, sym, subst, arith, true≢false, eqb-true, eq-eqb}
use Rattle.std.proofs.Math.Logic.{∥∥₁_elim}
use Rattle.std.proofs.Props.{props}
use Rattle.std.specs.Prelude.{MatchOption}
use Rattle.grammar_tree.specs.Written.{WrittenGrammar}
use Rattle.token_print.proofs.Lent.{at_none, at_some}
use Rattle.spell_shrink.specs.inner.Rereads.{IsReadTo, IsStopped}
use Rattle.spell_shrink.proofs.Rereading.{carried_at, goes_on_at, is_small, merely_both, merely_same, read_few, read_none, read_on, read_rises, read_starts}
use Rattle.spell_shrink.proofs.Rereading.{rest_at_end, whole_text}
use Rattle.spell_shrink.proofs.reading.Reread.keeps.Goals as goal

pub carried-progress-requires : goal.carried-progress-requires
carried-progress-requires g c = ∥∥₁_elim c.requires.reread (hlevel props) (λ is. ∣ (g.R.PieceReader.grammar c.args.reader.now, is.cut) ∣₁)

-- the one that is replaced is found before the change
pub returns-then-progress-self-clause-keeps : goal.returns-then-progress-self-clause-keeps
returns-then-progress-self-clause-keeps g c =
    let G = g.R.PieceReader.grammar c.args.reader.now in
    let r = c.args.self.now in
    let p = c.carried-progress.result in
    let high : r.expected.index < p.found = search rules in (
      λ so. absurd (true≢false (sym so)),
      λ spells.
          ∥∥₁_elim c.requires.reread (hlevel props)
          (λ is. ∥∥₁_elim spells (hlevel props)
          (λ whole.
          absurd ((carried_at c.tokens_are_pieces.ensures G r is p c.carried-progress.ensures).none high
          ((whole_text c.tokens_are_pieces.ensures G r is).0 whole)))),
    )

pub loop-progress-init : goal.loop-progress-init
loop-progress-init g c =
    let G = g.R.PieceReader.grammar c.args.reader.now in
    let r = c.args.self.now in
    let p = c.carried-progress.result in
    let law = c.tokens_are_pieces.ensures in
    let low : p.found ≤ r.expected.index = search rules in
    record {
      grammar = refl;
      reads = omega arith;
      starts = ∥∥₁_elim c.requires.reread (hlevel props) (λ is. (carried_at law G r is p c.carried-progress.ensures).starts);
      few = ∥∥₁_elim c.requires.reread (hlevel props) (λ is. (carried_at law G r is p c.carried-progress.ensures).few);
      same =
          ∥∥₁_elim c.requires.reread (hlevel props)
          (λ is. merely_both (whole_text law G r is) ((carried_at law G r is p c.carried-progress.ensures).on low));
    }

pub goes_on-requires-clause-reread : goal.goes_on-requires-clause-reread
goes_on-requires-clause-reread g c = ∥∥₁_elim c.requires.reread (hlevel props) (λ is. ∣ (g.R.PieceReader.grammar c.args.reader.now, is) ∣₁)

pub goes_on-requires-clause-within : goal.goes_on-requires-clause-within
goes_on-requires-clause-within g c = c.loop-progress.invariant.starts.0

-- from here on the text is as it was
pub returns-in-Some-clause-keeps : goal.returns-in-Some-clause-keeps
returns-in-Some-clause-keeps g c =
    let G = g.R.PieceReader.grammar c.args.reader.now in
    let r = c.args.self.now in
    let i = c.loop-progress.invariant in
    let it = c.in-Some.ensures in
    ∥∥₁_elim c.requires.reread (hlevel props)
    (λ is.
    let on = goes_on_at c.tokens_are_pieces.ensures G r is c.loop-progress.progress it.0 it.1 it.2 it.3 i.few in (
      λ same. i.same.1 ∣ on.1 (it.4.0 same) ∣₁,
      λ spells. ∥∥₁_elim (i.same.0 spells) (hlevel props) (λ rest. it.4.1 (on.0 rest)),
    ))

pub returns-in-Some-clause-grammar : goal.returns-in-Some-clause-grammar
returns-in-Some-clause-grammar g c = c.loop-progress.invariant.grammar

pub read-requires-clause-expected : goal.read-requires-clause-expected
read-requires-clause-expected g c = ∥∥₁_elim c.requires.reread (hlevel props) (λ is. is.expected_so)

pub read-requires-clause-utf8 : goal.read-requires-clause-utf8
read-requires-clause-utf8 g c = ∥∥₁_elim c.requires.reread (hlevel props) (λ is. is.utf8)

pub read-requires-clause-small : goal.read-requires-clause-small
read-requires-clause-small g c =
    ∥∥₁_elim c.requires.reread (hlevel props) (λ is. is_small (g.R.PieceReader.grammar c.args.reader.now) c.args.self.now is)

pub read-requires-clause-starts : goal.read-requires-clause-starts
read-requires-clause-starts g c = c.loop-progress.invariant.starts

pub read-requires-clause-few : goal.read-requires-clause-few
read-requires-clause-few g c =
    let small = ∥∥₁_elim c.requires.reread (hlevel props)
    (λ is. is_small (g.R.PieceReader.grammar c.args.reader.now) c.args.self.now is) in
    omega (arith, c.loop-progress.invariant.reads, c.requires.few, small, c.loop-progress-test.true)

pub returns-in_err-passed-clause-grammar : goal.returns-in_err-passed-clause-grammar
returns-in_err-passed-clause-grammar g c = c.read.ensures.grammar ∙ c.loop-progress.invariant.grammar

pub returns-in-None-clause-grammar : goal.returns-in-None-clause-grammar
returns-in-None-clause-grammar g c = c.read.ensures.grammar ∙ c.loop-progress.invariant.grammar

-- nothing is passed
pub returns-in-None-clause-keeps : goal.returns-in-None-clause-keeps
returns-in-None-clause-keeps g c =
    let G = g.R.PieceReader.grammar c.args.reader.now in
    let r = c.args.self.now in
    let p = c.loop-progress.progress in
    let i = c.loop-progress.invariant in
    let P : WrittenGrammar → Type 0 =
    λ H. MatchOption c.in_ok-passed.passed (IsStopped H r.expected r.text.now p) (IsReadTo H r.expected r.text.now p) in
    let stopped = at_none c.in_ok-passed.passed (IsStopped G r.expected r.text.now p) (IsReadTo G r.expected r.text.now p) c.in-None.is
    (subst P i.grammar c.in_ok-passed.ensures.next) in (
      λ so. absurd (true≢false (sym so)),
      λ spells.
          ∥∥₁_elim c.requires.reread (hlevel props)
          (λ is. ∥∥₁_elim (i.same.0 spells) (hlevel props)
          (λ rest. absurd (read_none c.tokens_are_pieces.ensures G r is p i.starts (omega (arith, c.loop-progress-test.true)) stopped rest))),
    )

pub loop-progress-preserved : goal.loop-progress-preserved
loop-progress-preserved g c =
    let G = g.R.PieceReader.grammar c.args.reader.now in
    let r = c.args.self.now in
    let p = c.loop-progress.progress in
    let q = c.in-Some-passed.next in
    let i = c.loop-progress.invariant in
    let law = c.tokens_are_pieces.ensures in
    let P : WrittenGrammar → Type 0 =
    λ H. MatchOption c.in_ok-passed.passed (IsStopped H r.expected r.text.now p) (IsReadTo H r.expected r.text.now p) in
    let read = at_some c.in_ok-passed.passed q (IsStopped G r.expected r.text.now p) (IsReadTo G r.expected r.text.now p) c.in-Some-passed.is
    (subst P i.grammar c.in_ok-passed.ensures.next) in
    let rises : p.at < q.at = ∥∥₁_elim c.requires.reread (hlevel props) (λ is. read_rises law G r is p q read) in
    record {
      grammar = c.read.ensures.grammar ∙ i.grammar;
      reads = omega (arith, i.reads, c.read.ensures.reads, rises);
      starts = ∥∥₁_elim c.requires.reread (hlevel props) (λ is. read_starts law G r is p q read);
      few = ∥∥₁_elim c.requires.reread (hlevel props) (λ is. read_few law G r is p q read i.few);
      same = ∥∥₁_elim c.requires.reread (hlevel props) (λ is. merely_same i.same (read_on law G r is p q read));
    }

pub loop-progress-smaller : goal.loop-progress-smaller
loop-progress-smaller g c =
    let G = g.R.PieceReader.grammar c.args.reader.now in
    let r = c.args.self.now in
    let p = c.loop-progress.progress in
    let q = c.in-Some-passed.next in
    let i = c.loop-progress.invariant in
    let law = c.tokens_are_pieces.ensures in
    let P : WrittenGrammar → Type 0 =
    λ H. MatchOption c.in_ok-passed.passed (IsStopped H r.expected r.text.now p) (IsReadTo H r.expected r.text.now p) in
    let read = at_some c.in_ok-passed.passed q (IsStopped G r.expected r.text.now p) (IsReadTo G r.expected r.text.now p) c.in-Some-passed.is
    (subst P i.grammar c.in_ok-passed.ensures.next) in
    ∥∥₁_elim c.requires.reread (hlevel props)
    (λ is. omega (arith, read_rises law G r is p q read, (read_starts law G r is p q read).0))

pub returns-clause-grammar : goal.returns-clause-grammar
returns-clause-grammar g c = c.loop-progress.invariant.grammar

-- at the end of the text
pub returns-clause-keeps : goal.returns-clause-keeps
returns-clause-keeps g c =
    let G = g.R.PieceReader.grammar c.args.reader.now in
    let r = c.args.self.now in
    let p = c.loop-progress.progress in
    let i = c.loop-progress.invariant in
    ∥∥₁_elim c.requires.reread (hlevel props)
    (λ is.
    let ends = rest_at_end c.tokens_are_pieces.ensures G r is p (omega (arith, c.loop-progress-test.false)) i.few in (
      λ all. i.same.1 ∣ ends.1 (eqb-true p.found (length r.expected.kept.now) all) ∣₁,
      λ spells. ∥∥₁_elim (i.same.0 spells) (hlevel props) (λ rest. eq-eqb p.found (length r.expected.kept.now) (ends.0 rest)),
    ))
