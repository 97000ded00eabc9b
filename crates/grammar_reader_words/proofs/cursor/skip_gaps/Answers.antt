use Rattle.std.proofs.Common.{◌∙◌, arith, refl, rules}
use Rattle.std.specs.Str.{chars}
use Rattle.grammar_reader_words.proofs.Going.{gap_part, gap_passed, brace_passed, gap_shorter}
use Rattle.grammar_reader_words.proofs.Spanning.{spans_passed}
use Rattle.grammar_reader_words.proofs.Tails.{Ends, over, whole}
use Rattle.grammar_reader_words.proofs.cursor.skip_gaps.Goals as goal

pub loop-after-smaller : goal.loop-after-smaller
loop-after-smaller c = gap_shorter (chars c.loop-after.rest.now) (chars c.in-Some.after.now) c.in-Some.ensures.same

pub loop-after-preserved : goal.loop-after-preserved
loop-after-preserved c = record {
  text = search rules;
  same = λ total. c.loop-after.invariant.same total ∙ gap_passed total (chars c.loop-after.rest.now) (chars c.in-Some.after.now) c.in-Some.ensures.same;
  spans = λ total. c.loop-after.invariant.spans total ∙ spans_passed total (chars c.loop-after.rest.now) (chars c.in-Some.after.now) c.in-Some.ensures.same;
  last = over c.loop-after.invariant.last (gap_part (chars c.loop-after.rest.now) (chars c.in-Some.after.now) c.in-Some.ensures.same);
  brace = c.loop-after.invariant.brace ∙ brace_passed (chars c.loop-after.rest.now) (chars c.in-Some.after.now) c.in-Some.ensures.same;
  fits = omega (arith, c.in-Some.ensures.fits);
}

pub loop-after-init : goal.loop-after-init
loop-after-init c = record {
  text = search rules;
  same = λ total. refl;
  spans = λ total. refl;
  last = whole (chars c.args.text.now);
  brace = refl;
  fits = omega arith;
}

pub returns-clause-last : goal.returns-clause-last
returns-clause-last c = let e : Ends (chars c.args.text.now) (chars c.loop-after.rest.now) = c.loop-after.invariant.last in (e.passed, e.cut)
