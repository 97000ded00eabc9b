use Rattle.std.proofs.Common.{sym, subst, ap, refl, ◌∙◌}
use Rattle.reduce_rounds.specs.inner.Fields.{StaysKept}
use Rattle.reduce_rounds.proofs.FieldLemmas.{kept-first}
use Rattle.reduce_rounds.proofs.rounds.Rounds.new.Goals as goal

pub invariant_of-result : goal.invariant_of-result
invariant_of-result g c = record {
  ready = record {
    short = c.requires.short;
    asking = (
      record {
        text = c.requires.text ∙ ap (g.R.Round.mode (g.R.Round.input c.args.round)).text (sym c.requires.state);
        units = c.requires.units ∙ ap (g.R.Round.mode (g.R.Round.input c.args.round)).size (sym c.requires.state);
        refused = refl;
      },
      subst (λ s. StaysKept (g.R.Round.mode (g.R.Round.input c.args.round)) (g.R.Round.Kept (g.R.Round.input c.args.round)) s (g.R.Round.rest c.args.round))
          (sym c.requires.state)
          (subst (StaysKept (g.R.Round.mode (g.R.Round.input c.args.round)) (g.R.Round.Kept (g.R.Round.input c.args.round))
          (g.R.Round.mode (g.R.Round.input c.args.round)).start) (sym c.requires.rest)
          (kept-first (g.R.Round.mode (g.R.Round.input c.args.round)) (g.R.Round.Kept (g.R.Round.input c.args.round)))),
      refl,
    );
  };
}
