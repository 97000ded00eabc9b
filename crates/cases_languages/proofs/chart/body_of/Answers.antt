use Rattle.std.proofs.Common.{◌∙◌, ap, refl, length}
use Rattle.std.specs.Option.{option_map}
use Rattle.std.proofs.lemmas.Option.{slice_get_read, slice_get-map}
use Rattle.cases_languages.specs.View.{pattern}
use Rattle.cases_languages.proofs.chart.body_of.Goals as goal

pub returns : goal.returns
returns c =
    slice_get-map pattern c.args.bodies.now c.args.rule
    ∙ ap (option_map pattern) (slice_get_read c.args.bodies.now
    (length c.args.bodies.now) c.args.rule c.index-bodies-rule.result refl c.requires c.index-bodies-rule.is)
