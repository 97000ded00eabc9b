use Rattle.std.proofs.Common.{map, sym, ◌∙◌}
use Rattle.std.proofs.lemmas.Option.{none-some}
use Rattle.normal_form.specs.View.{rule_form}
use Rattle.compat_table.specs.inner.View.{symbols_of}
use Rattle.compat_table.proofs.FindingStars.{pushed_none, pushed_star}
use Rattle.compat_table.proofs.stars.push_star.Goals as goal

pub returns-in_ok-push-in-Some : goal.returns-in_ok-push-in-Some
returns-in_ok-push-in-Some c =
    let symbol = c.in-Some.symbol in
    pushed_star (map rule_form c.args.rules.now) c.args.rule symbol (symbols_of c.args.stars.now) (symbols_of c.push.new.self)
    ((c.star_symbol.ensures symbol).0 c.in-Some.is) c.in_ok-push-in-Some.ensures

pub returns-in-None : goal.returns-in-None
returns-in-None c =
    pushed_none (map rule_form c.args.rules.now) c.args.rule (symbols_of c.args.stars.now)
    (λ t star. none-some t (sym c.in-None.is ∙ (c.star_symbol.ensures t).1 star))
