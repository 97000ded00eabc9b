use Rattle.std.proofs.Common.{◌≢◌, ℕ, length, ap, arith, sym, true≢false, ◌∙◌}
use Rattle.std.specs.Prelude.{◌==◌}
use Rattle.std.proofs.lemmas.List.Elements.{Contains-get_or}
use Rattle.cert_check_texts.proofs.reached.has_first.Goals as goal

pub returns : goal.returns
returns c = λ is.
    let both = c.stands_for.ensures is in
    let some : length c.args.firsts.now ≢ 0 = λ none. true≢false (sym (c.is_empty.ensures ∙ ap (λ (n : ℕ). n == 0) none) ∙ c.if-is_empty.false) in
    (_, Contains-get_or c.args.firsts.now _ _ (omega (arith, some)), both.0, both.1)
