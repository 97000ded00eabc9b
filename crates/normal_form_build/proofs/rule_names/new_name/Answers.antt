use Rattle.std.proofs.Common.{◌≡◌, ℕ, List, ◌∷◌, ◌++◌, IfOk, ap, ◌∙◌, subst, arith}
use Rattle.std.specs.Fmt.{decimal}
use Rattle.std.specs.Str.{chars}
use Rattle.normal_form_build.proofs.NewNames.{name_chars}
use Rattle.normal_form_build.proofs.rule_names.new_name.Goals as goal

pub returns : goal.returns
returns c =
    let P : List ℕ → Type 0 = λ l. IfOk c.new.result (λ t. t ≡ l) in
    subst P (ap chars (c.as_str.ensures.value ∙ c.in_ok-text.ensures.ok)
    ∙ name_chars c.as_str-name.result.now c.args.number c.as_str-name.utf8 (omega (arith, c.ranges.number))
    ∙ ap (λ l. l ++ (35 ∷ decimal c.args.number)) c.as_str-name.ensures) c.new.ensures
