use Rattle.std.proofs.Common.{◌≡◌, ◌∙◌, ◌+◌, [], length, ap, arith, sym}
use Rattle.command_words.specs.Options.{is_value}
use Rattle.command_words.proofs.Parts.{part_alone, part_with_value, rest_whole}
use Rattle.command_words.proofs.options.is_option_part.Goals as goal

pub returns-in-None : goal.returns-in-None
returns-in-None c =
    sym (part_alone c.args.option.now (sym c.in-None.ensures.place)
    (λ (empty : c.args.option.now ≡ []). let none : length c.args.option.now ≡ 0 = ap length empty in absurd (omega arith)))

pub returns-in-Some : goal.returns-in-Some
returns-in-Some c =
    c.is_value.ensures ∙ ap is_value (rest_whole c.args.option.now (c.in-Some.end + 1))
    ∙ sym (part_with_value c.args.option.now c.in-Some.end (sym c.in-Some.ensures.place))
