use Rattle.std.proofs.Common.{◌≡◌, ◌∙◌, ◌||◌, Bool, codes, refl, sym, ap}
use Rattle.command_words.specs.Options.{Values, values_for}
use Rattle.command_words.specs.Commands.{is_given, names_grammar}
use Rattle.command_words.specs.Tables.{optional}
use Rattle.command_words.proofs.Firsts.{any_of_three, flag_there, is_there}
use Rattle.command_words.proofs.mode.says_grammar.Goals as goal
use Rattle.command_words.proofs.mode.says_grammar.Goals.{then-names_grammar, else-names_grammar}

pub returns-else-contains_id : goal.returns-else-contains_id
returns-else-contains_id c = λ table uses chooses has.
    let m = c.args.matches.now in
    let grammar = names_grammar uses in
    let start = is_given (codes "start") uses in
    let squeeze = is_given (codes "squeeze") uses in
    let grammar_is : c.names_grammar.result ≡ grammar = c.names_grammar.ensures table uses chooses has in
    let first : c.if-names_grammar.value ≡ (grammar || start) = elim c.if-names_grammar.branch [
      | then-names_grammar w ↦ w.value-is ∙ w.if-names_grammar.true ∙ sym (ap (λ (b : Bool). b || start) (sym grammar_is ∙ w.if-names_grammar.true))
      | else-names_grammar w ↦
          w.value-is ∙ w.contains_id.ensures ∙ is_there table uses m (codes "start") has chooses.start
          ∙ sym (ap (λ (b : Bool). b || start) (sym grammar_is ∙ w.if-names_grammar.false))
    ] in
    let flag : c.get_flag.result ≡ squeeze =
    flag_there (values_for (codes "squeeze") uses) _ c.get_flag.result
    (has.has.flags (optional (codes "squeeze") Values.no_value) chooses.squeeze refl) c.get_flag.ensures.value c.get_flag.ensures.other in
    any_of_three grammar start squeeze c.if-names_grammar.value c.get_flag.result first (flag ∙ sym (ap (λ (b : Bool). b || squeeze) c.if-contains_id.false))
