use Rattle.std.proofs.Common.{◌≡◌, ◌∙◌, ◌&&◌, ◌||◌, List, [], ℕ, Bool, Option, Some, None, bytes_eq, codes, if◌then◌else◌, refl, rules, ap, unwrap_or}
use Rattle.command_words.specs.Options.{Values, values_for}
use Rattle.command_words.specs.Commands.{is_given, text_of, value_of}
use Rattle.command_words.specs.Tables.{optional, reduce_table}
use Rattle.command_words.proofs.Assembled.{reduce_chooses}
use Rattle.command_words.proofs.Firsts.{first_or, flag_there, mode_named}
use Rattle.command_words.proofs.reduce.respell_of.Goals as goal

-- mode `lines` is the one that is given
given_lines : (o : Option (List ℕ)) → bytes_eq (unwrap_or o (codes "perses")) (codes "lines") ≡ bytes_eq (unwrap_or o []) (codes "lines")
given_lines None = refl
given_lines (Some text) = refl

pub returns : goal.returns
returns c = λ uses has.
    let m = c.args.matches.now in
    let flag : c.get_flag-respell.result ≡ is_given (codes "respell") uses =
    flag_there (values_for (codes "respell") uses) _ c.get_flag-respell.result (has.has.flags (optional (codes "respell") Values.no_value) refl refl)
    c.get_flag-respell.ensures.value c.get_flag-respell.ensures.other in
    let text = first_or reduce_table uses m (codes "mode") has (mode_named reduce_table reduce_chooses) _ _ _ c.get_str.ensures c.unwrap_or-mode.ensures in
    let lines : c.eq-lines.result ≡ bytes_eq (text_of (codes "mode") uses) (codes "lines") =
    c.eq-lines.ensures ∙ ap (λ (t : List ℕ). bytes_eq t (codes "lines")) text ∙ given_lines (value_of (codes "mode") uses) in
    let protects = c.says_protects-protects.ensures uses has in
    c.respell_if.ensures ∙ ap (λ (b : Bool). if c.get_flag-respell.result && b then None else Some c.get_flag-respell.result) (search rules)
    ∙ (λ i. if flag i && (lines i || protects i) then None else Some (flag i))
