use Rattle.std.proofs.Common.{◌∙◌, sym}
use Rattle.std.proofs.lemmas.Slice.Eq.{bytes_eq-Decides}
use Rattle.cert_check_texts.proofs.prints.Print.is_spelled.Goals as goal

pub returns : goal.returns
returns c =
    let d = bytes_eq-Decides c.spelling.result.now c.args.spelling.now in
    (λ is. sym c.spelling.ensures ∙ d.0 (sym c.eq.ensures ∙ is), λ same. c.eq.ensures ∙ d.1 (c.spelling.ensures ∙ same))
