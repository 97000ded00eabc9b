use Rattle.std.proofs.Common.{◌∙◌, sym}
use Rattle.std.proofs.lemmas.Bool.Decides.{Decides-eqb}
use Rattle.std.proofs.lemmas.Slice.Eq.{slice_eq-Decides}
use Rattle.cert_check_texts.specs.inner.Print.{tokens_in}
use Rattle.cert_check_texts.proofs.Ending.{ends_where}
use Rattle.cert_check_texts.proofs.prints.Print.ends_at.Goals as goal

pub returns : goal.returns
returns c =
    let ends =
    ends_where c.args.self.now.layout.skips c.args.self.now.layout.start.now
    (tokens_in c.args.self.now) c.args.self.now.layout.style c.args.self.now.text.now c.args.last c.args.offset in
    let same = slice_eq-Decides Decides-eqb _ _ _ c.eq.ensures in
    let after = c.as_bytes.ensures.value ∙ c.after.ensures in
    (λ is. ends.1 (sym c.rest_from.ensures ∙ same.0 is ∙ after), λ can. same.1 (c.rest_from.ensures ∙ ends.0 can ∙ sym after))
