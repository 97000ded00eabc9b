use Rattle.std.proofs.Common.{◌≡◌, sym, ap, ◌∙◌}
use Rattle.std.specs.Str.{chars}
use Rattle.std.proofs.lemmas.Slice.Eq.{bytes_eq-Decides}
use Rattle.grammar_tree.proofs.Texts.{same_bytes}
use Rattle.grammar_tree.proofs.text.Text.is.Goals as goal

pub returns : goal.returns
returns c =
    let d = bytes_eq-Decides c.as_str.result.now c.as_str-2.result.now in
    let left : chars c.as_str.result.now ≡ c.args.self.now = ap chars c.as_str.ensures.value ∙ c.self.view_is in
    let right : chars c.as_str-2.result.now ≡ c.args.other.now = ap chars c.as_str-2.ensures.value ∙ c.other.view_is in (
      λ t. sym left ∙ ap chars (d.0 (sym c.eq.ensures ∙ t)) ∙ right,
      λ e. c.eq.ensures ∙ d.1 (same_bytes c.as_str.result.now c.as_str-2.result.now c.as_str.utf8 c.as_str-2.utf8 (left ∙ e ∙ sym right)),
    )
