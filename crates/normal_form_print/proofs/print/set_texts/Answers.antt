use Rattle.std.proofs.Common.{List, ℕ, map, ap, ◌∙◌}
use Rattle.std.specs.Prelude.{encode_utf8_all}
use Rattle.std.proofs.lemmas.List.{take_all}
use Rattle.std.proofs.lemmas.Simd.{map-map}
use Rattle.grammar_tree.specs.GrammarView.{kind_of}
use Rattle.grammar_names.specs.KindLists.{lacking}
use Rattle.normal_form_print.specs.Print.{but_text, numbered_kind_text}
use Rattle.normal_form_sets.specs.Sets.{items_of}
use Rattle.normal_form_print.proofs.print.set_texts.Goals as goal

pub returns : goal.returns
returns c =
    let text = λ (missing : List ℕ). encode_utf8_all (but_text (numbered_kind_text (map kind_of c.args.kinds.now)) missing) in
    let visible = c.deref.ensures.value ∙ c.in_ok-visible.ensures in
    c.loop-list.invariant
    ∙ ap (λ l. map text (map items_of l)) (take_all c.loop-list.list-index c.deref-list-items.result.now c.loop-list-test.false
    ∙ c.deref-list-items.ensures.value)
    ∙ ap (map text) (c.in_ok-missing.ensures ∙ ap (λ l. map (lacking l) c.args.sets.now.sets) visible)
    ∙ map-map text (lacking _) c.args.sets.now.sets
