use Rattle.std.proofs.Common.{◌≡◌, ◌<◌, ◌∙◌, true, length, refl, ap, sym, subst, arith, rules}
use Rattle.syntax_tree.specs.Trees.{leaves}
use Rattle.token_print.specs.declared.style.Style.{Style}
use Rattle.reduce_trees_mode.specs.Listed.{text_in}
use Rattle.reduce_trees.specs.inner.Candidates.{IsCandidateIn}
use Rattle.reduce_trees_mode.specs.InputOf.{input_of}
use Rattle.reduce_trees.proofs.TrialLemmas.{squeezed_short, whole_are_kept}
use Rattle.reduce_trees.proofs.trial.opening_trial.Goals as goal

pub text_of-requires : goal.text_of-requires
text_of-requires g c =
    let parts = c.args.parts.now in
    let input =
    input_of parts.start.grammar parts.formed parts.tree parts.start.bytes parts.tokens.items.items (g.F.Relation.admits parts.guard) parts.squeezes in
    whole_are_kept input c.is_input.ensures.is c.left_is_part.ensures (c.whole_is_start.ensures input c.is_input.ensures.is) c.deref.result.now
    (c.deref.ensures.value ∙ c.in_ok-kept.ensures.tokens ∙ ap leaves c.in_ok-cut.ensures.whole)

pub with_text-requires-clause-kept : goal.with_text-requires-clause-kept
with_text-requires-clause-kept g c =
    let parts = c.args.parts.now in
    let input = input_of parts.start.grammar parts.formed parts.tree parts.start.bytes parts.tokens.items.items
    (g.F.Relation.admits parts.guard) parts.squeezes in
    whole_are_kept input c.is_input.ensures.is c.left_is_part.ensures (c.whole_is_start.ensures input c.is_input.ensures.is) c.deref-2.result.now
    (c.deref-2.ensures.value ∙ c.in_ok-kept.ensures.tokens ∙ ap leaves c.in_ok-cut.ensures.whole)

pub with_text-requires-clause-printed : goal.with_text-requires-clause-printed
with_text-requires-clause-printed g c =
    let parts = c.args.parts.now in
    let input = input_of parts.start.grammar parts.formed parts.tree parts.start.bytes parts.tokens.items.items (g.F.Relation.admits parts.guard)
    parts.squeezes in
    c.in_ok-text.ensures ∙ ap (λ kept. text_in input kept Style.Squeezed) (c.deref.ensures.value ∙ sym c.deref-2.ensures.value)

pub returns-clause-tried : goal.returns-clause-tried
returns-clause-tried g c =
    let parts = c.args.parts.now in
    let input = input_of parts.start.grammar parts.formed parts.tree parts.start.bytes
    parts.tokens.items.items (g.F.Relation.admits parts.guard) parts.squeezes in
    let all : c.deref.result.now ≡ leaves input.whole = c.deref.ensures.value ∙ c.in_ok-kept.ensures.tokens ∙ ap leaves c.in_ok-cut.ensures.whole in
    let all_again : c.deref-2.result.now ≡ leaves input.whole = c.deref-2.ensures.value ∙ c.in_ok-kept.ensures.tokens ∙ ap leaves c.in_ok-cut.ensures.whole in
    let asked : c.args.parts.now.squeezes ≡ true = search rules in
    let same : length c.text.result.now ≡ length c.args.parts.now.start.bytes = ap length c.text.ensures in
    let shorter : length c.in_ok-text.text.items < length c.args.parts.now.start.bytes = omega (arith, c.len.ensures, same, c.if-len-text.false) in (
      refl,
      refl,
      squeezed_short input c.in_ok-text.text.items c.deref.result.now all c.in_ok-text.ensures asked shorter,
      subst (λ kept. IsCandidateIn input kept Style.Squeezed c.in_ok-candidate.candidate) all_again
          c.in_ok-candidate.ensures,
    )
