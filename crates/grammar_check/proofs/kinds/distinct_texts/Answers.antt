use Rattle.std.proofs.Common.{◌++◌, List, ℕ, ◌∷◌, [], take, sym, ap, ◌∙◌, subst, arith}
use Rattle.std.proofs.lemmas.List.{take_more}
use Rattle.grammar_tree.specs.Kinds.{distinct}
use Rattle.grammar_names.specs.Index.{Finds}
use Rattle.grammar_check_faults.specs.inner.Seen.{seen_in}
use Rattle.grammar_check.specs.inner.Kinds.{unless_seen}
use Rattle.grammar_check.proofs.KindForms.{distinct_push}
use Rattle.grammar_check.proofs.kinds.distinct_texts.Goals as goal

pub loop-text-preserved : goal.loop-text-preserved
loop-text-preserved c =
    let i = c.loop-text.text-index in
    let so_far = take i c.args.texts.now in
    let more = take_more c.args.texts.now i c.text-item.result (omega arith) ∙ ap (λ t. so_far ++ t ∷ []) (sym c.text-item.is) in
    let it = c.in_ok-add_distinct.ensures so_far c.loop-text.invariant.seen in
    let P : List (List ℕ) → Type 0 = λ l. Finds c.add_distinct.new.seen (seen_in l) in
    record {
      seen = subst P (sym more) it.0;
      found =
          it.1 ∙ ap (λ l. l ++ unless_seen so_far c.text-item.result) c.loop-text.invariant.found ∙ sym (distinct_push so_far c.text-item.result)
          ∙ ap distinct (sym more);
    }
