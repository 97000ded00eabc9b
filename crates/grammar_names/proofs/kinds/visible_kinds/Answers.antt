use Rattle.std.proofs.Common.{◌++◌, map, sym, ap, ◌∙◌}
use Rattle.std.proofs.lemmas.List.{append-nil, drop_all}
use Rattle.grammar_tree.specs.GrammarView.{kind_of}
use Rattle.grammar_tree.specs.Kinds.{visible_from}
use Rattle.grammar_names.proofs.kinds.visible_kinds.Goals as goal

pub returns : goal.returns
returns c =
    let found = c.loop-number.numbers.items in
    let n = c.loop-number.number in
    sym (append-nil found)
    ∙ ap (λ l. found ++ visible_from n (map kind_of l)) (sym (drop_all n c.args.kinds.now c.loop-number-test.false))
    ∙ c.loop-number.invariant
