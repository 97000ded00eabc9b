use Rattle.std.proofs.Common.{◌≡◌, ◌++◌, map, ap, ◌∙◌}
use Rattle.grammar_tree.specs.GrammarView.{grammar_of, kind_of, rule_of}
use Rattle.grammar_tree.specs.Kinds.{declared_kind, declared_names, implicit_kind, implicit_literals, written_kinds}
use Rattle.grammar_check.proofs.KindForms.{all_kinds}
use Rattle.grammar_check.proofs.kinds.kinds_in.Goals as goal

pub returns : goal.returns
returns c =
    let G = grammar_of c.args.grammar.now in
    let implicit : map kind_of c.add_implicit.new.kinds.items ≡ map implicit_kind (implicit_literals G.rules) =
    c.in_ok-add_implicit.ensures
    ∙ ap (λ ks. map kind_of ks ++ map implicit_kind (implicit_literals (map rule_of c.deref.result.now))) c.new-kinds.ensures.items
    ∙ ap (λ rs. map implicit_kind (implicit_literals (map rule_of rs))) c.deref.ensures.value in
    let written : map kind_of c.add_all_written.new.kinds.items ≡ map implicit_kind (implicit_literals G.rules) ++ written_kinds 0 G.rules =
    c.in_ok-add_all_written.ensures
    ∙ ap (λ ks. ks ++ written_kinds 0 (map rule_of c.deref-2.result.now)) implicit
    ∙ ap (λ rs. map implicit_kind (implicit_literals G.rules) ++ written_kinds 0 (map rule_of rs)) c.deref-2.ensures.value in
    all_kinds G (map kind_of c.add_declared.new.kinds.items) (c.in_ok-add_declared.ensures ∙ ap (λ ks. ks ++ map declared_kind (declared_names G)) written)
