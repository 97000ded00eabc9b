use Rattle.std.proofs.Common.{◌≡◌, ◌+◌, ℕ, List, map, length, sym, ap, ◌∙◌, subst, arith}
use Rattle.grammar_tree.specs.Written.{WrittenRule}
use Rattle.grammar_tree.specs.GrammarView.{kind_of, rule_of}
use Rattle.grammar_tree.specs.Kinds.{kinds_of}
use Rattle.grammar_tree.proofs.Lent.{counts_fit}
use Rattle.lexer_match.specs.Alternatives.{HasAlternative}
use Rattle.lexer_match.specs.declared.alternative.Alternative.{Alternative}
use Rattle.lexer_nfa.proofs.Order.{up_to_more, up_to_none}
use Rattle.lexer_nfa.specs.inner.Names.{HaveNoLoops, HaveOneName}
use Rattle.lexer_nfa.proofs.Checked.{has_no_loops, has_one_name, rules_are}
use Rattle.lexer_nfa.proofs.Pushed.{kinds_all, kinds_more, kinds_none, mapped_len, start_nfa}
use Rattle.lexer_nfa.proofs.alternatives.add_kinds.Goals as goal

abbrev kind_number : Alternative → ℕ
kind_number a = a.kind

pub new-requires-clause-one_name : goal.new-requires-clause-one_name
new-requires-clause-one_name c =
    let G = c.args.checked.now.grammar in
    let P : List WrittenRule → Type 0 = λ x. HaveOneName x in
    subst P (rules_are G c.grammar.result.now c.deref.result.now c.grammar.ensures c.deref.ensures.value)
    (has_one_name G c.args.checked.now.start c.is_checked.ensures.well_formed)

pub new-requires-clause-no_loops : goal.new-requires-clause-no_loops
new-requires-clause-no_loops c =
    let G = c.args.checked.now.grammar in
    let P : List WrittenRule → Type 0 = λ x. HaveNoLoops x in
    subst P (rules_are G c.grammar.result.now c.deref.result.now c.grammar.ensures c.deref.ensures.value)
    (has_no_loops G c.args.checked.now.start c.is_checked.ensures.well_formed)

pub new-requires-clause-small : goal.new-requires-clause-small
new-requires-clause-small c =
    let G = c.args.checked.now.grammar in
    omega (
      arith,
      c.is_checked.ensures.small,
      (counts_fit G).rules,
      ap length (rules_are G c.grammar.result.now c.deref.result.now c.grammar.ensures c.deref.ensures.value),
      mapped_len rule_of c.deref.result.now,
    )

pub loop-i-init : goal.loop-i-init
loop-i-init c =
    record {
      nfa = start_nfa c.args.states.now.items c.args.alternatives.now.items c.requires.states c.requires.none;
      exact = λ k w. kinds_none c.args.checked.now.grammar c.args.states.now.items c.args.alternatives.now.items k w c.requires.none;
      order = up_to_none kind_number c.args.alternatives.now.items 0 c.requires.none;
    }

pub overflow_cast-i : goal.overflow_cast-i
overflow_cast-i c =
    let checked = c.is_checked.ensures in
    omega (
      arith,
      checked.small,
      (counts_fit c.args.checked.now.grammar).kinds,
      ap length (sym checked.numbered),
      ap length c.kinds-kinds.ensures,
      mapped_len kind_of c.kinds-kinds.result.now,
    )

pub loop-i-preserved : goal.loop-i-preserved
loop-i-preserved c =
    let G = c.args.checked.now.grammar in
    let kinds = c.kinds-kinds.result.now in
    let kind = c.index-kinds-i.result in
    let is : G.rules ≡ map rule_of c.in_ok-names.names.rules.now =
    rules_are G c.grammar.result.now c.deref.result.now c.grammar.ensures c.deref.ensures.value ∙ ap (λ x. map rule_of x) (sym c.in_ok-names.ensures) in
    let named : kinds_of G ≡ map kind_of kinds = sym c.is_checked.ensures.numbered ∙ sym c.kinds-kinds.ensures in
    record {
      nfa = c.in_ok-add_kind.ensures.nfa;
      exact = λ k w.
          kinds_more G (HasAlternative c.loop-i.states.items c.loop-i.alternatives.items k w)
          (HasAlternative c.add_kind.new.states.items c.add_kind.new.alternatives.items k w) kinds c.loop-i.i k kind w named (omega arith) c.index-kinds-i.is
          (c.loop-i.invariant.exact k w) (c.in_ok-add_kind.ensures.added G is k w);
      order =
          up_to_more kind_number c.add_kind.new.alternatives.items c.loop-i.i (c.loop-i.i + 1) (omega arith)
          (c.in_ok-add_kind.ensures.order c.loop-i.invariant.order);
    }

pub returns : goal.returns
returns c =
    let G = c.args.checked.now.grammar in
    let kinds = c.kinds-kinds.result.now in
    let named : kinds_of G ≡ map kind_of kinds = sym c.is_checked.ensures.numbered ∙ sym c.kinds-kinds.ensures in
    record {
      nfa = c.loop-i.invariant.nfa;
      exact =
          λ k w. kinds_all G (HasAlternative c.loop-i.states.items c.loop-i.alternatives.items k w) kinds c.loop-i.i k w named (omega arith)
          (c.loop-i.invariant.exact k w);
      order = c.loop-i.invariant.order.never_fall;
    }
