use Rattle.std.proofs.Common.{◌≡◌, ◌+◌, ◌++◌, map, drop, vec_len, refl, ap, ◌∙◌}
use Rattle.grammar_tree.specs.Corners.{alts_new_rules}
use Rattle.grammar_tree.specs.Derives.{bodies, or, resolved_alts, resolved_seq}
use Rattle.grammar_tree.specs.View.{parser_terms}
use Rattle.grammar_tree.specs.Written.{written_alts, written_seq}
use Rattle.normal_form.specs.Numbering.{alts_rules, base_symbols, rest_symbols}
use Rattle.normal_form.specs.NormalOf.{numbering}
use Rattle.normal_form.specs.View.{alts_form, rule_form}
use Rattle.normal_form_build.proofs.RuleSteps.{alt_fits, alt_taken, alts_are, alts_end, alts_rules_end, alts_rules_more, alts_total}
use Rattle.normal_form_build.proofs.RuleSteps.{alts_total_end, bases_end, bases_more, rests_end, rests_more}
use Rattle.normal_form_build.proofs.groups.push_sorted.Goals as goal

pub loop-alt-init : goal.loop-alt-init
loop-alt-init c =
    let M = numbering (bodies c.args.numbers.now) in
    let n = vec_len c.args.rules.now in
    let all = resolved_alts c.args.numbers.now (written_alts (map parser_terms c.deref-alt-items.result.now)) in
    record {
      total = refl;
      bases = ap (λ l. alts_form l ++ base_symbols M c.args.rule n all) c.new.ensures.items;
      rests = ap (λ l. alts_form l ++ rest_symbols M c.args.rule n all) c.new-2.ensures.items;
      rules = refl;
    }

pub push_seq-requires : goal.push_seq-requires
push_seq-requires c =
    alt_fits c.args.numbers.now c.args.alts.now c.deref-alt-items.result.now c.loop-alt.alt-index c.alt-item.result (vec_len c.loop-alt.rules)
    (vec_len c.args.rules.now)
    c.deref-alt-items.ensures.value c.loop-alt-test.true c.alt-item.is c.loop-alt.invariant.total c.requires

pub loop-alt-preserved : goal.loop-alt-preserved
loop-alt-preserved c =
    let G = c.args.numbers.now in
    let M = numbering (bodies G) in
    let items = c.deref-alt-items.result.now in
    let i = c.loop-alt.alt-index in
    let n = vec_len c.loop-alt.rules in
    let k = vec_len c.push_seq.new.rules in
    let seq = resolved_seq G (written_seq (parser_terms c.alt-item.result)) in
    let a = resolved_alts G (written_alts (map parser_terms (drop i items))) in
    let b = resolved_alts G (written_alts (map parser_terms (drop (i + 1) items))) in
    let taken : a ≡ or seq b = alt_taken G items i c.alt-item.result c.loop-alt-test.true c.alt-item.is in
    let counted = c.in_ok-symbols.ensures.len in
    let symbols = c.in_ok-symbols.symbols.items in
    let old = c.loop-alt.sorted in
    let new = c.sort.new.sorted in
    record {
      total = alts_total M n k seq a b taken counted _ c.loop-alt.invariant.total;
      bases =
          bases_more M n k seq a b taken counted c.args.rule symbols c.in_ok-symbols.ensures.symbols (alts_form old.bases.items)
          (alts_form new.bases.items) _ c.in_ok-sort.ensures.bases c.loop-alt.invariant.bases;
      rests =
          rests_more M n k seq a b taken counted c.args.rule symbols c.in_ok-symbols.ensures.symbols (alts_form old.rests.items)
          (alts_form new.rests.items) _ c.in_ok-sort.ensures.rests c.loop-alt.invariant.rests;
      rules =
          alts_rules_more M n k seq a b taken counted (map rule_form c.loop-alt.rules.items)
          (map rule_form c.push_seq.new.rules.items) _ c.in_ok-symbols.ensures.rules c.loop-alt.invariant.rules;
    }

pub returns-clause-bases : goal.returns-clause-bases
returns-clause-bases c =
    let G = c.args.numbers.now in
    let M = numbering (bodies G) in
    let items = c.deref-alt-items.result.now in
    let i = c.loop-alt.alt-index in
    bases_end M (vec_len c.loop-alt.rules) (resolved_alts G (written_alts (map parser_terms (drop i items))))
    (alts_end G items i c.loop-alt-test.false) c.args.rule (alts_form c.loop-alt.sorted.bases.items) _ c.loop-alt.invariant.bases
    ∙ ap (λ ss. base_symbols M c.args.rule (vec_len c.args.rules.now) (resolved_alts G (written_alts ss)))
    (alts_are c.args.alts.now items c.deref-alt-items.ensures.value)

pub returns-clause-rests : goal.returns-clause-rests
returns-clause-rests c =
    let G = c.args.numbers.now in
    let M = numbering (bodies G) in
    let items = c.deref-alt-items.result.now in
    let i = c.loop-alt.alt-index in
    rests_end M (vec_len c.loop-alt.rules) (resolved_alts G (written_alts (map parser_terms (drop i items))))
    (alts_end G items i c.loop-alt-test.false) c.args.rule (alts_form c.loop-alt.sorted.rests.items) _ c.loop-alt.invariant.rests
    ∙ ap (λ ss. rest_symbols M c.args.rule (vec_len c.args.rules.now) (resolved_alts G (written_alts ss)))
    (alts_are c.args.alts.now items c.deref-alt-items.ensures.value)

pub returns-clause-len : goal.returns-clause-len
returns-clause-len c =
    let G = c.args.numbers.now in
    let items = c.deref-alt-items.result.now in
    let i = c.loop-alt.alt-index in
    alts_total_end (numbering (bodies G)) (vec_len c.loop-alt.rules) (resolved_alts G (written_alts (map parser_terms (drop i items))))
    (alts_end G items i c.loop-alt-test.false) _ c.loop-alt.invariant.total
    ∙ ap (λ ss. vec_len c.args.rules.now + alts_new_rules (resolved_alts G (written_alts ss))) (alts_are c.args.alts.now items c.deref-alt-items.ensures.value)

pub returns-clause-rules : goal.returns-clause-rules
returns-clause-rules c =
    let G = c.args.numbers.now in
    let M = numbering (bodies G) in
    let items = c.deref-alt-items.result.now in
    let i = c.loop-alt.alt-index in
    alts_rules_end M (vec_len c.loop-alt.rules) (resolved_alts G (written_alts (map parser_terms (drop i items)))) (alts_end G items i c.loop-alt-test.false)
    (map rule_form c.loop-alt.rules.items) _ c.loop-alt.invariant.rules
    ∙ ap (λ ss. map rule_form c.args.rules.now.items ++ alts_rules M (vec_len c.args.rules.now) (resolved_alts G (written_alts ss)))
    (alts_are c.args.alts.now items c.deref-alt-items.ensures.value)
