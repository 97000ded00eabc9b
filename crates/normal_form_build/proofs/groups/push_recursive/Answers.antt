use Rattle.std.proofs.Common.{◌≡◌, ◌+◌, [], ◌++◌, length, map, vec_len, arith, sym, ap, ◌∙◌}
use Rattle.std.proofs.Math.ListN.{set}
use Rattle.grammar_tree.specs.Derives.{bodies, resolved_alts}
use Rattle.grammar_tree.specs.View.{parser_alts}
use Rattle.grammar_tree.specs.Written.{written_alts}
use Rattle.normal_form.specs.Form.{RuleForm}
use Rattle.normal_form.specs.Numbering.{alts_rules, base_symbols, head_of, rest_symbols}
use Rattle.normal_form.specs.NormalOf.{numbering}
use Rattle.normal_form.specs.View.{alts_form, rule_form}
use Rattle.normal_form_build.proofs.Replaced.{replaced_head}
use Rattle.normal_form_build.proofs.groups.push_recursive.Goals as goal

pub returns-clause-rules : goal.returns-clause-rules
returns-clause-rules c =
    let M = numbering (bodies c.args.numbers.now) in
    let A = resolved_alts c.args.numbers.now (written_alts (parser_alts c.args.alts.now)) in
    let own : c.len-own.result ≡ length c.args.rules.now.items = omega (arith, c.len-own.ensures) in
    let old = map rule_form c.args.rules.now.items in
    let head = c.in_ok-push_head.ensures.rules ∙ ap (λ k. old ++ head_of k [] []) (sym c.len-own.ensures) in
    let next = c.in_ok-push_head.ensures.len in
    let sorted = c.in_ok-sorted.sorted in
    let pushed = vec_len c.push_head.new.rules in
    c.put_regular-2.ensures.rules
    ∙ ap (λ l. set l (c.len-own.result + 3) (RuleForm.regular (alts_form sorted.rests.items))) c.put_regular.ensures.rules
    ∙ replaced_head c.args.rules.now.items c.push_head.new.rules.items c.push_sorted.new.rules.items (RuleForm.regular (alts_form sorted.bases.items))
    (RuleForm.regular (alts_form sorted.rests.items))
    (base_symbols M c.args.rule pushed A) (rest_symbols M c.args.rule pushed A) c.len-own.result (alts_rules M pushed A)
    own head c.in_ok-sorted.ensures.rules (ap RuleForm.regular c.in_ok-sorted.ensures.bases) (ap RuleForm.regular c.in_ok-sorted.ensures.rests)
    ∙ ap (λ k. old ++ (head_of c.len-own.result (base_symbols M c.args.rule k A) (rest_symbols M c.args.rule k A) ++ alts_rules M k A)) next
    ∙ ap
    (λ k. old ++ (head_of k (base_symbols M c.args.rule (vec_len c.args.rules.now + 4) A) (rest_symbols M c.args.rule (vec_len c.args.rules.now + 4) A)
    ++ alts_rules M (vec_len c.args.rules.now + 4) A)) c.len-own.ensures
