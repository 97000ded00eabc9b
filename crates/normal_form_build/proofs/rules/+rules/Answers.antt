use Rattle.std.proofs.Common.{◌≡◌, ℕ, ◌+◌, List, ◌∷◌, ◌++◌, OnOk, length, map, drop, vec_len, arith, refl, sym, ap, ◌∙◌, subst}
use Rattle.grammar_tree.specs.Corners.{alts_new_rules, new_rules, seq_new_rules}
use Rattle.grammar_tree.specs.Derives.{bodies, next, or, resolved, resolved_alts, resolved_seq}
use Rattle.grammar_tree.specs.View.{parser_alts, parser_term, parser_terms}
use Rattle.grammar_tree.specs.Written.{WrittenTerm, written_alts, written_seq}
use Rattle.grammar_tree.proofs.Lent.{parser_term-Block, parser_term-Opt, parser_term-Star, parser_term-Plus}
use Rattle.normal_form.specs.Form.{RuleForm}
use Rattle.normal_form.specs.Numbering.{alts_rules, alts_symbols, seq_rules, seq_symbols, term_rules}
use Rattle.normal_form.specs.NormalOf.{numbering}
use Rattle.normal_form.specs.View.{alts_form, rule_form}
use Rattle.normal_form_build.proofs.Replaced.{replaced}
use Rattle.normal_form_build.proofs.RuleSteps.{alt_taken, alts_are, alts_end, alts_form_more, alts_rules_end, alts_rules_more, alts_symbols_end}
use Rattle.normal_form_build.proofs.RuleSteps.{alts_symbols_more, alts_total, alts_total_end, seq_rules_end, seq_rules_more, seq_symbols_end}
use Rattle.normal_form_build.proofs.RuleSteps.{seq_symbols_more, seq_total, seq_total_end, term_taken, terms_are, terms_end}
use Rattle.normal_form_build.proofs.TermRules.{suffixed}
use Rattle.normal_form_build.proofs.rules.+rules.Goals as goal

pub push_block-returns-clause-rules : goal.push_block-returns-clause-rules
push_block-returns-clause-rules t c =
    let M = numbering (bodies c.args.numbers.now) in
    let A = resolved_alts c.args.numbers.now (written_alts (parser_alts c.args.alts.now)) in
    let next = c.in_ok-push.ensures.len in
    let own : c.len-own.result ≡ length c.args.rules.now.items = omega (arith, c.len-own.ensures) in
    c.put_regular.ensures.rules
    ∙ replaced c.args.rules.now.items c.push.new.self.items c.push_alts.new.rules.items _
    (RuleForm.regular (alts_form c.in_ok-symbols.symbols.items)) c.len-own.result
    (alts_rules M (vec_len c.push.new.self) A) own c.in_ok-push.ensures.items c.in_ok-symbols.ensures.rules
    ∙ ap (λ f. map rule_form c.args.rules.now.items ++ RuleForm.regular f ∷ alts_rules M (vec_len c.push.new.self) A) c.in_ok-symbols.ensures.symbols
    ∙ ap (λ k. map rule_form c.args.rules.now.items ++ RuleForm.regular (alts_symbols M k A) ∷ alts_rules M k A) next

pub push_seq-loop-term-preserved : goal.push_seq-loop-term-preserved
push_seq-loop-term-preserved t c =
    let G = c.args.numbers.now in
    let M = numbering (bodies G) in
    let items = c.deref-term-items.result.now in
    let i = c.loop-term.term-index in
    let n = vec_len c.loop-term.rules in
    let k = vec_len c.push_term.new.rules in
    let term = resolved G (parser_term c.term-item.result) in
    let a = resolved_seq G (written_seq (map parser_term (drop i items))) in
    let b = resolved_seq G (written_seq (map parser_term (drop (i + 1) items))) in
    let taken : a ≡ next term b = term_taken G items i c.term-item.result c.loop-term-test.true c.term-item.is in
    let counted = c.in_ok-push_term.ensures.len in
    record {
      total = seq_total M n k term a b taken counted _ c.loop-term.invariant.total;
      symbols =
          seq_symbols_more M n k term a b taken counted _ c.loop-term.symbols.items c.push_symbol.new.symbols.items _ c.len.ensures c.in_ok-push_symbol.ensures
          c.loop-term.invariant.symbols;
      rules =
          seq_rules_more M n k term a b taken counted (map rule_form c.loop-term.rules.items)
          (map rule_form c.push_term.new.rules.items) _ c.in_ok-push_term.ensures.rules c.loop-term.invariant.rules;
    }

pub push_alts-loop-alt-preserved : goal.push_alts-loop-alt-preserved
push_alts-loop-alt-preserved t c =
    let G = c.args.numbers.now in
    let M = numbering (bodies G) in
    let items = c.deref-alt-items.result.now in
    let i = c.loop-alt.alt-index in
    let n = vec_len c.loop-alt.rules in
    let k = vec_len c.push_seq.new.rules in
    let seq = resolved_seq G (written_seq (parser_terms c.alt-item.result)) in
    let a = resolved_alts G (written_alts (map parser_terms (drop i items))) in
    let b = resolved_alts G (written_alts (map parser_terms (drop (i + 1) items))) in
    let taken : a ≡ or seq b = alt_taken G items i c.alt-item.result c.loop-alt-test.true c.alt-item.is in
    let counted = c.in_ok-push_seq.ensures.len in
    record {
      total = alts_total M n k seq a b taken counted _ c.loop-alt.invariant.total;
      symbols =
          alts_symbols_more M n k seq a b taken counted (alts_form c.loop-alt.symbols.items) (alts_form c.push.new.self.items) _
          (alts_form_more c.loop-alt.symbols.items c.push.new.self.items c.in_ok-push_seq.field-0
          (seq_symbols M n seq) c.in_ok-push.ensures.items c.in_ok-push_seq.ensures.symbols) c.loop-alt.invariant.symbols;
      rules =
          alts_rules_more M n k seq a b taken counted (map rule_form c.loop-alt.rules.items)
          (map rule_form c.push_seq.new.rules.items) _ c.in_ok-push_seq.ensures.rules c.loop-alt.invariant.rules;
    }

pub push_seq-loop-term-init : goal.push_seq-loop-term-init
push_seq-loop-term-init t c =
    let all = resolved_seq c.args.numbers.now (written_seq (map parser_term c.deref-term-items.result.now)) in
    record {
      total = refl;
      symbols = ap (λ l. l ++ seq_symbols (numbering (bodies c.args.numbers.now)) (vec_len c.args.rules.now) all) c.new-symbols.ensures.items;
      rules = refl;
    }

pub push_seq-returns-clause-symbols : goal.push_seq-returns-clause-symbols
push_seq-returns-clause-symbols t c =
    let G = c.args.numbers.now in
    let M = numbering (bodies G) in
    let items = c.deref-term-items.result.now in
    let i = c.loop-term.term-index in
    seq_symbols_end M (vec_len c.loop-term.rules) (resolved_seq G (written_seq (map parser_term (drop i items))))
    (terms_end G items i c.loop-term-test.false) c.loop-term.symbols.items _ c.loop-term.invariant.symbols
    ∙ ap (λ ts. seq_symbols M (vec_len c.args.rules.now) (resolved_seq G (written_seq ts))) (terms_are c.args.terms.now items c.deref-term-items.ensures.value)

pub push_seq-returns-clause-len : goal.push_seq-returns-clause-len
push_seq-returns-clause-len t c =
    let G = c.args.numbers.now in
    let items = c.deref-term-items.result.now in
    let i = c.loop-term.term-index in
    seq_total_end (numbering (bodies G)) (vec_len c.loop-term.rules) (resolved_seq G (written_seq (map parser_term (drop i items))))
    (terms_end G items i c.loop-term-test.false) _ c.loop-term.invariant.total
    ∙ ap (λ ts. vec_len c.args.rules.now + seq_new_rules (resolved_seq G (written_seq ts))) (terms_are c.args.terms.now items c.deref-term-items.ensures.value)

pub push_seq-returns-clause-rules : goal.push_seq-returns-clause-rules
push_seq-returns-clause-rules t c =
    let G = c.args.numbers.now in
    let M = numbering (bodies G) in
    let items = c.deref-term-items.result.now in
    let i = c.loop-term.term-index in
    seq_rules_end M (vec_len c.loop-term.rules) (resolved_seq G (written_seq (map parser_term (drop i items)))) (terms_end G items i c.loop-term-test.false)
    (map rule_form c.loop-term.rules.items) _ c.loop-term.invariant.rules
    ∙ ap (λ ts. map rule_form c.args.rules.now.items ++ seq_rules M (vec_len c.args.rules.now) (resolved_seq G (written_seq ts)))
    (terms_are c.args.terms.now items c.deref-term-items.ensures.value)

pub push_alts-loop-alt-init : goal.push_alts-loop-alt-init
push_alts-loop-alt-init t c =
    let all = resolved_alts c.args.numbers.now (written_alts (map parser_terms c.deref-alt-items.result.now)) in
    record {
      total = refl;
      symbols = ap (λ l. alts_form l ++ alts_symbols (numbering (bodies c.args.numbers.now)) (vec_len c.args.rules.now) all) c.new-symbols.ensures.items;
      rules = refl;
    }

pub push_alts-returns-clause-symbols : goal.push_alts-returns-clause-symbols
push_alts-returns-clause-symbols t c =
    let G = c.args.numbers.now in
    let M = numbering (bodies G) in
    let items = c.deref-alt-items.result.now in
    let i = c.loop-alt.alt-index in
    alts_symbols_end M (vec_len c.loop-alt.rules) (resolved_alts G (written_alts (map parser_terms (drop i items)))) (alts_end G items i c.loop-alt-test.false)
    (alts_form c.loop-alt.symbols.items) _ c.loop-alt.invariant.symbols
    ∙ ap (λ ss. alts_symbols M (vec_len c.args.rules.now) (resolved_alts G (written_alts ss))) (alts_are c.args.alts.now items c.deref-alt-items.ensures.value)

pub push_alts-returns-clause-len : goal.push_alts-returns-clause-len
push_alts-returns-clause-len t c =
    let G = c.args.numbers.now in
    let items = c.deref-alt-items.result.now in
    let i = c.loop-alt.alt-index in
    alts_total_end (numbering (bodies G)) (vec_len c.loop-alt.rules) (resolved_alts G (written_alts (map parser_terms (drop i items))))
    (alts_end G items i c.loop-alt-test.false) _ c.loop-alt.invariant.total
    ∙ ap (λ ss. vec_len c.args.rules.now + alts_new_rules (resolved_alts G (written_alts ss))) (alts_are c.args.alts.now items c.deref-alt-items.ensures.value)

pub push_alts-returns-clause-rules : goal.push_alts-returns-clause-rules
push_alts-returns-clause-rules t c =
    let G = c.args.numbers.now in
    let M = numbering (bodies G) in
    let items = c.deref-alt-items.result.now in
    let i = c.loop-alt.alt-index in
    alts_rules_end M (vec_len c.loop-alt.rules) (resolved_alts G (written_alts (map parser_terms (drop i items)))) (alts_end G items i c.loop-alt-test.false)
    (map rule_form c.loop-alt.rules.items) _ c.loop-alt.invariant.rules
    ∙ ap (λ ss. map rule_form c.args.rules.now.items ++ alts_rules M (vec_len c.args.rules.now) (resolved_alts G (written_alts ss)))
    (alts_are c.args.alts.now items c.deref-alt-items.ensures.value)

pub push_suffixed-returns-clause-len : goal.push_suffixed-returns-clause-len
push_suffixed-returns-clause-len t c =
    let P : ℕ → Type 0 =
    λ k. OnOk c.push_term.result (vec_len c.push_term.new.rules ≡ k + new_rules (resolved c.args.numbers.now (parser_term c.args.term.now))) in
    subst P c.in_ok-push.ensures.len c.push_term.ensures.len

pub push_suffixed-returns-clause-rules : goal.push_suffixed-returns-clause-rules
push_suffixed-returns-clause-rules t c =
    let n = vec_len c.args.rules.now in
    let P : List RuleForm → Type 0 = λ l. OnOk c.push_term.result (map rule_form c.push_term.new.rules.items ≡ l) in
    subst P
    (suffixed (numbering (bodies c.args.numbers.now))
    (resolved c.args.numbers.now (parser_term c.args.term.now)) c.args.rules.now.items c.push.new.self.items c.suffix_rule.result c.args.suffix
    c.in_ok-symbol.symbol n (c.len.result + 1) (vec_len c.push.new.self)
    c.in_ok-push.ensures.items c.suffix_rule.ensures c.in_ok-symbol.ensures (ap (λ k. k + 1) c.len.ensures) c.in_ok-push.ensures.len) c.push_term.ensures.rules

pub push_term-returns-in-Block-clause-len : goal.push_term-returns-in-Block-clause-len
push_term-returns-in-Block-clause-len t c =
    let G = c.args.numbers.now in
    let n = vec_len c.args.rules.now in
    let same = ap parser_term c.in-Block.is ∙ parser_term-Block c.in-Block.alts in
    let total : n + 1 + alts_new_rules (resolved_alts G (written_alts (parser_alts c.in-Block.alts))) ≡ n + new_rules
    (resolved G (parser_term c.args.term.now)) = omega (arith, ap (λ u. new_rules (resolved G u)) same) in
    let P : ℕ → Type 0 = λ k. OnOk c.push_block.result (vec_len c.push_block.new.rules ≡ k) in
    subst P total c.push_block.ensures.len

pub push_term-returns-in-Block-clause-rules : goal.push_term-returns-in-Block-clause-rules
push_term-returns-in-Block-clause-rules t c =
    let G = c.args.numbers.now in
    let same = ap parser_term c.in-Block.is ∙ parser_term-Block c.in-Block.alts in
    let P : List RuleForm → Type 0 = λ l. OnOk c.push_block.result (map rule_form c.push_block.new.rules.items ≡ l) in
    subst P (ap (λ u. map rule_form c.args.rules.now.items ++ term_rules (numbering (bodies G)) (vec_len c.args.rules.now) (resolved G u)) (sym same))
    c.push_block.ensures.rules

pub push_term-returns-in-Opt-clause-len : goal.push_term-returns-in-Opt-clause-len
push_term-returns-in-Opt-clause-len t c =
    let G = c.args.numbers.now in
    let n = vec_len c.args.rules.now in
    let same = ap parser_term c.in-Opt.is ∙ parser_term-Opt c.in-Opt.term ∙ ap (λ u. WrittenTerm.opt (parser_term u)) (sym c.deref.ensures) in
    let total : n + 1 + new_rules (resolved G (parser_term c.deref.result.now)) ≡ n + new_rules (resolved G (parser_term c.args.term.now)) =
    omega (arith, ap (λ u. new_rules (resolved G u)) same) in
    let P : ℕ → Type 0 = λ k. OnOk c.push_suffixed.result (vec_len c.push_suffixed.new.rules ≡ k) in
    subst P total c.push_suffixed.ensures.len

pub push_term-returns-in-Opt-clause-rules : goal.push_term-returns-in-Opt-clause-rules
push_term-returns-in-Opt-clause-rules t c =
    let G = c.args.numbers.now in
    let same = ap parser_term c.in-Opt.is ∙ parser_term-Opt c.in-Opt.term ∙ ap (λ u. WrittenTerm.opt (parser_term u)) (sym c.deref.ensures) in
    let P : List RuleForm → Type 0 = λ l. OnOk c.push_suffixed.result (map rule_form c.push_suffixed.new.rules.items ≡ l) in
    subst P (ap (λ u. map rule_form c.args.rules.now.items ++ term_rules (numbering (bodies G)) (vec_len c.args.rules.now) (resolved G u)) (sym same))
    c.push_suffixed.ensures.rules

pub push_term-returns-in-Star-clause-len : goal.push_term-returns-in-Star-clause-len
push_term-returns-in-Star-clause-len t c =
    let G = c.args.numbers.now in
    let n = vec_len c.args.rules.now in
    let same = ap parser_term c.in-Star.is ∙ parser_term-Star c.in-Star.term ∙ ap (λ u. WrittenTerm.star (parser_term u)) (sym c.deref-in-Star.ensures) in
    let total : n + 1 + new_rules (resolved G (parser_term c.deref-in-Star.result.now)) ≡ n + new_rules (resolved G (parser_term c.args.term.now)) =
    omega (arith, ap (λ u. new_rules (resolved G u)) same) in
    let P : ℕ → Type 0 = λ k. OnOk c.push_suffixed-in-Star.result (vec_len c.push_suffixed-in-Star.new.rules ≡ k) in
    subst P total c.push_suffixed-in-Star.ensures.len

pub push_term-returns-in-Star-clause-rules : goal.push_term-returns-in-Star-clause-rules
push_term-returns-in-Star-clause-rules t c =
    let G = c.args.numbers.now in
    let same = ap parser_term c.in-Star.is ∙ parser_term-Star c.in-Star.term ∙ ap (λ u. WrittenTerm.star (parser_term u)) (sym c.deref-in-Star.ensures) in
    let P : List RuleForm → Type 0 = λ l. OnOk c.push_suffixed-in-Star.result (map rule_form c.push_suffixed-in-Star.new.rules.items ≡ l) in
    subst P (ap (λ u. map rule_form c.args.rules.now.items ++ term_rules (numbering (bodies G)) (vec_len c.args.rules.now) (resolved G u)) (sym same))
    c.push_suffixed-in-Star.ensures.rules

pub push_term-returns-in-Plus-clause-len : goal.push_term-returns-in-Plus-clause-len
push_term-returns-in-Plus-clause-len t c =
    let G = c.args.numbers.now in
    let n = vec_len c.args.rules.now in
    let same = ap parser_term c.in-Plus.is ∙ parser_term-Plus c.in-Plus.term ∙ ap (λ u. WrittenTerm.plus (parser_term u)) (sym c.deref-in-Plus.ensures) in
    let total : n + 1 + new_rules (resolved G (parser_term c.deref-in-Plus.result.now)) ≡ n + new_rules (resolved G (parser_term c.args.term.now)) =
    omega (arith, ap (λ u. new_rules (resolved G u)) same) in
    let P : ℕ → Type 0 = λ k. OnOk c.push_suffixed-in-Plus.result (vec_len c.push_suffixed-in-Plus.new.rules ≡ k) in
    subst P total c.push_suffixed-in-Plus.ensures.len

pub push_term-returns-in-Plus-clause-rules : goal.push_term-returns-in-Plus-clause-rules
push_term-returns-in-Plus-clause-rules t c =
    let G = c.args.numbers.now in
    let same = ap parser_term c.in-Plus.is ∙ parser_term-Plus c.in-Plus.term ∙ ap (λ u. WrittenTerm.plus (parser_term u)) (sym c.deref-in-Plus.ensures) in
    let P : List RuleForm → Type 0 = λ l. OnOk c.push_suffixed-in-Plus.result (map rule_form c.push_suffixed-in-Plus.new.rules.items ≡ l) in
    subst P (ap (λ u. map rule_form c.args.rules.now.items ++ term_rules (numbering (bodies G)) (vec_len c.args.rules.now) (resolved G u)) (sym same))
    c.push_suffixed-in-Plus.ensures.rules
