use Rattle.std.proofs.Common.{◌≡◌, ℕ, List, is_some, nat_eq, map, true, false, sym, ap, ◌∙◌, arith}
use Rattle.std.specs.List.{filter_map}
use Rattle.grammar_tree.specs.Faults.{EofPlace}
use Rattle.grammar_tree.specs.GrammarView.{grammar_of, rule_of}
use Rattle.grammar_tree.specs.Kinds.{all_references, as_name, rule_name}
use Rattle.grammar_tree.specs.View.{token_ref}
use Rattle.grammar_tree.specs.Written.{WrittenRule}
use Rattle.grammar_tree.specs.declared.parser_term.TokenRef.{TokenRef}
use Rattle.grammar_tree.specs.declared.rule.Rule.{Rule}
use Rattle.grammar_check_faults.specs.inner.Eof.{is_misplaced_rule}
use Rattle.grammar_check_faults.specs.inner.Seen.{seen_in}
use Rattle.grammar_check_faults.proofs.EofForms.{misplaced, not_misplaced}
use Rattle.grammar_check_faults.proofs.FirstForms.{not_here, nowhere}
use Rattle.grammar_check_faults.proofs.LexerChecks.{index_within, rule_at}
use Rattle.grammar_check_faults.proofs.eof.first_misplaced_eof.Goals as goal

pub returns-then-rule_is_misplaced : goal.returns-then-rule_is_misplaced
returns-then-rule_is_misplaced c =
    let G = grammar_of c.args.grammar.now in
    let rules = c.args.grammar.now.rules in
    let i = c.loop-index.index in
    let rule = rule_of c.index-rule.result.now in
    let names = filter_map as_name (all_references G.rules) in
    let found = filter_map as_name (map token_ref c.deref-2.result.now) in
    let texts : found ≡ names =
    ap (λ (rs : List TokenRef). filter_map as_name (map token_ref rs)) c.deref-2.ensures.value
    ∙ ap (filter_map as_name) (c.in_ok-references.ensures ∙ ap (λ (rs : List Rule). all_references (map rule_of rs)) c.deref.ensures.value) in
    let used : c.is_some-is_used.result ≡ is_some (seen_in names (rule_name rule)) =
    c.is_some-is_used.ensures ∙ ap (is_some {T = ℕ}) (c.get.ensures (seen_in found) c.in_ok-used.ensures)
    ∙ ap (λ n. is_some {T = ℕ} (seen_in found n)) c.name_of.ensures
    ∙ ap (λ l. is_some {T = ℕ} (seen_in l (rule_name rule))) texts in
    let at = rule_at rules.items i c.index-rule.result.now (omega (arith, rules.ok.0)) c.index-rule.ensures in
    let test : is_misplaced_rule rule (nat_eq i c.args.start) (is_some (seen_in names (rule_name rule))) ≡ true =
    ap (is_misplaced_rule rule (nat_eq i c.args.start)) (sym used) ∙ sym c.rule_is_misplaced.ensures ∙ c.if-rule_is_misplaced.true in
    record { holds = misplaced G c.args.start i rule at test; before = c.loop-index.invariant }

pub loop-index-preserved : goal.loop-index-preserved
loop-index-preserved c =
    let G = grammar_of c.args.grammar.now in
    let rules = c.args.grammar.now.rules in
    let i = c.loop-index.index in
    let rule = rule_of c.index-rule.result.now in
    let names = filter_map as_name (all_references G.rules) in
    let found = filter_map as_name (map token_ref c.deref-2.result.now) in
    let texts : found ≡ names =
    ap (λ (rs : List TokenRef). filter_map as_name (map token_ref rs)) c.deref-2.ensures.value
    ∙ ap (filter_map as_name) (c.in_ok-references.ensures ∙ ap (λ (rs : List Rule). all_references (map rule_of rs)) c.deref.ensures.value) in
    let used : c.is_some-is_used.result ≡ is_some (seen_in names (rule_name rule)) =
    c.is_some-is_used.ensures ∙ ap (is_some {T = ℕ}) (c.get.ensures (seen_in found) c.in_ok-used.ensures)
    ∙ ap (λ n. is_some {T = ℕ} (seen_in found n)) c.name_of.ensures
    ∙ ap (λ l. is_some {T = ℕ} (seen_in l (rule_name rule))) texts in
    let at = rule_at rules.items i c.index-rule.result.now (omega (arith, rules.ok.0)) c.index-rule.ensures in
    let test : is_misplaced_rule rule (nat_eq i c.args.start) (is_some (seen_in names (rule_name rule))) ≡ false =
    ap (is_misplaced_rule rule (nat_eq i c.args.start)) (sym used) ∙ sym c.rule_is_misplaced.ensures ∙ c.if-rule_is_misplaced.false in
    not_here (EofPlace G c.args.start) i c.loop-index.invariant (not_misplaced G c.args.start i rule at test)

pub returns : goal.returns
returns c =
    let rules = c.args.grammar.now.rules in
    nowhere (EofPlace (grammar_of c.args.grammar.now) c.args.start) c.loop-index.index c.loop-index.invariant
    (λ i h. omega (arith, index_within rules.items i (WrittenRule.parser_rule h.0) h.1, rules.ok.0))
