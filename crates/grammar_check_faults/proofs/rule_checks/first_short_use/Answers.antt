use Rattle.std.proofs.Common.{◌≡◌, ◌&&◌, ℕ, List, true, false, sym, ap, ◌∙◌, subst, arith}
use Rattle.grammar_tree.specs.Faults.{ShortUse}
use Rattle.grammar_tree.specs.GrammarView.{grammar_of, rule_of}
use Rattle.grammar_tree.specs.Written.{WrittenRule}
use Rattle.grammar_check_nodes.specs.Flags.{flag}
use Rattle.grammar_check_nodes.specs.Graph.{AreTargets, IsClosed}
use Rattle.grammar_check_faults.specs.inner.LexerFaults.{is_short_rule}
use Rattle.grammar_check_faults.proofs.FirstForms.{not_here, nowhere}
use Rattle.grammar_check_faults.proofs.LexerChecks.{no_short_use, index_within, rule_at, short_use}
use Rattle.grammar_check_lexer_rules.proofs.Lent.{closed}
use Rattle.grammar_check_faults.proofs.rule_checks.first_short_use.Goals as goal

pub targets-requires : goal.targets-requires
targets-requires c = let P : List (List ℕ) → Type 0 = IsClosed in subst P (sym c.requires.edges.edges) (closed (grammar_of c.args.grammar.now).rules)

pub returns-then-is_used_short : goal.returns-then-is_used_short
returns-then-is_used_short c =
    let G = grammar_of c.args.grammar.now in
    let rules = c.args.grammar.now.rules in
    let i = c.loop-index.index in
    let flags = c.in_ok-flags.flags.items in
    let P : List (List ℕ) → Type 0 = λ l. AreTargets l flags in
    let at = rule_at rules.items i c.index.result.now (omega (arith, rules.ok.0)) c.index.ensures in
    let used : c.is_flagged-used.result ≡ flag flags i = c.is_flagged-used.ensures ∙ ap (λ l. flag l i) c.deref.ensures.value in
    let test : (flag flags i && is_short_rule (rule_of c.index.result.now)) ≡ true =
    ap (λ b. b && is_short_rule (rule_of c.index.result.now)) (sym used) ∙ sym c.is_used_short.ensures ∙ c.if-is_used_short.true in
    record {
      holds =
          short_use G c.requires.edges.one c.requires.no_loops flags (subst P c.requires.edges.edges c.in_ok-flags.ensures) i
          (rule_of c.index.result.now) at test;
      before = c.loop-index.invariant;
    }

pub loop-index-preserved : goal.loop-index-preserved
loop-index-preserved c =
    let G = grammar_of c.args.grammar.now in
    let rules = c.args.grammar.now.rules in
    let i = c.loop-index.index in
    let flags = c.in_ok-flags.flags.items in
    let P : List (List ℕ) → Type 0 = λ l. AreTargets l flags in
    let at = rule_at rules.items i c.index.result.now (omega (arith, rules.ok.0)) c.index.ensures in
    let used : c.is_flagged-used.result ≡ flag flags i = c.is_flagged-used.ensures ∙ ap (λ l. flag l i) c.deref.ensures.value in
    let test : (flag flags i && is_short_rule (rule_of c.index.result.now)) ≡ false =
    ap (λ b. b && is_short_rule (rule_of c.index.result.now)) (sym used) ∙ sym c.is_used_short.ensures ∙ c.if-is_used_short.false in
    not_here (ShortUse G) i c.loop-index.invariant
    (no_short_use G c.requires.edges.one c.requires.no_loops flags (subst P c.requires.edges.edges c.in_ok-flags.ensures) i
    (rule_of c.index.result.now) at test)

pub returns : goal.returns
returns c =
    let rules = c.args.grammar.now.rules in
    nowhere (ShortUse (grammar_of c.args.grammar.now)) c.loop-index.index c.loop-index.invariant
    (λ i h. omega (arith, index_within rules.items i (WrittenRule.lexer_rule h.0) h.1, rules.ok.0))
