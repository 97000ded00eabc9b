use Rattle.std.proofs.Common.{ℕ, Bor, List, subst, arith}
use Rattle.std.specs.Prelude.{chars, option_map}
use Rattle.std.proofs.lemmas.List.{length-map}
use Rattle.std.proofs.lemmas.Option.{slice_get_within}
use Rattle.grammar_tree.specs.GrammarView.{grammar_of, rule_of}
use Rattle.grammar_tree.specs.Written.{WrittenRule}
use Rattle.grammar_tree.proofs.Lent.{counts_fit}
use Rattle.grammar_check.specs.inner.CheckFaults.{IsAnswer}
use Rattle.grammar_check.specs.declared.fault.Answer.{Answer}
use Rattle.grammar_check.proofs.checking.check.Goals as goal

pub kinds_in-requires : goal.kinds_in-requires
kinds_in-requires c = omega (arith, c.requires, (counts_fit (grammar_of c.args.grammar)).rules, length-map c.args.grammar.rules.items rule_of)

pub overflow_cast-start : goal.overflow_cast-start
overflow_cast-start c =
    let G = grammar_of c.args.grammar in
    let Is : Answer → Type 0 = λ a. IsAnswer G (option_map (λ (s : Bor (List ℕ)). chars s.now) c.args.start) a in
    let well = subst Is c.in-Ok-Fine.field-0-is c.in-Ok-Fine.ensures in
    let at = well.0.has_start in
    let within = slice_get_within G.rules c.in-Ok-Fine.start (WrittenRule.parser_rule at.0) at.1 in
    omega (arith, c.requires, (counts_fit G).rules, within)
