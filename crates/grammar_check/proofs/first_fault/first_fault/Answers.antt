use Rattle.std.proofs.Common.{ℕ, Bor, List, Option, Some, None, length, sym, ap, ◌∙◌, subst, arith}
use Rattle.std.specs.Prelude.{chars, option_map}
use Rattle.std.proofs.lemmas.List.{length-map}
use Rattle.grammar_tree.specs.Faults.{EofPlace}
use Rattle.grammar_tree.specs.GrammarView.{grammar_of, rule_of}
use Rattle.grammar_tree.specs.Written.{WrittenGrammar}
use Rattle.grammar_tree.proofs.Lent.{counts_fit}
use Rattle.grammar_check.specs.inner.CheckFaults.{IsFirstBefore, IsLexerAnswer}
use Rattle.grammar_check_faults.specs.Twins.{IsTwinAt}
use Rattle.grammar_check_faults.specs.Unknown.{IsFirstUnknown}
use Rattle.grammar_check.specs.declared.fault.CheckFault.{CheckFault}
use Rattle.grammar_check.specs.declared.lexer_fault.LexerAnswer.{LexerAnswer}
use Rattle.grammar_check_faults.proofs.Lent.{with_name, one_rule}
use Rattle.grammar_check.proofs.CheckForms.{before_eof, before_loops, eof_at, fine, no_rule, no_start, two_rules}
use Rattle.grammar_check.proofs.first_fault.first_fault.Goals as goal

abbrev text : Bor (List ℕ) → List ℕ
text s = chars s.now

pub twin-requires : goal.twin-requires
twin-requires c = omega (arith, c.requires.small, (counts_fit (grammar_of c.args.grammar.now)).rules, length-map c.args.grammar.now.rules.items rule_of)

pub new-requires-2 : goal.new-requires-2
new-requires-2 c =
    omega (
      arith,
      c.requires.small,
      (counts_fit (grammar_of c.args.grammar.now)).rules,
      length-map c.args.grammar.now.rules.items rule_of,
      ap length c.deref.ensures.value,
    )

pub lexer_fault-requires-clause-small : goal.lexer_fault-requires-clause-small
lexer_fault-requires-clause-small c =
    omega (arith, c.requires.small, (counts_fit (grammar_of c.args.grammar.now)).rules, length-map c.args.grammar.now.rules.items rule_of)

pub lexer_fault-requires-clause-one : goal.lexer_fault-requires-clause-one
lexer_fault-requires-clause-one c =
    let G = grammar_of c.args.grammar.now in
    let twins = with_name G (IsTwinAt G) c.in_ok-name.field-0 None c.in_default.is c.in_ok-name.ensures in
    one_rule G twins

pub returns-in-Some : goal.returns-in-Some
returns-in-Some c =
    let G = grammar_of c.args.grammar.now in
    let wanted = option_map text c.args.wanted in
    two_rules G wanted c.in-Some.name (with_name G (IsTwinAt G) c.in_ok-name.field-0 (Some c.in-Some.name) c.in-Some.is c.in_ok-name.ensures)

pub returns-in-Some-2 : goal.returns-in-Some-2
returns-in-Some-2 c =
    let G = grammar_of c.args.grammar.now in
    let wanted = option_map text c.args.wanted in
    let twins = with_name G (IsTwinAt G) c.in_ok-name.field-0 None c.in_default.is c.in_ok-name.ensures in
    let Unknown : WrittenGrammar → Type 0 = λ g. IsFirstUnknown g c.in_ok-name-2.field-0 in
    let First : Option (List ℕ) → Type 0 = λ o. IsFirstUnknown G o in
    no_rule G wanted c.in-Some-2.name twins (subst First c.in-Some-2.is (subst Unknown c.in_ok-names.ensures c.in_ok-name-2.ensures))

pub returns-in_default-3 : goal.returns-in_default-3
returns-in_default-3 c =
    let G = grammar_of c.args.grammar.now in
    let wanted = option_map text c.args.wanted in
    let twins = with_name G (IsTwinAt G) c.in_ok-name.field-0 None c.in_default.is c.in_ok-name.ensures in
    let Unknown : WrittenGrammar → Type 0 = λ g. IsFirstUnknown g c.in_ok-name-2.field-0 in
    let First : Option (List ℕ) → Type 0 = λ o. IsFirstUnknown G o in
    let unknown = subst First c.in_default-2.is (subst Unknown c.in_ok-names.ensures c.in_ok-name-2.ensures) in
    no_start G wanted c.in_ok-name-3.name twins unknown c.in_ok-name-3.ensures

pub returns-in-Some-4 : goal.returns-in-Some-4
returns-in-Some-4 c =
    let G = grammar_of c.args.grammar.now in
    let wanted = option_map text c.args.wanted in
    let twins = with_name G (IsTwinAt G) c.in_ok-name.field-0 None c.in_default.is c.in_ok-name.ensures in
    let Unknown : WrittenGrammar → Type 0 = λ g. IsFirstUnknown g c.in_ok-name-2.field-0 in
    let First : Option (List ℕ) → Type 0 = λ o. IsFirstUnknown G o in
    let unknown = subst First c.in_default-2.is (subst Unknown c.in_ok-names.ensures c.in_ok-name-2.ensures) in
    let found = sym c.in_ok-start.ensures ∙ c.in-Some-3.is in
    let started = before_eof G wanted c.in-Some-3.start found twins unknown in
    eof_at G wanted c.in-Some-3.start found c.in-Some-4.rule started
    (with_name G (EofPlace G c.in-Some-3.start) c.in_ok-rule.field-0 (Some c.in-Some-4.rule) c.in-Some-4.is c.in_ok-rule.ensures)

pub returns-in-Faulty : goal.returns-in-Faulty
returns-in-Faulty c =
    let G = grammar_of c.args.grammar.now in
    let wanted = option_map text c.args.wanted in
    let twins = with_name G (IsTwinAt G) c.in_ok-name.field-0 None c.in_default.is c.in_ok-name.ensures in
    let Unknown : WrittenGrammar → Type 0 = λ g. IsFirstUnknown g c.in_ok-name-2.field-0 in
    let First : Option (List ℕ) → Type 0 = λ o. IsFirstUnknown G o in
    let unknown = subst First c.in_default-2.is (subst Unknown c.in_ok-names.ensures c.in_ok-name-2.ensures) in
    let found = sym c.in_ok-start.ensures ∙ c.in-Some-3.is in
    let started = before_eof G wanted c.in-Some-3.start found twins unknown in
    let ends =
    before_loops G wanted c.in-Some-3.start found started
    (with_name G (EofPlace G c.in-Some-3.start) c.in_ok-rule.field-0 None c.in_default-4.is c.in_ok-rule.ensures) in
    let Lexer : LexerAnswer → Type 0 = λ a. IsLexerAnswer G wanted a in
    subst Lexer c.in-Faulty.is (c.in_ok-fault.ensures wanted ends)

pub parser_fault-requires-clause-lexer : goal.parser_fault-requires-clause-lexer
parser_fault-requires-clause-lexer c =
    let G = grammar_of c.args.grammar.now in
    let wanted = option_map text c.args.wanted in
    let twins = with_name G (IsTwinAt G) c.in_ok-name.field-0 None c.in_default.is c.in_ok-name.ensures in
    let Unknown : WrittenGrammar → Type 0 = λ g. IsFirstUnknown g c.in_ok-name-2.field-0 in
    let First : Option (List ℕ) → Type 0 = λ o. IsFirstUnknown G o in
    let unknown = subst First c.in_default-2.is (subst Unknown c.in_ok-names.ensures c.in_ok-name-2.ensures) in
    let found = sym c.in_ok-start.ensures ∙ c.in-Some-3.is in
    let started = before_eof G wanted c.in-Some-3.start found twins unknown in
    let ends = before_loops G wanted c.in-Some-3.start found started
    (with_name G (EofPlace G c.in-Some-3.start) c.in_ok-rule.field-0 None c.in_default-4.is c.in_ok-rule.ensures) in
    let Lexer : LexerAnswer → Type 0 = λ a. IsLexerAnswer G wanted a in
    let lexer = subst Lexer c.in-Sound.is (c.in_ok-fault.ensures wanted ends) in
    lexer.1

pub returns-in-Some-5 : goal.returns-in-Some-5
returns-in-Some-5 c =
    let G = grammar_of c.args.grammar.now in
    let wanted = option_map text c.args.wanted in
    let twins = with_name G (IsTwinAt G) c.in_ok-name.field-0 None c.in_default.is c.in_ok-name.ensures in
    let Unknown : WrittenGrammar → Type 0 = λ g. IsFirstUnknown g c.in_ok-name-2.field-0 in
    let First : Option (List ℕ) → Type 0 = λ o. IsFirstUnknown G o in
    let unknown = subst First c.in_default-2.is (subst Unknown c.in_ok-names.ensures c.in_ok-name-2.ensures) in
    let found = sym c.in_ok-start.ensures ∙ c.in-Some-3.is in
    let started = before_eof G wanted c.in-Some-3.start found twins unknown in
    let ends = before_loops G wanted c.in-Some-3.start found
    started (with_name G (EofPlace G c.in-Some-3.start) c.in_ok-rule.field-0 None c.in_default-4.is c.in_ok-rule.ensures) in
    let Lexer : LexerAnswer → Type 0 = λ a. IsLexerAnswer G wanted a in
    let lexer = subst Lexer c.in-Sound.is (c.in_ok-fault.ensures wanted ends) in
    let Parser : Option CheckFault → Type 0 = λ a. IsFirstBefore G wanted 12 a in
    subst Parser c.in-Some-5.is (c.in_ok-fault-in-Sound.ensures wanted lexer.0)

pub returns : goal.returns
returns c =
    let G = grammar_of c.args.grammar.now in
    let wanted = option_map text c.args.wanted in
    let twins = with_name G (IsTwinAt G) c.in_ok-name.field-0 None c.in_default.is c.in_ok-name.ensures in
    let Unknown : WrittenGrammar → Type 0 = λ g. IsFirstUnknown g c.in_ok-name-2.field-0 in
    let First : Option (List ℕ) → Type 0 = λ o. IsFirstUnknown G o in
    let unknown = subst First c.in_default-2.is (subst Unknown c.in_ok-names.ensures c.in_ok-name-2.ensures) in
    let found = sym c.in_ok-start.ensures ∙ c.in-Some-3.is in
    let started = before_eof G wanted c.in-Some-3.start found twins unknown in
    let ends = before_loops G wanted c.in-Some-3.start
    found started (with_name G (EofPlace G c.in-Some-3.start) c.in_ok-rule.field-0 None c.in_default-4.is c.in_ok-rule.ensures) in
    let Lexer : LexerAnswer → Type 0 = λ a. IsLexerAnswer G wanted a in
    let lexer = subst Lexer c.in-Sound.is (c.in_ok-fault.ensures wanted ends) in
    let Parser : Option CheckFault → Type 0 = λ a. IsFirstBefore G wanted 12 a in
    (fine G wanted (subst Parser c.in-None.is (c.in_ok-fault-in-Sound.ensures wanted lexer.0)) c.in-Some-3.start found, found)
