-- The text that a fault of a grammar prints. Names print as their UTF-8.
use Rattle.std.specs.Prelude.{ℕ, List, ◌++◌, codes, decimal, encode_utf8_all, if◌then◌else◌}
use Rattle.grammar_check_lexer_rules.specs.Lexer.{is_nil}
use Rattle.grammar_check.specs.declared.fault.CheckFault.{CheckFault}
use Rattle.grammar_check.specs.declared.fault.CheckFault.TheVariants.{TwoRules, NoRule, NoStart, EofPlace, FragmentLoop, ShortUse, EmptyToken}
use Rattle.grammar_check.specs.declared.fault.CheckFault.TheVariants.{NoBase, EmptyLoop, LeftRecursion, TooManyRules, Memory}

abbrev pub check_fault_text : CheckFault → List ℕ
check_fault_text (TwoRules name) = codes "two rules " ++ encode_utf8_all name
check_fault_text (NoRule name) = codes "no rule " ++ encode_utf8_all name
check_fault_text (NoStart name) = if is_nil name then codes "no start" else codes "no start " ++ encode_utf8_all name
check_fault_text (EofPlace rule) = codes "misplaced EOF in " ++ encode_utf8_all rule
check_fault_text (FragmentLoop rule) = codes "fragment loop in " ++ encode_utf8_all rule
check_fault_text (ShortUse rule) = codes "non-greedy rule " ++ encode_utf8_all rule ++ codes " is used"
check_fault_text (EmptyToken rule) = codes "empty token " ++ encode_utf8_all rule
check_fault_text (NoBase rule) = codes "no base in " ++ encode_utf8_all rule
check_fault_text (EmptyLoop rule) = codes "empty loop in " ++ encode_utf8_all rule
check_fault_text (LeftRecursion rule) = codes "left recursion in " ++ encode_utf8_all rule
check_fault_text (TooManyRules count) = codes "too many rules: " ++ decimal count
check_fault_text (Memory _) = codes "out of memory"
