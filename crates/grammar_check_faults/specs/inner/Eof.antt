-- Where `EOF` is, as tests.
use Rattle.std.specs.Prelude.{Bool, true, false, not, ◌&&◌, ◌||◌}
use Rattle.grammar_tree.specs.Faults.{any_has_eof, has_eof, is_misplaced}
use Rattle.grammar_tree.specs.Written.{WrittenTerm, WrittenRule}

abbrev pub is_eof : WrittenTerm → Bool
is_eof (WrittenTerm.literal t) = false
is_eof (WrittenTerm.name n) = false
is_eof WrittenTerm.any = false
is_eof (WrittenTerm.but refs) = false
is_eof (WrittenTerm.block a) = false
is_eof (WrittenTerm.opt t) = false
is_eof (WrittenTerm.star t) = false
is_eof (WrittenTerm.plus t) = false
is_eof WrittenTerm.eof = true

-- `EOF` is in the term, other than as the last term of an alternative
abbrev pub is_misplaced_term : WrittenTerm → Bool → Bool
is_misplaced_term t last = not (is_eof t && last) && has_eof t

-- `EOF` is misplaced in the rule, or is in it though it isn't the start and is used
abbrev pub is_misplaced_rule : WrittenRule → Bool → Bool → Bool
is_misplaced_rule (WrittenRule.parser_rule r) is_start is_used = is_misplaced r.alts || ((not is_start && any_has_eof r.alts) && is_used)
is_misplaced_rule (WrittenRule.lexer_rule r) is_start is_used = false
