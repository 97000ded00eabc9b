use Rattle.grammar_reader_lexer_rules.proofs.terms.lex_suffixed.Goals as goal

-- What the call gives is found among what is known, so that no answer names the call.
pub returns-in-Question : goal.returns-in-Question
returns-in-Question c = rw c.in-Question.is assumption

pub returns-in-Star : goal.returns-in-Star
returns-in-Star c = rw c.in-Star.is assumption

pub returns-in-Plus : goal.returns-in-Plus
returns-in-Plus c = rw c.in-Plus.is assumption
