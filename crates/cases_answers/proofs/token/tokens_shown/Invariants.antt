use Rattle.std.proofs.Common.{◌≡◌, ◌++◌, drop, string_bytes}
use Rattle.cases_answers.specs.AnswerTexts.{tokens_text}
use Rattle.cases_answers.proofs.token.tokens_shown.Given as goal

abbrev pub invariant-loop-token : goal.invariant-loop-token
invariant-loop-token l =
    string_bytes l.out ++ tokens_text (drop l.token-index l.tokens) ≡ tokens_text l.tokens
