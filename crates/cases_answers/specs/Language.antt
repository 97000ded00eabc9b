-- The languages of texts that spell grammars.
use Rattle.std.specs.Prelude.{◌≡◌, ℕ, List, Some, None}
use Rattle.grammar_tree.specs.Faults.{start_of}
use Rattle.grammar_reader.specs.Reads.{IsProfile}
use Rattle.normal_form.specs.NormalOf.{normal_of}
use Rattle.cases_answers.specs.declared.language.Language.{Language}

-- The bytes spell the grammar whose lexer and normal form these are; its start is its first parser rule.
pub record IsLanguageOf (text : List ℕ) (language : Language) : Type 0 where
  pub read : IsProfile text language.lexer.grammar
  pub start : start_of language.lexer.grammar None ≡ Some language.lexer.start
  pub form : language.normal ≡ normal_of language.lexer
