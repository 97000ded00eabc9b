-- What is found when the body of a text is made, and when two grammars are joined.
use Rattle.std.specs.Prelude.{◌≡◌, ◌↔◌, ℕ, Bool, not, cond, IsTrue, List, [], Option, Some, None, filter, is_none, length, codes}
use Rattle.std.specs.Str.{IsUtf8}
use Rattle.faults.specs.Memory.{ran_out}
use Rattle.grammar_tree.specs.Kinds.{same_text}
use Rattle.grammar_tree.specs.Written.{Reference, WrittenGrammar}
use Rattle.grammar_pair.specs.Bodies.{BeginsWith, entries_of, lexer_body, parser_body, vocabularies}
use Rattle.grammar_pair.specs.Joined.{first, first_implicit, joined, wrong_rules}
use Rattle.grammar_pair.specs.declared.fault.PairFault.{PairFault}
use Rattle.grammar_pair.specs.declared.fault.PairFault.TheVariants.{OtherVocab, WrongRule, NoLiteral, Memory}

-- the body of a lexer text, and whether its first word is `lexer`
pub record IsLexerBody (bytes body : List ℕ) (found : Bool) : Type 0 where
  pub is_body : body ≡ lexer_body bytes
  pub same_length : length body ≡ length bytes
  pub is_found : IsUtf8 bytes → IsTrue found ↔ BeginsWith (codes "lexer") bytes

-- the body of a parser text, whether its first word is `parser`, and the vocabularies that it names
pub record IsParserBody (bytes body : List ℕ) (found : Bool) (names : List (List ℕ)) : Type 0 where
  pub is_body : body ≡ parser_body bytes
  pub same_length : length body ≡ length bytes
  pub is_found : IsUtf8 bytes → IsTrue found ↔ BeginsWith (codes "parser") bytes
  pub are_names : IsUtf8 bytes → names ≡ vocabularies (entries_of bytes)

-- those of the names that aren't this one
abbrev pub others : List ℕ → List (List ℕ) → List (List ℕ)
others name names = filter (λ other. not (same_text other name)) names

-- the grammar of a lexer grammar and a parser grammar, which names these vocabularies
pub record IsJoinOf (L P : WrittenGrammar) (names : List (List ℕ)) (G : WrittenGrammar) : Type 0 where
  pub vocabulary : others L.name names ≡ []
  pub rules : wrong_rules L P ≡ []
  pub named : first_implicit (joined L P).rules ≡ None
  pub is_joined : G ≡ joined L P

-- their faults
pub data IsJoinFault (L P : WrittenGrammar) (names : List (List ℕ)) : PairFault → Type 0 where
  other_vocab : {name : List ℕ} → first (others L.name names) ≡ Some name → IsJoinFault L P names (OtherVocab name)
  wrong_rule : {name : List ℕ} → others L.name names ≡ [] → first (wrong_rules L P) ≡ Some name → IsJoinFault L P names (WrongRule name)
  no_literal : {literal : List ℕ} → others L.name names ≡ [] → wrong_rules L P ≡ [] → first_implicit (joined L P).rules ≡ Some literal
      → IsJoinFault L P names (NoLiteral literal)
  memory : IsJoinFault L P names (Memory ran_out)

-- the literal, where it is one that has no number
abbrev pub unnamed_by : (List ℕ → Option ℕ) → Reference → Option (List ℕ)
unnamed_by f (Reference.literal t) = cond (is_none (f t)) (Some t) None
unnamed_by f (Reference.name n) = None
