-- Two texts that are read: what they give, and that they give nothing else.
use Rattle.std.proofs.Common.{◌≡◌, ◌≢◌, ◌≤◌, ◌+◌, ℕ, List, [], ◌∷◌, ◌++◌, Some, None, length, refl, ap, sym, subst, ◌∙◌, arith, length-append}
use Rattle.std.specs.Prelude.{IfErr, IfOk, MatchResult, Result, sum_by}
use Rattle.std.proofs.lemmas.List.Sums.{sum_by-append}
use Rattle.std.proofs.lemmas.Result.{IfErr-weaker, IfOk-weaker, MatchResult-from_both}
use Rattle.faults.specs.Memory.{ran_out}
use Rattle.grammar_tree.specs.GrammarView.{grammar_of}
use Rattle.grammar_tree.specs.declared.rule.Grammar.{Grammar}
use Rattle.grammar_tree.specs.Size.{grammar_size, rule_size}
use Rattle.grammar_tree.specs.Written.{WrittenGrammar}
use Rattle.grammar_pair.specs.Bodies.{entries_of, vocabularies}
use Rattle.grammar_pair.specs.Joined.{HasNoImplicitKind, IsJoined, IsLexerOf, IsLexerText, IsPairFault, IsParserOf, IsParserText, LexesByLexer}
use Rattle.grammar_pair.specs.Joined.{RulesAreAsWritten, first, first_implicit, joined, other_vocabularies, wrong_rules}
use Rattle.grammar_pair.specs.inner.Read.{IsJoinFault, IsJoinOf, others}
use Rattle.grammar_pair.specs.declared.fault.PairFault.{PairFault}
use Rattle.grammar_pair.specs.declared.fault.PairFault.TheVariants.{Memory}
use Rattle.grammar_pair.proofs.JoinedKinds.{has_no_implicit_kind, lexes_as_lexer, no_parser_rules, token_names}
use Rattle.grammar_pair.proofs.Rules.{are_as_written}

pub joined_size : (L P : WrittenGrammar) → grammar_size (joined L P) ≡ grammar_size L + grammar_size P
unfolding grammar_size
joined_size L P =
    let tokens : length (L.tokens ++ P.tokens) ≡ length L.tokens + length P.tokens = length-append L.tokens P.tokens in
    let rules : sum_by rule_size (P.rules ++ L.rules) ≡ sum_by rule_size P.rules + sum_by rule_size L.rules = sum_by-append rule_size P.rules L.rules in
    omega (arith, tokens, rules)

pub none_first : {A : Type 0} (xs : List A) → first xs ≡ None → xs ≡ []
none_first [] e = refl
none_first (x ∷ xs) e = cc e

pub some_first : {A : Type 0} (xs : List A) (x : A) → first xs ≡ Some x → xs ≢ []
some_first [] x e f = cc e
some_first (y ∷ xs) x e f = cc f

module _ (lexer parser : List ℕ) (L P : WrittenGrammar) (lt : IsLexerText lexer L) (pt : IsParserText parser P)
    (only_lexer : (other : WrittenGrammar) → IsLexerText lexer other → L ≡ other)
    (only_parser : (other : WrittenGrammar) → IsParserText parser other → P ≡ other) where
  module _ (G : WrittenGrammar) (j : IsJoined lexer parser G) where
    same_vocabulary : other_vocabularies L parser ≡ []
    same_vocabulary = ap (λ l. other_vocabularies l parser) (only_lexer j.lexer_grammar j.lexer_text) ∙ j.vocabulary

    same_rules : wrong_rules L P ≡ []
    same_rules =
        ap (λ l. wrong_rules l P) (only_lexer j.lexer_grammar j.lexer_text) ∙ ap (wrong_rules j.lexer_grammar) (only_parser j.parser_grammar j.parser_text)
        ∙ j.rules

    same_joined : joined L P ≡ joined j.lexer_grammar j.parser_grammar
    same_joined = ap (λ l. joined l P) (only_lexer j.lexer_grammar j.lexer_text) ∙ ap (joined j.lexer_grammar) (only_parser j.parser_grammar j.parser_text)

    same_named : first_implicit (joined L P).rules ≡ None
    same_named = ap (λ (g : WrittenGrammar). first_implicit g.rules) same_joined ∙ j.named

    pub only_joined : joined L P ≡ G
    only_joined = same_joined ∙ sym j.is_joined

    pub has_vocabulary : (name : List ℕ) → first (other_vocabularies L parser) ≡ Some name → ⊥
    has_vocabulary name e = some_first (other_vocabularies L parser) name e same_vocabulary

    pub has_rules : (name : List ℕ) → first (wrong_rules L P) ≡ Some name → ⊥
    has_rules name e = some_first (wrong_rules L P) name e same_rules

    pub has_literals : (t : List ℕ) → first_implicit (joined L P).rules ≡ Some t → ⊥
    has_literals t e = let f : Some t ≡ None = sym e ∙ same_named in cc f

  module _ (vocabulary : other_vocabularies L parser ≡ []) (own : wrong_rules L P ≡ []) (named : first_implicit (joined L P).rules ≡ None) where
    pub is_joined : IsJoined lexer parser (joined L P)
    is_joined =
        record {
          lexer_grammar = L;
          parser_grammar = P;
          lexer_text = lt;
          parser_text = pt;
          vocabulary = vocabulary;
          rules = own;
          named = named;
          is_joined = refl;
        }

    pub lexes_by_lexer : LexesByLexer lexer (joined L P)
    lexes_by_lexer =
        record {
          lexer_grammar = L;
          text = lt;
          only_lexer_rules = no_parser_rules L P own;
          kinds = token_names L P own named;
          lexes = lexes_as_lexer L P own named;
        }

  pub of_lexer : IsLexerOf lexer L
  of_lexer = record { text = lt; only = only_lexer }

  pub of_parser : IsParserOf parser P
  of_parser = record { text = pt; only = only_parser }

  -- What is joined of the two grammars is what is promised of the two texts.
  module _ (names : List (List ℕ)) (are : names ≡ vocabularies (entries_of parser)) where
    same_others : others L.name names ≡ other_vocabularies L parser
    same_others = ap (others L.name) are

    module _ (G : WrittenGrammar) (j : IsJoinOf L P names G) where
      none_other : other_vocabularies L parser ≡ []
      none_other = sym same_others ∙ j.vocabulary

      pub ok : IsJoined lexer parser G
      ok = subst (IsJoined lexer parser) (sym j.is_joined) (is_joined none_other j.rules j.named)

      pub few : {n m : ℕ} → grammar_size L ≤ n → grammar_size P ≤ m → grammar_size G ≤ n + m
      few a b = let size : grammar_size G ≡ grammar_size L + grammar_size P = ap grammar_size j.is_joined ∙ joined_size L P in omega (arith, size)

      pub only : (H : WrittenGrammar) → IsJoined lexer parser H → G ≡ H
      only H k = j.is_joined ∙ only_joined H k

      pub kinds : HasNoImplicitKind G
      kinds = subst HasNoImplicitKind (sym j.is_joined) (has_no_implicit_kind L P j.rules j.named)

      pub lexing : LexesByLexer lexer G
      lexing = subst (LexesByLexer lexer) (sym j.is_joined) (lexes_by_lexer none_other j.rules j.named)

      pub rules : RulesAreAsWritten lexer parser G
      rules = subst (RulesAreAsWritten lexer parser) (sym j.is_joined) (are_as_written L P j.rules j.named lexer parser lt pt)

    pub fault : {fault : PairFault} → IsJoinFault L P names fault → IsPairFault lexer parser fault
    fault (IsJoinFault.other_vocab e) = IsPairFault.other_vocab of_lexer of_parser (ap first (sym same_others) ∙ e)
    fault (IsJoinFault.wrong_rule v e) = IsPairFault.wrong_rule of_lexer of_parser (sym same_others ∙ v) e
    fault (IsJoinFault.no_literal v r e) = IsPairFault.no_literal of_lexer of_parser (sym same_others ∙ v) r e
    fault IsJoinFault.memory = IsPairFault.memory

    -- a pair with a fault is joined to no grammar
    pub none : (H : WrittenGrammar) → IsJoined lexer parser H → {fault : PairFault} → IsJoinFault L P names fault → fault ≡ Memory ran_out
    none H k (IsJoinFault.other_vocab {name} e) = absurd (has_vocabulary H k name (ap first (sym same_others) ∙ e))
    none H k (IsJoinFault.wrong_rule {name} v e) = absurd (has_rules H k name e)
    none H k (IsJoinFault.no_literal {literal} v r e) = absurd (has_literals H k literal e)
    none H k IsJoinFault.memory = refl

    -- what was answered to the two grammars is answered to the two texts
    module _ (result : Result Grammar PairFault) (done : IfOk result (λ g. IsJoinOf L P names (grammar_of g)))
        (refused : IfErr result (IsJoinFault L P names)) where
      pub whole : IfOk result (λ g. IsJoined lexer parser (grammar_of g))
      whole = IfOk-weaker result _ _ (λ g j. ok (grammar_of g) j) done

      pub small : (n m : ℕ) → grammar_size L ≤ n → grammar_size P ≤ m → IfOk result (λ g. grammar_size (grammar_of g) ≤ n + m)
      small n m a b = IfOk-weaker result _ _ (λ g j. few (grammar_of g) j a b) done

      pub alone : (H : WrittenGrammar) → IsJoined lexer parser H → MatchResult result (λ g. grammar_of g ≡ H) (λ fault. fault ≡ Memory ran_out)
      alone H k =
          MatchResult-from_both result _ _ (IfOk-weaker result _ _ (λ g j. only (grammar_of g) j H k) done)
          (IfErr-weaker result _ _ (λ fault r. none H k r) refused)

      pub faulty : IfErr result (IsPairFault lexer parser)
      faulty = IfErr-weaker result _ _ (λ _ r. fault r) refused

      pub own_kinds : IfOk result (λ g. HasNoImplicitKind (grammar_of g))
      own_kinds = IfOk-weaker result _ _ (λ g j. kinds (grammar_of g) j) done

      pub own_lexing : IfOk result (λ g. LexesByLexer lexer (grammar_of g))
      own_lexing = IfOk-weaker result _ _ (λ g j. lexing (grammar_of g) j) done

      pub own_rules : IfOk result (λ g. RulesAreAsWritten lexer parser (grammar_of g))
      own_rules = IfOk-weaker result _ _ (λ g j. rules (grammar_of g) j) done
