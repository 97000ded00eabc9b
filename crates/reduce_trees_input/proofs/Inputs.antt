-- What is found in a text makes its input, which is in the language, and a text has one input at most.
use Rattle.std.proofs.Common.{◌≡◌, ℕ, Bool, List, [], ◌∷◌, length, map, refl, sym, ap, ◌∙◌, subst}
use Rattle.std.specs.Prelude.{string_bytes, ⊤, Result, Ok, Err, IfErr, IfOk, MatchResult, OnOk}
use Rattle.std.specs.List.{between}
use Rattle.std.specs.Str.{chars, IsUtf8}
use Rattle.std.proofs.lemmas.Slice.{between_from_start}
use Rattle.std.proofs.Math.Path.{path_j'}
use Rattle.std.proofs.Math.Seq.{take-length}
use Rattle.faults.specs.Memory.{ran_out}
use Rattle.grammar_tree.specs.Written.{CheckedGrammar}
use Rattle.grammar_tree.specs.Checked.{IsChecked, StartDerives}
use Rattle.grammar_tree.specs.Faults.{IsWellFormed}
use Rattle.grammar_tree.specs.Lexes.{PlacedToken}
use Rattle.lexer.specs.Tokens.{HasTokens, token_of}
use Rattle.lexer.specs.declared.token.Token.{Token}
use Rattle.normal_form.specs.declared.normal.Sym.{Sym}
use Rattle.normal_form.specs.declared.normal.Sym.TheVariants.{Rule}
use Rattle.normal_form.specs.Form.{NormalForm}
use Rattle.normal_form.specs.Laws.{EqualLanguages}
use Rattle.normal_form.specs.NormalDerives.{NormalDerives}
use Rattle.normal_form.specs.NormalOf.{normal_of}
use Rattle.syntax_tree.specs.Laws.{PreferredTreesAreOne, PreferredTreesAreValid, ValidTreesAreDerived}
use Rattle.syntax_tree.specs.Nodes.{whole}
use Rattle.syntax_tree.specs.Preferred.{Preferred}
use Rattle.syntax_tree.specs.Trees.{PlainTree, kinds_of, renumbered}
use Rattle.token_print.specs.LexingLaws.{TokensAreUnique}
use Rattle.reduce_trees_mode.specs.Candidates.{InLanguage}
use Rattle.reduce_trees_mode.specs.Input.{TreeInput}
use Rattle.reduce_trees_mode.specs.Laws.{WellFormedOnce}
use Rattle.reduce_trees_input.specs.Parsed.{IsInputOf, IsParsed, MakesInputOf, kinds_in, tokens_in}
use Rattle.reduce_trees_input.specs.Faults.{IsInputFault}
use Rattle.reduce_trees_input.specs.Laws.{HasOneFault, InputsAreInLanguage, InputsAreOne}
use Rattle.reduce_trees_input.specs.declared.fault.InputFault.{InputFault}
use Rattle.reduce_trees_input.specs.declared.fault.InputFault.TheVariants.{NotUtf8, NoToken, NoParse, Memory}
use Rattle.reduce_trees_input.specs.declared.parsed.ParsedInput.{ParsedInput}

-- the kinds of tokens, one by one
pub same_kinds : (tokens : List Token) → map (λ (t : Token). t.kind) tokens ≡ kinds_in (map token_of tokens)
same_kinds [] = refl
same_kinds (t ∷ tokens) = ap (λ (kinds : List ℕ). t.kind ∷ kinds) (same_kinds tokens)

all_between : (kinds : List ℕ) → between 0 (length kinds) kinds ≡ kinds
all_between kinds = between_from_start kinds (length kinds) ∙ take-length kinds

-- the kinds of the preferred tree of all of a list of kinds
module _ (valid : PreferredTreesAreValid) (N : NormalForm) (kinds : List ℕ) (s : Sym) (t : PlainTree) (is : Preferred N kinds s 0 (length kinds) t) where
  all_kinds : kinds_of t ≡ kinds
  all_kinds = (valid N kinds s 0 (length kinds) t is).kinds_are ∙ all_between kinds

-- What was found is the input of the text.
module _ (valid : PreferredTreesAreValid) (grammar : CheckedGrammar) (text : List ℕ) (checked : IsChecked grammar) where
  found_preferred : (found : ParsedInput) → IsParsed grammar text found
      → Preferred found.tree.form (kinds_in (tokens_in found.tokens)) found.tree.start 0 (length (kinds_in (tokens_in found.tokens))) (whole found.tree)
  found_preferred found of =
      let ks = kinds_in (tokens_in found.tokens) in
      let in_form =
      subst (λ (N : NormalForm). Preferred N ks (Rule (normal_of grammar).start) 0 (length ks) (whole found.tree)) (sym of.parse.form) of.parse.preferred in
      subst (λ (s : Sym). Preferred found.tree.form ks s 0 (length ks) (whole found.tree)) (sym of.parse.same_start) in_form

  makes_input : (found : ParsedInput) → IsParsed grammar text found → MakesInputOf grammar text found
  makes_input found of formed admits squeezes =
      let preferred = found_preferred found of in
      record {
        same_grammar = of.same_grammar;
        same_text = of.same_text;
        is_input =
            record {
              checked = subst IsChecked (sym of.same_grammar) checked;
              form_is = of.parse.form ∙ ap normal_of (sym of.same_grammar);
              symbol_is = of.parse.same_start ∙ ap (λ (N : NormalForm). Rule N.start) (sym of.parse.form);
              utf8 = subst IsUtf8 (sym of.same_text) of.utf8;
              has_tokens =
                  subst (λ (g : CheckedGrammar). HasTokens g.grammar (chars (string_bytes found.text)) (tokens_in found.tokens)) (sym of.same_grammar)
                  (subst (λ (bytes : List ℕ). HasTokens grammar.grammar (chars bytes) (tokens_in found.tokens)) (sym of.same_text) of.has_tokens);
              is_whole = of.is_whole;
              kinds_are = all_kinds valid found.tree.form (kinds_in (tokens_in found.tokens)) found.tree.start (whole found.tree) preferred;
            };
        preferred = preferred;
      }

  pub input_made : (outcome : Result ParsedInput InputFault) → IfOk outcome (IsParsed grammar text) → IfOk outcome (MakesInputOf grammar text)
  input_made (Ok found) of = makes_input found of
  input_made (Err fault) of = tt

module _ (grammar : CheckedGrammar) (text : List ℕ) where
  pub language_of : (outcome : Result ParsedInput InputFault) → IfOk outcome (IsParsed grammar text) → OnOk outcome (InLanguage grammar text)
  language_of (Ok found) of = record { utf8 = of.utf8; tokens = tokens_in found.tokens; has = of.has_tokens; derived = of.derived }
  language_of (Err fault) of = tt

  -- a fault of a text in the language is out of memory
  only_memory : HasOneFault grammar text → (fault : InputFault) → IsInputFault grammar text fault → InLanguage grammar text → fault ≡ Memory ran_out
  only_memory one (NotUtf8 offset) why of = absurd (one.refused (NotUtf8 offset) (λ is. cc is) why of)
  only_memory one (NoToken offset) why of = absurd (one.refused (NoToken offset) (λ is. cc is) why of)
  only_memory one NoParse why of = absurd (one.refused NoParse (λ is. cc is) why of)
  only_memory one (Memory _) why of = refl

  pub memory_alone : HasOneFault grammar text → (outcome : Result ParsedInput InputFault) → IfErr outcome (IsInputFault grammar text) → InLanguage grammar text
      → MatchResult outcome (λ _. ⊤) (λ fault. fault ≡ Memory ran_out)
  memory_alone one (Ok found) why of = tt
  memory_alone one (Err fault) why of = only_memory one fault why of

-- the parts of the input of a text, by the names of the grammar and the text
module _ (grammar : CheckedGrammar) (text : List ℕ) (input : TreeInput) (of : IsInputOf grammar text input) where
  its_tokens : HasTokens grammar.grammar (chars text) input.tokens
  its_tokens =
      subst (λ (g : CheckedGrammar). HasTokens g.grammar (chars text) input.tokens) of.same_grammar
      (subst (λ (bytes : List ℕ). HasTokens input.grammar.grammar (chars bytes) input.tokens) of.same_text of.is_input.has_tokens)

  its_form : input.form ≡ normal_of grammar
  its_form = of.is_input.form_is ∙ ap normal_of of.same_grammar

  its_symbol : input.symbol ≡ Rule (normal_of grammar).start
  its_symbol = of.is_input.symbol_is ∙ ap (λ (N : NormalForm). Rule N.start) its_form

  its_derived : EqualLanguages → ValidTreesAreDerived → StartDerives grammar (kinds_in input.tokens)
  its_derived equal derived =
      let checked = subst IsChecked of.same_grammar of.is_input.checked in
      let of_tree = derived input.form input.symbol input.whole of.is_input.is_whole.valid in
      let of_kinds = subst (NormalDerives input.form input.symbol) of.is_input.kinds_are of_tree in
      let in_form = subst (λ (N : NormalForm). NormalDerives N input.symbol (kinds_in input.tokens)) its_form of_kinds in
      ((equal grammar checked).starts (kinds_in input.tokens)).1
      (subst (λ (s : Sym). NormalDerives (normal_of grammar) s (kinds_in input.tokens)) its_symbol in_form)

pub inputs_are_in_language : EqualLanguages → ValidTreesAreDerived → InputsAreInLanguage
inputs_are_in_language equal derived grammar text input of =
    record {
      utf8 = subst IsUtf8 of.same_text of.is_input.utf8;
      tokens = input.tokens;
      has = its_tokens grammar text input of;
      derived = its_derived grammar text input of equal derived;
    }

-- one preferred tree, of one list of kinds
one_tree : PreferredTreesAreOne → (N N' : NormalForm) (ks ks' : List ℕ) (s s' : Sym) (t u : PlainTree) → N' ≡ N → ks' ≡ ks → s' ≡ s
    → Preferred N ks s 0 (length ks) t → Preferred N' ks' s' 0 (length ks') u → renumbered 0 t ≡ t → renumbered 0 u ≡ u → t ≡ u
one_tree one N N' ks ks' s s' t u same_form same_kinds same_symbol first other in_order in_order' =
    let in_form = subst (λ (M : NormalForm). Preferred M ks' s' 0 (length ks') u) same_form other in
    let of_kinds = subst (λ (l : List ℕ). Preferred N l s' 0 (length l) u) same_kinds in_form in
    let of_symbol = subst (λ (r : Sym). Preferred N ks r 0 (length ks) u) same_symbol of_kinds in
    sym in_order ∙ one N ks s 0 (length ks) t u first of_symbol ∙ in_order'

abbrev made : (g : CheckedGrammar) → IsWellFormed g.grammar g.start → NormalForm → Sym → List ℕ → List PlacedToken → PlainTree → (List ℕ → List ℕ → Bool) → Bool
    → TreeInput
made g formed N s start tokens t admits squeezes =
    record { grammar = g; formed = formed; form = N; symbol = s; start = start; tokens = tokens; whole = t; admits = admits; squeezes = squeezes }

-- inputs whose parts are equal
same_made : WellFormedOnce → (g g' : CheckedGrammar) (e : g ≡ g') (formed : IsWellFormed g.grammar g.start) (formed' : IsWellFormed g'.grammar g'.start)
    (N : NormalForm) (s : Sym) (start : List ℕ) (tokens : List PlacedToken) (t : PlainTree)
    (admits : List ℕ → List ℕ → Bool) (squeezes : Bool) → made g formed N s start tokens t admits squeezes ≡ made g' formed' N s start tokens t admits squeezes
same_made formed_once g g' e formed formed' N s start tokens t admits squeezes =
    path_j' {y = g'} (λ (x : CheckedGrammar) (p : x ≡ g'). (f : IsWellFormed x.grammar x.start)
    → made x f N s start tokens t admits squeezes ≡ made g' formed' N s start tokens t admits squeezes)
    (λ f. ap (λ (h : IsWellFormed g'.grammar g'.start). made g' h N s start tokens t admits squeezes) (formed_once g'.grammar g'.start f formed')) e formed

pub inputs_are_one : TokensAreUnique → PreferredTreesAreOne → WellFormedOnce → InputsAreOne
inputs_are_one unique one_preferred formed_once grammar text one other of also same_admits same_squeezes =
    let same_form = its_form grammar text one of ∙ sym (its_form grammar text other also) in
    let same_symbol = its_symbol grammar text one of ∙ sym (its_symbol grammar text other also) in
    let same_tokens = unique grammar.grammar (chars text) one.tokens other.tokens (its_tokens grammar text one of) (its_tokens grammar text other also) in
    let same_whole = one_tree one_preferred one.form other.form (kinds_in one.tokens) (kinds_in other.tokens) one.symbol other.symbol one.whole other.whole
    (sym same_form) (sym (ap kinds_in same_tokens))
    (sym same_symbol) of.preferred also.preferred of.is_input.is_whole.numbered also.is_input.is_whole.numbered in
    same_made formed_once one.grammar other.grammar
    (of.same_grammar ∙ sym also.same_grammar) one.formed other.formed one.form one.symbol one.start one.tokens one.whole one.admits one.squeezes
    ∙ ap (λ (x : NormalForm). made other.grammar other.formed x one.symbol one.start one.tokens one.whole one.admits one.squeezes) same_form
    ∙ ap (λ (x : Sym). made other.grammar other.formed other.form x one.start one.tokens one.whole one.admits one.squeezes) same_symbol
    ∙ ap (λ (x : List ℕ). made other.grammar other.formed other.form other.symbol x one.tokens one.whole one.admits one.squeezes)
    (of.same_text ∙ sym also.same_text)
    ∙ ap (λ (x : List PlacedToken). made other.grammar other.formed other.form other.symbol other.start x one.whole one.admits one.squeezes) same_tokens
    ∙ ap (λ (x : PlainTree). made other.grammar other.formed other.form other.symbol other.start other.tokens x one.admits one.squeezes) same_whole
    ∙ ap (λ (x : List ℕ → List ℕ → Bool). made other.grammar other.formed other.form other.symbol other.start other.tokens other.whole x one.squeezes)
    same_admits
    ∙ ap (λ (x : Bool). made other.grammar other.formed other.form other.symbol other.start other.tokens other.whole other.admits x) same_squeezes
