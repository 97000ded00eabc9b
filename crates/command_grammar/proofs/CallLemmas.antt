-- Which files of a grammar were read.
use Rattle.std.proofs.Common.{◌≡◌, ℕ, List, [], ◌∷◌, None, Some, Option, refl, sym, subst, unwrap_or, Result, Ok, Err, IfErr}
use Rattle.std.specs.Option.{option_to_list}
use Rattle.std.specs.Prelude.{OnOk}
use Rattle.edge_io.specs.Files.{FileContent}
use Rattle.edge_io.specs.FileCalls.{WereMade, failed_call}
use Rattle.edge_io.specs.declared.file_call.FileAction.TheVariants as action
use Rattle.command_ends.specs.declared.status.NamedFile.TheVariants as read_file
use Rattle.command_ends.specs.declared.status.Refusal.{Refusal}
use Rattle.command_ends.specs.declared.status.Refusal.TheVariants.{Memory, CannotRead, Grammar, TooLong}
use Rattle.command_ends.specs.Status.{ReadFails, unread_makes}
use Rattle.command_ends.specs.World.{SeenCalls, SeenFiles, SomeRead, UnreadAfter, WereRead, grammar_limit}
use Rattle.command_ends.proofs.Lent.{all_some, read_then, read_then_made, read_then_some}
use Rattle.command_words.specs.Commands.{GrammarSource}
use Rattle.command_grammar.specs.Grammar.{GrammarCalls}
use Rattle.command_grammar.specs.Texts.{GrammarTexts, grammar_paths}
use Rattle.command_grammar.specs.inner.Grammar.{IsFaultRefusal, LexerCalls}

-- the file of a lexer that wasn't read
pub lexer_unread_calls : (path : List ℕ) (content : Option FileContent) (files files' : SeenFiles) (old new : SeenCalls) (refusal : Refusal)
    → ReadFails grammar_limit read_file.Lexer content files files' refusal → WereMade (unread_makes path refusal) old new
    → LexerCalls path old new refusal
lexer_unread_calls path content files files' old new (Memory _) why made = ([], path ∷ [], refl, made)
lexer_unread_calls path content files files' old new (CannotRead file) why made = (why.0, made)
lexer_unread_calls path content files files' old new (TooLong file) why made = (why.0, made)
lexer_unread_calls path content files files' old new _ why made = absurd why

-- one with whose text the parser's has a fault
lexer_fault_calls : (named : GrammarSource) (texts : GrammarTexts) (path : List ℕ) (old new : SeenCalls) (refusal : Refusal)
    → IsFaultRefusal named texts refusal → WereRead (path ∷ []) old new → LexerCalls path old new refusal
lexer_fault_calls named texts path old new (Memory _) why read = all_some (path ∷ []) old new read
lexer_fault_calls named texts path old new (Grammar line) why read = read
lexer_fault_calls named texts path old new _ why read = absurd why

pub lexer_faulty_calls : {A : Type 0} (named : GrammarSource) (texts : GrammarTexts) (path : List ℕ) (old new : SeenCalls) (outcome : Result A Refusal)
    → IfErr outcome (λ refusal. IsFaultRefusal named texts refusal) → WereRead (path ∷ []) old new → IfErr outcome (LexerCalls path old new)
lexer_faulty_calls named texts path old new (Ok it) why read = tt
lexer_faulty_calls named texts path old new (Err refusal) why read = lexer_fault_calls named texts path old new refusal why read

module _ (named : GrammarSource) where
  -- the first file wasn't read
  pub unread_calls : (content : Option FileContent) (files files' : SeenFiles) (old new : SeenCalls) (refusal : Refusal)
      → ReadFails grammar_limit read_file.Grammar content files files' refusal → WereMade (unread_makes named.path refusal) old new
      → GrammarCalls named old new refusal
  unread_calls content files files' old new (Memory _) why made = ([], grammar_paths named, refl, made)
  unread_calls content files files' old new (CannotRead file) why made = subst (λ f. GrammarCalls named old new (CannotRead f)) (sym why.0) made
  unread_calls content files files' old new (TooLong file) why made = subst (λ f. GrammarCalls named old new (TooLong f)) (sym why.0) made
  unread_calls content files files' old new _ why made = absurd why

  -- ---- one text
  module _ (is : named.lexer ≡ None) (old new : SeenCalls) (read : WereRead (named.path ∷ []) old new) where
    one_calls : WereRead (grammar_paths named) old new
    one_calls = subst (λ (lexer : Option (List ℕ)). WereRead (named.path ∷ option_to_list lexer) old new) (sym is) read

    pub one_read_calls : {A : Type 0} (outcome : Result A Refusal) → OnOk outcome (WereRead (grammar_paths named) old new)
    one_read_calls (Ok it) = one_calls
    one_read_calls (Err refusal) = tt

    fault_calls : (texts : GrammarTexts) (refusal : Refusal) → IsFaultRefusal named texts refusal → GrammarCalls named old new refusal
    fault_calls texts (Memory _) why = all_some (grammar_paths named) old new one_calls
    fault_calls texts (Grammar line) why = one_calls
    fault_calls texts _ why = absurd why

    pub faulty_calls : {A : Type 0} (texts : GrammarTexts) (outcome : Result A Refusal) → IfErr outcome (λ refusal. IsFaultRefusal named texts refusal)
        → IfErr outcome (GrammarCalls named old new)
    faulty_calls texts (Ok it) why = tt
    faulty_calls texts (Err refusal) why = fault_calls texts refusal why

  -- ---- a lexer's text and a parser's, once that was read
  module _ (lexer : List ℕ) (is : named.lexer ≡ Some lexer) (old mid new : SeenCalls) (read : WereRead (named.path ∷ []) old mid) where
    pair_calls : WereRead (lexer ∷ []) mid new → WereRead (grammar_paths named) old new
    pair_calls then =
        subst (λ (l : Option (List ℕ)). WereRead (named.path ∷ option_to_list l) old new) (sym is)
        (read_then (named.path ∷ []) old mid new read (lexer ∷ []) then)

    -- the path of the lexer's file
    at_lexer : (P : List ℕ → Type 0) → P lexer → P (unwrap_or named.lexer [])
    at_lexer P p = subst (λ (l : Option (List ℕ)). P (unwrap_or l [])) (sym is) p

    lexer_calls : (refusal : Refusal) → LexerCalls lexer mid new refusal → GrammarCalls named old new refusal
    lexer_calls (Memory _) then =
        subst (λ (l : Option (List ℕ)). SomeRead (named.path ∷ option_to_list l) old new) (sym is)
        (read_then_some (named.path ∷ []) old mid new read (lexer ∷ []) then)
    lexer_calls (CannotRead file) then =
        subst (λ f. GrammarCalls named old new (CannotRead f)) (sym then.0)
        (at_lexer (λ path. UnreadAfter (named.path ∷ []) path old new)
        (read_then_made (named.path ∷ []) old mid new read [] (failed_call action.Read lexer ∷ []) then.1))
    lexer_calls (TooLong file) then =
        subst (λ f. GrammarCalls named old new (TooLong f)) (sym then.0)
        (at_lexer (λ path. WereRead (named.path ∷ path ∷ []) old new) (read_then (named.path ∷ []) old mid new read (lexer ∷ []) then.1))
    lexer_calls (Grammar line) then = pair_calls then
    lexer_calls _ then = absurd then

    pub pair_refused_calls : {A : Type 0} (outcome : Result A Refusal) → IfErr outcome (LexerCalls lexer mid new) → IfErr outcome (GrammarCalls named old new)
    pair_refused_calls (Ok it) then = tt
    pair_refused_calls (Err refusal) then = lexer_calls refusal then

    pub pair_read_calls : {A : Type 0} (outcome : Result A Refusal) → OnOk outcome (WereRead (lexer ∷ []) mid new)
        → OnOk outcome (WereRead (grammar_paths named) old new)
    pair_read_calls (Ok it) then = pair_calls then
    pair_read_calls (Err refusal) then = tt
