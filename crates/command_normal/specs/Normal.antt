-- The command `normal`: the printed normal form of the grammar in one file or two.
use Rattle.std.specs.Prelude.{◌≡◌, ◌≢◌, ◌⊎◌, ◌++◌, ◌∷◌, [], ℕ, List, None, Some, codes, encode_utf8_all}
use Rattle.edge_io.specs.Files.{IsLonger, SameFiles}
use Rattle.grammar_tree.specs.Written.{CheckedGrammar}
use Rattle.normal_form.specs.Laws.{HasEqualLanguages}
use Rattle.normal_form.specs.NormalOf.{normal_of}
use Rattle.normal_form_print.specs.Print.{printed}
use Rattle.command_grammar.specs.Grammar.{IsFaultIn, IsGrammarText}
use Rattle.command_grammar.specs.Texts.{AreSpelled, GrammarIsShown, GrammarTexts, GrammarWasRead, IsGrammarFile, grammar_paths, path_of, paths_before}
use Rattle.command_ends.specs.declared.status.NamedFile.{NamedFile}
use Rattle.command_ends.specs.Status.{fault_line, word_for}
use Rattle.command_words.specs.Commands.{GrammarSource}
use Rattle.command_grammar.specs.Grammar.{start_name}
use Rattle.command_ends.specs.World.{PutsPrefix, CallFailed, IsOver, IsQuiet, Puts, PutsLine, PutsMessage, SeenCalls, SeenFiles, SeenOut, SomeRead}
use Rattle.command_ends.specs.World.{UnreadAfter, WereRead, grammar_limit}

-- The text is the printed normal form of the grammar that the texts spell, with the start rule that is named, or else its first parser rule, and the two have
-- the same languages.
pub record IsNormalOf (named : GrammarSource) (texts : GrammarTexts) (text : List ℕ) : Type 0 where
  pub grammar : CheckedGrammar
  pub spelled : AreSpelled texts (start_name named) grammar
  pub languages : HasEqualLanguages grammar (normal_of grammar)
  pub printed : text ≡ encode_utf8_all (printed grammar.kinds (normal_of grammar))

-- How `normal` ends, by its status.
pub data NormalEnds (grammar : GrammarSource) (files files' : SeenFiles) (calls calls' : SeenCalls) (out out' : SeenOut) : ℕ → Type 0 where
  -- the printed normal form of the grammar in the files was put, and no call failed
  done : (text : List ℕ)
      → (read : GrammarWasRead grammar files (λ texts. IsNormalOf grammar texts text))
      → (quiet : IsQuiet files files')
      → (reads : WereRead (grammar_paths grammar) calls calls')
      → (put : Puts text out out')
      → NormalEnds grammar files files' calls calls' out out' 0
  -- out of memory, for which there is no evidence
  memory : (quiet : IsQuiet files files')
      → (reads : SomeRead (grammar_paths grammar) calls calls')
      → (line : PutsMessage (codes "out of memory") out out')
      → NormalEnds grammar files files' calls calls' out out' 1
  -- a read failed of the file that the line names, after those of the files before it
  unread : (file : NamedFile)
      → (reached : IsGrammarFile grammar file files)
      → (failed : CallFailed files files')
      → (reads : UnreadAfter (paths_before grammar file) (path_of grammar file) calls calls')
      → (line : PutsMessage (codes "cannot read " ++ word_for file) out out')
      → NormalEnds grammar files files' calls calls' out out' 3
  -- the put failed: some prefix of the printed normal form was put, and nothing more
  unput : (text : List ℕ)
      → (read : GrammarWasRead grammar files (λ texts. IsNormalOf grammar texts text))
      → (quiet : IsQuiet files files')
      → (reads : WereRead (grammar_paths grammar) calls calls')
      → (put : PutsPrefix text out out')
      → NormalEnds grammar files files' calls calls' out out' 4
  -- the files have no well-formed grammar, and the line says why
  faulty : (text : List ℕ)
      → (read : GrammarWasRead grammar files (λ texts. IsFaultIn grammar texts text))
      → (quiet : IsQuiet files files')
      → (reads : WereRead (grammar_paths grammar) calls calls')
      → (line : PutsLine (fault_line text) out out')
      → NormalEnds grammar files files' calls calls' out out' 5
  -- a file that is read is longer than its limit, and the line names it
  too_long : (file : NamedFile)
      → (reached : IsGrammarFile grammar file files)
      → (longer : IsLonger grammar_limit (files.shown (path_of grammar file)))
      → (quiet : IsQuiet files files')
      → (reads : WereRead (paths_before grammar file ++ path_of grammar file ∷ []) calls calls')
      → (line : PutsMessage (word_for file ++ codes " is too long") out out')
      → NormalEnds grammar files files' calls calls' out out' 10

-- Which status it has to be. This follows from how `normal` ends.
pub record NormalMustEnd (grammar : GrammarSource) (files files' : SeenFiles) (out out' : SeenOut) (status : ℕ) : Type 0 where
  -- a grammar over its limit is refused
  pub over : IsOver grammar_limit (files.shown grammar.path) → (status ≡ 10) ⊎ ((status ≡ 3) ⊎ (status ≡ 1))
  -- a grammar that isn't there can't be read
  pub missing : files.shown grammar.path ≡ Some None → (status ≡ 3) ⊎ (status ≡ 1)
  -- so are a lexer over its limit, and one that isn't there, unless the other file is refused before
  pub lexer_over : (lexer : List ℕ) → grammar.lexer ≡ Some lexer → IsOver grammar_limit (files.shown lexer) → (status ≡ 10) ⊎ ((status ≡ 3) ⊎ (status ≡ 1))
  pub lexer_missing : (lexer : List ℕ) → grammar.lexer ≡ Some lexer → files.shown lexer ≡ Some None → (status ≡ 3) ⊎ ((status ≡ 10) ⊎ (status ≡ 1))
  -- a faulty grammar within its limit is refused as such
  pub faulty : GrammarIsShown grammar files (λ texts. ¬ IsGrammarText grammar texts) → (status ≡ 5) ⊎ ((status ≡ 3) ⊎ (status ≡ 1))
  -- a well-formed grammar within its limit has its normal form put, where no call failed
  pub complete : GrammarIsShown grammar files (IsGrammarText grammar) → ¬ CallFailed files files' → ¬ CallFailed out out' → (status ≡ 0) ⊎ (status ≡ 1)
  -- where a call of the files failed, the grammar wasn't read
  pub files_failed : ¬ IsQuiet files files' → status ≡ 3
  -- where the put failed, it was that of the normal form (4) or of another status's line
  pub out_failed : ¬ IsQuiet out out' → status ≢ 0

-- A run of `normal` over this grammar. Every file is as before.
pub record PrintsNormal (grammar : GrammarSource) (files files' : SeenFiles) (calls calls' : SeenCalls) (out out' : SeenOut) (status : ℕ) : Type 0 where
  pub ends : NormalEnds grammar files files' calls calls' out out' status
  pub must_end : NormalMustEnd grammar files files' out out' status
  pub same : SameFiles files.shown files'.shown
