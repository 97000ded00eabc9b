-- What each status of `normal` means, read off how it ends.
use Rattle.std.specs.Prelude.{◌≡◌, ℕ, List, [], ◌∷◌}
use Rattle.edge_io.specs.Files.{IsLonger}
use Rattle.command_ends.specs.declared.status.NamedFile.{NamedFile}
use Rattle.command_grammar.specs.Grammar.{IsFaultIn}
use Rattle.command_grammar.specs.Texts.{GrammarWasRead, IsGrammarFile, path_of}
use Rattle.command_normal.specs.Normal.{IsNormalOf, NormalEnds}
use Rattle.command_ends.specs.Status.{IsOneOf, PutsRefusal, fault_line}
use Rattle.command_words.specs.Commands.{GrammarSource}
use Rattle.command_ends.specs.World.{PutsPrefix, CallFailed, Puts, PutsLine, SeenCalls, SeenFiles, SeenOut, grammar_limit}

-- What `normal` has done, by the number of its status.
pub record NormalMeans (grammar : GrammarSource) (files files' : SeenFiles) (out out' : SeenOut) (status : ℕ) : Type 0 where
  pub known : IsOneOf (0 ∷ 1 ∷ 3 ∷ 4 ∷ 5 ∷ 10 ∷ []) status
  pub done : status ≡ 0 → (text : List ℕ) × GrammarWasRead grammar files (λ texts. IsNormalOf grammar texts text) × Puts text out out'
  pub unread : status ≡ 3 → CallFailed files files'
  pub unput : status ≡ 4 → (text : List ℕ) × GrammarWasRead grammar files (λ texts. IsNormalOf grammar texts text) × PutsPrefix text out out'
  pub fault : status ≡ 5 → (text : List ℕ) × GrammarWasRead grammar files (λ texts. IsFaultIn grammar texts text) × PutsLine (fault_line text) out out'
  pub too_long : status ≡ 10 → (file : NamedFile) × IsGrammarFile grammar file files × IsLonger grammar_limit (files.shown (path_of grammar file))
  pub line : IsOneOf (1 ∷ 3 ∷ 10 ∷ []) status → (file : NamedFile) × IsGrammarFile grammar file files × PutsRefusal file out out' status

abbrev pub NormalByStatus : Type 0
NormalByStatus =
    (grammar : GrammarSource) (files files' : SeenFiles) (calls calls' : SeenCalls) (out out' : SeenOut) (status : ℕ)
    → NormalEnds grammar files files' calls calls' out out' status
    → NormalMeans grammar files files' out out' status
