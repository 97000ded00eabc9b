-- What was read of a grammar's files isn't at odds with what is visible of them.
use Rattle.std.proofs.Common.{◌≡◌, ◌∙◌, sym, ℕ, List, [], None, Option, Some, IsSome, subst, unwrap_or}
use Rattle.std.proofs.lemmas.Option.{same_Some}
use Rattle.edge_io.specs.Files.{FileContent, Holds, IsLonger}
use Rattle.grammar_tree.specs.Written.{CheckedGrammar}
use Rattle.command_ends.specs.declared.status.NamedFile.{NamedFile}
use Rattle.command_ends.specs.declared.status.NamedFile.TheVariants as read_file
use Rattle.command_ends.specs.World.{IsOver, IsShownWithin, SeenFiles, WasRead, grammar_limit}
use Rattle.command_ends.proofs.Lent.{longer_not_missing, not_longer, read_not_missing, read_not_over}
use Rattle.command_words.specs.Commands.{GrammarSource}
use Rattle.command_grammar.specs.Grammar.{GrammarRead, IsFaultIn, IsGrammarText, SpellsTheGrammar, start_name}
use Rattle.command_grammar.specs.Texts.{AreSpelled, GrammarIsShown, GrammarIsVisible, GrammarTexts, GrammarWasRead}
use Rattle.command_grammar.specs.Texts.{IsGrammarFile, TextsRead, TextsShown, TextsVisible, path_of}

-- texts that spell a grammar are those of one
pub are_texts : (named : GrammarSource) (texts : GrammarTexts) (c : CheckedGrammar) → AreSpelled texts (start_name named) c → IsGrammarText named texts
are_texts named (GrammarTexts.one text) c is =
    record { grammar = c.grammar; start = c.start; spelled = is.text; first = is.start; well_formed = is.checked.well_formed }
are_texts named (GrammarTexts.pair lexer parser) c is =
    record { grammar = c.grammar; start = c.start; spelled = is.text; first = is.start; well_formed = is.checked.well_formed }

-- what is visible of a file holds of the bytes that were read
shown_holds : (P : List ℕ → Type 0) (content : Option FileContent) → IsShownWithin grammar_limit content P → (bytes : List ℕ) → Holds bytes content → P bytes
shown_holds P None shown bytes here = absurd shown
shown_holds P (Some None) shown bytes here = absurd shown
shown_holds P (Some (Some held)) shown bytes here = subst P (same_Some held bytes here) shown.1

-- a file that is visible holds one text
holds_once : (content : Option FileContent) (one other : List ℕ) → IsSome content → Holds one content → Holds other content → one ≡ other
holds_once None one other some here here' = absurd (cc some)
holds_once (Some file) one other some here here' = same_Some one other (sym here ∙ here')

-- ---- by the names of the files

module _ (path : List ℕ) (shown : List ℕ → Option FileContent) where
  map_in : (lexer : Option (List ℕ)) (P Q : GrammarTexts → Type 0) → ((texts : GrammarTexts) → P texts → Q texts) → TextsRead path lexer shown P
      → TextsRead path lexer shown Q
  map_in None P Q then was = record { bytes = was.bytes; read = was.read; within = was.within; holds = then _ was.holds }
  map_in (Some lexer) P Q then was = record {
    bytes = was.bytes;
    read = was.read;
    within = was.within;
    holds = record { bytes = was.holds.bytes; read = was.holds.read; within = was.holds.within; holds = then _ was.holds.holds };
  }

  both_in : (lexer : Option (List ℕ)) (P Q : GrammarTexts → Type 0) → TextsRead path lexer shown P → TextsShown path lexer shown Q → (texts : GrammarTexts)
      × P texts × Q texts
  both_in None P Q was is = (GrammarTexts.one was.bytes, was.holds, shown_holds (λ text. Q (GrammarTexts.one text)) (shown path) is was.bytes was.read)
  both_in (Some lexer) P Q was is =
      let within : IsShownWithin grammar_limit (shown lexer) (λ before. Q (GrammarTexts.pair before was.bytes)) =
      shown_holds (λ text. IsShownWithin grammar_limit (shown lexer) (λ before. Q (GrammarTexts.pair before text))) (shown path) is was.bytes was.read in (
        GrammarTexts.pair was.holds.bytes was.bytes,
        was.holds.holds,
        shown_holds (λ before. Q (GrammarTexts.pair before was.bytes)) (shown lexer) within was.holds.bytes was.holds.read,
      )

  twice_in : (lexer : Option (List ℕ)) (P Q : GrammarTexts → Type 0) → TextsVisible path lexer shown → TextsRead path lexer shown P
      → TextsRead path lexer shown Q
      → (texts : GrammarTexts) × P texts × Q texts
  twice_in None P Q visible was also = (
    GrammarTexts.one was.bytes,
    was.holds,
    subst (λ (text : List ℕ). Q (GrammarTexts.one text))
        (holds_once (shown path) also.bytes was.bytes visible also.read was.read) also.holds,
  )
  twice_in (Some lexer) P Q visible was also = (
    GrammarTexts.pair was.holds.bytes was.bytes,
    was.holds.holds,
    subst (λ (text : List ℕ). Q (GrammarTexts.pair was.holds.bytes text)) (holds_once (shown path) also.bytes was.bytes visible.0 also.read was.read)
        (subst (λ (before : List ℕ). Q (GrammarTexts.pair before also.bytes))
        (holds_once (shown lexer) also.holds.bytes was.holds.bytes visible.1 also.holds.read was.holds.read) also.holds.holds),
  )

  first_in : (lexer : Option (List ℕ)) (P : GrammarTexts → Type 0) → TextsRead path lexer shown P → WasRead grammar_limit (shown path) (λ text. Unit {0})
  first_in None P was = record { bytes = was.bytes; read = was.read; within = was.within; holds = tt }
  first_in (Some lexer) P was = record { bytes = was.bytes; read = was.read; within = was.within; holds = tt }

  lexer_in : (lexer : Option (List ℕ)) (P : GrammarTexts → Type 0) (name : List ℕ) → lexer ≡ Some name → TextsRead path lexer shown P
      → WasRead grammar_limit (shown name) (λ text. Unit {0})
  lexer_in None P name is was = absurd (cc is)
  lexer_in (Some lexer) P name is was = record {
    bytes = was.holds.bytes;
    read = subst (λ (l : List ℕ). Holds was.holds.bytes (shown l)) (same_Some lexer name is) was.holds.read;
    within = was.holds.within;
    holds = tt;
  }

  short_first : (lexer : Option (List ℕ)) (P : GrammarTexts → Type 0) → TextsShown path lexer shown P → IsLonger grammar_limit (shown path) → ⊥
  short_first None P is longer = not_longer grammar_limit _ (shown path) is longer
  short_first (Some lexer) P is longer = not_longer grammar_limit _ (shown path) is longer

  short_lexer : (lexer : Option (List ℕ)) (P : GrammarTexts → Type 0) → IsSome lexer → WasRead grammar_limit (shown path) (λ text. Unit {0})
      → TextsShown path lexer shown P
      → IsLonger grammar_limit (shown (unwrap_or lexer [])) → ⊥
  short_lexer None P some was is longer = absurd (cc some)
  short_lexer (Some lexer) P some was is longer =
      not_longer grammar_limit (λ before. P (GrammarTexts.pair before was.bytes)) (shown lexer)
      (shown_holds (λ text. IsShownWithin grammar_limit (shown lexer) (λ before. P (GrammarTexts.pair before text))) (shown path) is was.bytes was.read) longer

-- ---- of a grammar

module _ (named : GrammarSource) (files : SeenFiles) where
  pub read_map : (P Q : GrammarTexts → Type 0) → ((texts : GrammarTexts) → P texts → Q texts) → GrammarWasRead named files P → GrammarWasRead named files Q
  read_map P Q then was = map_in named.path files.shown named.lexer P Q then was

  -- what was read and what is visible are the same texts
  pub read_and_shown : (P Q : GrammarTexts → Type 0) → GrammarWasRead named files P → GrammarIsShown named files Q → (texts : GrammarTexts) × P texts × Q texts
  read_and_shown P Q was is = both_in named.path files.shown named.lexer P Q was is

  -- and so are those that were read twice, where they are visible
  pub read_twice : (P Q : GrammarTexts → Type 0) → GrammarIsVisible named files → GrammarWasRead named files P → GrammarWasRead named files Q
      → (texts : GrammarTexts) × P texts × Q texts
  read_twice P Q visible was also = twice_in named.path files.shown named.lexer P Q visible was also

  -- files that were read aren't over their limit, and are there
  pub grammar_not_over : (P : GrammarTexts → Type 0) → GrammarWasRead named files P → IsOver grammar_limit (files.shown named.path) → ⊥
  grammar_not_over P was over = read_not_over (first_in named.path files.shown named.lexer P was) over

  pub grammar_not_missing : (P : GrammarTexts → Type 0) → GrammarWasRead named files P → files.shown named.path ≡ Some None → ⊥
  grammar_not_missing P was none = read_not_missing (first_in named.path files.shown named.lexer P was) none

  module _ (lexer : List ℕ) (is : named.lexer ≡ Some lexer) where
    pub lexer_not_over : (P : GrammarTexts → Type 0) → GrammarWasRead named files P → IsOver grammar_limit (files.shown lexer) → ⊥
    lexer_not_over P was over = read_not_over (lexer_in named.path files.shown named.lexer P lexer is was) over

    pub lexer_not_missing : (P : GrammarTexts → Type 0) → GrammarWasRead named files P → files.shown lexer ≡ Some None → ⊥
    lexer_not_missing P was none = read_not_missing (lexer_in named.path files.shown named.lexer P lexer is was) none

  -- files that are visible within their limit aren't longer
  pub shown_not_longer : (P : GrammarTexts → Type 0) (file : NamedFile) → IsGrammarFile named file files → GrammarIsShown named files P
      → IsLonger grammar_limit (files.shown (path_of named file)) → ⊥
  shown_not_longer P read_file.Input reached is longer = reached
  shown_not_longer P read_file.Grammar reached is longer = short_first named.path files.shown named.lexer P is longer
  shown_not_longer P read_file.Lexer reached is longer = short_lexer named.path files.shown named.lexer P reached.0 reached.1 is longer
  shown_not_longer P read_file.Result reached is longer = reached
  shown_not_longer P read_file.Journal reached is longer = reached

  -- where a file of the grammar is too long, the first is there
  pub long_not_missing : (file : NamedFile) → IsGrammarFile named file files → IsLonger grammar_limit (files.shown (path_of named file))
      → files.shown named.path ≡ Some None → ⊥
  long_not_missing read_file.Input reached longer none = reached
  long_not_missing read_file.Grammar reached longer none = longer_not_missing grammar_limit (files.shown named.path) longer none
  long_not_missing read_file.Lexer reached longer none = read_not_missing reached.1 none
  long_not_missing read_file.Result reached longer none = reached
  long_not_missing read_file.Journal reached longer none = reached

  -- a grammar that was read isn't faulty, and has no fault
  pub not_faulty : (c : CheckedGrammar) → GrammarRead named files c → GrammarIsShown named files (λ texts. ¬ IsGrammarText named texts) → ⊥
  not_faulty c was is = let it =
      read_and_shown (λ texts. SpellsTheGrammar named texts c) (λ texts. ¬ IsGrammarText named texts) was is in it.2 (are_texts named it.0 c it.1.spelled)

  -- and it is the one that is visible
  pub of_grammar : (c : CheckedGrammar) → GrammarRead named files c → (S : CheckedGrammar → Type 0)
      → GrammarIsShown named files (λ texts. (other : CheckedGrammar) × AreSpelled texts (start_name named) other × S other) → S c
  of_grammar c was S is =
      let it =
      read_and_shown (λ texts. SpellsTheGrammar named texts c)
      (λ texts. (other : CheckedGrammar) × AreSpelled texts (start_name named) other × S other) was is in
      subst S (sym (it.1.only it.2.0 it.2.1)) it.2.2

  -- where a fault was read, no grammar is visible
  pub no_grammar : (text : List ℕ) → GrammarWasRead named files (λ texts. IsFaultIn named texts text) → (S : CheckedGrammar → Type 0)
      → GrammarIsShown named files (λ texts. (other : CheckedGrammar) × AreSpelled texts (start_name named) other × S other) → ⊥
  no_grammar text was S is =
      let it =
      read_and_shown (λ texts. IsFaultIn named texts text) (λ texts. (other : CheckedGrammar) × AreSpelled texts (start_name named) other × S other) was is in
      it.1.refused (are_texts named it.0 it.2.0 it.2.1)

  pub fault_not_shown : (text : List ℕ) → GrammarWasRead named files (λ texts. IsFaultIn named texts text) → GrammarIsShown named files (IsGrammarText named)
      → ⊥
  fault_not_shown text was is = let it = read_and_shown (λ texts. IsFaultIn named texts text) (IsGrammarText named) was is in it.1.refused it.2

  -- files that are visible spell one grammar
  pub one_grammar : (c other : CheckedGrammar) → GrammarIsVisible named files → GrammarRead named files c → GrammarRead named files other → c ≡ other
  one_grammar c other visible was also =
      let it = read_twice (λ texts. SpellsTheGrammar named texts c) (λ texts. SpellsTheGrammar named texts other) visible was also in
      it.1.only other it.2.spelled
