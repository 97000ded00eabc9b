-- Why files give no grammar.
use Rattle.std.proofs.Common.{◌≡◌, ◌≢◌, ◌≤◌, ◌<◌, ◌^◌, ◌∙◌, arith, sym, ℕ, List, [], length, None, Option, Some, IsSome}
use Rattle.std.proofs.Common.{option_map, refl, subst, unwrap_or, Result, Ok, Err, IfErr, IfOk}
use Rattle.faults.specs.Count.{Rose}
use Rattle.edge_io.specs.Files.{Holds, IsLonger, SameFiles}
use Rattle.grammar_tree.specs.Kinds.{kinds_of}
use Rattle.grammar_tree.specs.Size.{grammar_size}
use Rattle.grammar_tree.specs.Written.{CheckedGrammar, WrittenGrammar}
use Rattle.grammar_reader_notation.proofs.Lent.{profile_fits}
use Rattle.grammar_pair.proofs.Lent.{joined_fits}
use Rattle.command_ends.specs.declared.status.Refusal.{Refusal}
use Rattle.command_ends.specs.declared.status.Refusal.TheVariants.{Memory, CannotRead, Grammar, TooLong}
use Rattle.command_ends.specs.declared.status.NamedFile.TheVariants as read_file
use Rattle.command_ends.specs.Status.{IsGrammarRefusal, ReadFails}
use Rattle.command_ends.specs.World.{IsQuiet, SeenFiles, WasRead, grammar_limit}
use Rattle.command_words.specs.Commands.{GrammarSource}
use Rattle.command_grammar.specs.Grammar.{GrammarFails, GrammarRead, IsFaultIn, IsGrammarText, SpellsTheGrammar, start_name}
use Rattle.command_grammar.specs.Texts.{AreSpelled, AreWritten, GrammarTexts, GrammarWasRead, HaveFault, TextsRead}
use Rattle.command_grammar.specs.inner.Grammar.{IsFaultRefusal, LexerFails}

-- a function of what was mapped is one of the option
pub mapped_twice : {A B C : Type 0} (h : B → C) (g : A → B) (o : Option A) → option_map (λ a. h (g a)) o ≡ option_map h (option_map g o)
mapped_twice h g None = refl
mapped_twice h g (Some a) = refl

-- texts that spell a grammar for a start rule of this name, and no other, spell the named one
pub spells_named : (named : GrammarSource) (name : Option (List ℕ)) (texts : GrammarTexts) (grammar : CheckedGrammar) → name ≡ start_name named
    → AreSpelled texts name grammar → ((it : CheckedGrammar) → AreSpelled texts name it → grammar ≡ it) → SpellsTheGrammar named texts grammar
spells_named named name texts grammar same spelled only = record {
  spelled = subst (λ (n : Option (List ℕ)). AreSpelled texts n grammar) same spelled;
  only = subst (λ (n : Option (List ℕ)). (it : CheckedGrammar) → AreSpelled texts n it → grammar ≡ it) same only;
}

-- what the texts spell has fewer parts than 2^32
abbrev AreSmall : GrammarTexts → Type 0
AreSmall texts = (G : WrittenGrammar) → AreWritten texts G → grammar_size G < 2 ^ 32

pub one_small : (text : List ℕ) → length text ≤ grammar_limit → AreSmall (GrammarTexts.one text)
one_small text within G spelled = let fits = profile_fits spelled in omega (arith, fits, within)

pub pair_small : (lexer parser : List ℕ) → length lexer ≤ grammar_limit → length parser ≤ grammar_limit → AreSmall (GrammarTexts.pair lexer parser)
pair_small lexer parser within within' G spelled = let fits = joined_fits lexer parser G spelled in omega (arith, fits, within, within')

-- a well-formed grammar that they spell has its numbered kinds
are_spelled : (named : GrammarSource) (texts : GrammarTexts) → AreSmall texts → (is : IsGrammarText named texts)
    → AreSpelled texts (start_name named) (record { grammar = is.grammar; kinds = kinds_of is.grammar; start = is.start })
are_spelled named (GrammarTexts.one text) small is = record {
  text = is.spelled;
  start = is.first;
  checked = record { well_formed = is.well_formed; numbered = refl; small = small is.grammar is.spelled };
}
are_spelled named (GrammarTexts.pair lexer parser) small is = record {
  text = is.spelled;
  start = is.first;
  checked = record { well_formed = is.well_formed; numbered = refl; small = small is.grammar is.spelled };
}

-- texts with a fault spell no well-formed grammar
pub has_fault : (named : GrammarSource) (name : Option (List ℕ)) (texts : GrammarTexts) (text : List ℕ) → name ≡ start_name named → AreSmall texts
    → HaveFault texts name text
    → ((it : CheckedGrammar) → ¬ AreSpelled texts name it) → (refusal : Refusal) → IsGrammarRefusal text refusal → IsFaultRefusal named texts refusal
has_fault named name texts text same small first none (Memory _) line = tt
has_fault named name texts text same small first none (Grammar line) is = (
  text,
  record {
    first = subst (λ (n : Option (List ℕ)). HaveFault texts n text) same first;
    refused = λ spelled. subst (λ (n : Option (List ℕ)). (it : CheckedGrammar) → ¬ AreSpelled texts n it) same none _ (are_spelled named texts small spelled);
  },
  is,
)
has_fault named name texts text same small first none _ is = absurd is

-- the lexer of a pair, with the text of its parser grammar
module _ (named : GrammarSource) (lexer parser : List ℕ) (files files' : SeenFiles) where
  -- the file of a lexer that wasn't read gives no grammar
  pub lexer_unread : (refusal : Refusal) → ReadFails grammar_limit read_file.Lexer (files.shown lexer) files files' refusal
      → LexerFails named lexer parser files files' refusal
  lexer_unread (Memory _) why = why
  lexer_unread (CannotRead file) why = why
  lexer_unread (TooLong file) why = why
  lexer_unread _ why = absurd why

  -- nor does one with whose text the parser's has a fault
  lexer_fault : (text : List ℕ) → Holds text (files.shown lexer) → length text ≤ grammar_limit → IsQuiet files files' → (refusal : Refusal)
      → IsFaultRefusal named (GrammarTexts.pair text parser) refusal
      → LexerFails named lexer parser files files' refusal
  lexer_fault text here within quiet (Memory _) why = quiet
  lexer_fault text here within quiet (Grammar line) why = (why.0, record { bytes = text; read = here; within = within; holds = why.1 }, why.2, quiet)
  lexer_fault text here within quiet _ why = absurd why

  pub lexer_faulty : {A : Type 0} (held text : List ℕ) (outcome : Result A Refusal) → text ≡ held → Holds held (files.shown lexer) → length held ≤ grammar_limit
      → IsQuiet files files'
      → IfErr outcome (λ refusal. IsFaultRefusal named (GrammarTexts.pair text parser) refusal)
      → IfErr outcome (λ refusal. LexerFails named lexer parser files files' refusal)
  lexer_faulty held text (Ok it) same here within quiet why = tt
  lexer_faulty held text (Err refusal) same here within quiet why =
      lexer_fault held here within quiet refusal (subst (λ t. IsFaultRefusal named (GrammarTexts.pair t parser) refusal) same why)

  -- one whose text spells a grammar with the parser's gives it
  pub lexer_read : (held text : List ℕ) (outcome : Result CheckedGrammar Refusal) → text ≡ held → Holds held (files.shown lexer) → length held ≤ grammar_limit
      → IfOk outcome (SpellsTheGrammar named (GrammarTexts.pair text parser))
      → IfOk outcome (λ grammar. WasRead grammar_limit (files.shown lexer) (λ t. SpellsTheGrammar named (GrammarTexts.pair t parser) grammar))
  lexer_read held text (Ok it) same here within spelled =
      record { bytes = held; read = here; within = within; holds = subst (λ t. SpellsTheGrammar named (GrammarTexts.pair t parser) it) same spelled }
  lexer_read held text (Err refusal) same here within spelled = tt

module _ (named : GrammarSource) (files : SeenFiles) where
  -- the files of a grammar were read, by whether it has a lexer's
  one_read : (P : GrammarTexts → Type 0) → named.lexer ≡ None → WasRead grammar_limit (files.shown named.path) (λ text. P (GrammarTexts.one text))
      → GrammarWasRead named files P
  one_read P is read = subst (λ (l : Option (List ℕ)). TextsRead named.path l files.shown P) (sym is) read

  pair_read : (P : GrammarTexts → Type 0) (lexer : List ℕ) → named.lexer ≡ Some lexer
      → WasRead grammar_limit (files.shown named.path) (λ text. WasRead grammar_limit (files.shown lexer) (λ before. P (GrammarTexts.pair before text)))
      → GrammarWasRead named files P
  pair_read P lexer is read = subst (λ (l : Option (List ℕ)). TextsRead named.path l files.shown P) (sym is) read

  -- where the first couldn't be read there is none
  pub fails_read : (files' : SeenFiles) (refusal : Refusal) → ReadFails grammar_limit read_file.Grammar (files.shown named.path) files files' refusal
      → GrammarFails named files files' refusal
  fails_read files' (Memory _) why = why
  fails_read files' (CannotRead file) why = subst (λ f. GrammarFails named files files' (CannotRead f)) (sym why.0) (tt, why.1)
  fails_read files' (TooLong file) why = subst (λ f. GrammarFails named files files' (TooLong f)) (sym why.0) (tt, why.1, why.2)
  fails_read files' _ why = absurd why

  -- ---- one text
  module _ (is : named.lexer ≡ None) where
    fails_fault : (files' : SeenFiles) (text : List ℕ) → Holds text (files.shown named.path) → length text ≤ grammar_limit → IsQuiet files files'
        → (refusal : Refusal)
        → IsFaultRefusal named (GrammarTexts.one text) refusal → GrammarFails named files files' refusal
    fails_fault files' text here within quiet (Memory _) why = quiet
    fails_fault files' text here within quiet (Grammar line) why =
        (why.0, one_read (λ texts. IsFaultIn named texts why.0) is (record { bytes = text; read = here; within = within; holds = why.1 }), why.2, quiet)
    fails_fault files' text here within quiet _ why = absurd why

    pub fails_spelled : {A : Type 0} (files' : SeenFiles) (held text : List ℕ) (outcome : Result A Refusal) → text ≡ held → Holds held (files.shown named.path)
        → length held ≤ grammar_limit → IsQuiet files files'
        → IfErr outcome (λ refusal. IsFaultRefusal named (GrammarTexts.one text) refusal) → IfErr outcome (λ refusal. GrammarFails named files files' refusal)
    fails_spelled files' held text (Ok it) same here within quiet why = tt
    fails_spelled files' held text (Err refusal) same here within quiet why =
        fails_fault files' held here within quiet refusal (subst (λ t. IsFaultRefusal named (GrammarTexts.one t) refusal) same why)

    pub was_spelled : (held text : List ℕ) (outcome : Result CheckedGrammar Refusal) → text ≡ held → Holds held (files.shown named.path)
        → length held ≤ grammar_limit
        → IfOk outcome (SpellsTheGrammar named (GrammarTexts.one text)) → IfOk outcome (λ grammar. GrammarRead named files grammar)
    was_spelled held text (Ok it) same here within spelled =
        one_read (λ texts. SpellsTheGrammar named texts it) is
        (record { bytes = held; read = here; within = within; holds = subst (λ t. SpellsTheGrammar named (GrammarTexts.one t) it) same spelled })
    was_spelled held text (Err refusal) same here within spelled = tt

  -- ---- a lexer's text and a parser's, once that was read
  module _ (lexer : List ℕ) (is : named.lexer ≡ Some lexer) (held text : List ℕ) (same : text ≡ held) (here : Holds held (files.shown named.path))
      (within : length held ≤ grammar_limit)
      (between : SeenFiles) (unchanged : SameFiles files.shown between.shown) (quiet : IsQuiet files between) where
    with_lexer : (Q : List ℕ → List ℕ → Type 0) → WasRead grammar_limit (between.shown lexer) (λ before. Q before text)
        → WasRead grammar_limit (files.shown named.path) (λ t. WasRead grammar_limit (files.shown lexer) (λ before. Q before t))
    with_lexer Q read = record {
      bytes = held;
      read = here;
      within = within;
      holds =
          record {
            bytes = read.bytes;
            read = subst (Holds read.bytes) (unchanged lexer) read.read;
            within = read.within;
            holds = subst (Q read.bytes) same read.holds;
          };
    }

    reached : (P : Option (List ℕ) → Type 0) → P (Some lexer) → P named.lexer
    reached P p = subst P (sym is) p

    fails_lexer : (files' : SeenFiles) (refusal : Refusal) → LexerFails named lexer text between files' refusal → GrammarFails named files files' refusal
    fails_lexer files' (Memory _) why = why ∙ quiet
    fails_lexer files' (CannotRead file) why = subst (λ f. GrammarFails named files files' (CannotRead f)) (sym why.0) (
      (reached (λ (l : Option (List ℕ)). IsSome l) refl, record { bytes = held; read = here; within = within; holds = tt }),
      subst (λ count. Rose count files'.faults) quiet why.1,
    )
    fails_lexer files' (TooLong file) why = subst (λ f. GrammarFails named files files' (TooLong f)) (sym why.0) (
      (reached (λ (l : Option (List ℕ)). IsSome l) refl, record { bytes = held; read = here; within = within; holds = tt }),
      reached (λ l. IsLonger grammar_limit (files.shown (unwrap_or l []))) (subst (IsLonger grammar_limit) (unchanged lexer) why.1),
      why.2 ∙ quiet,
    )
    fails_lexer files' (Grammar line) why = (
      why.0,
      pair_read (λ texts. IsFaultIn named texts why.0) lexer is (with_lexer (λ before t. IsFaultIn named (GrammarTexts.pair before t) why.0) why.1),
      why.2,
      why.3 ∙ quiet,
    )
    fails_lexer files' _ why = absurd why

    pub fails_pair : {A : Type 0} (files' : SeenFiles) (outcome : Result A Refusal)
        → IfErr outcome (λ refusal. LexerFails named lexer text between files' refusal)
        → IfErr outcome (λ refusal. GrammarFails named files files' refusal)
    fails_pair files' (Ok it) why = tt
    fails_pair files' (Err refusal) why = fails_lexer files' refusal why

    pub was_paired : (outcome : Result CheckedGrammar Refusal)
        → IfOk outcome (λ grammar. WasRead grammar_limit (between.shown lexer) (λ before. SpellsTheGrammar named (GrammarTexts.pair before text) grammar))
        → IfOk outcome (λ grammar. GrammarRead named files grammar)
    was_paired (Ok it) read =
        pair_read (λ texts. SpellsTheGrammar named texts it) lexer is (with_lexer (λ before t. SpellsTheGrammar named (GrammarTexts.pair before t) it) read)
    was_paired (Err refusal) read = tt
