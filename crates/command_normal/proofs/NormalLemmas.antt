-- Why there is no normal form, and how `normal` ends.
use Rattle.std.proofs.Common.{inl, inr, ℕ, List, refl, sym, subst, Result, Ok, Err, IfOk, IfErr, OnOk, MatchResult, Vec}
use Rattle.faults.specs.Memory.{ran_out}
use Rattle.edge_io.specs.Files.{SameFiles}
use Rattle.grammar_tree.specs.Written.{CheckedGrammar}
use Rattle.command_ends.specs.declared.status.Refusal.{Refusal}
use Rattle.command_ends.specs.declared.status.Refusal.TheVariants.{Memory, CannotRead, Grammar, TooLong}
use Rattle.command_grammar.specs.Grammar.{GrammarCalls, GrammarFails, GrammarRead, IsGrammarText, SpellsTheGrammar}
use Rattle.command_grammar.specs.Texts.{AreSpelled, GrammarIsShown, GrammarTexts, GrammarWasRead, grammar_paths}
use Rattle.command_normal.specs.Normal.{IsNormalOf, NormalEnds, NormalMustEnd, PrintsNormal}
use Rattle.command_normal.specs.inner.Normal.{NormalFails}
use Rattle.command_normal.specs.Normal.NormalEnds.{done, memory, unread as cannot_read, unput, faulty, too_long}
use Rattle.command_ends.specs.Status.{EndsRefused, EndsWithAnswer}
use Rattle.command_words.specs.Commands.{GrammarSource}
use Rattle.command_grammar.specs.Grammar.{start_name}
use Rattle.command_ends.specs.World.{IsQuiet, PutsLine, SeenCalls, SeenFiles, SeenOut, WereRead}
use Rattle.command_ends.proofs.Lent.{all_some}
use Rattle.command_grammar.proofs.Lent.{are_texts, fault_not_shown, grammar_not_missing, grammar_not_over, lexer_not_missing}
use Rattle.command_grammar.proofs.Lent.{lexer_not_over, long_not_missing, read_and_shown, read_map, shown_not_longer}

-- the form of a grammar that was read
pub is_formed : (named : GrammarSource) (files : SeenFiles) (grammar : CheckedGrammar) (text : List ℕ) → GrammarRead named files grammar
    → ((texts : GrammarTexts) → AreSpelled texts (start_name named) grammar → IsNormalOf named texts text)
    → GrammarWasRead named files (λ texts. IsNormalOf named texts text)
is_formed named files grammar text was formed =
    read_map named files (λ texts. SpellsTheGrammar named texts grammar) (λ texts. IsNormalOf named texts text)
    (λ texts spells. formed texts spells.spelled) was

module _ (grammar : GrammarSource) (files files' : SeenFiles) (calls calls' : SeenCalls) where
  -- what gives no grammar ends the command
  pub fails_grammar : (refusal : Refusal) → GrammarFails grammar files files' refusal → GrammarCalls grammar calls calls' refusal
      → NormalFails grammar files files' calls calls' refusal
  fails_grammar (Memory _) why reads = λ out out' put. memory why reads put
  fails_grammar (CannotRead file) why reads = λ out out' put. cannot_read file why.0 why.1 reads put
  fails_grammar (TooLong file) why reads = λ out out' put. too_long file why.0 why.1 why.2 reads put
  fails_grammar (Grammar line) why reads = λ out out' put. faulty why.0 why.1 why.3 reads (subst (λ l. PutsLine l out out') why.2 put)
  fails_grammar _ why reads = absurd why

  -- so does the lack of memory after it was read
  pub fails_memory : IsQuiet files files' → WereRead (grammar_paths grammar) calls calls' → NormalFails grammar files files' calls calls' (Memory ran_out)
  fails_memory quiet reads = λ out out' put. memory quiet (all_some (grammar_paths grammar) calls calls' reads) put

  module _ (out out' : SeenOut) where
    -- the end of the command
    pub normal_ends : {A : Type 0} (outcome : Result (Vec ℕ A) Refusal) (status : ℕ)
        → IfOk outcome (λ form. GrammarWasRead grammar files (λ texts. IsNormalOf grammar texts form.items)) → OnOk outcome (IsQuiet files files')
        → OnOk outcome (WereRead (grammar_paths grammar) calls calls') → IfErr outcome (λ refusal. NormalFails grammar files files' calls calls' refusal)
        → MatchResult outcome (λ answer. EndsWithAnswer answer.items out out' status) (λ refusal. EndsRefused out out' status refusal)
        → NormalEnds grammar files files' calls calls' out out' status
    normal_ends (Ok form) status formed quiet reads fails (inl (is, put)) =
        subst (NormalEnds grammar files files' calls calls' out out') (sym is) (done form.items formed quiet reads put)
    normal_ends (Ok form) status formed quiet reads fails (inr (is, put)) =
        subst (NormalEnds grammar files files' calls calls' out out') (sym is) (unput form.items formed quiet reads put)
    normal_ends (Err refusal) status formed quiet reads fails end = subst (NormalEnds grammar files files' calls calls' out out')
        (sym end.status_is) (fails out out' end.line)

    formed_not_faulty : (text : List ℕ) → GrammarWasRead grammar files (λ texts. IsNormalOf grammar texts text)
        → GrammarIsShown grammar files (λ texts. ¬ IsGrammarText grammar texts) → ⊥
    formed_not_faulty text was shown =
        let it = read_and_shown grammar files (λ texts. IsNormalOf grammar texts text) (λ texts. ¬ IsGrammarText grammar texts) was shown in
        it.2 (are_texts grammar it.0 it.1.grammar it.1.spelled)

    -- which status it has to be
    normal_must_end : {status : ℕ} → NormalEnds grammar files files' calls calls' out out' status → NormalMustEnd grammar files files' out out' status
    normal_must_end (done text is quiet reads put) = record {
      over = λ over. absurd (grammar_not_over grammar files _ is over);
      missing = λ none. absurd (grammar_not_missing grammar files _ is none);
      lexer_over = λ lexer named over. absurd (lexer_not_over grammar files lexer named _ is over);
      lexer_missing = λ lexer named none. absurd (lexer_not_missing grammar files lexer named _ is none);
      faulty = λ shown. absurd (formed_not_faulty text is shown);
      complete = λ shown files_fine out_fine. inl refl;
      files_failed = λ failed. absurd (failed quiet);
      out_failed = λ failed. absurd (failed put.quiet);
    }
    normal_must_end (memory quiet reads put) = record {
      over = λ over. inr (inr refl);
      missing = λ none. inr refl;
      lexer_over = λ lexer named over. inr (inr refl);
      lexer_missing = λ lexer named none. inr (inr refl);
      faulty = λ shown. inr (inr refl);
      complete = λ shown files_fine out_fine. inr refl;
      files_failed = λ failed. absurd (failed quiet);
      out_failed = λ failed is. cc is;
    }
    normal_must_end (cannot_read file reached failed reads put) = record {
      over = λ over. inr (inl refl);
      missing = λ none. inl refl;
      lexer_over = λ lexer named over. inr (inl refl);
      lexer_missing = λ lexer named none. inl refl;
      faulty = λ shown. inr (inl refl);
      complete = λ shown files_fine out_fine. absurd (files_fine failed);
      files_failed = λ failed. refl;
      out_failed = λ failed is. cc is;
    }
    normal_must_end (unput text is quiet reads put) = record {
      over = λ over. absurd (grammar_not_over grammar files _ is over);
      missing = λ none. absurd (grammar_not_missing grammar files _ is none);
      lexer_over = λ lexer named over. absurd (lexer_not_over grammar files lexer named _ is over);
      lexer_missing = λ lexer named none. absurd (lexer_not_missing grammar files lexer named _ is none);
      faulty = λ shown. absurd (formed_not_faulty text is shown);
      complete = λ shown files_fine out_fine. absurd (out_fine put.failed);
      files_failed = λ failed. absurd (failed quiet);
      out_failed = λ failed is. cc is;
    }
    normal_must_end (faulty text is quiet reads put) = record {
      over = λ over. absurd (grammar_not_over grammar files _ is over);
      missing = λ none. absurd (grammar_not_missing grammar files _ is none);
      lexer_over = λ lexer named over. absurd (lexer_not_over grammar files lexer named _ is over);
      lexer_missing = λ lexer named none. absurd (lexer_not_missing grammar files lexer named _ is none);
      faulty = λ shown. inl refl;
      complete = λ shown files_fine out_fine. absurd (fault_not_shown grammar files text is shown);
      files_failed = λ failed. absurd (failed quiet);
      out_failed = λ failed is. cc is;
    }
    normal_must_end (too_long file reached longer quiet reads put) = record {
      over = λ over. inl refl;
      missing = λ none. absurd (long_not_missing grammar files file reached longer none);
      lexer_over = λ lexer named over. inl refl;
      lexer_missing = λ lexer named none. inr (inl refl);
      faulty = λ shown. absurd (shown_not_longer grammar files _ file reached shown longer);
      complete = λ shown files_fine out_fine. absurd (shown_not_longer grammar files _ file reached shown longer);
      files_failed = λ failed. absurd (failed quiet);
      out_failed = λ failed is. cc is;
    }

    pub prints_normal : {status : ℕ} → NormalEnds grammar files files' calls calls' out out' status → SameFiles files.shown files'.shown
        → PrintsNormal grammar files files' calls calls' out out' status
    prints_normal ends same = record { ends = ends; must_end = normal_must_end ends; same = same }
