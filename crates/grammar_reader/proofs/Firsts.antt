-- The row that is answered is the first that fits.
use Rattle.std.proofs.Common.{◌≡◌, Bool, true, false, ◌||◌, ◌&&◌, cond, List, [], ◌∷◌, Option, Some, None, refl, sym, ap, subst, ◌∙◌}
use Rattle.std.specs.Option.{option_or}
use Rattle.std.specs.List.{find}
use Rattle.grammar_reader_words.specs.Names.{is}
use Rattle.grammar_reader_words.specs.declared.word.Word.{Word}
use Rattle.grammar_reader_words.specs.declared.word.Word.TheVariants as w
use Rattle.grammar_reader_words.specs.declared.word.Reserved.TheVariants as r
use Rattle.grammar_reader_notation.specs.Notation.{is_eof}
use Rattle.grammar_reader_machine.specs.Machine as m
use Rattle.grammar_reader.specs.WordByWord.{run}
use Rattle.grammar_reader.specs.Positions.{at_start, at_rule, at_colon, at_option, after_name, within_parser_rule, within_lexer_rule, takes_action}
use Rattle.grammar_reader.specs.Rows.{row, row_if, last_row, loop_row, breaks_command, of_loop}
use Rattle.grammar_reader_notation.specs.declared.fault.What.{What}
use Rattle.grammar_reader_notation.specs.declared.fault.What.TheVariants as x
use Rattle.grammar_reader_notation.specs.Naming.{Fits, FitsFirst, this, later, table}
use Rattle.grammar_reader.proofs.Fitting.{fits, fits_in, fits_out}

-- a row of its own, and the rows after
own_first : (b : Bool) (what : What) (o : Option What) → option_or (cond b (Some what) None) o ≡ cond b (Some what) o
own_first true what o = refl
own_first false what o = refl

option_first : (a b c : Bool) (o : Option What)
    → option_or (cond a (cond b (Some x.CaseInsensitive) (cond c (Some x.TokenVocab) None)) None) o ≡ cond (a && b) (Some x.CaseInsensitive)
    (cond (a && c) (Some x.TokenVocab) o)
option_first true true c o = refl
option_first true false true o = refl
option_first true false false o = refl
option_first false b c o = refl

abbrev after_command : m.State → Word → Option What
after_command s word = cond (breaks_command s word) (Some x.Command) (last_row s word)

pub row_found : (s : m.State) (word : Word) → row s word ≡ find (λ what. fits what s word) table
row_found s (w.Reserved r.Lexer) = own_first (at_start s) x.LexerGrammar (after_command s (w.Reserved r.Lexer))
row_found s (w.Reserved r.Parser) = own_first (at_start s) x.ParserGrammar (after_command s (w.Reserved r.Parser))
row_found s (w.Reserved r.Import) = own_first (at_rule s) x.Import (after_command s (w.Reserved r.Import))
row_found s (w.Reserved r.Mode) = own_first (at_rule s) x.Mode (after_command s (w.Reserved r.Mode))
row_found s (w.Reserved r.Channels) = own_first (at_rule s) x.Channels (after_command s (w.Reserved r.Channels))
row_found s (w.Reserved r.Returns) = own_first (after_name s) x.Returns (after_command s (w.Reserved r.Returns))
row_found s (w.Reserved r.Locals) = own_first (after_name s) x.Locals (after_command s (w.Reserved r.Locals))
row_found s (w.Reserved r.Throws) = own_first (after_name s) x.Throws (after_command s (w.Reserved r.Throws))
row_found s (w.Reserved r.Catch) = own_first (at_rule s) x.Catch (after_command s (w.Reserved r.Catch))
row_found s (w.Reserved r.Finally) = own_first (at_rule s) x.Finally (after_command s (w.Reserved r.Finally))
row_found s (w.Reserved r.Public) = own_first (at_rule s) x.Modifier (after_command s (w.Reserved r.Public))
row_found s (w.Reserved r.Private) = own_first (at_rule s) x.Modifier (after_command s (w.Reserved r.Private))
row_found s (w.Reserved r.Protected) = own_first (at_rule s) x.Modifier (after_command s (w.Reserved r.Protected))
row_found s w.OpenBrace = own_first (takes_action s) x.Action (after_command s w.OpenBrace)
row_found s w.At = own_first (at_rule s || at_colon s) x.Action (after_command s w.At)
row_found s (w.Set ranges) = own_first (after_name s || within_parser_rule s) x.Argument (after_command s (w.Set ranges))
row_found s (w.Lower k) =
    ap (λ o. cond (breaks_command s (w.Lower k)) (Some x.Command) o)
    (option_first (at_option s) (is k "caseInsensitive") (is k "tokenVocab") (loop_row s (w.Lower k)))
row_found s (w.Upper k) =
    ap (λ o. cond (breaks_command s (w.Upper k)) (Some x.Command) o) (own_first (of_loop s) x.NonGreedy (row_if (within_lexer_rule s && is_eof k) x.Eof))
row_found s _ = refl

-- the first of the rows that pass
module _ (before : List Word) (current : Word) (P : What → Bool) (pass : (what : What) → P what ≡ true → Fits before current what)
    (passed : (what : What) → Fits before current what → P what ≡ true) where
  first_of : (rows : List What) (what : What) → find P rows ≡ Some what → FitsFirst before current rows what
  first_of [] what e = cc e
  first_of (row ∷ rows) what e = tried (P row) refl e (λ e. first_of rows what e) where
    tried : (b : Bool) → P row ≡ b → cond b (Some row) (find P rows) ≡ Some what → (find P rows ≡ Some what → FitsFirst before current rows what)
        → FitsFirst before current (row ∷ rows) what
    tried true f e go_on = let g : row ≡ what = cc e in subst (λ x. FitsFirst before current (row ∷ rows) x) g (this (pass row f))
    tried false f e go_on = later (λ h. let g : false ≡ true = sym f ∙ passed row h in cc g) (go_on e)

-- a row of the table
data IsAmong (what : What) : List What → Type 0 where
  first : {rows : List What} → IsAmong what (what ∷ rows)
  further : {row : What} {rows : List What} → IsAmong what rows → IsAmong what (row ∷ rows)

among : (what : What) → IsAmong what table
among x.LexerGrammar = first
among x.ParserGrammar = further first
among x.Import = further (further first)
among x.Mode = further (further (further first))
among x.Channels = further (further (further (further first)))
among x.Modifier = further (further (further (further (further first))))
among x.Action = further (further (further (further (further (further first)))))
among x.Argument = further (further (further (further (further (further (further first))))))
among x.Returns = further (further (further (further (further (further (further (further first)))))))
among x.Locals = further (further (further (further (further (further (further (further (further first))))))))
among x.Throws = further (further (further (further (further (further (further (further (further (further first)))))))))
among x.Catch = further (further (further (further (further (further (further (further (further (further (further first))))))))))
among x.Finally = further (further (further (further (further (further (further (further (further (further (further (further first)))))))))))
among x.Command = further (further (further (further (further (further (further (further (further (further (further (further (further first))))))))))))
among x.Property =
    further (further (further (further (further (further (further (further (further (further (further (further (further (further first)))))))))))))
among x.CaseInsensitive =
    further (further (further (further (further (further (further (further (further (further (further (further (further (further (further first))))))))))))))
among x.TokenVocab =
    further
    (further (further (further (further (further (further (further (further (further (further (further (further (further (further (further first)))))))))))))))
among x.NonGreedy =
    further
    (further
    (further (further (further (further (further (further (further (further (further (further (further (further (further (further (further first))))))))))))))))
among x.Eof =
    further
    (further
    (further
    (further
    (further (further (further (further (further (further (further (further (further (further (further (further (further (further first)))))))))))))))))

none_passes : {what : What} {rows : List What} (P : What → Bool) → find P rows ≡ None → IsAmong what rows → P what ≡ false
none_passes {what} P e (first {rows = rows}) = tried (P what) e where
  tried : (b : Bool) → cond b (Some what) (find P rows) ≡ None → b ≡ false
  tried true e = cc e
  tried false e = refl
none_passes {what} P e (further {row = row} {rows = rows} i) = none_passes P (tried (P row) e) i where
  tried : (b : Bool) → cond b (Some row) (find P rows) ≡ None → find P rows ≡ None
  tried true e = cc e
  tried false e = e

module _ (before : List Word) (s : m.State) (read : run 64 m.AtStart before ≡ Some s) (word : Word) where
  pub fits_first : (what : What) → row s word ≡ Some what → FitsFirst before word table what
  fits_first what e =
      first_of before word (λ what. fits what s word) (λ what e. fits_in before s read word what e) (λ what h. fits_out before s read word what h) table what
      (sym (row_found s word) ∙ e)

  pub none_fits : row s word ≡ None → (what : What) → Fits before word what → ⊥
  none_fits e what h =
      let f : fits what s word ≡ false = none_passes (λ what. fits what s word) (sym (row_found s word) ∙ e) (among what) in
      let g : false ≡ true = sym f ∙ fits_out before s read word what h in cc g
