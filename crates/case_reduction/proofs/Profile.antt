-- Mini's text spells it, and nothing else.
use Rattle.std.proofs.Common.{◌≡◌, ℕ, List, [], ◌∷◌, ◌++◌, Some, None, ◌≤◌, length, refl, sym, ap, ◌∙◌, subst, append-nil, arith, IsUtf8}
use Rattle.std.specs.Str.{chars}
use Rattle.std.proofs.lemmas.Str.{IsUtf8-from_ascii}
use Rattle.grammar_tree.specs.Written.{WrittenGrammar}
use Rattle.grammar_tree.specs.Faults.{start_of}
use Rattle.grammar_reader_words.specs.declared.word.Word.{Word}
use Rattle.grammar_reader_words.specs.Words.{words_of}
use Rattle.grammar_reader_notation.specs.Sets.{outside, within}
use Rattle.grammar_reader_notation.specs.Notation.{IsTextOf}
use Rattle.grammar_reader_notation.specs.Reads.{IsProfile, only_words}
use Rattle.grammar_reader_notation.proofs.Lent.{profile_fits}
use Rattle.grammar_tree.specs.Kinds.{kinds_of}
use Rattle.case_reduction.proofs.WellFormed.{well_formed}
use Rattle.grammar_reader_machine.specs.Machine.{AtEnd, AtStart}
use Rattle.grammar_reader.specs.WordByWord.{run}
use Rattle.grammar_reader.proofs.Lent.{Goes, Rest, accepts, run_complete}
use Rattle.case_maker.specs.Mini.{mini_text}
use Rattle.case_reduction.specs.Mini.{all_chars, blank_of, comment_of, digits, grammar_with, id_of, int_of, letters}
use Rattle.case_reduction.specs.Mini.{letters_digits, line_chars, line_of, mini, plain_chars, str_of}
use Rattle.case_reduction.specs.LanguageLaws.{CasesAreInLanguage, MiniIsSpelled}
use Rattle.case_reduction.proofs.Language.{ascii, in_language}
use Rattle.case_reduction.proofs.Sets.{all_are, blanks_are, digits_are, letters_are, letters_digits_are, line_are, plain_are}

-- Mini with these sets: letters; these and digits; digits; what strings and lines have; all; blanks
abbrev built : List (ℕ × ℕ) → List (ℕ × ℕ) → List (ℕ × ℕ) → List (ℕ × ℕ) → List (ℕ × ℕ) → List (ℕ × ℕ) → List (ℕ × ℕ) → WrittenGrammar
built first others number plain line every blank =
    grammar_with (id_of first others ∷ int_of number ∷ str_of plain every ∷ comment_of every ∷ line_of line ∷ blank_of blank ∷ [])

-- the sets as they are written
abbrev first : List (ℕ × ℕ)
first = within ((97, 122) ∷ (65, 90) ∷ (95, 95) ∷ [])

abbrev others : List (ℕ × ℕ)
others = within ((97, 122) ∷ (65, 90) ∷ (95, 95) ∷ (48, 57) ∷ [])

abbrev number : List (ℕ × ℕ)
number = within ((48, 57) ∷ [])

abbrev plain : List (ℕ × ℕ)
plain = outside ((34, 34) ∷ (92, 92) ∷ (10, 10) ∷ [])

abbrev line : List (ℕ × ℕ)
line = outside ((10, 10) ∷ [])

abbrev every : List (ℕ × ℕ)
every = outside []

abbrev blank : List (ℕ × ℕ)
blank = within ((32, 32) ∷ (9, 9) ∷ (13, 13) ∷ (10, 10) ∷ [])

abbrev as_written : WrittenGrammar
as_written = built first others number plain line every blank

abbrev words : List Word
words = only_words (words_of mini_text)

is_read : run 64 AtStart words ≡ Some (AtEnd as_written)
unfolding words_of chars
is_read = refl

is_mini : as_written ≡ mini
is_mini =
    ap (λ x. built x others number plain line every blank) letters_are
    ∙ ap (λ x. built letters x number plain line every blank) letters_digits_are
    ∙ ap (λ x. built letters letters_digits x plain line every blank) digits_are
    ∙ ap (λ x. built letters letters_digits digits x line every blank) plain_are
    ∙ ap (λ x. built letters letters_digits digits plain_chars x every blank) line_are
    ∙ ap (λ x. built letters letters_digits digits plain_chars line_chars x blank) all_are
    ∙ ap (λ x. built letters letters_digits digits plain_chars line_chars all_chars x) blanks_are

utf8 : IsUtf8 mini_text
utf8 = IsUtf8-from_ascii mini_text (ascii mini_text refl)

-- a grammar that these words spell is the one that they are read as
one_grammar : (G : WrittenGrammar) → IsTextOf 64 words G → G ≡ as_written
one_grammar G it =
    let whole : IsTextOf 64 (words ++ []) G = subst (λ x. IsTextOf 64 x G) (sym (append-nil words)) it in
    let goes : Goes 64 (run 64 AtStart words) [] G = run_complete 64 AtStart words [] G whole in
    let rest : Rest 64 (AtEnd as_written) [] G = subst (λ o. Goes 64 o [] G) is_read goes in rest.1

pub is_profile : IsProfile mini_text mini
is_profile = subst (λ G. IsProfile mini_text G) is_mini (record { utf8 = utf8; text = accepts 64 words as_written is_read })

pub is_only : (G : WrittenGrammar) → IsProfile mini_text G → G ≡ mini
is_only G it = one_grammar G it.text ∙ is_mini

mini_length : length mini_text ≤ 1000
mini_length = omega arith

pub is_spelled : MiniIsSpelled
is_spelled =
    record {
      only = record { text = is_profile; only = λ G it. sym (is_only G it) };
      grammar = record { grammar = mini; kinds = kinds_of mini; start = 0 };
      spelled =
          record {
            text = is_profile;
            start = refl;
            checked = record { well_formed = well_formed; numbered = refl; small = omega (arith, profile_fits is_profile, mini_length) };
          };
    }

-- the first rule is the start
start_is : (n : ℕ) → start_of mini None ≡ Some n → n ≡ 0
start_is n e = cc

pub all_in_language : CasesAreInLanguage
all_in_language grammar number size it small =
    let same : grammar.grammar ≡ mini = is_only grammar.grammar it.text in
    in_language grammar number size (record { same = same; start = start_is grammar.start (subst (λ G. start_of G None ≡ Some grammar.start) same it.start) })
    small
