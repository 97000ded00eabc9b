-- How the words go on.
use Rattle.std.proofs.Common.{◌≡◌, ℕ, zero, suc, ◌+◌, ◌-◌, ◌<◌, Bool, true, false, cond, ◌&&◌, ◌||◌, ◌==◌, List, [], ◌∷◌, Option}
use Rattle.std.proofs.Common.{Some, None, length, drop, refl, ap, sym, subst, ◌∙◌, arith, length-drop}
use Rattle.std.specs.List.{prefix_len}
use Rattle.std.specs.Char.{is_ascii_digit, is_ascii_alphabetic}
use Rattle.std.specs.Int.{is_in_range}
use Rattle.grammar_reader_words.specs.Names.{is, is_part, word_before_brace}
use Rattle.grammar_reader_words.specs.Quoted.{begins, literal_piece, set_piece, Pieces, pieces_from}
use Rattle.grammar_reader_words.specs.Words.{after_close, comment, gap, is_blank, is_on_line, symbol, single, literal_word, set_word, name_at, word}
use Rattle.grammar_reader_words.specs.Words.{is_last, at_brace, brace_from, settled, placed, listed, listed_gap, words_from}
use Rattle.grammar_reader_words.specs.inner.Words.{words_left}
use Rattle.grammar_reader_words.specs.declared.quoted.Mark.{Mark}
use Rattle.grammar_reader_words.specs.declared.word.Word.{Word}
use Rattle.grammar_reader_words.specs.declared.word.Word.TheVariants as w
use Rattle.grammar_reader_words.specs.declared.word.Reserved.TheVariants as r
use Rattle.grammar_reader_words.specs.declared.word.Placed.{Placed}
use Rattle.grammar_reader_words.proofs.Tails.{Ends, EndsIn, RestEnds, whole, least, one_more, pieces_ends}
use Rattle.grammar_reader_words.proofs.Tails.{literal_piece_ends, set_piece_ends, passed_len, choose}

if_so : {A : Type 0} (P : A → Type 0) (b : Bool) {x y : A} → (b ≡ true → P x) → (b ≡ false → P y) → P (cond b x y)
if_so P true p q = p refl
if_so P false p q = q refl

rest_more : (c : ℕ) (cs : List ℕ) (o : Option (List ℕ)) → RestEnds cs o → RestEnds (c ∷ cs) o
rest_more c cs None e = tt
rest_more c cs (Some rest) e = one_more c e

close_ends : (cs : List ℕ) → RestEnds cs (after_close cs)
close_ends [] = tt
close_ends (c ∷ cs) =
    choose (RestEnds (c ∷ cs)) (c == 42 && begins (λ d. d == 47) cs) {x = Some (drop 1 cs)} {y = after_close cs} (one_more c (least 1 cs))
    (rest_more c cs (after_close cs) (close_ends cs))

comment_ends : (cs : List ℕ) → RestEnds cs (comment cs)
comment_ends [] = tt
comment_ends (c ∷ cs) =
    choose (RestEnds (c ∷ cs)) (c == 47) {x = Some (drop (prefix_len is_on_line cs) cs)} (one_more c (least (prefix_len is_on_line cs) cs))
    (choose (RestEnds (c ∷ cs)) (c == 42) {x = after_close cs} {y = None} (rest_more c cs (after_close cs) (close_ends cs)) tt)

-- a blank or comment is more than nothing
pub gap_ends : (c : ℕ) (cs : List ℕ) → RestEnds cs (gap (c ∷ cs))
gap_ends c cs = choose (RestEnds cs) (is_blank c) {x = Some cs} (whole cs) (choose (RestEnds cs) (c == 47) {x = comment cs} {y = None} (comment_ends cs) tt)

among : (d u l x : Bool) → (u || l) ≡ true → (((d || u) || l) || x) ≡ true
among true u l x h = refl
among false true l x h = refl
among false false true x h = refl
among false false false x h = cc h

letter_is_part : (c : ℕ) → is_ascii_alphabetic c ≡ true → is_part c ≡ true
letter_is_part c h = among (is_in_range 48 57 c) (is_in_range 65 90 c) (is_in_range 97 122 c) (c == 95) h

abbrev pub WordEnds : List ℕ → Word × List ℕ → Type 0
WordEnds cs p = Ends cs p.1

name_ends : (c : ℕ) (cs : List ℕ) → is_ascii_alphabetic c ≡ true → WordEnds cs (name_at c (c ∷ cs))
name_ends c cs h =
    let n : prefix_len is_part (c ∷ cs) ≡ suc (prefix_len is_part cs) = ap (λ b. cond b (1 + prefix_len is_part cs) 0) (letter_is_part c h) ∙ omega arith in
    subst (λ n. Ends cs (drop n (c ∷ cs))) (sym n) (least (prefix_len is_part cs) cs)

literal_ends : (cs : List ℕ) (o : Pieces ℕ) → EndsIn cs o → WordEnds cs (literal_word cs o)
literal_ends cs None e = whole cs
literal_ends cs (Some (content, rest)) e = e

set_ends : (cs : List ℕ) (o : Pieces Mark) → EndsIn cs o → WordEnds cs (set_word cs o)
set_ends cs None e = whole cs
set_ends cs (Some (marks, rest)) e = e

two_ends : (b : Bool) (x y : Word) (cs : List ℕ) → WordEnds cs (cond b (x, drop 1 cs) (y, cs))
two_ends true x y cs = least 1 cs
two_ends false x y cs = whole cs

symbol_ends : (c : ℕ) (cs : List ℕ) → WordEnds cs (symbol c cs)
symbol_ends c cs =
    choose (WordEnds cs) (c == 46) (two_ends (begins (λ d. d == 46) cs) w.Dots w.Dot cs) (
    choose (WordEnds cs) (c == 43) (two_ends (begins (λ d. d == 61) cs) w.PlusEquals w.Plus cs) (
    choose (WordEnds cs) (c == 45) {y = (single c, cs)} (two_ends (begins (λ d. d == 62) cs) w.Arrow w.Bad cs) (whole cs)))

pub word_ends : (c : ℕ) (cs : List ℕ) → WordEnds cs (word (c ∷ cs))
word_ends c cs =
    if_so (WordEnds cs) (is_ascii_alphabetic c) {x = name_at c (c ∷ cs)} (name_ends c cs) (λ _.
    choose (WordEnds cs) (is_ascii_digit c) {x = (w.Number, drop (prefix_len is_ascii_digit cs) cs)} (least (prefix_len is_ascii_digit cs) cs) (
    choose (WordEnds cs) (c == 39) {x = literal_word cs (pieces_from literal_piece 0 cs)}
    (literal_ends cs (pieces_from literal_piece 0 cs) (pieces_ends literal_piece literal_piece_ends 0 cs)) (
    choose (WordEnds cs) (c == 91) {x = set_word cs (pieces_from set_piece 0 cs)} {y = symbol c cs}
    (set_ends cs (pieces_from set_piece 0 cs) (pieces_ends set_piece set_piece_ends 0 cs)) (symbol_ends c cs))))

module _ (total : ℕ) where
  words_skip : (k : ℕ) (cs : List ℕ) → words_from total k cs ≡ words_from total 0 (drop k cs)
  words_skip zero cs = refl
  words_skip (suc k) [] = refl
  words_skip (suc k) (c ∷ cs) = words_skip k cs

  words_past : (cs rest : List ℕ) → Ends cs rest → words_from total (length cs - length rest) cs ≡ words_from total 0 rest
  words_past cs rest e = words_skip (length cs - length rest) cs ∙ ap (words_from total 0) (passed_len cs rest e (length cs - length rest) refl)

  -- a blank or a comment spells no word
  pub gap_passed : (cs rest : List ℕ) → Some rest ≡ gap cs → words_from total 0 cs ≡ words_from total 0 rest
  gap_passed [] rest e = absurd (cc e)
  gap_passed (c ∷ cs) rest e =
      ap (λ o. listed_gap o (λ rest. words_from total (length cs - length rest) cs)
      (listed total (c ∷ cs) (word (c ∷ cs)) (λ rest. words_from total (length cs - length rest) cs))) (sym e)
      ∙ words_past cs rest (subst (RestEnds cs) (sym e) (gap_ends c cs))

  listed_same : (all cs : List ℕ) (p : Word × List ℕ) → Ends cs p.1
      → listed total all p (λ rest. words_from total (length cs - length rest) cs) ≡ listed total all p (λ rest. words_from total 0 rest)
  listed_same all cs p e =
      ap (λ ws. cond (is_last p.0) (placed total all p.0 ∷ []) (placed total all (settled p.0 (brace_from 0 p.1)) ∷ ws)) (words_past cs p.1 e)

  -- the current word, and those after it
  pub first_word : (cs : List ℕ) → gap cs ≡ None → words_from total 0 cs ≡ listed total cs (word cs) (λ rest. words_from total 0 rest)
  first_word [] e = refl
  first_word (c ∷ cs) e =
      ap (λ o. listed_gap o (λ rest. words_from total (length cs - length rest) cs)
      (listed total (c ∷ cs) (word (c ∷ cs)) (λ rest. words_from total (length cs - length rest) cs))) e
      ∙ listed_same (c ∷ cs) cs (word (c ∷ cs)) (word_ends c cs)

brace_skip : (k : ℕ) (cs : List ℕ) → brace_from k cs ≡ brace_from 0 (drop k cs)
brace_skip zero cs = refl
brace_skip (suc k) [] = refl
brace_skip (suc k) (c ∷ cs) = brace_skip k cs

pub brace_passed : (cs rest : List ℕ) → Some rest ≡ gap cs → brace_from 0 cs ≡ brace_from 0 rest
brace_passed [] rest e = absurd (cc e)
brace_passed (c ∷ cs) rest e =
    ap (λ o. at_brace c o (λ rest. brace_from (length cs - length rest) cs)) (sym e)
    ∙ brace_skip (length cs - length rest) cs
    ∙ ap (brace_from 0) (passed_len cs rest (subst (RestEnds cs) (sym e) (gap_ends c cs)) (length cs - length rest) refl)

pub brace_here : (cs : List ℕ) → gap cs ≡ None → brace_from 0 cs ≡ begins (λ c. c == 123) cs
brace_here [] e = refl
brace_here (c ∷ cs) e = ap (λ o. at_brace c o (λ rest. brace_from (length cs - length rest) cs)) e

pub gap_part : (cs rest : List ℕ) → Some rest ≡ gap cs → Ends cs rest
gap_part [] rest e = absurd (cc e)
gap_part (c ∷ cs) rest e = one_more c (subst (RestEnds cs) (sym e) (gap_ends c cs))

-- what follows a blank or comment is shorter
pub gap_shorter : (cs rest : List ℕ) → Some rest ≡ gap cs → length rest < length cs
gap_shorter [] rest e = absurd (cc e)
gap_shorter (c ∷ cs) rest e =
    let tail : Ends cs rest = subst (RestEnds cs) (sym e) (gap_ends c cs) in
    let len : length rest ≡ length cs - tail.passed = ap length tail.cut ∙ length-drop tail.passed cs in
    omega arith

last_settled : (wo : Word) (b : Bool) → is_last wo ≡ true → settled wo b ≡ wo
last_settled (w.Lower n) b h = cc h
last_settled _ b h = refl

module _ (total : ℕ) (cs rest : List ℕ) (wo : Word) (e : ◌≡◌ {A = Word × List ℕ} (wo, rest) (word cs)) (none : gap cs ≡ None) where
  start : words_from total 0 cs ≡ listed total cs (wo, rest) (λ rest. words_from total 0 rest)
  start = first_word total cs none ∙ ap (λ p. listed total cs p (λ rest. words_from total 0 rest)) (sym e)

  -- after one word
  pub word_passed : (b : Bool) → is_last wo ≡ b → (found : Placed) → found ≡ placed total cs (settled wo (brace_from 0 rest))
      → words_from total 0 cs ≡ found ∷ words_left b total rest
  word_passed true l found f =
      start ∙ ap (λ b. cond b (placed total cs wo ∷ []) (placed total cs (settled wo (brace_from 0 rest)) ∷ words_from total 0 rest)) l
      ∙ ap (λ x. placed total cs x ∷ []) (sym (last_settled wo (brace_from 0 rest) l)) ∙ ap (λ p. p ∷ []) (sym f)
  word_passed false l found f =
      start ∙ ap (λ b. cond b (placed total cs wo ∷ []) (placed total cs (settled wo (brace_from 0 rest)) ∷ words_from total 0 rest)) l
      ∙ ap (λ p. p ∷ words_from total 0 rest) (sym f)

-- there is a word at least: the last one
pub words_some : (total k : ℕ) (cs : List ℕ) → words_from total k cs ≡ [] → ⊥
words_some total k [] e = cc e
words_some total (suc k) (c ∷ cs) e = words_some total k cs e
words_some total zero (c ∷ cs) e = gapped (gap (c ∷ cs)) (λ rest. words_some total (length cs - length rest) cs) e where
  here_some : (p : Word × List ℕ) (go : List ℕ → List Placed) → listed total (c ∷ cs) p go ≡ [] → ⊥
  here_some p go e =
      choose (λ ws. ws ≡ [] → ⊥) (is_last p.0) {x = placed total (c ∷ cs) p.0 ∷ []} {y = placed total (c ∷ cs) (settled p.0 (brace_from 0 p.1)) ∷ go p.1}
      (λ f. cc f) (λ f. cc f) e

  gapped : (o : Option (List ℕ)) → ((rest : List ℕ) → words_from total (length cs - length rest) cs ≡ [] → ⊥) →
      listed_gap o (λ rest. words_from total (length cs - length rest) cs)
      (listed total (c ∷ cs) (word (c ∷ cs)) (λ rest. words_from total (length cs - length rest) cs)) ≡ [] → ⊥
  gapped None k e = here_some (word (c ∷ cs)) (λ rest. words_from total (length cs - length rest) cs) e
  gapped (Some rest) k e = k rest e

pub last_is_last : (wo : Word) (b : Bool) → is_last wo ≡ true → is_last (settled wo b) ≡ true
last_is_last wo b h = ap is_last (last_settled wo b h) ∙ h

-- where the words go on, there is one more
pub left_some : (wo : Word) (b last : Bool) (total : ℕ) (rest : List ℕ) → last ≡ is_last wo → is_last (settled wo b) ≡ false → words_left last total rest ≡ []
    → ⊥
left_some wo b true total rest h e f = let g : is_last (settled wo b) ≡ true = last_is_last wo b (sym h) in cc (sym g ∙ e)
left_some wo b false total rest h e f = words_some total 0 rest f

before_brace_goes_on : (n : List ℕ) → is_last (word_before_brace n) ≡ false
before_brace_goes_on n =
    choose (λ x. is_last x ≡ false) (is n "options") {x = w.Options} refl (
    choose (λ x. is_last x ≡ false) (is n "tokens") {x = w.Tokens} refl (
    choose (λ x. is_last x ≡ false) (is n "channels") {x = w.Reserved r.Channels} {y = w.Lower n} refl refl))

pub settled_goes_on : (wo : Word) (b : Bool) → is_last wo ≡ false → is_last (settled wo b) ≡ false
settled_goes_on (w.Lower n) true h = before_brace_goes_on n
settled_goes_on (w.Lower n) false h = refl
settled_goes_on _ b h = h

-- where the words end, there is none
pub left_none : (wo : Word) (b last : Bool) (total : ℕ) (rest : List ℕ) → last ≡ is_last wo → is_last (settled wo b) ≡ true → words_left last total rest ≡ []
left_none wo b true total rest h e = refl
left_none wo b false total rest h e = let g : is_last (settled wo b) ≡ false = settled_goes_on wo b (sym h) in cc (sym g ∙ e)
