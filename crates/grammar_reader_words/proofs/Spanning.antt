-- Where words begin and end.
use Rattle.std.proofs.Common.{◌≡◌, ℕ, zero, suc, ◌-◌, Bool, true, false, cond, nat_le, List, [], ◌∷◌, Option}
use Rattle.std.proofs.Common.{Some, None, length, take, drop, refl, ap, sym, subst, ◌∙◌}
use Rattle.std.specs.Prelude.{is_some}
use Rattle.std.specs.Char.{is_ascii_uppercase}
use Rattle.std.specs.List.{prefix_len}
use Rattle.grammar_reader_words.specs.Names.{is, is_part, lower_word, name_word}
use Rattle.grammar_reader_words.specs.inner.Parts.{after_mark, ends_as_set, if_part, literal_rest, set_rest}
use Rattle.grammar_reader_words.specs.Quoted.{Pieces, has_property, last_plain, plain, put, ranges_of, with_range}
use Rattle.grammar_reader_words.specs.Spans.{span_of, spans_from, spans_gap, spans_with, word_rest}
use Rattle.grammar_reader_words.specs.Words.{gap, is_last, literal_word, marked_word, name_at, set_word, word}
use Rattle.grammar_reader_words.specs.declared.quoted.Mark.{Mark}
use Rattle.grammar_reader_words.specs.declared.quoted.Mark.TheVariants.{Code, Dash, Property}
use Rattle.grammar_reader_words.specs.declared.span.SetPart.{SetPart}
use Rattle.grammar_reader_words.specs.declared.span.SetPart.TheVariants.{Start, Between, After, Sign, Last}
use Rattle.grammar_reader_words.specs.declared.word.Word.{Word}
use Rattle.grammar_reader_words.specs.declared.word.Word.TheVariants as w
use Rattle.grammar_reader_words.specs.declared.word.Reserved.TheVariants as r
use Rattle.grammar_reader_words.proofs.Tails.{Ends, RestEnds, choose, passed_len}
use Rattle.grammar_reader_words.proofs.Going.{gap_ends, word_ends}

-- Literals.

pub literal_more : (some : Bool) (a : ℕ) (o : Pieces ℕ) → literal_rest some (put a o) ≡ literal_rest true o
literal_more true a None = refl
literal_more false a None = refl
literal_more true a (Some (cs, rest)) = refl
literal_more false a (Some (cs, rest)) = refl

pub literal_same : (cs : List ℕ) (o : Pieces ℕ) → literal_rest false o ≡ word_rest (literal_word cs o)
literal_same cs None = refl
literal_same cs (Some ([], rest)) = refl
literal_same cs (Some (c ∷ content, rest)) = refl

-- Sets.

-- the marks write ranges, and no property is among them
abbrev good : List Mark → Bool
good ms = cond (has_property ms) false (is_some (ranges_of ms))

never : (b : Bool) → cond b false false ≡ false
never true = refl
never false = refl

ranged : (r : ℕ × ℕ) (o : Option (List (ℕ × ℕ))) → is_some (with_range r o) ≡ is_some o
ranged r None = refl
ranged r (Some rs) = refl

-- a range of two
chosen : (p b : Bool) (r : ℕ × ℕ) (o : Option (List (ℕ × ℕ))) → cond p false (is_some (cond b (with_range r o) None)) ≡ cond b (cond p false (is_some o)) false
chosen true true r o = refl
chosen true false r o = refl
chosen false true r o = ranged r o
chosen false false r o = refl

property_last : (m : Mark) (ms : List Mark) → has_property (last_plain (m ∷ ms)) ≡ has_property (m ∷ ms)
property_last (Code a) [] = refl
property_last Dash [] = refl
property_last Property [] = refl
property_last (Code a) (n ∷ ms) = property_last n ms
property_last Dash (n ∷ ms) = property_last n ms
property_last Property (n ∷ ms) = refl

-- a property is no item of a set
with_property : (ms : List Mark) → good (last_plain (Property ∷ ms)) ≡ false
with_property [] = refl
with_property (n ∷ ms) = refl

with_property_after : (a : ℕ) (ms : List Mark) → good (last_plain (Code a ∷ (Property ∷ ms))) ≡ false
with_property_after a [] = refl
with_property_after a (n ∷ ms) = refl

with_property_behind : (a : ℕ) (ms : List Mark) → good (last_plain (Code a ∷ (Dash ∷ (Property ∷ ms)))) ≡ false
with_property_behind a [] = refl
with_property_behind a (n ∷ ms) = refl

single_more : (a c : ℕ) (ms : List Mark) → good (last_plain (Code c ∷ ms)) ≡ good (last_plain (Code a ∷ (Code c ∷ ms)))
single_more a c [] = refl
single_more a c (n ∷ ms) = ap (λ x. cond (has_property (last_plain (n ∷ ms))) false x) (sym (ranged (a, a) (ranges_of (Code c ∷ last_plain (n ∷ ms)))))

signed : (t : Bool) (next : SetPart) (go : SetPart → Bool) → if_part (cond t (Some next) None) go ≡ cond t (go next) false
signed true next go = refl
signed false next go = refl

one_range : (t : Bool) (r : ℕ × ℕ) → cond t true false ≡ is_some (cond t (Some (r ∷ [])) None)
one_range true r = refl
one_range false r = refl

-- what a part stands for, with the marks to come
abbrev meaning : SetPart → List Mark → Bool
meaning Start [] = false
meaning Start (m ∷ ms) = good (last_plain (plain m ∷ ms))
meaning Between ms = good (last_plain ms)
meaning (After a) ms = good (last_plain (Code a ∷ ms))
meaning (Sign a) ms = good (last_plain (Code a ∷ (Dash ∷ ms)))
meaning Last [] = true
meaning Last (m ∷ ms) = false

-- nothing is after the last item
ends_last : (n : Mark) (ms : List Mark) → ends_as_set Last (n ∷ ms) ≡ false
ends_last (Code c) ms = refl
ends_last Dash ms = refl
ends_last Property ms = refl

part_same : (part : SetPart) (ms : List Mark) → ends_as_set part ms ≡ meaning part ms
part_same Start [] = refl
part_same Start (Code c ∷ ms) = part_same (After c) ms
part_same Start (Dash ∷ ms) = part_same (After 45) ms
part_same Start (Property ∷ ms) = sym (with_property ms)
part_same Between [] = refl
part_same Between (Code c ∷ ms) = part_same (After c) ms
part_same Between (Property ∷ ms) = sym (with_property ms)
part_same Between (Dash ∷ []) = refl
part_same Between (Dash ∷ (n ∷ ms)) = ends_last n ms ∙ sym (never (has_property (last_plain (n ∷ ms))))
part_same (After a) [] = refl
part_same (After a) (Code c ∷ ms) = part_same (After c) ms ∙ single_more a c ms
part_same (After a) (Dash ∷ ms) = part_same (Sign a) ms
part_same (After a) (Property ∷ ms) = sym (with_property_after a ms)
part_same (Sign a) [] = refl
part_same (Sign a) (Code b ∷ []) = signed (nat_le a b) Between (λ next. ends_as_set next []) ∙ one_range (nat_le a b) (a, b)
part_same (Sign a) (Code b ∷ (n ∷ ms)) =
    signed (nat_le a b) Between (λ next. ends_as_set next (n ∷ ms)) ∙ ap (λ x. cond (nat_le a b) x false) (part_same Between (n ∷ ms))
    ∙ sym (chosen (has_property (last_plain (n ∷ ms))) (nat_le a b) (a, b) (ranges_of (last_plain (n ∷ ms))))
part_same (Sign a) (Dash ∷ []) = signed (nat_le a 45) Last (λ next. ends_as_set next []) ∙ one_range (nat_le a 45) (a, 45)
part_same (Sign a) (Dash ∷ (n ∷ ms)) =
    signed (nat_le a 45) Last (λ next. ends_as_set next (n ∷ ms)) ∙ ap (λ b. cond (nat_le a 45) b false) (ends_last n ms) ∙ never (nat_le a 45)
    ∙ sym (never (has_property (last_plain (n ∷ ms))))
part_same (Sign a) (Property ∷ ms) = sym (with_property_behind a ms)
part_same Last [] = refl
part_same Last (Code c ∷ ms) = refl
part_same Last (Dash ∷ ms) = refl
part_same Last (Property ∷ ms) = refl

pub set_more : (part next : SetPart) (m : Mark) (o : Pieces Mark) → Some next ≡ after_mark part m → set_rest part (put m o) ≡ set_rest next o
set_more part next m None e = refl
set_more part next m (Some (ms, rest)) e = ap (λ x. cond (if_part x (λ further. ends_as_set further ms)) (Some rest) None) (sym e)

by_property : (p : Bool) (rs : List (ℕ × ℕ)) (rest : List ℕ) → cond (cond p false true) (Some rest) None ≡ word_rest (cond p w.Property (w.Set rs), rest)
by_property true rs rest = refl
by_property false rs rest = refl

by_ranges : (m : Mark) (ms : List Mark) (o : Option (List (ℕ × ℕ))) (rest : List ℕ) →
    cond (cond (has_property (m ∷ ms)) false (is_some o)) (Some rest) None ≡ word_rest (marked_word (m ∷ ms) o, rest)
by_ranges m ms None rest = ap (λ x. cond x (Some rest) None) (never (has_property (m ∷ ms)))
by_ranges m ms (Some rs) rest = by_property (has_property (m ∷ ms)) rs rest

plain_property : (m : Mark) (ms : List Mark) → has_property (plain m ∷ ms) ≡ has_property (m ∷ ms)
plain_property (Code a) ms = refl
plain_property Dash ms = refl
plain_property Property ms = refl

pub set_same : (cs : List ℕ) (o : Pieces Mark) → set_rest Start o ≡ word_rest (set_word cs o)
set_same cs None = refl
set_same cs (Some ([], rest)) = refl
set_same cs (Some (m ∷ ms, rest)) =
    ap (λ x. cond x (Some rest) None) (part_same Start (m ∷ ms)
    ∙ ap (λ p. cond p false (is_some (ranges_of (last_plain (plain m ∷ ms))))) (property_last (plain m) ms ∙ plain_property m ms))
    ∙ by_ranges m ms (ranges_of (last_plain (plain m ∷ ms))) rest

-- Names.

lower_goes_on : (n : List ℕ) → is_last (lower_word n) ≡ false
lower_goes_on n =
    choose P (is n "grammar") {x = w.Grammar} refl (
    choose P (is n "fragment") {x = w.Fragment} refl (
    choose P (is n "lexer") {x = w.Reserved r.Lexer} refl (
    choose P (is n "parser") {x = w.Reserved r.Parser} refl (
    choose P (is n "import") {x = w.Reserved r.Import} refl (
    choose P (is n "mode") {x = w.Reserved r.Mode} refl (
    choose P (is n "returns") {x = w.Reserved r.Returns} refl (
    choose P (is n "locals") {x = w.Reserved r.Locals} refl (
    choose P (is n "throws") {x = w.Reserved r.Throws} refl (
    choose P (is n "catch") {x = w.Reserved r.Catch} refl (
    choose P (is n "finally") {x = w.Reserved r.Finally} refl (
    choose P (is n "public") {x = w.Reserved r.Public} refl (
    choose P (is n "private") {x = w.Reserved r.Private} refl (
    choose P (is n "protected") {x = w.Reserved r.Protected} {y = w.Lower n} refl refl)))))))))))))
  where
    P : Word → Type 0
    P x = is_last x ≡ false

pub name_goes_on : (c : ℕ) (n : List ℕ) → is_last (name_word c n) ≡ false
name_goes_on c n = choose (λ x. is_last x ≡ false) (is_ascii_uppercase c) {x = w.Upper n} {y = lower_word n} refl (lower_goes_on n)

pub name_rest : (c : ℕ) (text : List ℕ) → Some (drop (prefix_len is_part text) text) ≡ word_rest (name_at c text)
name_rest c text = sym (ap (λ b. cond b None (Some (drop (prefix_len is_part text) text))) (name_goes_on c (take (prefix_len is_part text) text)))

-- Words, one after another.

module _ (total : ℕ) where
  spans_skip : (k : ℕ) (cs : List ℕ) → spans_from total k cs ≡ spans_from total 0 (drop k cs)
  spans_skip zero cs = refl
  spans_skip (suc k) [] = refl
  spans_skip (suc k) (c ∷ cs) = spans_skip k cs

  spans_past : (cs rest : List ℕ) → Ends cs rest → spans_from total (length cs - length rest) cs ≡ spans_from total 0 rest
  spans_past cs rest e = spans_skip (length cs - length rest) cs ∙ ap (spans_from total 0) (passed_len cs rest e (length cs - length rest) refl)

  -- a blank or a comment is no word
  pub spans_passed : (cs rest : List ℕ) → Some rest ≡ gap cs → spans_from total 0 cs ≡ spans_from total 0 rest
  spans_passed [] rest e = absurd (cc e)
  spans_passed (c ∷ cs) rest e =
      ap (λ o. spans_gap o (λ rest. spans_from total (length cs - length rest) cs)
      (spans_with total (c ∷ cs) (word_rest (word (c ∷ cs))) (λ rest. spans_from total (length cs - length rest) cs))) (sym e)
      ∙ spans_past cs rest (subst (RestEnds cs) (sym e) (gap_ends c cs))

  with_same : (all cs : List ℕ) (o : Option (List ℕ)) → RestEnds cs o
      → spans_with total all o (λ rest. spans_from total (length cs - length rest) cs) ≡ spans_with total all o (λ rest. spans_from total 0 rest)
  with_same all cs None e = refl
  with_same all cs (Some rest) e = ap (λ spans. span_of total all (Some rest) ∷ spans) (spans_past cs rest e)

  rest_ends : (cs : List ℕ) (b : Bool) (rest : List ℕ) → Ends cs rest → RestEnds cs (cond b None (Some rest))
  rest_ends cs true rest e = tt
  rest_ends cs false rest e = e

  -- what follows a word is less
  pub word_rest_ends : (c : ℕ) (cs : List ℕ) → RestEnds cs (word_rest (word (c ∷ cs)))
  word_rest_ends c cs = rest_ends cs (is_last (word (c ∷ cs)).0) (word (c ∷ cs)).1 (word_ends c cs)

  -- the current word, and those after it
  pub first_span : (c : ℕ) (cs : List ℕ) → gap (c ∷ cs) ≡ None
      → spans_from total 0 (c ∷ cs) ≡ spans_with total (c ∷ cs) (word_rest (word (c ∷ cs))) (λ rest. spans_from total 0 rest)
  first_span c cs e =
      ap (λ o. spans_gap o (λ rest. spans_from total (length cs - length rest) cs)
      (spans_with total (c ∷ cs) (word_rest (word (c ∷ cs))) (λ rest. spans_from total (length cs - length rest) cs))) e
      ∙ with_same (c ∷ cs) cs (word_rest (word (c ∷ cs))) (word_rest_ends c cs)
