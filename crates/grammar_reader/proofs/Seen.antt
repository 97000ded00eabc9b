-- Each region of a text, and what the words before it look like, both ways.
use Rattle.std.proofs.Common.{◌≡◌, true, ◌||◌, List, [], ◌∷◌, ◌++◌, Some, None, refl, sym, ap, subst, ◌∙◌}
use Rattle.grammar_reader_words.specs.declared.word.Word.{Word}
use Rattle.grammar_reader_words.specs.declared.word.Word.TheVariants as w
use Rattle.grammar_reader_machine.specs.Machine as m
use Rattle.grammar_reader.specs.WordByWord.{run}
use Rattle.grammar_reader_notation.specs.Naming.{MayFollow, Without, IsWithinRule, IsAfterParserName, parser_name, IsWithinParserRule, parser_rule}
use Rattle.grammar_reader_notation.specs.Naming.{IsWithinLexerRule, lexer_rule, IsAfterArrow, IsSuffix, question, star, plus, IsAfterSuffix}
use Rattle.grammar_reader_notation.specs.Naming.{after_suffix, IsAfterLoop, after_loop, IsAfterLast, after_last}
use Rattle.grammar_reader.specs.Positions as at
use Rattle.grammar_reader.proofs.Regions.{Side, parsing, lexing, Region, starting, between, named, opening, body}
use Rattle.grammar_reader.proofs.Regions.{suffixed, looped, last, command, next, region_from}
use Rattle.grammar_reader.proofs.RegionSteps.{Keeps, region_of, keeps_step, region_after, region_read}
use Rattle.grammar_reader.proofs.Following.{goes, Following, following, Passed, passed, Led, led}
use Rattle.grammar_reader.proofs.Leading.{star_suffixes, plus_closes, question_closes, arrow_leads, no_semicolon}
use Rattle.grammar_reader.proofs.Known.{IsBetween, region_between, IsNameOf, lower, upper, Named, Within, as_suffix, Knows, knows}
use Rattle.grammar_reader.proofs.Names.{lower_between, upper_between, lower_heads}
use Rattle.grammar_reader.proofs.Classes.{side_within, is_suffixed, is_looped, is_last, is_command, is_side, in_side, loop_region}
use Rattle.grammar_reader.proofs.Classes.{region_loop, last_region, region_last, arrow_region, region_arrow, suffix_region, name_region}
use Rattle.grammar_reader.proofs.Classes.{start_region, parser_region, region_parser, lexer_region, region_lexer}

-- from a region to the words

suffix_words : (p : Region) (s : m.State) (before : List Word) → is_suffixed p ≡ true → Knows p s before → IsAfterSuffix before
suffix_words (suffixed side) s before e k = as_suffix k.1
suffix_words _ s before e k = cc e

loop_words : (p : Region) (s : m.State) (before : List Word) → is_looped p ≡ true → Knows p s before → IsAfterLoop before
loop_words (looped side) s before e k = k.1
loop_words _ s before e k = cc e

last_words : (p : Region) (s : m.State) (before : List Word) → is_last p ≡ true → Knows p s before → IsAfterLast before
last_words (last side) s before e k = k.1
last_words _ s before e k = cc e

arrow_words : (p : Region) (s : m.State) (before : List Word) → is_command p ≡ true → Knows p s before → IsAfterArrow before
arrow_words (command side) s before e k = k.1
arrow_words _ s before e k = cc e

sided : {before : List Word} (side other : Side) → is_side side (Some other) ≡ true → Within other before → Within side before
sided parsing parsing e k = k
sided lexing lexing e k = k
sided parsing lexing e k = cc e
sided lexing parsing e k = cc e

unsided : (side : Side) → is_side side None ≡ true → ⊥
unsided parsing e = cc e
unsided lexing e = cc e

within_words : (side : Side) (p : Region) (s : m.State) (before : List Word) → in_side side p ≡ true → Knows p s before → Within side before
within_words side (body other) s before e k = sided side other e k
within_words side (suffixed other) s before e k = sided side other e k.0
within_words side (looped other) s before e k = sided side other e k.0
within_words side (last other) s before e k = sided side other e k.0
within_words side (command other) s before e k = sided side other e k.0
within_words side _ s before e k = absurd (unsided side e)

parser_named : {before : List Word} (start : List Word) (word : Word) → IsNameOf parsing word → before ≡ start ++ word ∷ []
    → MayFollow start (word ∷ w.Colon ∷ []) → IsAfterParserName before
parser_named start _ lower c h = parser_name (record { start = start; cut = c; names = h })

parser_within : {before : List Word} (word : Word) → IsNameOf parsing word → IsWithinRule word before → IsWithinParserRule before
parser_within _ lower k = parser_rule k

lexer_within : {before : List Word} (word : Word) → IsNameOf lexing word → IsWithinRule word before → IsWithinLexerRule before
lexer_within _ upper k = lexer_rule k

-- from the words to a region

region_append : (p : Region) (words more : List Word) → region_from p (words ++ more) ≡ region_from (region_from p words) more
region_append p [] more = refl
region_append p (word ∷ words) more = region_append (next p word) words more

data IsHead (side : Side) : Region → Type 0 where
  is_named : IsHead side (named side)
  is_opening : IsHead side (opening side)

head_on : (side : Side) (p : Region) (word : Word) → IsHead side p → (word ≡ w.Colon → ⊥) → IsHead side (next p word)
head_on side _ w.Colon i h = absurd (h refl)
head_on side _ _ is_named h = is_opening
head_on side _ _ is_opening h = is_opening

head_ends : (side : Side) (p : Region) (part : List Word) → IsHead side p → region_from p (w.Colon ∷ part) ≡ region_from (body side) part
head_ends side _ part is_named = refl
head_ends side _ part is_opening = refl

opened_on : (side : Side) (p : Region) (options part : List Word) → IsHead side p → Without w.Colon options
    → region_from p (options ++ w.Colon ∷ part) ≡ region_from (body side) part
opened_on side p [] part i h = head_ends side p part i
opened_on side p (word ∷ options) part i h = opened_on side (next p word) options part (head_on side p word i h.0) h.1

side_stays : (p : Region) (side : Side) (word : Word) → side_within p ≡ Some side → (word ≡ w.Semicolon → ⊥) → side_within (next p word) ≡ Some side
side_stays (body other) side w.Semicolon e h = absurd (h refl)
side_stays (body other) side w.Arrow e h = e
side_stays (body other) side w.Question e h = e
side_stays (body other) side w.Star e h = e
side_stays (body other) side w.Plus e h = e
side_stays (body other) side _ e h = e
side_stays (suffixed other) side w.Semicolon e h = absurd (h refl)
side_stays (suffixed other) side w.Arrow e h = e
side_stays (suffixed other) side w.Question e h = e
side_stays (suffixed other) side _ e h = e
side_stays (looped other) side w.Semicolon e h = absurd (h refl)
side_stays (looped other) side _ e h = e
side_stays (last other) side w.Semicolon e h = absurd (h refl)
side_stays (last other) side w.Bar e h = e
side_stays (last other) side w.Arrow e h = e
side_stays (last other) side _ e h = e
side_stays (command other) side w.Semicolon e h = absurd (h refl)
side_stays (command other) side w.Bar e h = e
side_stays (command other) side _ e h = e
side_stays _ side word e h = cc e

side_on : (p : Region) (side : Side) (part : List Word) → side_within p ≡ Some side → Without w.Semicolon part → side_within (region_from p part) ≡ Some side
side_on p side [] e h = e
side_on p side (word ∷ part) e h = side_on (next p word) side part (side_stays p side word e h.0) h.1

command_stays : (side : Side) (word : Word) → (word ≡ w.Bar → ⊥) → (word ≡ w.Semicolon → ⊥) → next (command side) word ≡ command side
command_stays side w.Bar h l = absurd (h refl)
command_stays side w.Semicolon h l = absurd (l refl)
command_stays side _ h l = refl

command_on : (side : Side) (part : List Word) → Without w.Bar part → Without w.Semicolon part → region_from (command side) part ≡ command side
command_on side [] h l = refl
command_on side (word ∷ part) h l = ap (λ p. region_from p part) (command_stays side word h.0 l.0) ∙ command_on side part h.1 l.1

name_on : (side : Side) (word : Word) → IsNameOf side word → next between word ≡ named side
name_on _ _ lower = refl
name_on _ _ upper = refl

-- after the words from a rule's `:` on
rule_on : {before : List Word} (side : Side) (word : Word) (r : IsWithinRule word before) → IsNameOf side word → region_from starting r.start ≡ between
    → side_within (region_from starting before) ≡ Some side
rule_on {before} side word r i e =
    let whole : region_from starting before ≡ region_from (body side) r.part =
    ap (region_from starting) r.cut ∙ region_append starting r.start (word ∷ (r.options ++ w.Colon ∷ r.part))
    ∙ ap (λ p. region_from (next p word) (r.options ++ w.Colon ∷ r.part)) e
    ∙ ap (λ p. region_from p (r.options ++ w.Colon ∷ r.part)) (name_on side word i) ∙ opened_on side (named side) r.options r.part is_named r.closed in
    ap side_within whole ∙ side_on (body side) side r.part refl r.within

star_leads_on : (p q : Region) → is_suffixed p ≡ true → next p w.Question ≡ q → is_looped q ≡ true
star_leads_on (suffixed side) q h e = ap is_looped (sym e)
star_leads_on _ q h e = cc h

loop_leads_on : (p q : Region) (word : Word) → is_looped p ≡ true → (word ≡ w.Semicolon → ⊥) → next p word ≡ q → is_last q ≡ true
loop_leads_on (looped side) q w.Semicolon h k e = absurd (k refl)
loop_leads_on (looped side) q _ h k e = ap is_last (sym e)
loop_leads_on _ q word h k e = cc h

kept : (s t : m.State) (word : Word) → m.step 64 s word ≡ Some t → next (region_of s) word ≡ region_of t
kept s t word e = subst (Keeps (region_of s) word) e (keeps_step 64 s word)

at_end : (s t : m.State) → run 64 s [] ≡ Some t → s ≡ t
at_end s t e = cc e

module _ (before : List Word) (s : m.State) (r : run 64 m.AtStart before ≡ Some s) where
  current : Knows (region_of s) s before
  current = knows before s r

  -- after the last word
  ending : (start more : List Word) → before ≡ start ++ more → Passed start more s
  ending start more e = passed start more s (subst (λ ws. run 64 m.AtStart ws ≡ Some s) e r)

  pub start_in : at.at_start s ≡ true → before ≡ []
  start_in h = subst (λ p. Knows p s before) (start_region s h) current

  pub start_out : before ≡ [] → at.at_start s ≡ true
  start_out e =
      let f : m.AtStart ≡ s = at_end m.AtStart s (subst (λ ws. run 64 m.AtStart ws ≡ Some s) e r) in ap at.at_start (sym f)

  pub name_in : at.after_name s ≡ true → IsAfterParserName before
  name_in h =
      let k : Named parsing before = subst (λ p. Knows p s before) (name_region s h) current in
      parser_named k.start k.word k.is_name k.cut k.names

  pub name_out : IsAfterParserName before → at.after_name s ≡ true
  name_out (parser_name {n = n} k) =
      let st : Following k.start (w.Lower n ∷ w.Colon ∷ []) = following k.start (w.Lower n ∷ w.Colon ∷ []) k.names in
      let p : Passed k.start (w.Lower n ∷ []) s = ending k.start (w.Lower n ∷ []) k.cut in
      let l : Led p.from (w.Lower n) [] s = led p.from (w.Lower n) [] s p.remaining in
      let f : st.state ≡ p.from = cc (sym st.read ∙ p.read) in
      let g : goes p.from (w.Lower n ∷ w.Colon ∷ []) ≡ true = subst (λ u. goes u (w.Lower n ∷ w.Colon ∷ []) ≡ true) f st.goes_on in
      let t : l.to ≡ s = at_end l.to s l.remaining in
      subst (λ u. at.after_name u ≡ true) t (lower_heads n l.to (lower_between p.from n g) l.step)

  pub parser_in : at.within_parser_rule s ≡ true → IsWithinParserRule before
  parser_in h = let k : Within parsing before = within_words parsing (region_of s) s before (parser_region s h) current in parser_within k.word k.is_name k.rule

  between_at : (start : List Word) (words : List Word) (st : Following start words) → IsBetween st.state → region_from starting start ≡ between
  between_at start words st i = region_read 64 start st.state st.read ∙ region_between i

  pub parser_out : IsWithinParserRule before → at.within_parser_rule s ≡ true
  parser_out (parser_rule {n = n} k) =
      let st : Following k.start (w.Lower n ∷ w.Colon ∷ []) = following k.start (w.Lower n ∷ w.Colon ∷ []) k.names in
      let e : side_within (region_from starting before) ≡ Some parsing =
      rule_on parsing (w.Lower n) k lower (between_at k.start (w.Lower n ∷ w.Colon ∷ []) st (lower_between st.state n st.goes_on)) in
      region_parser s (ap (λ p. in_side parsing p) (sym (region_read 64 before s r)) ∙ ap (is_side parsing) e)

  pub lexer_in : at.within_lexer_rule s ≡ true → IsWithinLexerRule before
  lexer_in h = let k : Within lexing before = within_words lexing (region_of s) s before (lexer_region s h) current in lexer_within k.word k.is_name k.rule

  pub lexer_out : IsWithinLexerRule before → at.within_lexer_rule s ≡ true
  lexer_out (lexer_rule {n = n} k) =
      let st : Following k.start (w.Upper n ∷ w.Colon ∷ []) = following k.start (w.Upper n ∷ w.Colon ∷ []) k.names in
      let e : side_within (region_from starting before) ≡ Some lexing =
      rule_on lexing (w.Upper n) k upper (between_at k.start (w.Upper n ∷ w.Colon ∷ []) st (upper_between st.state n st.goes_on)) in
      region_lexer s (ap (λ p. in_side lexing p) (sym (region_read 64 before s r)) ∙ ap (is_side lexing) e)

  pub arrow_in : at.after_arrow s ≡ true → IsAfterArrow before
  arrow_in h = arrow_words (region_of s) s before (arrow_region s h) current

  pub suffix_in : at.after_suffix s ≡ true → IsAfterSuffix before
  suffix_in h = suffix_words (region_of s) s before (suffix_region s h) current

  pub loop_in : at.after_loop s ≡ true → IsAfterLoop before
  loop_in h = loop_words (region_of s) s before (loop_region s h) current

  pub last_in : at.after_last s ≡ true → IsAfterLast before
  last_in h = last_words (region_of s) s before (last_region s h) current

  suffix_by : (word : Word) (from : m.State) → IsSuffix word → m.step 64 from word ≡ Some s → (at.after_suffix s || at.after_loop s) ≡ true
  suffix_by _ from question e = (question_closes from s e).suffixed
  suffix_by _ from star e = ap (λ b. b || at.after_loop s) (star_suffixes from s e)
  suffix_by _ from plus e = (plus_closes from s e).suffixed

  pub suffix_out : IsAfterSuffix before → (at.after_suffix s || at.after_loop s) ≡ true
  suffix_out (after_suffix start word c i) =
      let p : Passed start (word ∷ []) s = ending start (word ∷ []) c in
      let l : Led p.from word [] s = led p.from word [] s p.remaining in
      suffix_by word p.from i (subst (λ u. m.step 64 p.from word ≡ Some u) (at_end l.to s l.remaining) l.step)

  pub loop_out : IsAfterLoop before → at.after_loop s ≡ true
  loop_out (after_loop start c) =
      let p : Passed start (w.Star ∷ w.Question ∷ []) s = ending start (w.Star ∷ w.Question ∷ []) c in
      let l : Led p.from w.Star (w.Question ∷ []) s = led p.from w.Star (w.Question ∷ []) s p.remaining in
      let q : Led l.to w.Question [] s = led l.to w.Question [] s l.remaining in
      let e : m.step 64 l.to w.Question ≡ Some s = subst (λ u. m.step 64 l.to w.Question ≡ Some u) (at_end q.to s q.remaining) q.step in
      region_loop s (star_leads_on (region_of l.to) (region_of s) (suffix_region l.to (star_suffixes p.from l.to l.step)) (kept l.to s w.Question e))

  pub last_out : IsAfterLast before → at.after_last s ≡ true
  last_out (after_last start word c) =
      let p : Passed start (w.Star ∷ w.Question ∷ word ∷ []) s = ending start (w.Star ∷ w.Question ∷ word ∷ []) c in
      let l : Led p.from w.Star (w.Question ∷ word ∷ []) s = led p.from w.Star (w.Question ∷ word ∷ []) s p.remaining in
      let q : Led l.to w.Question (word ∷ []) s = led l.to w.Question (word ∷ []) s l.remaining in
      let x : Led q.to word [] s = led q.to word [] s q.remaining in
      let e : m.step 64 q.to word ≡ Some s = subst (λ u. m.step 64 q.to word ≡ Some u) (at_end x.to s x.remaining) x.step in
      let i : is_looped (region_of q.to) ≡ true =
      star_leads_on (region_of l.to) (region_of q.to) (suffix_region l.to (star_suffixes p.from l.to l.step)) (kept l.to q.to w.Question q.step) in
      let j : at.after_loop q.to ≡ true = region_loop q.to i in
      region_last s (loop_leads_on (region_of q.to) (region_of s) word i (λ f. no_semicolon q.to s j (subst (λ u. m.step 64 q.to u ≡ Some s) f e))
      (kept q.to s word e))

  pub arrow_out : IsAfterArrow before → at.after_arrow s ≡ true
  arrow_out k =
      let p : Passed k.start (w.Arrow ∷ k.part) s = ending k.start (w.Arrow ∷ k.part) k.cut in
      let l : Led p.from w.Arrow k.part s = led p.from w.Arrow k.part s p.remaining in
      region_arrow s (commanded (region_of l.to) (region_of s) k.part (arrow_region l.to (arrow_leads p.from l.to l.step)) k.same_alt k.same_rule
      (region_after 64 l.to s k.part l.remaining)) where
        commanded : (p q : Region) (part : List Word) → is_command p ≡ true → Without w.Bar part → Without w.Semicolon part → region_from p part ≡ q
            → is_command q ≡ true
        commanded (command side) q part h i j e = ap is_command (sym e ∙ command_on side part i j)
        commanded _ q part h i j e = cc h
