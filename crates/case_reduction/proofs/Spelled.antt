-- Texts that are matched by the kinds of Mini, by a test for each.
use Rattle.std.proofs.Common.{◌≡◌, ◌⊎◌, inl, inr, ℕ, Bool, true, false, ◌&&◌, ◌||◌, not, cond, nat_eq, List, [], ◌∷◌, ◌++◌, Option, Some}
use Rattle.std.proofs.Common.{None, slice_get, codes, bytes_eq, refl, sym, ap, ◌∙◌, subst, append-nil, true≢false}
use Rattle.std.proofs.lemmas.Bool.{and_parts, eqb-true}
use Rattle.std.proofs.lemmas.Slice.Eq.{bytes_eq-Decides}
use Rattle.regex_class.specs.Ranges.{in_range, in_ranges}
use Rattle.grammar_tree.specs.Chars.{has}
use Rattle.grammar_tree.specs.Written.{LexerTerm, LexerSeq, LexerAlts, LexerRule, Source, TokenKind, WrittenRule, lexer_alts}
use Rattle.grammar_tree.specs.Kinds.{lexer_rules}
use Rattle.grammar_tree.specs.Faults.{AtLexerRule}
use Rattle.grammar_tree.specs.Matches.{Matches, MatchesAlternative, MatchesAlts, MatchesMany, MatchesRule, MatchesSeq, is_short}
use Rattle.grammar_tree.specs.Lexes.{KindMatches, SourceMatches}
use Rattle.case_reduction.specs.Mini.{all_chars, blank_token, blanks, comment_token, digits, id_token, int_token, letters}
use Rattle.case_reduction.specs.Mini.{letters_digits, line_chars, line_token, mini, plain_chars, str_token}
use Rattle.case_reduction.specs.inner.Mini.{string_part}
use Rattle.case_reduction.proofs.Tests.{not_both, or_parts}
use Rattle.case_reduction.proofs.Threads.{Any, accepts, any_accepts, any_run, moved, run, run_nameless}
use Rattle.case_reduction.proofs.MiniKinds.{kinds_mini, mini_kinds}

abbrev R : List LexerRule
R = lexer_rules mini.rules

abbrev pub all_in : List (ℕ × ℕ) → List ℕ → Bool
all_in set [] = true
all_in set (c ∷ w) = has set c && all_in set w

-- a first character, and others
abbrev begins_in : List (ℕ × ℕ) → List (ℕ × ℕ) → List ℕ → Bool
begins_in first set [] = false
begins_in first set (c ∷ w) = has first c && all_in set w

-- two slashes, and the rest of a line
abbrev is_line : List ℕ → Bool
is_line (a ∷ b ∷ w) = (nat_eq a 47 && nat_eq b 47) && all_in line_chars w
is_line _ = false

abbrev is_string : List ℕ → Bool
is_string w = bytes_eq w (codes "\"s\"") || bytes_eq w (codes "\"Z\"")

abbrev note : List ℕ
note = codes "/* note */"

-- each rule of the lexer, by its index
abbrev spelled_by : Source → List ℕ → List ℕ → Bool
spelled_by Source.implicit name w = bytes_eq w name
spelled_by (Source.written place) name w =
    cond (nat_eq place 7) (begins_in letters letters_digits w)
    (cond (nat_eq place 8) (begins_in digits digits w)
    (cond (nat_eq place 9) (is_string w)
    (cond (nat_eq place 10) (bytes_eq w note)
    (cond (nat_eq place 11) (is_line w)
    (cond (nat_eq place 12) (begins_in blanks blanks w) false)))))
spelled_by Source.declared name w = false

abbrev spelled_as : Option TokenKind → List ℕ → Bool
spelled_as None w = false
spelled_as (Some kind) w = spelled_by kind.source kind.name w

-- the kind of this number matches the text
abbrev pub spelled : ℕ → List ℕ → Bool
spelled k w = spelled_as (slice_get mini_kinds k) w

last_term : (t : LexerTerm) (w : List ℕ) → Matches R t w → MatchesSeq R (LexerSeq.next t LexerSeq.done) w
last_term t w m =
    let P : List ℕ → Type 0 = λ x. MatchesSeq R (LexerSeq.next t LexerSeq.done) x in
    subst P (append-nil w) (MatchesSeq.by_next t LexerSeq.done w [] m MatchesSeq.by_done)

many : (set : List (ℕ × ℕ)) (w : List ℕ) → all_in set w ≡ true → MatchesMany R (LexerTerm.set set) w
many set [] h = MatchesMany.by_end (LexerTerm.set set)
many set (c ∷ w) h =
    let (one, others) = and_parts (has set c) (all_in set w) h in
    MatchesMany.by_more (LexerTerm.set set) (c ∷ []) w (Matches.by_set set c one) (many set w others)

-- an alternative that isn't non-greedy
plainly : (s : LexerSeq) (w : List ℕ) → is_short s ≡ false → MatchesSeq R s w → MatchesRule R (LexerAlts.or s LexerAlts.none) w
plainly s w long m = MatchesRule.by_first s LexerAlts.none w (record { greedily = m; shortest = λ short u v e n. absurd (true≢false (sym short ∙ long)) })

pub word_matches : (w : List ℕ) → begins_in letters letters_digits w ≡ true → MatchesRule R id_token.alts w
word_matches [] h = absurd (true≢false (sym h))
word_matches (c ∷ w) h =
    let (one, others) = and_parts (has letters c) (all_in letters_digits w) h in
    let rest : LexerTerm = LexerTerm.star (LexerTerm.set letters_digits) in
    plainly _ (c ∷ w) refl
    (MatchesSeq.by_next (LexerTerm.set letters) (LexerSeq.next rest LexerSeq.done) (c ∷ []) w (Matches.by_set letters c one)
    (last_term rest w (Matches.by_star (LexerTerm.set letters_digits) w (many letters_digits w others))))

some_matches : (set : List (ℕ × ℕ)) (w : List ℕ) → begins_in set set w ≡ true → MatchesRule R (lexer_alts ((LexerTerm.plus (LexerTerm.set set) ∷ []) ∷ [])) w
some_matches set [] h = absurd (true≢false (sym h))
some_matches set (c ∷ w) h =
    let (one, others) = and_parts (has set c) (all_in set w) h in
    plainly _ (c ∷ w) refl
    (last_term (LexerTerm.plus (LexerTerm.set set)) (c ∷ w) (Matches.by_plus (LexerTerm.set set) (c ∷ []) w (Matches.by_set set c one) (many set w others)))

line_matches : (w : List ℕ) → is_line w ≡ true → MatchesRule R line_token.alts w
line_matches [] h = absurd (true≢false (sym h))
line_matches (a ∷ []) h = absurd (true≢false (sym h))
line_matches (a ∷ b ∷ w) h =
    let (slashes, others) = and_parts (nat_eq a 47 && nat_eq b 47) (all_in line_chars w) h in
    let (one, other) = and_parts (nat_eq a 47) (nat_eq b 47) slashes in
    let first : a ≡ 47 = eqb-true a 47 one in
    let second : b ≡ 47 = eqb-true b 47 other in
    let same : a ∷ b ∷ w ≡ 47 ∷ 47 ∷ w = cc in
    let rest : LexerTerm = LexerTerm.star (LexerTerm.set line_chars) in
    let slash : List ℕ = codes "//" in
    let P : List ℕ → Type 0 = λ x. MatchesRule R line_token.alts x in
    subst P (sym same) (plainly _ (47 ∷ 47 ∷ w) refl
    (MatchesSeq.by_next (LexerTerm.literal slash) (LexerSeq.next rest LexerSeq.done) slash w (Matches.by_literal slash)
    (last_term rest w (Matches.by_star (LexerTerm.set line_chars) w (many line_chars w others)))))

-- a string of one character
string_of : (c : ℕ) → has plain_chars c ≡ true → MatchesRule R str_token.alts (34 ∷ c ∷ 34 ∷ [])
string_of c h =
    let quote : LexerTerm = LexerTerm.literal (codes "\"") in
    let part : Matches R string_part (c ∷ []) =
    Matches.by_block _ (c ∷ []) (MatchesAlts.by_first (LexerSeq.next (LexerTerm.set plain_chars) LexerSeq.done) _ (c ∷ [])
    (last_term (LexerTerm.set plain_chars) (c ∷ []) (Matches.by_set plain_chars c h))) in
    let parts : MatchesMany R string_part (c ∷ []) = MatchesMany.by_more string_part (c ∷ []) [] part (MatchesMany.by_end string_part) in
    plainly _ (34 ∷ c ∷ 34 ∷ []) refl
    (MatchesSeq.by_next quote (LexerSeq.next (LexerTerm.star string_part) (LexerSeq.next quote LexerSeq.done)) (34 ∷ []) (c ∷ 34 ∷ [])
    (Matches.by_literal (34 ∷ []))
    (MatchesSeq.by_next (LexerTerm.star string_part) (LexerSeq.next quote LexerSeq.done) (c ∷ []) (34 ∷ []) (Matches.by_star string_part (c ∷ []) parts)
    (last_term quote (34 ∷ []) (Matches.by_literal (34 ∷ [])))))

s_is_plain : has plain_chars 115 ≡ true
unfolding in_ranges in_range
s_is_plain = refl

z_is_plain : has plain_chars 90 ≡ true
unfolding in_ranges in_range
z_is_plain = refl

string_matches : (w : List ℕ) → is_string w ≡ true → MatchesRule R str_token.alts w
string_matches w h =
    let P : List ℕ → Type 0 = λ x. MatchesRule R str_token.alts x in
    elim (or_parts (bytes_eq w (codes "\"s\"")) (bytes_eq w (codes "\"Z\"")) h) [
      | inl e ↦ subst P (sym ((bytes_eq-Decides w (codes "\"s\"")).0 e)) (string_of 115 s_is_plain)
      | inr e ↦ subst P (sym ((bytes_eq-Decides w (codes "\"Z\"")).0 e)) (string_of 90 z_is_plain)
    ]

-- no proper beginning of a text is matched
abbrev no_early : List LexerSeq → List ℕ → Bool
no_early ks [] = true
no_early ks (c ∷ w) = not (accepts ks) && no_early (moved c ks) w

never_early : (ks : List LexerSeq) (u : List ℕ) (c : ℕ) (v : List ℕ) → no_early ks (u ++ (c ∷ v)) ≡ true → accepts (run ks u) ≡ true → ⊥
never_early ks [] c v h a = not_both (accepts ks) (and_parts (not (accepts ks)) (no_early (moved c ks) v) h).0 a
never_early ks (d ∷ u) c v h a = never_early (moved d ks) u c v (and_parts (not (accepts ks)) (no_early (moved d ks) (u ++ (c ∷ v))) h).1 a

abbrev comment_seq : LexerSeq
comment_seq =
    LexerSeq.next (LexerTerm.literal (codes "/*")) (LexerSeq.next (LexerTerm.short all_chars) (LexerSeq.next (LexerTerm.literal (codes "*/")) LexerSeq.done))

note_is_short : no_early (comment_seq ∷ []) note ≡ true
unfolding in_ranges in_range
note_is_short = refl

note_inside : all_in all_chars (codes " note ") ≡ true
unfolding in_ranges in_range
note_inside = refl

note_seq : MatchesSeq R comment_seq note
note_seq =
    let inner : LexerSeq = LexerSeq.next (LexerTerm.literal (codes "*/")) LexerSeq.done in
    MatchesSeq.by_next (LexerTerm.literal (codes "/*")) (LexerSeq.next (LexerTerm.short all_chars) inner) (codes "/*") (codes " note */")
    (Matches.by_literal (codes "/*"))
    (MatchesSeq.by_next (LexerTerm.short all_chars) inner (codes " note ") (codes "*/")
    (Matches.by_short all_chars (codes " note ") (many all_chars (codes " note ") note_inside))
    (last_term (LexerTerm.literal (codes "*/")) (codes "*/") (Matches.by_literal (codes "*/"))))

note_matches : MatchesRule R comment_token.alts note
note_matches = MatchesRule.by_first comment_seq LexerAlts.none note (record { greedily = note_seq; shortest = λ short u v e m. shortest u v e m })
  where
    shortest : (u v : List ℕ) → note ≡ u ++ v → MatchesSeq R comment_seq u → v ≡ []
    shortest u [] e m = refl
    shortest u (c ∷ v) e m =
        let P : List ℕ → Type 0 = λ x. Any R (comment_seq ∷ []) x in
        let any : Any R (run (comment_seq ∷ []) u) [] = any_run R (comment_seq ∷ []) u [] refl (subst P (sym (append-nil u)) (Any.here comment_seq [] u m)) in
        absurd (never_early (comment_seq ∷ []) u c v (ap (no_early (comment_seq ∷ [])) (sym e) ∙ note_is_short)
        (any_accepts R (run (comment_seq ∷ []) u) (run_nameless (comment_seq ∷ []) u refl) any))

comment_matches : (w : List ℕ) → bytes_eq w note ≡ true → MatchesRule R comment_token.alts w
comment_matches w e = let P : List ℕ → Type 0 = λ x. MatchesRule R comment_token.alts x in subst P (sym ((bytes_eq-Decides w note).0 e)) note_matches

-- at the index of a rule, what it matches is matched
abbrev MatchedAt : ℕ → List ℕ → Type 0
MatchedAt place w = AtLexerRule mini place (λ rule. MatchesRule R rule.alts w)

module _ (place : ℕ) (w : List ℕ) where
  at : (i : ℕ) → nat_eq place i ≡ true → MatchedAt i w → MatchedAt place w
  at i e m = subst (λ x. MatchedAt x w) (sym (eqb-true place i e)) m

  -- a choice by a test
  by_test : (b : Bool) (x y : Bool) → cond b x y ≡ true → ((b ≡ true) × (x ≡ true)) ⊎ (y ≡ true)
  by_test true x y h = inl (refl, h)
  by_test false x y h = inr h

  written_matches : spelled_by (Source.written place) [] w ≡ true → MatchedAt place w
  written_matches h = elim (by_test (nat_eq place 7) _ _ h) [
    | inl it ↦ at 7 it.0 (id_token, refl, word_matches w it.1)
    | inr h ↦ elim (by_test (nat_eq place 8) _ _ h) [
      | inl it ↦ at 8 it.0 (int_token, refl, some_matches digits w it.1)
      | inr h ↦ elim (by_test (nat_eq place 9) _ _ h) [
        | inl it ↦ at 9 it.0 (str_token, refl, string_matches w it.1)
        | inr h ↦ elim (by_test (nat_eq place 10) _ _ h) [
          | inl it ↦ at 10 it.0 (comment_token, refl, comment_matches w it.1)
          | inr h ↦ elim (by_test (nat_eq place 11) _ _ h) [
            | inl it ↦ at 11 it.0 (line_token, refl, line_matches w it.1)
            | inr h ↦ elim (by_test (nat_eq place 12) _ _ h) [
              | inl it ↦ at 12 it.0 (blank_token, refl, some_matches blanks w it.1)
              | inr h ↦ absurd (true≢false (sym h))
            ]
          ]
        ]
      ]
    ]
  ]

source_matches : (source : Source) (name w : List ℕ) → spelled_by source name w ≡ true → SourceMatches mini source name w
source_matches Source.implicit name w h = (bytes_eq-Decides w name).0 h
source_matches (Source.written place) name w h = written_matches place w h
source_matches Source.declared name w h = absurd (true≢false (sym h))

pub spelled_matches : (k : ℕ) (w : List ℕ) → spelled k w ≡ true → KindMatches mini k w
spelled_matches k w h = pick (slice_get mini_kinds k) refl h
  where
    pick : (o : Option TokenKind) → slice_get mini_kinds k ≡ o → spelled_as o w ≡ true → KindMatches mini k w
    pick None is h = absurd (true≢false (sym h))
    pick (Some kind) is h = (kind, ap (λ l. slice_get l k) kinds_mini ∙ is, source_matches kind.source kind.name w h)

-- no comment goes on after the note
pub note_ends : (c : ℕ) (more : List ℕ) → KindMatches mini 20 (note ++ (c ∷ more)) → ⊥
note_ends c more (kind, is, m) =
    let here : Some (record { name = codes "COMMENT"; gap = true; source = Source.written 10 }) ≡ Some kind = ap (λ l. slice_get l 20) (sym kinds_mini) ∙ is in
    let same : kind ≡ record { name = codes "COMMENT"; gap = true; source = Source.written 10 } = cc in
    at_rule (subst (λ (x : TokenKind). SourceMatches mini x.source x.name (note ++ (c ∷ more))) same m)
  where
    in_rule : (a : LexerAlts) → a ≡ LexerAlts.or comment_seq LexerAlts.none → MatchesRule R a (note ++ (c ∷ more)) → ⊥
    in_rule _ e (MatchesRule.by_first s a w m) =
        let same : s ≡ comment_seq = cc in
        let end : c ∷ more ≡ [] = (subst (λ x. MatchesAlternative R x (note ++ (c ∷ more))) same m).shortest refl note (c ∷ more) refl note_seq in cc
    in_rule _ e (MatchesRule.by_later s a w m) =
        let same : a ≡ LexerAlts.none = cc in elim (subst (λ x. MatchesRule R x (note ++ (c ∷ more))) same m) [ ]

    at_rule : MatchedAt 10 (note ++ (c ∷ more)) → ⊥
    at_rule (rule, is, m) =
        let here : Some (WrittenRule.lexer_rule comment_token) ≡ Some (WrittenRule.lexer_rule rule) = is in
        let same : rule ≡ comment_token = cc in in_rule rule.alts (ap (λ (x : LexerRule). x.alts) same) m
