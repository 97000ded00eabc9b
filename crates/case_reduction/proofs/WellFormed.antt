-- Mini is well-formed.
use Rattle.std.proofs.Common.{◌≡◌, inl, inr, ℕ, zero, suc, ◌+◌, ◌<◌, ◌≤◌, Bool, true, false, ◌&&◌, ◌||◌, not, cond, List, [], ◌∷◌}
use Rattle.std.proofs.Common.{map, filter, Some, slice_get, refl, sym, ap, ◌∙◌, subst, arith, true≢false}
use Rattle.std.specs.Prelude.{count_by}
use Rattle.std.specs.List.{Contains}
use Rattle.std.proofs.lemmas.Bool.{and_parts}
use Rattle.std.proofs.lemmas.List.Sums.{sum_by-cons}
use Rattle.std.proofs.lemmas.Slice.Eq.{bytes_eq-Decides}
use Rattle.grammar_tree.specs.Written.{LexerTerm, LexerSeq, LexerAlts, LexerRule, ParserRule, WrittenRule}
use Rattle.grammar_tree.specs.Kinds.{lexer_rules, parser_rules, rule_name, same_text}
use Rattle.grammar_tree.specs.Matches.{Matches}
use Rattle.grammar_tree.specs.Derives.{Alts, DerivesAlts, resolved_alts}
use Rattle.grammar_tree.specs.Corners.{HasEmptyLoopAlts, IsLeftCorner, LeadsTo, bases, normal_count, rests}
use Rattle.grammar_tree.specs.Faults.{EmptyLoop, EmptyToken, EofPlace, FragmentLoop, IsUnknown, IsWellFormed, LeftRecursion, LexerHasEmptyLoop}
use Rattle.grammar_tree.specs.Faults.{LexerHasEmptyLoopAlts, LexerHasEmptyLoopSeq, NameUse, NoBase, NoRule, ShortUse, TooManyRules, TwoRules, Uses}
use Rattle.grammar_tree.specs.Faults.{UsesThrough, any_has_eof, is_misplaced, name_uses, number_at, used_names}
use Rattle.grammar_tree.proofs.Lent.{contains_at, contains_later, lexer_places, numbers}
use Rattle.case_reduction.specs.Mini.{mini}
use Rattle.case_reduction.proofs.Tests.{neither, not_both, not_false, or_parts}
use Rattle.case_reduction.proofs.Threads.{accepts, all_nameless, any_accepts, empty, empty_found, nameless}
use Rattle.case_reduction.proofs.Scan.{rule_any, threads}
use Rattle.case_reduction.proofs.MiniKinds.{bodies_mini, mini_bodies}
use Rattle.case_reduction.proofs.Emptiness.{below_alts, empty_alts as empties, first_below_alts, flags_hold, implied, implies}
use Rattle.case_reduction.proofs.Emptiness.{loops_fill_alts, may_empty_alts, no_loop_alts, rule_fits, rules_fit, some_alts}

abbrev R : List LexerRule
R = lexer_rules mini.rules

-- Of the parser rules only `file` can be empty, and left corners lead from higher to lower rank.
abbrev flags : List Bool
flags = true ∷ false ∷ false ∷ false ∷ false ∷ false ∷ false ∷ []

abbrev rank : ℕ → ℕ
rank zero = 2
rank (suc zero) = 1
rank (suc (suc zero)) = 1
rank (suc (suc (suc zero))) = 0
rank (suc (suc (suc (suc zero)))) = 0
rank (suc (suc (suc (suc (suc zero))))) = 1
rank (suc (suc (suc (suc (suc (suc r)))))) = 0

holds : flags_hold flags flags mini_bodies ≡ true
holds = refl

fit : rules_fit flags rank 0 mini_bodies ≡ true
fit = refl

-- what fits at a number
record Fits (r : ℕ) (a : Alts) : Type 0 where
  base : some_alts (bases r a) ≡ true
  loops : loops_fill_alts flags a ≡ true
  rest : not (may_empty_alts flags (rests r a)) ≡ true
  first : first_below_alts flags rank (rank r) (bases r a) ≡ true
  later : implies (may_empty_alts flags (bases r a)) (first_below_alts flags rank (rank r) (rests r a)) ≡ true

fits : (r : ℕ) (a : Alts) → rule_fits flags rank r a ≡ true → Fits r a
fits r a h =
    let (one, h) = and_parts (some_alts (bases r a)) _ h in
    let (two, h) = and_parts (loops_fill_alts flags a) _ h in
    let (three, h) = and_parts (not (may_empty_alts flags (rests r a))) _ h in
    let (four, five) = and_parts (first_below_alts flags rank (rank r) (bases r a)) _ h in
    record { base = one; loops = two; rest = three; first = four; later = five }

fits_at : (G : List Alts) (first i r : ℕ) (a : Alts) → first + i ≡ r → rules_fit flags rank first G ≡ true → slice_get G i ≡ Some a → Fits r a
fits_at [] first i r a e h is = cc is
fits_at (b ∷ G) first zero r a e h is =
    let same : b ≡ a = cc in
    let number : first ≡ r = omega (arith, e) in
    fits r a (subst (λ x. rule_fits flags rank r x ≡ true) same
    (subst (λ x. rule_fits flags rank x b ≡ true) number (and_parts (rule_fits flags rank first b) (rules_fit flags rank (suc first) G) h).0))
fits_at (b ∷ G) first (suc i) r a e h is =
    fits_at G (suc first) i r a (omega (arith, e)) (and_parts (rule_fits flags rank first b) (rules_fit flags rank (suc first) G) h).1 is

-- a body of a parser rule, and what fits of it
record Body (i : ℕ) (rule : ParserRule) : Type 0 where
  at : slice_get mini_bodies (number_at mini i) ≡ Some (resolved_alts mini rule.alts)
  it : Fits (number_at mini i) (resolved_alts mini rule.alts)

body : (i : ℕ) (rule : ParserRule) → slice_get mini.rules i ≡ Some (WrittenRule.parser_rule rule) → Body i rule
body i rule is =
    let at : slice_get mini_bodies (number_at mini i) ≡ Some (resolved_alts mini rule.alts) =
    ap (λ l. slice_get l (number_at mini i)) (sym bodies_mini) ∙ (numbers mini).body i rule is in
    record { at = at; it = fits_at mini_bodies 0 (number_at mini i) (number_at mini i) (resolved_alts mini rule.alts) (omega arith) fit at }

has_bases : (i : ℕ) → ¬ NoBase mini i
has_bases i (rule, is, none) = true≢false (sym (body i rule is).it.base ∙ ap some_alts none)

corner : (r q : ℕ) → IsLeftCorner mini_bodies r q → rank q < rank r
corner r q (IsLeftCorner.in_base a is b) =
    below_alts flags mini_bodies holds rank (rank r) q (bases r a) (fits_at mini_bodies 0 r r a (omega arith) fit is).first b
corner r q (IsLeftCorner.in_rest a is m b) =
    let it : Fits r a = fits_at mini_bodies 0 r r a (omega arith) fit is in
    let empty : may_empty_alts flags (bases r a) ≡ true = empties flags mini_bodies holds (bases r a) [] m refl in
    below_alts flags mini_bodies holds rank (rank r) q (rests r a)
    (implied (may_empty_alts flags (bases r a)) (first_below_alts flags rank (rank r) (rests r a)) it.later empty) b

corners : (r q : ℕ) → LeadsTo mini_bodies r q → rank q < rank r
corners _ _ (LeadsTo.by_corner r q c) = corner r q c
corners _ _ (LeadsTo.by_corners r m q c l) = omega (arith, corner r m c, corners m q l)

no_left_recursion : (i : ℕ) → ¬ LeftRecursion mini i
no_left_recursion i (rule, is, leads) =
    let n : ℕ = number_at mini i in
    let lower : rank n < rank n = corners n n (subst (λ x. LeadsTo x n n) bodies_mini leads) in absurd (omega (arith, lower))

few_rules : (count : ℕ) → ¬ TooManyRules mini count
few_rules count (is, many) = absurd (omega (arith, is ∙ ap normal_count bodies_mini, many))

-- lexer rules: no names, no loop over the empty text, and not the empty text
abbrev mutual
  lex_loops : LexerTerm → Bool
  lex_loops (LexerTerm.literal t) = true
  lex_loops (LexerTerm.set s) = true
  lex_loops (LexerTerm.name n) = true
  lex_loops (LexerTerm.block a) = lex_loops_alts a
  lex_loops (LexerTerm.opt t) = lex_loops t
  lex_loops (LexerTerm.star t) = (nameless t && not (empty t)) && lex_loops t
  lex_loops (LexerTerm.plus t) = (nameless t && not (empty t)) && lex_loops t
  lex_loops (LexerTerm.short s) = true

  lex_loops_seq : LexerSeq → Bool
  lex_loops_seq LexerSeq.done = true
  lex_loops_seq (LexerSeq.next t s) = lex_loops t && lex_loops_seq s

  lex_loops_alts : LexerAlts → Bool
  lex_loops_alts LexerAlts.none = true
  lex_loops_alts (LexerAlts.or s a) = lex_loops_seq s && lex_loops_alts a

filled : (t : LexerTerm) → (nameless t && not (empty t)) ≡ true → Matches R t [] → ⊥
filled t h m = let (named, some) = and_parts (nameless t) (not (empty t)) h in not_both (empty t) some (empty_found R t [] m named refl)

mutual
  no_lex_loop : (t : LexerTerm) → lex_loops t ≡ true → LexerHasEmptyLoop R t → ⊥
  no_lex_loop (LexerTerm.literal t) h l = absurd l
  no_lex_loop (LexerTerm.set s) h l = absurd l
  no_lex_loop (LexerTerm.name n) h l = absurd l
  no_lex_loop (LexerTerm.block a) h l = no_lex_loop_alts a h l
  no_lex_loop (LexerTerm.opt t) h l = no_lex_loop t h l
  no_lex_loop (LexerTerm.star t) h (inl m) = filled t (and_parts (nameless t && not (empty t)) (lex_loops t) h).0 m
  no_lex_loop (LexerTerm.star t) h (inr l) = no_lex_loop t (and_parts (nameless t && not (empty t)) (lex_loops t) h).1 l
  no_lex_loop (LexerTerm.plus t) h (inl m) = filled t (and_parts (nameless t && not (empty t)) (lex_loops t) h).0 m
  no_lex_loop (LexerTerm.plus t) h (inr l) = no_lex_loop t (and_parts (nameless t && not (empty t)) (lex_loops t) h).1 l
  no_lex_loop (LexerTerm.short s) h l = absurd l

  no_lex_loop_seq : (s : LexerSeq) → lex_loops_seq s ≡ true → LexerHasEmptyLoopSeq R s → ⊥
  no_lex_loop_seq LexerSeq.done h l = absurd l
  no_lex_loop_seq (LexerSeq.next t s) h (inl l) = no_lex_loop t (and_parts (lex_loops t) (lex_loops_seq s) h).0 l
  no_lex_loop_seq (LexerSeq.next t s) h (inr l) = no_lex_loop_seq s (and_parts (lex_loops t) (lex_loops_seq s) h).1 l

  no_lex_loop_alts : (a : LexerAlts) → lex_loops_alts a ≡ true → LexerHasEmptyLoopAlts R a → ⊥
  no_lex_loop_alts LexerAlts.none h l = absurd l
  no_lex_loop_alts (LexerAlts.or s a) h (inl l) = no_lex_loop_seq s (and_parts (lex_loops_seq s) (lex_loops_alts a) h).0 l
  no_lex_loop_alts (LexerAlts.or s a) h (inr l) = no_lex_loop_alts a (and_parts (lex_loops_seq s) (lex_loops_alts a) h).1 l

abbrev no_names : List (List ℕ) → Bool
no_names [] = true
no_names (n ∷ ns) = false

-- what a lexer rule needs, and what a parser rule does: `EOF` last, if anywhere
abbrev token_fits : LexerRule → Bool
token_fits r = no_names (used_names r.alts) && (lex_loops_alts r.alts && (all_nameless (threads r.alts) && not (accepts (threads r.alts))))

abbrev fits_written : WrittenRule → Bool
fits_written (WrittenRule.parser_rule r) = not (is_misplaced r.alts)
fits_written (WrittenRule.lexer_rule r) = token_fits r

abbrev all_fit : List WrittenRule → Bool
all_fit [] = true
all_fit (r ∷ rules) = fits_written r && all_fit rules

fit_at : (rules : List WrittenRule) (i : ℕ) (r : WrittenRule) → all_fit rules ≡ true → slice_get rules i ≡ Some r → fits_written r ≡ true
fit_at [] i r h is = cc is
fit_at (s ∷ rules) zero r h is = let same : r ≡ s = cc in ap fits_written same ∙ (and_parts (fits_written s) (all_fit rules) h).0
fit_at (s ∷ rules) (suc i) r h is = fit_at rules i r (and_parts (fits_written s) (all_fit rules) h).1 is

rules_are_fit : all_fit mini.rules ≡ true
rules_are_fit = refl

record TokenFits (rule : LexerRule) : Type 0 where
  names : no_names (used_names rule.alts) ≡ true
  loops : lex_loops_alts rule.alts ≡ true
  nameless : all_nameless (threads rule.alts) ≡ true
  filled : not (accepts (threads rule.alts)) ≡ true

token_at : (i : ℕ) (rule : LexerRule) → slice_get mini.rules i ≡ Some (WrittenRule.lexer_rule rule) → TokenFits rule
token_at i rule is =
    let h : token_fits rule ≡ true = fit_at mini.rules i (WrittenRule.lexer_rule rule) rules_are_fit is in
    let (one, h) = and_parts (no_names (used_names rule.alts)) _ h in
    let (two, h) = and_parts (lex_loops_alts rule.alts) _ h in
    let (three, four) = and_parts (all_nameless (threads rule.alts)) _ h in
    record { names = one; loops = two; nameless = three; filled = four }

no_empty_loop : (i : ℕ) → ¬ EmptyLoop mini i
no_empty_loop i (inl (rule, is, inl l)) =
    no_loop_alts flags mini_bodies holds (resolved_alts mini rule.alts) (body i rule is).it.loops
    (subst (λ x. HasEmptyLoopAlts x (resolved_alts mini rule.alts)) bodies_mini l)
no_empty_loop i (inl (rule, is, inr m)) =
    let n : ℕ = number_at mini i in
    let a : Alts = resolved_alts mini rule.alts in
    not_both (may_empty_alts flags (rests n a)) (body i rule is).it.rest
    (empties flags mini_bodies holds (rests n a) [] (subst (λ x. DerivesAlts x (rests n a) []) bodies_mini m) refl)
no_empty_loop i (inr (rule, is, l)) = no_lex_loop_alts rule.alts (token_at i rule is).loops l

no_empty_token : (i : ℕ) → ¬ EmptyToken mini i
no_empty_token i (rule, is, (fragment, m)) =
    let it : TokenFits rule = token_at i rule is in
    not_both (accepts (threads rule.alts)) it.filled (any_accepts R (threads rule.alts) it.nameless (rule_any R rule.alts [] m))

none_in : (ns : List (List ℕ)) (n : List ℕ) → no_names ns ≡ true → Contains ns n → ⊥
none_in [] n h (k, less, e) = absurd (omega (arith, less))
none_in (m ∷ ns) n h c = true≢false (sym h)

no_use : (user used : List ℕ) → Uses mini user used → ⊥
no_use user used u = let (i, is) = lexer_places mini u.rule u.of_grammar in none_in (used_names u.rule.alts) used (token_at i u.rule is).names u.uses

no_use_through : (user used : List ℕ) → UsesThrough mini user used → ⊥
no_use_through _ _ (UsesThrough.directly a b u) = no_use a b u
no_use_through _ _ (UsesThrough.through a b c u more) = no_use a b u

no_fragment_loop : (i : ℕ) → ¬ FragmentLoop mini i
no_fragment_loop i (rule, is, u) = no_use_through rule.name rule.name u

no_short_use : (i : ℕ) → ¬ ShortUse mini i
no_short_use i (rule, is, (short, (user, other, u))) = no_use user rule.name u

-- `EOF` is in the first rule alone
abbrev without_eof : List WrittenRule → Bool
without_eof [] = true
without_eof (WrittenRule.parser_rule r ∷ rules) = not (any_has_eof r.alts) && without_eof rules
without_eof (WrittenRule.lexer_rule r ∷ rules) = without_eof rules

eof_at : (rules : List WrittenRule) (i : ℕ) (r : ParserRule) → without_eof rules ≡ true → slice_get rules i ≡ Some (WrittenRule.parser_rule r)
    → not (any_has_eof r.alts) ≡ true
eof_at [] i r h is = cc is
eof_at (WrittenRule.parser_rule s ∷ rules) zero r h is =
    let same : r ≡ s = cc in ap (λ (x : ParserRule). not (any_has_eof x.alts)) same ∙ (and_parts (not (any_has_eof s.alts)) (without_eof rules) h).0
eof_at (WrittenRule.parser_rule s ∷ rules) (suc i) r h is = eof_at rules i r (and_parts (not (any_has_eof s.alts)) (without_eof rules) h).1 is
eof_at (WrittenRule.lexer_rule s ∷ rules) zero r h is = cc is
eof_at (WrittenRule.lexer_rule s ∷ rules) (suc i) r h is = eof_at rules i r h is

abbrev later : List WrittenRule → List WrittenRule
later [] = []
later (r ∷ rules) = rules

eof_at_ends : (i : ℕ) → ¬ EofPlace mini 0 i
eof_at_ends i (rule, is, inl misplaced) = not_both (is_misplaced rule.alts) (fit_at mini.rules i (WrittenRule.parser_rule rule) rules_are_fit is) misplaced
eof_at_ends zero (rule, is, inr (has, other, used)) = absurd (other refl)
eof_at_ends (suc i) (rule, is, inr (has, other, used)) = not_both (any_has_eof rule.alts) (eof_at (later mini.rules) i rule refl is) has

-- names
abbrev among : List ℕ → List (List ℕ) → Bool
among n [] = false
among n (m ∷ ms) = same_text m n || among n ms

among_contains : (n : List ℕ) (ms : List (List ℕ)) → among n ms ≡ true → Contains ms n
among_contains n [] h = absurd (true≢false (sym h))
among_contains n (m ∷ ms) h = elim (or_parts (same_text m n) (among n ms) h) [
  | inl e ↦ contains_at (m ∷ ms) 0 n (ap Some ((bytes_eq-Decides m n).0 e))
  | inr e ↦ contains_later m ms n (among_contains n ms e)
]

abbrev parser_names : List (List ℕ)
parser_names = map (λ (r : ParserRule). r.name) (parser_rules mini.rules)

abbrev token_names : List (List ℕ)
token_names = map (λ (r : LexerRule). r.name) (filter (λ (r : LexerRule). not r.fragment) (lexer_rules mini.rules))

abbrev is_known : NameUse → Bool
is_known (NameUse.by_parser_rule n) = among n parser_names || among n token_names
is_known (NameUse.by_lexer_rule n) = false

abbrev all_known : List NameUse → Bool
all_known [] = true
all_known (u ∷ us) = is_known u && all_known us

known_at : (us : List NameUse) (i : ℕ) (u : NameUse) → all_known us ≡ true → slice_get us i ≡ Some u → is_known u ≡ true
known_at [] i u h is = cc is
known_at (v ∷ us) zero u h is = let same : u ≡ v = cc in ap is_known same ∙ (and_parts (is_known v) (all_known us) h).0
known_at (v ∷ us) (suc i) u h is = known_at us i u (and_parts (is_known v) (all_known us) h).1 is

not_unknown : (u : NameUse) → is_known u ≡ true → IsUnknown mini u → ⊥
not_unknown (NameUse.by_parser_rule n) h unknown = elim (or_parts (among n parser_names) (among n token_names) h) [
  | inl e ↦ unknown.no_parser_rule (among_contains n parser_names e)
  | inr e ↦ unknown.no_token_rule (among_contains n token_names e)
]
not_unknown (NameUse.by_lexer_rule n) h unknown = true≢false (sym h)

each_name_known : (name : List ℕ) → ¬ NoRule mini name
each_name_known name (i, (it, is, named, unknown)) = not_unknown it (known_at (name_uses mini) i it refl is) unknown

-- no two rules have one name
abbrev distinct : List WrittenRule → Bool
distinct [] = true
distinct (r ∷ rules) = not (among (rule_name r) (map rule_name rules)) && distinct rules

abbrev is_named : List ℕ → WrittenRule → Bool
is_named name rule = same_text (rule_name rule) name

abbrev weight : List ℕ → WrittenRule → ℕ
weight name rule = cond (is_named name rule) 1 0

count_none : (name : List ℕ) (rules : List WrittenRule) → among name (map rule_name rules) ≡ false → count_by (is_named name) rules ≡ 0
count_none name [] h = refl
count_none name (r ∷ rules) h =
    let (one, other) = neither (is_named name r) (among name (map rule_name rules)) h in
    let first : weight name r ≡ 0 = ap (λ b. cond b 1 0) one in
    omega (arith, sum_by-cons (weight name) r rules, first, count_none name rules other)

count_one : (name : List ℕ) (rules : List WrittenRule) → distinct rules ≡ true → count_by (is_named name) rules ≤ 1
count_one name [] h = omega arith
count_one name (r ∷ rules) h =
    pick (is_named name r) refl (count_one name rules (and_parts (not (among (rule_name r) (map rule_name rules))) (distinct rules) h).1)
  where
    apart : not (among (rule_name r) (map rule_name rules)) ≡ true
    apart = (and_parts (not (among (rule_name r) (map rule_name rules))) (distinct rules) h).0

    pick : (b : Bool) → is_named name r ≡ b → count_by (is_named name) rules ≤ 1 → count_by (is_named name) (r ∷ rules) ≤ 1
    pick true e few =
        let same : rule_name r ≡ name = (bytes_eq-Decides (rule_name r) name).0 e in
        let others : among name (map rule_name rules) ≡ false =
        ap (λ n. among n (map rule_name rules)) (sym same) ∙ not_false (among (rule_name r) (map rule_name rules)) apart in
        let first : weight name r ≡ 1 = ap (λ b. cond b 1 0) e in
        omega (arith, sum_by-cons (weight name) r rules, first, count_none name rules others)
    pick false e few =
        let first : weight name r ≡ 0 = ap (λ b. cond b 1 0) e in
        omega (arith, sum_by-cons (weight name) r rules, first, few)

one_rule_a_name : (name : List ℕ) → ¬ TwoRules mini name
one_rule_a_name name two = absurd (omega (arith, two, count_one name mini.rules refl))

-- Mini has no fault.
pub well_formed : IsWellFormed mini 0
well_formed =
    record {
      one_rule_a_name = one_rule_a_name;
      each_name_known = each_name_known;
      has_start = (_, refl, tt);
      eof_at_ends = eof_at_ends;
      no_fragment_loop = no_fragment_loop;
      no_short_use = no_short_use;
      no_empty_token = no_empty_token;
      has_bases = has_bases;
      no_empty_loop = no_empty_loop;
      no_left_recursion = no_left_recursion;
      few_rules = few_rules;
    }
