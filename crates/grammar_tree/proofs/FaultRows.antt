-- A small grammar for each fault that has it.
use Rattle.std.proofs.Common.{◌≡◌, ℕ, zero, suc, Bool, true, false, List, [], ◌∷◌, None, refl, sym, ap, arith, subst, inl, inr, true≢false}
use Rattle.std.proofs.lemmas.Option.{same_Some}
use Rattle.std.specs.List.{Contains}
use Rattle.grammar_tree.specs.Written.{WrittenTerm, WrittenSeq, WrittenAlts, LexerTerm, LexerSeq, LexerAlts, LexerRule, WrittenRule, WrittenGrammar}
use Rattle.grammar_tree.specs.Kinds.{kinds_of}
use Rattle.grammar_tree.specs.Matches.{Matches, MatchesAlts, MatchesMany, MatchesSeq, MatchesRule}
use Rattle.grammar_tree.specs.Derives.{Alts, Derives, DerivesAlts, DerivesSeq, Seq, Term, bodies, resolved_seq}
use Rattle.grammar_tree.specs.Corners.{BeginsAlts, HasEmptyLoopAlts, IsLeftCorner, LeadsTo, bases, rests, normal_count, seq_new_rules}
use Rattle.grammar_tree.specs.Faults.{NoStart, TooManyRules, Uses, UsesThrough}
use Rattle.grammar_tree.specs.Laws.{EachFaultCanHold}

abbrev a : List ℕ
a = 97 ∷ []

abbrev b : List ℕ
b = 98 ∷ []

abbrev A : List ℕ
A = 65 ∷ []

abbrev B : List ℕ
B = 66 ∷ []

abbrev x : WrittenTerm
x = WrittenTerm.literal (120 ∷ [])

abbrev only : WrittenTerm → WrittenSeq
only t = WrittenSeq.next t WrittenSeq.done

abbrev either : WrittenSeq → WrittenSeq → WrittenAlts
either s t = WrittenAlts.or s (WrittenAlts.or t WrittenAlts.none)

abbrev parser : List ℕ → WrittenAlts → WrittenRule
parser n alts = WrittenRule.parser_rule (record { name = n; alts = alts })

abbrev just : WrittenSeq → WrittenAlts
just s = WrittenAlts.or s WrittenAlts.none

abbrev lexer : List ℕ → Bool → LexerSeq → WrittenRule
lexer n fragment s = WrittenRule.lexer_rule (record { name = n; fragment = fragment; gap = false; alts = LexerAlts.or s LexerAlts.none })

abbrev y : LexerTerm
y = LexerTerm.literal (121 ∷ [])

abbrev grammar : List WrittenRule → WrittenGrammar
grammar rules = record { name = 71 ∷ []; tokens = []; rules = rules }

-- a : 'x' ; a : 'x' ;
abbrev Twice : WrittenGrammar
Twice = grammar (parser a (just (only x)) ∷ parser a (just (only x)) ∷ [])

-- a : b ;
abbrev Unknown : WrittenGrammar
Unknown = grammar (parser a (just (only (WrittenTerm.name b))) ∷ [])

-- A : B ;
abbrev UnknownFragment : WrittenGrammar
UnknownFragment = grammar (lexer A false (LexerSeq.next (LexerTerm.name B) LexerSeq.done) ∷ [])

-- a : EOF 'x' ;
abbrev EofFirst : WrittenGrammar
EofFirst = grammar (parser a (just (WrittenSeq.next WrittenTerm.eof (only x))) ∷ [])

-- a : b ; b : EOF ;
abbrev EofWithin : WrittenGrammar
EofWithin = grammar (parser a (just (only (WrittenTerm.name b))) ∷ parser b (just (only WrittenTerm.eof)) ∷ [])

-- A : B ; fragment B : 'y' B ;
abbrev Loop : WrittenGrammar
Loop =
    grammar (lexer A false (LexerSeq.next (LexerTerm.name B) LexerSeq.done) ∷ lexer B true
    (LexerSeq.next y (LexerSeq.next (LexerTerm.name B) LexerSeq.done)) ∷ [])

loop_uses : Uses Loop B B
loop_uses =
    record {
      rule =
          record {
            name = B;
            fragment = true;
            gap = false;
            alts = LexerAlts.or (LexerSeq.next y (LexerSeq.next (LexerTerm.name B) LexerSeq.done)) LexerAlts.none;
          };
      of_grammar = (1, omega arith, refl);
      named = refl;
      uses = (0, omega arith, refl);
    }

-- A : 'y' .*? 'y' ; B : A ;
abbrev Short : WrittenGrammar
Short =
    grammar (lexer A false (LexerSeq.next y (LexerSeq.next (LexerTerm.short []) (LexerSeq.next y LexerSeq.done))) ∷ lexer B false
    (LexerSeq.next (LexerTerm.name A) LexerSeq.done) ∷ [])

short_uses : Uses Short B A
short_uses =
    record {
      rule = record { name = B; fragment = false; gap = false; alts = LexerAlts.or (LexerSeq.next (LexerTerm.name A) LexerSeq.done) LexerAlts.none };
      of_grammar = (1, omega arith, refl);
      named = refl;
      uses = (0, omega arith, refl);
    }

abbrev head : List ℕ → ℕ
head [] = 0
head (k ∷ ks) = k

names_differ : (n m : List ℕ) → (head n ≡ head m → ⊥) → n ≡ m → ⊥
names_differ n m differ e = differ (ap head e)

one_element : (n m : List ℕ) → Contains (n ∷ []) m → n ≡ m
one_element n m (zero, lt, e) = e
one_element n m (suc k, lt, e) = absurd (omega (arith, lt))

-- A : 'y'* ;
abbrev Empty : WrittenGrammar
Empty = grammar (lexer A false (LexerSeq.next (LexerTerm.star y) LexerSeq.done) ∷ [])

-- a : a 'x' ;
abbrev Baseless : WrittenGrammar
Baseless = grammar (parser a (just (WrittenSeq.next (WrittenTerm.name a) (only x))) ∷ [])

-- a : ('x'?)* ;
abbrev EmptyStar : WrittenGrammar
EmptyStar = grammar (parser a (just (only (WrittenTerm.star (WrittenTerm.block (just (only (WrittenTerm.opt x))))))) ∷ [])

-- a : a b | 'x' ; b : 'x'? ;
abbrev EmptyRest : WrittenGrammar
EmptyRest =
    grammar (parser a (either (WrittenSeq.next (WrittenTerm.name a) (only (WrittenTerm.name b))) (only x)) ∷ parser b (just (only (WrittenTerm.opt x))) ∷ [])

-- A : ('y'?)* ;
abbrev EmptyLexerStar : WrittenGrammar
EmptyLexerStar =
    grammar
    (lexer A true (LexerSeq.next (LexerTerm.star (LexerTerm.block (LexerAlts.or (LexerSeq.next (LexerTerm.opt y) LexerSeq.done) LexerAlts.none))) LexerSeq.done)
    ∷ [])

-- a : b ; b : a | 'x' ;
abbrev Indirect : WrittenGrammar
Indirect = grammar (parser a (just (only (WrittenTerm.name b))) ∷ parser b (either (only (WrittenTerm.name a)) (only x)) ∷ [])

-- a : b a | 'x' ; b : 'x'? ;
abbrev Hidden : WrittenGrammar
Hidden =
    grammar (parser a (either (WrittenSeq.next (WrittenTerm.name b) (only (WrittenTerm.name a))) (only x)) ∷ parser b (just (only (WrittenTerm.opt x))) ∷ [])

-- n times (.)
blocks : ℕ → WrittenSeq
blocks zero = WrittenSeq.done
blocks (suc n) = WrittenSeq.next (WrittenTerm.block (just (only WrittenTerm.any))) (blocks n)

-- a : (.) (.) .. ;
many : ℕ → WrittenGrammar
many n = grammar (parser a (just (blocks n)) ∷ [])

blocks_count : (G : WrittenGrammar) (n : ℕ) → seq_new_rules (resolved_seq G (blocks n)) ≡ n
unfolding blocks
blocks_count G zero = refl
blocks_count G (suc n) = omega (arith, blocks_count G n)

many_count : (n : ℕ) → normal_count (bodies (many (suc n))) ≡ suc (suc n)
unfolding many blocks
many_count n = omega (arith, blocks_count (many (suc n)) n)

too_many : TooManyRules (many 65535) 65536
too_many = (sym (many_count 65534), omega arith)

-- 'x'? in b can be empty
opt_is_empty : (G : List Alts) (t : Term) → DerivesAlts G (Alts.or (Seq.next (Term.opt t) Seq.done) Alts.none) []
opt_is_empty G t =
    DerivesAlts.by_first (Seq.next (Term.opt t) Seq.done) Alts.none [] (DerivesSeq.by_next (Term.opt t) Seq.done [] [] (Derives.by_absent t) DerivesSeq.by_done)

-- the alternatives of the rules, resolved: 'x' is the kind 0
abbrev opt_x : Alts
opt_x = Alts.or (Seq.next (Term.opt (Term.kind 0)) Seq.done) Alts.none

abbrev just_x : Alts
just_x = Alts.or (Seq.next (Term.kind 0) Seq.done) Alts.none

abbrev hidden_a : Alts
hidden_a = Alts.or (Seq.next (Term.rule 1) (Seq.next (Term.rule 0) Seq.done)) just_x

b_is_empty : Derives (hidden_a ∷ opt_x ∷ []) (Term.rule 1) []
b_is_empty = Derives.by_rule 1 opt_x [] refl (opt_is_empty (hidden_a ∷ opt_x ∷ []) (Term.kind 0))

hidden_corner : IsLeftCorner (hidden_a ∷ opt_x ∷ []) 0 0
hidden_corner = IsLeftCorner.in_base hidden_a refl (inl (inr (b_is_empty, inl refl)))

abbrev indirect_a : Alts
indirect_a = Alts.or (Seq.next (Term.rule 1) Seq.done) Alts.none

abbrev indirect : List Alts
indirect = indirect_a ∷ Alts.or (Seq.next (Term.rule 0) Seq.done) just_x ∷ []

indirect_loop : LeadsTo indirect 0 0
indirect_loop = LeadsTo.by_corners 0 1 0 (IsLeftCorner.in_base _ refl (inl (inl refl))) (LeadsTo.by_corner 1 0 (IsLeftCorner.in_base _ refl (inl (inl refl))))

abbrev empty_rest_a : Alts
empty_rest_a = Alts.or (Seq.next (Term.rule 0) (Seq.next (Term.rule 1) Seq.done)) just_x

rest_is_empty : DerivesAlts (empty_rest_a ∷ opt_x ∷ []) (Alts.or (Seq.next (Term.rule 1) Seq.done) Alts.none) []
rest_is_empty =
    DerivesAlts.by_first (Seq.next (Term.rule 1) Seq.done) Alts.none [] (DerivesSeq.by_next (Term.rule 1) Seq.done [] []
    (Derives.by_rule 1 opt_x [] refl (opt_is_empty (empty_rest_a ∷ opt_x ∷ []) (Term.kind 0))) DerivesSeq.by_done)

abbrev star_y : LexerSeq
star_y = LexerSeq.next (LexerTerm.star y) LexerSeq.done

star_is_empty : (G : List LexerRule) → MatchesRule G (LexerAlts.or star_y LexerAlts.none) []
star_is_empty G =
    let greedily = MatchesSeq.by_next (LexerTerm.star y) LexerSeq.done [] [] (Matches.by_star y [] (MatchesMany.by_end y)) MatchesSeq.by_done in
    MatchesRule.by_first star_y LexerAlts.none [] (record { greedily = greedily; shortest = λ short. absurd (true≢false (sym short)) })

abbrev opt_y : LexerSeq
opt_y = LexerSeq.next (LexerTerm.opt y) LexerSeq.done

opt_block_is_empty : (G : List LexerRule) → Matches G (LexerTerm.block (LexerAlts.or opt_y LexerAlts.none)) []
opt_block_is_empty G =
    Matches.by_block (LexerAlts.or opt_y LexerAlts.none) []
    (MatchesAlts.by_first opt_y LexerAlts.none [] (MatchesSeq.by_next (LexerTerm.opt y) LexerSeq.done [] [] (Matches.by_absent y) MatchesSeq.by_done))

no_loop : HasEmptyLoopAlts (empty_rest_a ∷ opt_x ∷ []) empty_rest_a → ⊥
no_loop (inl (inl c)) = c
no_loop (inl (inr (inl c))) = c
no_loop (inl (inr (inr c))) = c
no_loop (inr (inl (inl c))) = c
no_loop (inr (inl (inr c))) = c
no_loop (inr (inr c)) = c

not_in_base : BeginsAlts indirect 0 indirect_a → ⊥
not_in_base (inl (inl e)) = omega (arith, e)
not_in_base (inl (inr (_, c))) = c
not_in_base (inr c) = c

not_own_corner : IsLeftCorner indirect 0 0 → ⊥
not_own_corner (IsLeftCorner.in_base alts e begins) = not_in_base (subst (λ z. BeginsAlts indirect 0 (bases 0 z)) (sym (same_Some indirect_a alts e)) begins)
not_own_corner (IsLeftCorner.in_rest alts e empty begins) = subst (λ z. BeginsAlts indirect 0 (rests 0 z)) (sym (same_Some indirect_a alts e)) begins

pub each_fault_can_hold : EachFaultCanHold
unfolding kinds_of
each_fault_can_hold =
    record {
      two_rules = (Twice, a, omega arith);
      no_rule = (
        Unknown,
        b,
        (0, omega arith, refl),
        record {
          no_parser_rule = λ c. names_differ a b (λ e. omega (arith, e)) (one_element a b c);
          no_token_rule = λ c. omega (arith, c.1);
          no_token = λ c. omega (arith, c.1);
        },
      );
      no_lexer_rule = (UnknownFragment, B, (0, omega arith, refl), λ c. names_differ A B (λ e. omega (arith, e)) (one_element A B c));
      no_parser_rule = (UnknownFragment, None, refl, NoStart.no_parser_rule None refl);
      no_start = (Unknown, b, (λ e. absurd cc), NoStart.not_there b (λ e. absurd cc) (λ c. names_differ a b (λ e. omega (arith, e)) (one_element a b c)));
      eof_first = (EofFirst, 0, (_, refl, inl refl));
      eof_within = (EofWithin, 0, 1, (_, refl, refl), (_, refl, inr (refl, (λ e. omega (arith, e)), (0, omega arith, refl))));
      fragment_loop = (Loop, 1, (_, refl, UsesThrough.directly B B loop_uses));
      short_use = (Short, 0, (_, refl, (refl, (B, names_differ B A (λ e. omega (arith, e)), short_uses))));
      empty_token = (Empty, 0, (_, refl, (refl, star_is_empty _)));
      no_base = (Baseless, 0, (_, refl, refl));
      empty_star = (EmptyStar, 0, (_, refl, refl), inl (_, refl, inl (inl (inl (inl (Derives.by_block opt_x [] (opt_is_empty _ (Term.kind 0))))))));
      empty_rest = (EmptyRest, 0, (_, refl, no_loop), inl (_, refl, inr rest_is_empty));
      empty_lexer_star = (EmptyLexerStar, 0, (_, refl, tt), inr (_, refl, inl (inl (inl (opt_block_is_empty _)))));
      left_recursion = (Indirect, 0, not_own_corner, (_, refl, indirect_loop));
      hidden_left_recursion = (Hidden, 0, hidden_corner, (_, refl, LeadsTo.by_corner 0 0 hidden_corner));
      too_many_rules = (many 65535, 65536, too_many);
    }
