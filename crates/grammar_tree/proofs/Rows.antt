-- The definitions at small grammars, worked by hand.
use Rattle.std.proofs.Common.{◌≡◌, ℕ, true, false, List, [], ◌∷◌, Some, None, refl, inl}
use Rattle.grammar_tree.specs.Written.{Reference, WrittenTerm, WrittenSeq, WrittenAlts, LexerTerm, LexerSeq, LexerAlts, WrittenRule, WrittenGrammar, Source}
use Rattle.grammar_tree.specs.Kinds.{kinds_of, literal_kind, name_kind, any_kinds, other_kinds}
use Rattle.grammar_tree.specs.Derives.{Term, Seq, Alts, bodies}
use Rattle.grammar_tree.specs.Corners.{IsLeftCorner, bases, group_size, normal_count, rests}
use Rattle.grammar_tree.specs.Faults.{NameUse, is_misplaced_in, name_uses}
use Rattle.grammar_tree.specs.Lexes.{Piece, placed_tokens, tokens_of}

abbrev A : List ℕ
A = 65 ∷ []

abbrev F : List ℕ
F = 70 ∷ []

abbrev T : List ℕ
T = 84 ∷ []

abbrev W : List ℕ
W = 87 ∷ []

abbrev x : List ℕ
x = 120 ∷ []

abbrev y : List ℕ
y = 121 ∷ []

abbrev just : LexerTerm → LexerAlts
just t = LexerAlts.or (LexerSeq.next t LexerSeq.done) LexerAlts.none

abbrev lexer : List ℕ → LexerTerm → WrittenRule
lexer n t = WrittenRule.lexer_rule (record { name = n; fragment = false; gap = false; alts = just t })

-- grammar J; tokens {F, T, T, A} a : 'y' F 'x' 'x' . ~('y' | W) EOF ; fragment F : 'f' ; A : 'x' ; W : ' ' -> skip ;
abbrev J : WrittenGrammar
J = record {
  name = 74 ∷ [];
  tokens = F ∷ T ∷ T ∷ A ∷ [];
  rules =
      WrittenRule.parser_rule (record {
        name = 97 ∷ [];
        alts =
            WrittenAlts.or (WrittenSeq.next (WrittenTerm.literal y)
            (WrittenSeq.next (WrittenTerm.name F) (WrittenSeq.next (WrittenTerm.literal x) (WrittenSeq.next (WrittenTerm.literal x)
            (WrittenSeq.next WrittenTerm.any (WrittenSeq.next (WrittenTerm.but (Reference.literal y ∷ Reference.name W ∷ []))
            (WrittenSeq.next WrittenTerm.eof WrittenSeq.done))))))) WrittenAlts.none;
      })
      ∷ WrittenRule.lexer_rule (record { name = F; fragment = true; gap = false; alts = just (LexerTerm.literal (102 ∷ [])) })
      ∷ lexer A (LexerTerm.literal x)
      ∷ WrittenRule.lexer_rule (record { name = W; fragment = false; gap = true; alts = just (LexerTerm.literal (32 ∷ [])) })
      ∷ [];
}

-- 'y' is implicit, 'x' is A, the fragment's name is a declared token's, T counts once, and A is the rule's
kinds_of_J : kinds_of J ≡
    (record { name = y; gap = false; source = Source.implicit })
    ∷ (record { name = A; gap = false; source = Source.written 2 })
    ∷ (record { name = W; gap = true; source = Source.written 3 })
    ∷ (record { name = F; gap = false; source = Source.declared })
    ∷ (record { name = T; gap = false; source = Source.declared })
    ∷ []
unfolding kinds_of
kinds_of_J = refl

x_is_A : literal_kind J x ≡ Some 1
unfolding kinds_of
x_is_A = refl

y_is_implicit : literal_kind J y ≡ Some 0
unfolding kinds_of
y_is_implicit = refl

z_is_none : literal_kind J (122 ∷ []) ≡ None
unfolding kinds_of
z_is_none = refl

F_is_declared : name_kind J F ≡ Some 3
unfolding kinds_of
F_is_declared = refl

any_of_J : any_kinds J ≡ 0 ∷ 1 ∷ 3 ∷ 4 ∷ []
unfolding kinds_of
any_of_J = refl

but_of_J : other_kinds J (Reference.literal y ∷ Reference.name W ∷ []) ≡ 1 ∷ 3 ∷ 4 ∷ []
unfolding kinds_of
but_of_J = refl

-- grammar U; A : B ; a : c 'x' b ;
abbrev U : WrittenGrammar
U = record {
  name = 85 ∷ [];
  tokens = [];
  rules =
      lexer A (LexerTerm.name (66 ∷ []))
      ∷ WrittenRule.parser_rule (record {
        name = 97 ∷ [];
        alts =
            WrittenAlts.or (WrittenSeq.next (WrittenTerm.name (99 ∷ []))
            (WrittenSeq.next (WrittenTerm.literal x) (WrittenSeq.next (WrittenTerm.name (98 ∷ [])) WrittenSeq.done))) WrittenAlts.none;
      })
      ∷ [];
}

-- the names that are used, in written order
uses_of_U : name_uses U ≡ NameUse.by_lexer_rule (66 ∷ []) ∷ NameUse.by_parser_rule (99 ∷ []) ∷ NameUse.by_parser_rule (98 ∷ []) ∷ []
uses_of_U = refl

-- in J the piece ' ' is gap text, and 'y' before it and é behind it are tokens
pieces : List Piece
pieces = record { kind = 0; text = y } ∷ record { kind = 2; text = 32 ∷ [] } ∷ record { kind = 3; text = 233 ∷ [] } ∷ []

tokens_of_J : tokens_of J pieces ≡ record { kind = 0; text = y } ∷ record { kind = 3; text = 233 ∷ [] } ∷ []
unfolding kinds_of pieces
tokens_of_J = refl

placed_in_J : placed_tokens J 0 pieces ≡ record { kind = 0; start = 0; end = 1 } ∷ record { kind = 3; start = 2; end = 4 } ∷ []
unfolding kinds_of pieces lib.Utf8.encode
placed_in_J = refl

-- EOF before another part is misplaced, and EOF at the end isn't
eof_first : is_misplaced_in (WrittenSeq.next WrittenTerm.eof (WrittenSeq.next WrittenTerm.any WrittenSeq.done)) ≡ true
eof_first = refl

eof_last : is_misplaced_in (WrittenSeq.next WrittenTerm.any (WrittenSeq.next WrittenTerm.eof WrittenSeq.done)) ≡ false
eof_last = refl

eof_twice : is_misplaced_in (WrittenSeq.next WrittenTerm.eof (WrittenSeq.next WrittenTerm.eof WrittenSeq.done)) ≡ true
eof_twice = refl

eof_starred : is_misplaced_in (WrittenSeq.next (WrittenTerm.star WrittenTerm.eof) WrittenSeq.done) ≡ true
eof_starred = refl

-- a well-formed grammar: grammar K; a : 'x' ;
abbrev K : WrittenGrammar
K = record {
  name = 75 ∷ [];
  tokens = [];
  rules =
      WrittenRule.parser_rule (record { name = 97 ∷ []; alts = WrittenAlts.or (WrittenSeq.next (WrittenTerm.literal x) WrittenSeq.done) WrittenAlts.none })
      ∷ [];
}

body_of_K : bodies K ≡ Alts.or (Seq.next (Term.kind 0) Seq.done) Alts.none ∷ []
unfolding kinds_of
body_of_K = refl

count_of_K : normal_count (bodies K) ≡ 1
unfolding kinds_of
count_of_K = refl

-- e : e 'x' | ( e ) | : the first alternative is directly recursive, and the others are bases
abbrev E : Alts
E =
    Alts.or (Seq.next (Term.rule 0) (Seq.next (Term.kind 1) Seq.done))
    (Alts.or (Seq.next (Term.block (Alts.or (Seq.next (Term.rule 0) Seq.done) Alts.none)) Seq.done) (Alts.or Seq.done Alts.none))

bases_of_E : bases 0 E ≡ Alts.or (Seq.next (Term.block (Alts.or (Seq.next (Term.rule 0) Seq.done) Alts.none)) Seq.done) (Alts.or Seq.done Alts.none)
bases_of_E = refl

rests_of_E : rests 0 E ≡ Alts.or (Seq.next (Term.kind 1) Seq.done) Alts.none
rests_of_E = refl

-- a rule with rests makes four rules, and its block one more
size_of_E : group_size 0 E ≡ 5
size_of_E = refl

-- the rule in the block stands first in a base
corner_of_E : IsLeftCorner (E ∷ []) 0 0
corner_of_E = IsLeftCorner.in_base E refl (inl (inl (inl (inl refl))))
