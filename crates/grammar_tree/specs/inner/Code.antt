-- Grammars have a code, so that a type can be seen as one.
use Rattle.std.specs.Prelude.{◌≡◌, ℕ, zero, suc, Bool, true, false, List, [], ◌∷◌, refl}
use Rattle.std.proofs.Common.{sym, ap, ◌∙◌}
use Rattle.std.specs.Coded.{code_by, coded×, coded_ℕ, coded_bool, coded_list}
use base.Stored.{Gv, gnil, gnum, gcons, num, Coded}
use Rattle.grammar_tree.specs.Written.{Reference, WrittenTerm, WrittenSeq, WrittenAlts, LexerTerm, LexerSeq, LexerAlts}
use Rattle.grammar_tree.specs.Written.{WrittenRule, WrittenGrammar, Source, TokenKind, CheckedGrammar}

abbrev text : List ℕ → Gv
text [] = gnil
text (x ∷ xs) = gcons (gnum x) (text xs)

abbrev text_back : Gv → List ℕ
text_back (gcons a b) = num a ∷ text_back b
text_back _ = []

text_same : (xs : List ℕ) → text_back (text xs) ≡ xs
text_same [] = refl
text_same (x ∷ xs) = ap (λ l. x ∷ l) (text_same xs)

abbrev ranges : List (ℕ × ℕ) → Gv
ranges [] = gnil
ranges (x ∷ xs) = gcons (gcons (gnum x.0) (gnum x.1)) (ranges xs)

abbrev range_back : Gv → ℕ × ℕ
range_back (gcons a b) = (num a, num b)
range_back _ = (0, 0)

abbrev ranges_back : Gv → List (ℕ × ℕ)
ranges_back (gcons a b) = range_back a ∷ ranges_back b
ranges_back _ = []

ranges_same : (xs : List (ℕ × ℕ)) → ranges_back (ranges xs) ≡ xs
ranges_same [] = refl
ranges_same (x ∷ xs) = ap (λ l. x ∷ l) (ranges_same xs)

abbrev reference : Reference → Gv
reference (Reference.literal t) = gcons (gnum 0) (text t)
reference (Reference.name t) = gcons (gnum 1) (text t)

abbrev pick_reference : ℕ → List ℕ → Reference
pick_reference zero t = Reference.literal t
pick_reference (suc n) t = Reference.name t

abbrev reference_back : Gv → Reference
reference_back (gcons a b) = pick_reference (num a) (text_back b)
reference_back _ = Reference.literal []

reference_same : (r : Reference) → reference_back (reference r) ≡ r
reference_same (Reference.literal t) = ap Reference.literal (text_same t)
reference_same (Reference.name t) = ap Reference.name (text_same t)

abbrev references : List Reference → Gv
references [] = gnil
references (r ∷ rs) = gcons (reference r) (references rs)

abbrev references_back : Gv → List Reference
references_back (gcons a b) = reference_back a ∷ references_back b
references_back _ = []

references_same : (rs : List Reference) → references_back (references rs) ≡ rs
references_same [] = refl
references_same (r ∷ rs) = ap (λ x. x ∷ references_back (references rs)) (reference_same r) ∙ ap (λ l. r ∷ l) (references_same rs)

abbrev mutual
  parser_term : WrittenTerm → Gv
  parser_term WrittenTerm.any = gnum 0
  parser_term WrittenTerm.eof = gnum 1
  parser_term (WrittenTerm.literal x) = gcons (gnum 0) (text x)
  parser_term (WrittenTerm.name x) = gcons (gnum 1) (text x)
  parser_term (WrittenTerm.but x) = gcons (gnum 2) (references x)
  parser_term (WrittenTerm.block x) = gcons (gnum 3) (parser_alts x)
  parser_term (WrittenTerm.opt x) = gcons (gnum 4) (parser_term x)
  parser_term (WrittenTerm.star x) = gcons (gnum 5) (parser_term x)
  parser_term (WrittenTerm.plus x) = gcons (gnum 6) (parser_term x)

  parser_seq : WrittenSeq → Gv
  parser_seq WrittenSeq.done = gnil
  parser_seq (WrittenSeq.next t s) = gcons (parser_term t) (parser_seq s)

  parser_alts : WrittenAlts → Gv
  parser_alts WrittenAlts.none = gnil
  parser_alts (WrittenAlts.or s a) = gcons (parser_seq s) (parser_alts a)

abbrev parser_pick_constant : ℕ → WrittenTerm
parser_pick_constant zero = WrittenTerm.any
parser_pick_constant (suc n) = WrittenTerm.eof

abbrev parser_pick : ℕ → List ℕ → List Reference → WrittenTerm → WrittenAlts → WrittenTerm
parser_pick zero t r d a = WrittenTerm.literal t
parser_pick (suc zero) t r d a = WrittenTerm.name t
parser_pick (suc (suc zero)) t r d a = WrittenTerm.but r
parser_pick (suc (suc (suc zero))) t r d a = WrittenTerm.block a
parser_pick (suc (suc (suc (suc zero)))) t r d a = WrittenTerm.opt d
parser_pick (suc (suc (suc (suc (suc zero))))) t r d a = WrittenTerm.star d
parser_pick (suc (suc (suc (suc (suc (suc n)))))) t r d a = WrittenTerm.plus d

abbrev mutual
  parser_back : Gv → WrittenTerm
  parser_back gnil = WrittenTerm.any
  parser_back (gnum n) = parser_pick_constant n
  parser_back (gcons a b) = parser_pick (num a) (text_back b) (references_back b) (parser_back b) (parser_alts_back b)

  parser_seq_back : Gv → WrittenSeq
  parser_seq_back gnil = WrittenSeq.done
  parser_seq_back (gnum n) = WrittenSeq.done
  parser_seq_back (gcons a b) = WrittenSeq.next (parser_back a) (parser_seq_back b)

  parser_alts_back : Gv → WrittenAlts
  parser_alts_back gnil = WrittenAlts.none
  parser_alts_back (gnum n) = WrittenAlts.none
  parser_alts_back (gcons a b) = WrittenAlts.or (parser_seq_back a) (parser_alts_back b)

mutual
  parser_same : (t : WrittenTerm) → parser_back (parser_term t) ≡ t
  parser_same WrittenTerm.any = refl
  parser_same WrittenTerm.eof = refl
  parser_same (WrittenTerm.literal x) = ap WrittenTerm.literal (text_same x)
  parser_same (WrittenTerm.name x) = ap WrittenTerm.name (text_same x)
  parser_same (WrittenTerm.but x) = ap WrittenTerm.but (references_same x)
  parser_same (WrittenTerm.block x) = ap WrittenTerm.block (parser_alts_same x)
  parser_same (WrittenTerm.opt x) = ap WrittenTerm.opt (parser_same x)
  parser_same (WrittenTerm.star x) = ap WrittenTerm.star (parser_same x)
  parser_same (WrittenTerm.plus x) = ap WrittenTerm.plus (parser_same x)

  parser_seq_same : (s : WrittenSeq) → parser_seq_back (parser_seq s) ≡ s
  parser_seq_same WrittenSeq.done = refl
  parser_seq_same (WrittenSeq.next t s) =
      ap (λ x. WrittenSeq.next x (parser_seq_back (parser_seq s))) (parser_same t) ∙ ap (WrittenSeq.next t) (parser_seq_same s)

  parser_alts_same : (a : WrittenAlts) → parser_alts_back (parser_alts a) ≡ a
  parser_alts_same WrittenAlts.none = refl
  parser_alts_same (WrittenAlts.or s a) =
      ap (λ x. WrittenAlts.or x (parser_alts_back (parser_alts a))) (parser_seq_same s) ∙ ap (WrittenAlts.or s) (parser_alts_same a)

pub parser_alts_injective : (x y : WrittenAlts) → parser_alts x ≡ parser_alts y → x ≡ y
parser_alts_injective x y e = sym (parser_alts_same x) ∙ ap parser_alts_back e ∙ parser_alts_same y

abbrev parser_alts_coded : Coded WrittenAlts
parser_alts_coded = record { code = parser_alts; inj = parser_alts_injective }

abbrev mutual
  lexer_term : LexerTerm → Gv
  lexer_term (LexerTerm.literal x) = gcons (gnum 0) (text x)
  lexer_term (LexerTerm.name x) = gcons (gnum 1) (text x)
  lexer_term (LexerTerm.set x) = gcons (gnum 2) (ranges x)
  lexer_term (LexerTerm.short x) = gcons (gnum 3) (ranges x)
  lexer_term (LexerTerm.block x) = gcons (gnum 4) (lexer_alts x)
  lexer_term (LexerTerm.opt x) = gcons (gnum 5) (lexer_term x)
  lexer_term (LexerTerm.star x) = gcons (gnum 6) (lexer_term x)
  lexer_term (LexerTerm.plus x) = gcons (gnum 7) (lexer_term x)

  lexer_seq : LexerSeq → Gv
  lexer_seq LexerSeq.done = gnil
  lexer_seq (LexerSeq.next t s) = gcons (lexer_term t) (lexer_seq s)

  lexer_alts : LexerAlts → Gv
  lexer_alts LexerAlts.none = gnil
  lexer_alts (LexerAlts.or s a) = gcons (lexer_seq s) (lexer_alts a)

abbrev lexer_pick : ℕ → List ℕ → List (ℕ × ℕ) → LexerTerm → LexerAlts → LexerTerm
lexer_pick zero t r d a = LexerTerm.literal t
lexer_pick (suc zero) t r d a = LexerTerm.name t
lexer_pick (suc (suc zero)) t r d a = LexerTerm.set r
lexer_pick (suc (suc (suc zero))) t r d a = LexerTerm.short r
lexer_pick (suc (suc (suc (suc zero)))) t r d a = LexerTerm.block a
lexer_pick (suc (suc (suc (suc (suc zero))))) t r d a = LexerTerm.opt d
lexer_pick (suc (suc (suc (suc (suc (suc zero)))))) t r d a = LexerTerm.star d
lexer_pick (suc (suc (suc (suc (suc (suc (suc n))))))) t r d a = LexerTerm.plus d

abbrev mutual
  lexer_back : Gv → LexerTerm
  lexer_back gnil = LexerTerm.block LexerAlts.none
  lexer_back (gnum n) = LexerTerm.block LexerAlts.none
  lexer_back (gcons a b) = lexer_pick (num a) (text_back b) (ranges_back b) (lexer_back b) (lexer_alts_back b)

  lexer_seq_back : Gv → LexerSeq
  lexer_seq_back gnil = LexerSeq.done
  lexer_seq_back (gnum n) = LexerSeq.done
  lexer_seq_back (gcons a b) = LexerSeq.next (lexer_back a) (lexer_seq_back b)

  lexer_alts_back : Gv → LexerAlts
  lexer_alts_back gnil = LexerAlts.none
  lexer_alts_back (gnum n) = LexerAlts.none
  lexer_alts_back (gcons a b) = LexerAlts.or (lexer_seq_back a) (lexer_alts_back b)

mutual
  lexer_same : (t : LexerTerm) → lexer_back (lexer_term t) ≡ t
  lexer_same (LexerTerm.literal x) = ap LexerTerm.literal (text_same x)
  lexer_same (LexerTerm.name x) = ap LexerTerm.name (text_same x)
  lexer_same (LexerTerm.set x) = ap LexerTerm.set (ranges_same x)
  lexer_same (LexerTerm.short x) = ap LexerTerm.short (ranges_same x)
  lexer_same (LexerTerm.block x) = ap LexerTerm.block (lexer_alts_same x)
  lexer_same (LexerTerm.opt x) = ap LexerTerm.opt (lexer_same x)
  lexer_same (LexerTerm.star x) = ap LexerTerm.star (lexer_same x)
  lexer_same (LexerTerm.plus x) = ap LexerTerm.plus (lexer_same x)

  lexer_seq_same : (s : LexerSeq) → lexer_seq_back (lexer_seq s) ≡ s
  lexer_seq_same LexerSeq.done = refl
  lexer_seq_same (LexerSeq.next t s) = ap (λ x. LexerSeq.next x (lexer_seq_back (lexer_seq s))) (lexer_same t) ∙ ap (LexerSeq.next t) (lexer_seq_same s)

  lexer_alts_same : (a : LexerAlts) → lexer_alts_back (lexer_alts a) ≡ a
  lexer_alts_same LexerAlts.none = refl
  lexer_alts_same (LexerAlts.or s a) = ap (λ x. LexerAlts.or x (lexer_alts_back (lexer_alts a))) (lexer_seq_same s) ∙ ap (LexerAlts.or s) (lexer_alts_same a)

pub lexer_alts_injective : (x y : LexerAlts) → lexer_alts x ≡ lexer_alts y → x ≡ y
lexer_alts_injective x y e = sym (lexer_alts_same x) ∙ ap lexer_alts_back e ∙ lexer_alts_same y

abbrev lexer_alts_coded : Coded LexerAlts
lexer_alts_coded = record { code = lexer_alts; inj = lexer_alts_injective }

abbrev Text : Type 0
Text = List ℕ

-- what a rule of either kind has: whether it is a lexer rule, its name, its two flags, and its alternatives
abbrev Parts : Type 0
Parts = Bool × (Text × (Bool × (Bool × (WrittenAlts × LexerAlts))))

abbrev parts : WrittenRule → Parts
parts (WrittenRule.parser_rule r) = (false, (r.name, (false, (false, (r.alts, LexerAlts.none)))))
parts (WrittenRule.lexer_rule r) = (true, (r.name, (r.fragment, (r.gap, (WrittenAlts.none, r.alts)))))

abbrev rule_back : Parts → WrittenRule
rule_back (false, (n, (f, (g, (a, b))))) = WrittenRule.parser_rule (record { name = n; alts = a })
rule_back (true, (n, (f, (g, (a, b))))) = WrittenRule.lexer_rule (record { name = n; fragment = f; gap = g; alts = b })

pub rule_same : (r : WrittenRule) → rule_back (parts r) ≡ r
rule_same (WrittenRule.parser_rule r) = refl
rule_same (WrittenRule.lexer_rule r) = refl

abbrev rule_coded : Coded WrittenRule
rule_coded =
    code_by Parts (coded× coded_bool (coded× (coded_list coded_ℕ) (coded× coded_bool (coded× coded_bool (coded× parser_alts_coded lexer_alts_coded))))) parts
    rule_back rule_same

abbrev pub grammar_coded : Coded WrittenGrammar
grammar_coded =
    code_by (Text × (List Text × List WrittenRule)) (coded× (coded_list coded_ℕ) (coded× (coded_list (coded_list coded_ℕ)) (coded_list rule_coded)))
    (λ g. (g.name, (g.tokens, g.rules))) (λ p. record { name = p.0; tokens = p.1.0; rules = p.1.1 }) (λ _. refl)

abbrev source_parts : Source → ℕ × ℕ
source_parts Source.implicit = (0, 0)
source_parts (Source.written place) = (1, place)
source_parts Source.declared = (2, 0)

abbrev source_back : ℕ × ℕ → Source
source_back (zero, place) = Source.implicit
source_back (suc zero, place) = Source.written place
source_back (suc (suc n), place) = Source.declared

pub source_same : (s : Source) → source_back (source_parts s) ≡ s
source_same Source.implicit = refl
source_same (Source.written place) = refl
source_same Source.declared = refl

abbrev kind_coded : Coded TokenKind
kind_coded =
    code_by (Text × (Bool × Source)) (coded× (coded_list coded_ℕ)
    (coded× coded_bool (code_by (ℕ × ℕ) (coded× coded_ℕ coded_ℕ) source_parts source_back source_same)))
    (λ k. (k.name, (k.gap, k.source))) (λ p. record { name = p.0; gap = p.1.0; source = p.1.1 }) (λ _. refl)

abbrev pub checked_coded : Coded CheckedGrammar
checked_coded =
    code_by (WrittenGrammar × (List TokenKind × ℕ)) (coded× grammar_coded (coded× (coded_list kind_coded) coded_ℕ))
    (λ c. (c.grammar, (c.kinds, c.start))) (λ p. record { grammar = p.0; kinds = p.1.0; start = p.1.1 }) (λ _. refl)
