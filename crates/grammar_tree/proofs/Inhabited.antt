-- A grammar that no fault holds of: grammar K; a : a B | B EOF ; fragment F : 'y' ; B : 'x' F ;
use Rattle.std.proofs.Common.{◌≡◌, ◌+◌, ◌≤◌, ◌⊎◌, ℕ, zero, suc, Bool, true, false, cond, List, [], ◌∷◌, ◌++◌, Some}
use Rattle.std.proofs.Common.{slice_get, refl, sym, ap, ◌∙◌, subst, arith, true≢false, inl, inr}
use Rattle.std.specs.List.{Contains}
use Rattle.std.proofs.lemmas.Slice.Eq.{bytes_eq-Decides}
use Rattle.grammar_tree.specs.Written.{WrittenTerm, WrittenSeq, WrittenAlts, LexerTerm, LexerSeq, LexerAlts, ParserRule, LexerRule, WrittenRule, WrittenGrammar}
use Rattle.grammar_tree.specs.Kinds.{kinds_of, lexer_rules, same_text}
use Rattle.grammar_tree.specs.Matches.{MatchesAlternative, MatchesRule, any_is_short}
use Rattle.grammar_tree.specs.Derives.{Term, Seq, Alts, DerivesAlts, DerivesSeq, Derives, bodies, resolved_alts}
use Rattle.grammar_tree.specs.Corners.{BeginsAlts, HasEmptyLoopAlts, IsLeftCorner, LeadsTo, bases, normal_count, rests}
use Rattle.grammar_tree.specs.Faults.{is_misplaced, name_uses, number_at, used_names, IsUnknown, LexerHasEmptyLoopAlts, NameUse, NamesNothing, TwoRules, NoRule}
use Rattle.grammar_tree.specs.Faults.{EofPlace, EmptyToken, FragmentLoop, NoBase, EmptyLoop, LeftRecursion, ShortUse, TooManyRules, Uses, UsesThrough}
use Rattle.grammar_tree.specs.Faults.{IsWellFormed}
use Rattle.grammar_tree.proofs.DeriveForms.{by_form}
use Rattle.grammar_tree.proofs.MatchForms as lexer

abbrev a : List ℕ
a = 97 ∷ []

abbrev B : List ℕ
B = 66 ∷ []

abbrev F : List ℕ
F = 70 ∷ []

abbrev a_rule : ParserRule
a_rule = record {
  name = a;
  alts = WrittenAlts.or (WrittenSeq.next (WrittenTerm.name a) (WrittenSeq.next (WrittenTerm.name B) WrittenSeq.done))
      (WrittenAlts.or (WrittenSeq.next (WrittenTerm.name B) (WrittenSeq.next WrittenTerm.eof WrittenSeq.done)) WrittenAlts.none);
}

abbrev F_rule : LexerRule
F_rule = record { name = F; fragment = true; gap = false; alts = LexerAlts.or (LexerSeq.next (LexerTerm.literal (121 ∷ [])) LexerSeq.done) LexerAlts.none }

abbrev B_rule : LexerRule
B_rule =
    record {
      name = B;
      fragment = false;
      gap = false;
      alts = LexerAlts.or (LexerSeq.next (LexerTerm.literal (120 ∷ [])) (LexerSeq.next (LexerTerm.name F) LexerSeq.done)) LexerAlts.none;
    }

abbrev pub K : WrittenGrammar
K = record { name = 75 ∷ []; tokens = []; rules = WrittenRule.parser_rule a_rule ∷ WrittenRule.lexer_rule F_rule ∷ WrittenRule.lexer_rule B_rule ∷ [] }

abbrev head : List ℕ → ℕ
head [] = 0
head (x ∷ xs) = x

names_differ : (x y : List ℕ) → (head x ≡ head y → ⊥) → x ≡ y → ⊥
names_differ x y differ e = differ (ap head e)

only_parser_rule : (i : ℕ) (rule : ParserRule) → slice_get K.rules i ≡ Some (WrittenRule.parser_rule rule) → (i ≡ 0) × (rule ≡ a_rule)
only_parser_rule zero rule e = (refl, cc)
only_parser_rule (suc zero) rule e = absurd cc
only_parser_rule (suc (suc zero)) rule e = absurd cc
only_parser_rule (suc (suc (suc i))) rule e = absurd cc

lexer_rule_is : (i : ℕ) (rule : LexerRule) → slice_get K.rules i ≡ Some (WrittenRule.lexer_rule rule) → (rule ≡ F_rule) ⊎ (rule ≡ B_rule)
lexer_rule_is zero rule e = absurd cc
lexer_rule_is (suc zero) rule e = inl cc
lexer_rule_is (suc (suc zero)) rule e = inr cc
lexer_rule_is (suc (suc (suc i))) rule e = absurd cc

in_lexer : (rule : LexerRule) → Contains (lexer_rules K.rules) rule → (rule ≡ F_rule) ⊎ (rule ≡ B_rule)
in_lexer rule (zero, lt, e) = inl (sym e)
in_lexer rule (suc zero, lt, e) = inr (sym e)
in_lexer rule (suc (suc k), lt, e) = absurd (omega (arith, lt))

-- of three tests, of which no two pass, no two count
abbrev Apart : Bool → Bool → Type 0
Apart p q = p ≡ true → q ≡ true → ⊥

at_most_one : (p q r : Bool) → Apart p q → Apart p r → Apart q r → 2 ≤ 0 + cond p 1 0 + cond q 1 0 + cond r 1 0 → ⊥
at_most_one true true r h i j le = h refl refl
at_most_one true false true h i j le = i refl refl
at_most_one true false false h i j le = omega (arith, le)
at_most_one false true true h i j le = j refl refl
at_most_one false true false h i j le = omega (arith, le)
at_most_one false false true h i j le = omega (arith, le)
at_most_one false false false h i j le = omega (arith, le)

apart : (x y name : List ℕ) → (x ≡ y → ⊥) → Apart (same_text x name) (same_text y name)
apart x y name differ p q = differ ((bytes_eq-Decides x name).0 p ∙ sym ((bytes_eq-Decides y name).0 q))

one_name : (name : List ℕ) → ¬ TwoRules K name
one_name name h =
    at_most_one (same_text a name) (same_text F name) (same_text B name) (apart a F name (names_differ a F (λ e. omega (arith, e))))
    (apart a B name (names_differ a B (λ e. omega (arith, e)))) (apart F B name (names_differ F B (λ e. omega (arith, e)))) h

-- the uses: a, B and B in a, and F in B
use_is : (i : ℕ) (it : NameUse) → slice_get (name_uses K) i ≡ Some it → (it ≡ NameUse.by_parser_rule a)
    ⊎ ((it ≡ NameUse.by_parser_rule B) ⊎ (it ≡ NameUse.by_lexer_rule F))
use_is zero it e = inl cc
use_is (suc zero) it e = inr (inl cc)
use_is (suc (suc zero)) it e = inr (inl cc)
use_is (suc (suc (suc zero))) it e = inr (inr cc)
use_is (suc (suc (suc (suc i)))) it e = absurd cc

names_known : (name : List ℕ) → ¬ NoRule K name
names_known name (i, h) =
    let P : NameUse → Type 0 = IsUnknown K in
    elim (use_is i h.0 h.1) [
      | inl e ↦ let n : NamesNothing K a = subst P e h.3 in n.no_parser_rule (0, omega arith, refl)
      | inr (inl e) ↦ let n : NamesNothing K B = subst P e h.3 in n.no_token_rule (0, omega arith, refl)
      | inr (inr e) ↦ let n : IsUnknown K (NameUse.by_lexer_rule F) = subst P e h.3 in n (0, omega arith, refl)
    ]

eof_at_ends : (i : ℕ) → ¬ EofPlace K 0 i
eof_at_ends i (rule, at, inl h) = let P : ParserRule → Type 0 = λ r. is_misplaced r.alts ≡ true in true≢false (sym (subst P (only_parser_rule i rule at).1 h))
eof_at_ends i (rule, at, inr (h, other, used)) = other (only_parser_rule i rule at).0

-- B uses F alone, and F nothing
uses_is : (user used : List ℕ) → Uses K user used → (user ≡ B) × (used ≡ F)
uses_is user used u =
    let P : LexerRule → Type 0 = λ r. Contains (used_names r.alts) used in
    elim (in_lexer u.rule u.of_grammar) [
      | inl e ↦ let c : Contains [] used = subst P e u.uses in absurd (omega (arith, c.1))
      | inr e ↦ (sym u.named ∙ ap (λ (r : LexerRule). r.name) e, only (subst P e u.uses))
    ]
  where
    only : Contains (F ∷ []) used → used ≡ F
    only (zero, lt, e) = sym e
    only (suc k, lt, e) = absurd (omega (arith, lt))

leads_from_B : {user used : List ℕ} → UsesThrough K user used → (user ≡ B) × (used ≡ F)
leads_from_B (UsesThrough.directly x y u) = uses_is x y u
leads_from_B (UsesThrough.through x y z u more) = ((uses_is x y u).0, (leads_from_B more).1)

no_fragment_loop : (i : ℕ) → ¬ FragmentLoop K i
no_fragment_loop i (rule, at, h) = let it = leads_from_B h in names_differ B F (λ e. omega (arith, e)) (sym it.0 ∙ it.1)

no_short_use : (i : ℕ) → ¬ ShortUse K i
no_short_use i (rule, at, (h, used)) =
    let P : LexerRule → Type 0 = λ r. any_is_short r.alts ≡ true in
    elim (lexer_rule_is i rule at) [ inl e ↦ true≢false (sym (subst P e h)) | inr e ↦ true≢false (sym (subst P e h)) ]

no_empty_token : (i : ℕ) → ¬ EmptyToken K i
no_empty_token i (rule, at, (whole, m)) = elim (lexer_rule_is i rule at) [
  | inl e ↦ let P : LexerRule → Type 0 = λ r. r.fragment ≡ false in true≢false (subst P e whole)
  | inr e ↦ let P : LexerRule → Type 0 = λ r. MatchesRule (lexer_rules K.rules) r.alts [] in not_empty (subst P e m)
]
  where
    first : MatchesAlternative (lexer_rules K.rules) (LexerSeq.next (LexerTerm.literal (120 ∷ [])) (LexerSeq.next (LexerTerm.name F) LexerSeq.done)) [] → ⊥
    first m =
        let it = ((lexer.by_form (lexer_rules K.rules)).next (LexerTerm.literal (120 ∷ [])) (LexerSeq.next (LexerTerm.name F) LexerSeq.done) []).0 m.greedily in
        let u : it.0 ≡ 120 ∷ [] = ((lexer.by_form (lexer_rules K.rules)).literal (120 ∷ []) it.0).0 it.3 in
        let bad : [] ≡ (120 ∷ []) ++ it.1 = it.2 ∙ ap (λ x. x ++ it.1) u in
        absurd cc

    not_empty : MatchesRule (lexer_rules K.rules) B_rule.alts [] → ⊥
    not_empty m =
        elim
        (((lexer.rule_by_form (lexer_rules K.rules)).or
        (LexerSeq.next (LexerTerm.literal (120 ∷ [])) (LexerSeq.next (LexerTerm.name F) LexerSeq.done)) LexerAlts.none []).0 m) [
          | inl one ↦ first one
          | inr none ↦ (lexer.rule_by_form (lexer_rules K.rules)).none [] none
        ]

abbrev base : Seq
base = Seq.next (Term.kind 0) (Seq.next Term.eof Seq.done)

abbrev rest : Seq
rest = Seq.next (Term.kind 0) Seq.done

abbrev body : Alts
body = Alts.or (Seq.next (Term.rule 0) rest) (Alts.or base Alts.none)

bodies_of_K : bodies K ≡ body ∷ []
unfolding kinds_of
bodies_of_K = refl

resolved_is : (rule : ParserRule) → rule ≡ a_rule → resolved_alts K rule.alts ≡ body
unfolding kinds_of
resolved_is rule e = ap (λ r. resolved_alts K r.alts) e

number_is : (i : ℕ) (rule : ParserRule) → slice_get K.rules i ≡ Some (WrittenRule.parser_rule rule) → number_at K i ≡ 0
number_is i rule e = ap (number_at K) (only_parser_rule i rule e).0

has_bases : (i : ℕ) → ¬ NoBase K i
has_bases i (rule, at, h) =
    let P : Alts → Type 0 = λ b. bases (number_at K i) b ≡ Alts.none in
    let Q : ℕ → Type 0 = λ n. bases n body ≡ Alts.none in
    let bad : bases 0 body ≡ Alts.none = subst Q (number_is i rule at) (subst P (resolved_is rule (only_parser_rule i rule at).1) h) in absurd cc

-- no alternative that begins with a kind derives the empty list
kind_first : (G : List Alts) (s : Seq) → DerivesSeq G (Seq.next (Term.kind 0) s) [] → ⊥
kind_first G s d =
    let it = ((by_form G).next (Term.kind 0) s []).0 d in
    let u : it.0 ≡ 0 ∷ [] = ((by_form G).kind 0 it.0).0 it.3 in
    let bad : [] ≡ (0 ∷ []) ++ it.1 = it.2 ∙ ap (λ x. x ++ it.1) u in absurd cc

one_alternative : (G : List Alts) (s : Seq) → DerivesAlts G (Alts.or (Seq.next (Term.kind 0) s) Alts.none) [] → ⊥
one_alternative G s d =
    elim (((by_form G).or (Seq.next (Term.kind 0) s) Alts.none []).0 d) [ inl one ↦ kind_first G s one | inr none ↦ (by_form G).none [] none ]

no_loop : (G : List Alts) → HasEmptyLoopAlts G body → ⊥
no_loop G (inl (inl h)) = h
no_loop G (inl (inr (inl h))) = h
no_loop G (inl (inr (inr h))) = h
no_loop G (inr (inl (inl h))) = h
no_loop G (inr (inl (inr (inl h)))) = h
no_loop G (inr (inl (inr (inr h)))) = h
no_loop G (inr (inr h)) = h

no_lexer_loop : (rule : LexerRule) → (rule ≡ F_rule) ⊎ (rule ≡ B_rule) → LexerHasEmptyLoopAlts (lexer_rules K.rules) rule.alts → ⊥
no_lexer_loop rule (inl e) h = let P : LexerRule → Type 0 = λ r. LexerHasEmptyLoopAlts (lexer_rules K.rules) r.alts in in_F (subst P e h)
  where
    in_F : LexerHasEmptyLoopAlts (lexer_rules K.rules) F_rule.alts → ⊥
    in_F (inl (inl k)) = k
    in_F (inl (inr k)) = k
    in_F (inr k) = k
no_lexer_loop rule (inr e) h = let P : LexerRule → Type 0 = λ r. LexerHasEmptyLoopAlts (lexer_rules K.rules) r.alts in in_B (subst P e h)
  where
    in_B : LexerHasEmptyLoopAlts (lexer_rules K.rules) B_rule.alts → ⊥
    in_B (inl (inl k)) = k
    in_B (inl (inr (inl k))) = k
    in_B (inl (inr (inr k))) = k
    in_B (inr k) = k

no_empty_loop : (i : ℕ) → ¬ EmptyLoop K i
no_empty_loop i (inr (rule, at, h)) = no_lexer_loop rule (lexer_rule_is i rule at) h
no_empty_loop i (inl (rule, at, inl h)) =
    let P : Alts → Type 0 = λ b. HasEmptyLoopAlts (bodies K) b in no_loop (bodies K) (subst P (resolved_is rule (only_parser_rule i rule at).1) h)
no_empty_loop i (inl (rule, at, inr d)) =
    let P : Alts → Type 0 = λ b. DerivesAlts (bodies K) (rests (number_at K i) b) [] in
    let Q : ℕ → Type 0 = λ n. DerivesAlts (bodies K) (rests n body) [] in
    one_alternative (bodies K) Seq.done (subst Q (number_is i rule at) (subst P (resolved_is rule (only_parser_rule i rule at).1) d))

only_body : (r : ℕ) (b : Alts) → slice_get (body ∷ []) r ≡ Some b → (r ≡ 0) × (b ≡ body)
only_body zero b e = (refl, cc)
only_body (suc r) b e = absurd cc

no_rule_first : (q : ℕ) (s : Seq) → BeginsAlts (body ∷ []) q (Alts.or (Seq.next (Term.kind 0) s) Alts.none) → ⊥
no_rule_first q s (inl (inl h)) = h
no_rule_first q s (inl (inr h)) = not_empty h.0
  where
    not_empty : Derives (body ∷ []) (Term.kind 0) [] → ⊥
    not_empty d = let bad : ◌≡◌ {A = List ℕ} [] (0 ∷ []) = ((by_form (body ∷ [])).kind 0 []).0 d in absurd cc
no_rule_first q s (inr h) = h

no_corner : (r q : ℕ) → IsLeftCorner (body ∷ []) r q → ⊥
no_corner r q (IsLeftCorner.in_base b at h) =
    let P : Alts → Type 0 = λ x. BeginsAlts (body ∷ []) q (bases r x) in
    let Q : ℕ → Type 0 = λ n. BeginsAlts (body ∷ []) q (bases n body) in
    no_rule_first q (Seq.next Term.eof Seq.done) (subst Q (only_body r b at).0 (subst P (only_body r b at).1 h))
no_corner r q (IsLeftCorner.in_rest b at d h) =
    let P : Alts → Type 0 = λ x. BeginsAlts (body ∷ []) q (rests r x) in
    let Q : ℕ → Type 0 = λ n. BeginsAlts (body ∷ []) q (rests n body) in
    no_rule_first q Seq.done (subst Q (only_body r b at).0 (subst P (only_body r b at).1 h))

leads_nowhere : {r q : ℕ} → LeadsTo (body ∷ []) r q → ⊥
leads_nowhere (LeadsTo.by_corner r q c) = no_corner r q c
leads_nowhere (LeadsTo.by_corners r m q c more) = no_corner r m c

no_left_recursion : (i : ℕ) → ¬ LeftRecursion K i
no_left_recursion i (rule, at, h) =
    let P : List Alts → Type 0 = λ G. LeadsTo G (number_at K i) (number_at K i) in leads_nowhere (subst P bodies_of_K h)

few_rules : (count : ℕ) → ¬ TooManyRules K count
few_rules count (e, more) = omega (arith, e, more, ap normal_count bodies_of_K)

pub K_is_well_formed : IsWellFormed K 0
K_is_well_formed =
    record {
      one_rule_a_name = one_name;
      each_name_known = names_known;
      has_start = (a_rule, refl, tt);
      eof_at_ends = eof_at_ends;
      no_fragment_loop = no_fragment_loop;
      no_short_use = no_short_use;
      no_empty_token = no_empty_token;
      has_bases = has_bases;
      no_empty_loop = no_empty_loop;
      no_left_recursion = no_left_recursion;
      few_rules = few_rules;
    }
