-- Kinds that are found one after another are the kinds of the grammar.
use Rattle.std.proofs.Common.{◌≡◌, inl, inr, ℕ, zero, suc, ◌+◌, ◌<◌, Bool, true, false, not, ◌||◌, cond, List, [], ◌∷◌, ◌++◌, Option}
use Rattle.std.proofs.Common.{Some, None, slice_get, length, map, refl, sym, ap, ◌∙◌, arith, append_assoc}
use Rattle.std.specs.Prelude.{filter, find, is_none, position, nat_lt}
use Rattle.std.specs.List.{filter_map, position_or_len}
use Rattle.std.proofs.lemmas.Bool.{cases_Bool, ltb-true}
use Rattle.std.proofs.lemmas.List.Elements.{filter-append, filter_agree}
use Rattle.std.proofs.lemmas.List.Folds.{find_at}
use Rattle.std.proofs.lemmas.Option.{none-some}
use Rattle.grammar_tree.specs.Kinds.{all_references, as_literal, declared_kind, declared_names, distinct, implicit_kind}
use Rattle.grammar_tree.specs.Kinds.{implicit_literals, is_named_by, kinds_of, makes_token, same_text, written_kinds}
use Rattle.grammar_tree.specs.Written.{Source, TokenKind, WrittenRule, WrittenGrammar}
use Rattle.grammar_tree.proofs.Lent.{found_none}
use Rattle.grammar_check_faults.proofs.Lent.{seen}
use Rattle.grammar_check.specs.inner.Kinds.{absent, plain_kind, unless_seen}

kept : (t u : List ℕ) (b : Bool) → filter (λ v. not (same_text t v)) (cond b [] (u ∷ [])) ≡ cond (same_text t u || b) [] (u ∷ [])
kept t u true = by (same_text t u)
  where
    by : (d : Bool) → [] ≡ cond (d || true) [] (u ∷ [])
    by true = refl
    by false = refl
kept t u false = by (same_text t u)
  where
    by : (d : Bool) → cond (not d) (u ∷ []) [] ≡ cond (d || false) [] (u ∷ [])
    by true = refl
    by false = refl

-- the distinct texts after one more text
pub distinct_push : (ts : List (List ℕ)) (u : List ℕ) → distinct (ts ++ u ∷ []) ≡ distinct ts ++ unless_seen ts u
distinct_push [] u = refl
distinct_push (t ∷ ts) u =
    ap (λ l. t ∷ filter (λ v. not (same_text t v)) l) (distinct_push ts u)
    ∙ ap (λ l. t ∷ l) (filter-append (λ v. not (same_text t v)) (distinct ts) (unless_seen ts u))
    ∙ ap (λ l. t ∷ (filter (λ v. not (same_text t v)) (distinct ts) ++ l)) (kept t u (seen ts u))

pub kinds_append : (from : ℕ) (xs ys : List WrittenRule) → written_kinds from (xs ++ ys) ≡ written_kinds from xs ++ written_kinds (length xs + from) ys
kinds_append from [] ys = ap (λ n. written_kinds n ys) (omega arith)
kinds_append from (WrittenRule.parser_rule r ∷ xs) ys =
    kinds_append (suc from) xs ys ∙ ap (λ n. written_kinds (suc from) xs ++ written_kinds n ys) (omega arith)
kinds_append from (WrittenRule.lexer_rule r ∷ xs) ys =
    let more : written_kinds (suc from) (xs ++ ys) ≡ written_kinds (suc from) xs ++ written_kinds (suc (length xs) + from) ys =
    kinds_append (suc from) xs ys ∙ ap (λ n. written_kinds (suc from) xs ++ written_kinds n ys) (omega arith) in
    elim (cases_Bool r.fragment) [ inl f ↦ rw f more | inr f ↦ rw f (ap (λ l. (record { name = r.name; gap = r.gap; source = Source.written from }) ∷ l) more) ]

-- what has no index is not found
same_none : {X : Type 0} (p : X → Bool) (xs : List X) → is_none (position p xs) ≡ is_none (find p xs)
same_none {X = X} p xs = by (position p xs) refl
  where
    by : (o : Option ℕ) → position p xs ≡ o → is_none (position p xs) ≡ is_none (find p xs)
    by None e = ap is_none e ∙ sym (found_none p xs e)
    by (Some k) e = ap is_none e ∙ sym (ap is_none (find_at p xs) ∙ at (position_or_len p xs) xs (within (nat_lt (position_or_len p xs) (length xs)) refl e))
      where
        within : (b : Bool) → nat_lt (position_or_len p xs) (length xs) ≡ b → cond b (Some (position_or_len p xs)) None ≡ Some k
            → position_or_len p xs < length xs
        within true h d = ltb-true (position_or_len p xs) (length xs) h
        within false h d = absurd (none-some k d)

        at : (n : ℕ) (ys : List X) → n < length ys → is_none (slice_get ys n) ≡ false
        at n [] lt = absurd (omega (arith, lt))
        at zero (y ∷ ys) lt = refl
        at (suc n) (y ∷ ys) lt = at n ys (omega arith)

pub absent_is : (test : List ℕ → WrittenRule → Bool) (rules : List WrittenRule) (texts : List (List ℕ))
    → absent (λ t. position (test t) rules) texts ≡ filter (λ t. is_none (find (test t) rules)) texts
absent_is test rules texts = filter_agree (λ t. is_none (position (test t) rules)) (λ t. is_none (find (test t) rules)) (λ t. same_none (test t) rules) texts

pub implicit_are : (rules : List WrittenRule) (literals : List (List ℕ)) → literals ≡ filter_map as_literal (all_references rules) →
    map (plain_kind Source.implicit) (absent (λ t. position (is_named_by t) rules) (distinct literals)) ≡ map implicit_kind (implicit_literals rules)
implicit_are rules literals e =
    ap (map implicit_kind) (absent_is is_named_by rules (distinct literals) ∙ ap (λ l. filter (λ t. is_none (find (is_named_by t) rules)) (distinct l)) e)

pub declared_are : (G : WrittenGrammar) → map (plain_kind Source.declared) (absent (λ t. position (makes_token t) G.rules) (distinct G.tokens))
    ≡ map declared_kind (declared_names G)
declared_are G = ap (map declared_kind) (absent_is makes_token G.rules (distinct G.tokens))

pub all_kinds : (G : WrittenGrammar) (ks : List TokenKind)
    → ks ≡ (map implicit_kind (implicit_literals G.rules) ++ written_kinds 0 G.rules) ++ map declared_kind (declared_names G) → ks ≡ kinds_of G
unfolding kinds_of
all_kinds G ks is = is ∙ append_assoc (map implicit_kind (implicit_literals G.rules)) (written_kinds 0 G.rules) (map declared_kind (declared_names G))
