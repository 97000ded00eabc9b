-- The kind of a literal is the first that it can stand for.
use Rattle.std.proofs.Common.{◌≡◌, ℕ, suc, ◌+◌, ◌<◌, ◌≤◌, ◌⊎◌, inl, inr, Bool, true, false, not, ◌&&◌, cond, List, [], ◌∷◌, ◌++◌, length, map}
use Rattle.std.proofs.Common.{get_or, Option, Some, None, is_none, slice_get, refl, sym, ap, ◌∙◌, arith, true≢false}
use Rattle.std.specs.Prelude.{nat_eq, filter, find, position}
use Rattle.std.specs.List.{position_or_len}
use Rattle.std.specs.Option.{option_map_or}
use Rattle.std.proofs.lemmas.Bool.{cases_lt}
use Rattle.std.proofs.lemmas.Bool.Decides.{eqb_tells}
use Rattle.std.proofs.lemmas.List.Folds.{find_at}
use Rattle.std.proofs.lemmas.List.Sums.{fails_before_first}
use Rattle.std.proofs.lemmas.Option.{slice_get_cases, slice_get-get_or}
use Rattle.std.proofs.lemmas.Slice.Eq.{bytes_eq-Decides}
use Rattle.grammar_tree.specs.Written.{LexerAlts, WrittenAlts, WrittenRule, WrittenGrammar, Source, TokenKind}
use Rattle.grammar_tree.specs.Kinds.{declared_kind, declared_names, implicit_kind, is_implicit, is_just, is_named_by}
use Rattle.grammar_tree.specs.Kinds.{is_written_at, kinds_of, literal_kind, same_text, written_kinds}
use Rattle.grammar_names.specs.inner.Names.{can_stand_for}
use Rattle.grammar_names.proofs.Places.{position_some, position_none}

eq_true : (a b : ℕ) → a ≡ b → nat_eq a b ≡ true
eq_true a b e = go (eqb_tells a b)
  where
    go : ((nat_eq a b ≡ true) × (a ≡ b)) ⊎ ((nat_eq a b ≡ false) × (a ≡ b → ⊥)) → nat_eq a b ≡ true
    go (inl (t, s)) = t
    go (inr (f, other)) = absurd (other e)

eq_false : (a b : ℕ) → (a ≡ b → ⊥) → nat_eq a b ≡ false
eq_false a b h = go (eqb_tells a b)
  where
    go : ((nat_eq a b ≡ true) × (a ≡ b)) ⊎ ((nat_eq a b ≡ false) × (a ≡ b → ⊥)) → nat_eq a b ≡ false
    go (inl (t, s)) = absurd (h s)
    go (inr (f, other)) = f

-- two tests that pass, and two that fail, at the first element
both_pass : {X : Type 0} (p q : X → Bool) (x : X) (xs : List X) → p x ≡ true → q x ≡ true → position_or_len p (x ∷ xs) ≡ position_or_len q (x ∷ xs)
both_pass p q x xs a b =
    ap (λ z. cond (not z) (1 + position_or_len p xs) 0) a ∙ sym (ap (λ z. cond (not z) (1 + position_or_len q xs) 0) b)

both_fail : {X : Type 0} (p q : X → Bool) (x : X) (xs : List X) → p x ≡ false → q x ≡ false → position_or_len p xs ≡ position_or_len q xs
    → position_or_len p (x ∷ xs) ≡ position_or_len q (x ∷ xs)
both_fail p q x xs a b e =
    ap (λ z. cond (not z) (1 + position_or_len p xs) 0) a ∙ ap (λ n. 1 + n) e ∙ sym (ap (λ z. cond (not z) (1 + position_or_len q xs) 0) b)

position_same : {X : Type 0} (p q : X → Bool) (xs : List X) → ((x : X) → p x ≡ q x) → position_or_len p xs ≡ position_or_len q xs
position_same p q [] e = refl
position_same p q (x ∷ xs) e = ap (λ z. cond (not z) (1 + position_or_len p xs) 0) (e x) ∙ ap (λ n. cond (not (q x)) (1 + n) 0) (position_same p q xs e)

place_of_len : {X : Type 0} (p q : X → Bool) (xs : List X) → position_or_len p xs ≡ position_or_len q xs → position p xs ≡ position q xs
place_of_len p q xs e = go (cases_lt (position_or_len p xs) (length xs))
  where
    go : (position_or_len p xs < length xs) ⊎ (length xs ≤ position_or_len p xs) → position p xs ≡ position q xs
    go (inl h) = position_some p xs h ∙ ap Some e ∙ sym (position_some q xs (omega (arith, h, e)))
    go (inr h) = position_none p xs h ∙ sym (position_none q xs (omega (arith, h, e)))

module _ (t : List ℕ) (R : List WrittenRule) where
  -- the literal can stand for the kind
  abbrev stands : TokenKind → Bool
  stands kind = can_stand_for R kind t

  -- no rule is named: only implicit tokens are stood for
  none_named : ((rule : WrittenRule) (i : ℕ) → slice_get R i ≡ Some rule → is_named_by t rule ≡ false) → (place : ℕ)
      → option_map_or (is_named_by t) (slice_get R place) false ≡ false
  none_named h place = go (slice_get R place) refl
    where
      go : (o : Option WrittenRule) → slice_get R place ≡ o → option_map_or (is_named_by t) o false ≡ false
      go None e = refl
      go (Some rule) e = h rule place e

  as_implicit_at : ((rule : WrittenRule) (i : ℕ) → slice_get R i ≡ Some rule → is_named_by t rule ≡ false) → (name : List ℕ) (gap : Bool) (s : Source)
      → is_implicit t (record { name = name; gap = gap; source = s }) ≡ stands (record { name = name; gap = gap; source = s })
  as_implicit_at h name gap Source.implicit = refl
  as_implicit_at h name gap (Source.written place) = sym (none_named h place)
  as_implicit_at h name gap Source.declared = refl

  as_implicit : ((rule : WrittenRule) (i : ℕ) → slice_get R i ≡ Some rule → is_named_by t rule ≡ false) → (kinds : List TokenKind)
      → position_or_len (is_implicit t) kinds ≡ position_or_len stands kinds
  as_implicit h kinds = position_same (is_implicit t) stands kinds (λ k. as_implicit_at h k.name k.gap k.source)

  -- declared tokens
  in_declared : (place : ℕ) (names : List (List ℕ))
      → position_or_len (is_written_at place) (map declared_kind names) ≡ position_or_len stands (map declared_kind names)
  in_declared place [] = refl
  in_declared place (n ∷ ns) = both_fail (is_written_at place) stands (declared_kind n) (map declared_kind ns) refl refl (in_declared place ns)

  -- the rule of a written kind that is named
  at_rule : (rest : List WrittenRule) (n : ℕ) (rule : WrittenRule) → slice_get R n ≡ Some rule → (b : Bool) → is_named_by t rule ≡ b
      → option_map_or (is_named_by t) (slice_get R n) false ≡ b
  at_rule rest n rule at b e = ap (λ o. option_map_or (is_named_by t) o false) at ∙ e

  -- the kinds of lexer rules, of which the first that is named is at the place
  by_name : (name : List ℕ) (gap : Bool) (alts : LexerAlts) (n place : ℕ) (more : List WrittenRule) (kinds : List TokenKind)
      → slice_get R n ≡ Some (WrittenRule.lexer_rule (record { name = name; fragment = false; gap = gap; alts = alts }))
      → (place ≡ suc n + position_or_len (is_named_by t) more → position_or_len (is_written_at place) kinds ≡ position_or_len stands kinds) → (b : Bool)
      → (not gap && is_just t alts) ≡ b → place ≡ n + cond (not b) (1 + position_or_len (is_named_by t) more) 0
      → position_or_len (is_written_at place) (record { name = name; gap = gap; source = Source.written n } ∷ kinds) ≡ position_or_len stands
      (record { name = name; gap = gap; source = Source.written n } ∷ kinds)
  by_name name gap alts n place more kinds at later true e is =
      both_pass (is_written_at place) stands (record { name = name; gap = gap; source = Source.written n }) kinds (eq_true n place (omega (arith, is)))
      (at_rule more n _ at true e)
  by_name name gap alts n place more kinds at later false e is =
      both_fail (is_written_at place) stands (record { name = name; gap = gap; source = Source.written n }) kinds
      (eq_false n place (λ k. absurd (omega (arith, is, k)))) (at_rule more n _ at false e) (later (omega (arith, is)))

  in_lexer : (name : List ℕ) (fragment gap : Bool) (alts : LexerAlts) (n place : ℕ) (more : List WrittenRule) (end : List TokenKind)
      → slice_get R n ≡ Some (WrittenRule.lexer_rule (record { name = name; fragment = fragment; gap = gap; alts = alts }))
      → (place ≡ suc n + position_or_len (is_named_by t) more
      → position_or_len (is_written_at place) (written_kinds (suc n) more ++ end) ≡ position_or_len stands (written_kinds (suc n) more ++ end))
      → place ≡ n + position_or_len (is_named_by t) (WrittenRule.lexer_rule (record { name = name; fragment = fragment; gap = gap; alts = alts }) ∷ more)
      → position_or_len (is_written_at place) (written_kinds n
      (WrittenRule.lexer_rule (record { name = name; fragment = fragment; gap = gap; alts = alts }) ∷ more) ++ end) ≡ position_or_len stands
      (written_kinds n (WrittenRule.lexer_rule (record { name = name; fragment = fragment; gap = gap; alts = alts }) ∷ more) ++ end)
  in_lexer name true gap alts n place more end at later is = later (omega (arith, is))
  in_lexer name false gap alts n place more end at later is =
      by_name name gap alts n place more (written_kinds (suc n) more ++ end) at later (not gap && is_just t alts) refl is

  in_written : (rest : List WrittenRule) (n place : ℕ) (names : List (List ℕ)) → ((k : ℕ) → slice_get R (n + k) ≡ slice_get rest k)
      → place ≡ n + position_or_len (is_named_by t) rest
      → position_or_len (is_written_at place) (written_kinds n rest ++ map declared_kind names) ≡ position_or_len stands
      (written_kinds n rest ++ map declared_kind names)
  in_written [] n place names at is = in_declared place names
  in_written (WrittenRule.parser_rule r ∷ rest) n place names at is =
      in_written rest (suc n) place names (λ k. (let e : n + suc k ≡ suc n + k = omega arith in ap (slice_get R) (sym e) ∙ at (suc k))) (omega (arith, is))
  in_written (WrittenRule.lexer_rule r ∷ rest) n place names at is =
      let e : n + 0 ≡ n = omega arith in
      in_lexer r.name r.fragment r.gap r.alts n place rest (map declared_kind names) (ap (slice_get R) (sym e) ∙ at 0)
      (λ k. in_written rest (suc n) place names (λ j. (let d : n + suc j ≡ suc n + j = omega arith in ap (slice_get R) (sym d) ∙ at (suc j))) k)
      is

  -- implicit tokens, none of which is the literal
  other_implicit : is_none (find (is_named_by t) R) ≡ false → (u : List ℕ) → is_none (find (is_named_by u) R) ≡ true → (b : Bool) → same_text u t ≡ b
      → b ≡ false
  other_implicit known u none false e = refl
  other_implicit known u none true e =
      let same : u ≡ t = (bytes_eq-Decides u t).0 e in
      absurd (true≢false (sym none ∙ ap (λ x. is_none (find (is_named_by x) R)) same ∙ known))

  in_implicit : is_none (find (is_named_by t) R) ≡ false → (place : ℕ) (literals : List (List ℕ)) (end : List TokenKind)
      → position_or_len (is_written_at place) end ≡ position_or_len stands end
      → position_or_len (is_written_at place) (map implicit_kind (filter (λ u. is_none (find (is_named_by u) R)) literals) ++ end) ≡ position_or_len stands
      (map implicit_kind (filter (λ u. is_none (find (is_named_by u) R)) literals) ++ end)
  in_implicit known place [] end e = e
  in_implicit known place (u ∷ us) end e = go (in_implicit known place us end e) (is_none (find (is_named_by u) R)) refl
    where
      rest : List TokenKind
      rest = map implicit_kind (filter (λ x. is_none (find (is_named_by x) R)) us) ++ end

      go : position_or_len (is_written_at place) rest ≡ position_or_len stands rest → (b : Bool) → is_none (find (is_named_by u) R) ≡ b
          → position_or_len (is_written_at place) (map implicit_kind
          (cond b (u ∷ filter (λ x. is_none (find (is_named_by x) R)) us) (filter (λ x. is_none (find (is_named_by x) R)) us)) ++ end) ≡ position_or_len stands
          (map implicit_kind (cond b (u ∷ filter (λ x. is_none (find (is_named_by x) R)) us) (filter (λ x. is_none (find (is_named_by x) R)) us)) ++ end)
      go later true h = both_fail (is_written_at place) stands (implicit_kind u) rest refl (other_implicit known u h (same_text u t) refl) later
      go later false h = later

-- any rule, for a place past the end
any_rule : WrittenRule
any_rule = WrittenRule.parser_rule (record { name = []; alts = WrittenAlts.none })

all_fail : (t : List ℕ) (R : List WrittenRule) → length R ≤ position_or_len (is_named_by t) R → (rule : WrittenRule) (i : ℕ) → slice_get R i ≡ Some rule
    → is_named_by t rule ≡ false
all_fail t R h rule i at = go (slice_get_cases R i).1
  where
    go : ((x : WrittenRule) × (i < length R) × (slice_get R i ≡ Some x) × (get_or R i x ≡ x)) ⊎ ((length R ≤ i) × (slice_get R i ≡ None))
        → is_named_by t rule ≡ false
    go (inl (x, within, is, same)) =
        let e : x ≡ rule = cc in
        sym (ap (is_named_by t) (same ∙ e)) ∙ fails_before_first (is_named_by t) R i x (omega (arith, within, h))
    go (inr (past, is)) = absurd (cc)

found_some : (t : List ℕ) (R : List WrittenRule) → position_or_len (is_named_by t) R < length R → is_none (find (is_named_by t) R) ≡ false
found_some t R h = ap is_none (find_at (is_named_by t) R ∙ slice_get-get_or R (position_or_len (is_named_by t) R) any_rule h)

pub literal_stands : (G : WrittenGrammar) (t : List ℕ) → literal_kind G t ≡ position (λ kind. can_stand_for G.rules kind t) (kinds_of G)
unfolding kinds_of
literal_stands G t = go (cases_lt (position_or_len (is_named_by t) G.rules) (length G.rules))
  where
    at_written : (place : ℕ) → is_none (find (is_named_by t) G.rules) ≡ false → place ≡ 0 + position_or_len (is_named_by t) G.rules
        → position_or_len (is_written_at place) (kinds_of G) ≡ position_or_len (λ kind. can_stand_for G.rules kind t) (kinds_of G)
    at_written place known is =
        in_implicit t G.rules known place _ _ (in_written t G.rules G.rules 0 place (declared_names G)
        (λ k. (let e : 0 + k ≡ k = omega arith in ap (slice_get G.rules) e)) is)

    go : (position_or_len (is_named_by t) G.rules < length G.rules) ⊎ (length G.rules ≤ position_or_len (is_named_by t) G.rules)
        → literal_kind G t ≡ position (λ kind. can_stand_for G.rules kind t) (kinds_of G)
    go (inl h) =
        let place = position_or_len (is_named_by t) G.rules in
        ap (λ o. option_map_or (λ p. position (is_written_at p) (kinds_of G)) o (position (is_implicit t) (kinds_of G)))
        (position_some (is_named_by t) G.rules h)
        ∙ place_of_len (is_written_at place) (λ kind. can_stand_for G.rules kind t) (kinds_of G) (at_written place (found_some t G.rules h) (omega arith))
    go (inr h) =
        ap (λ o. option_map_or (λ p. position (is_written_at p) (kinds_of G)) o (position (is_implicit t) (kinds_of G)))
        (position_none (is_named_by t) G.rules h)
        ∙ place_of_len (is_implicit t) (λ kind. can_stand_for G.rules kind t) (kinds_of G) (as_implicit t G.rules (all_fail t G.rules h) (kinds_of G))
