-- The first place of an element that passes a test, in a list that grows at its end.
use Rattle.std.proofs.Common.{◌≡◌, ℕ, ◌+◌, ◌<◌, ◌≤◌, ◌⊎◌, inl, inr, Bool, true, false, not, cond, List, [], ◌∷◌, ◌++◌, length, map}
use Rattle.std.proofs.Common.{take, get_or, Option, Some, None, refl, sym, ap, ◌∙◌, subst, arith, length-append}
use Rattle.std.specs.Prelude.{nat_lt, nat_eq, position}
use Rattle.std.specs.List.{position_or_len}
use Rattle.std.proofs.lemmas.Bool.{lt-ltb, ltb-true, cases_lt}
use Rattle.std.proofs.lemmas.Bool.Decides.{eqb_tells}
use Rattle.std.proofs.lemmas.List.{take_more, append-nil, map-append, length-map}
use Rattle.std.proofs.lemmas.List.Folds.{position_or_len_push}
use Rattle.std.proofs.lemmas.List.Sums.{prefix_len-le-length}
use Rattle.std.proofs.lemmas.List.Elements.{filter_map-append}
use Rattle.std.specs.Str.{chars}
use Rattle.grammar_tree.specs.Written.{ParserRule, WrittenRule, TokenKind}
use Rattle.grammar_tree.specs.Kinds.{parser_rules, as_parser_rule, same_text}
use Rattle.grammar_tree.specs.declared.rule.Kind.{Kind}
use Rattle.grammar_tree.specs.GrammarView.{kind_of}
use Rattle.std.proofs.Common.{length-take}
use Rattle.grammar_names.specs.declared.index.Index.{Index}
use Rattle.grammar_names.specs.Index.{Finds, or_added}
use Rattle.grammar_names.specs.inner.Index.{IsAdded}
use Rattle.grammar_names.specs.inner.Names.{is_parser_rule_of, next_number}

not_below : (m n : ℕ) → n ≤ m → (b : Bool) → nat_lt m n ≡ b → b ≡ false
not_below m n h false e = refl
not_below m n h true e = absurd (omega (arith, h, ltb-true m n e))

below : (m n : ℕ) → n ≤ m → nat_lt m n ≡ false
below m n h = not_below m n h (nat_lt m n) refl

module _ {X : Type 0} (p : X → Bool) (xs : List X) where
  -- the place, where there is one, and where there is none
  pub position_some : position_or_len p xs < length xs → position p xs ≡ Some (position_or_len p xs)
  position_some h = ap (λ b. cond b (Some (position_or_len p xs)) None) (lt-ltb (position_or_len p xs) (length xs) h)

  pub position_none : length xs ≤ position_or_len p xs → position p xs ≡ None
  position_none h = ap (λ b. cond b (Some (position_or_len p xs)) None) (below (position_or_len p xs) (length xs) h)

module _ {X : Type 0} (p : X → Bool) (xs : List X) (y : X) where
  found_before : position_or_len p xs < length xs → or_added (position p xs) (p y) (length xs) ≡ position p (xs ++ y ∷ [])
  found_before h = go (eqb_tells (position_or_len p xs) (length xs))
    where
      go : ((nat_eq (position_or_len p xs) (length xs) ≡ true) × (position_or_len p xs ≡ length xs))
          ⊎ ((nat_eq (position_or_len p xs) (length xs) ≡ false) × (position_or_len p xs ≡ length xs → ⊥))
          → or_added (position p xs) (p y) (length xs) ≡ position p (xs ++ y ∷ [])
      go (inl (t, e)) = absurd (omega (arith, h, e))
      go (inr (f, other)) =
          let k = position_or_len p xs in
          let same : position_or_len p (xs ++ y ∷ []) ≡ k = position_or_len_push p xs y ∙ ap (λ b. cond b (length xs + cond (p y) 0 1) k) f in
          let within : position_or_len p (xs ++ y ∷ []) < length (xs ++ y ∷ []) = omega (arith, same, h, length-append xs (y ∷ [])) in
          ap (λ o. or_added o (p y) (length xs)) (position_some p xs h) ∙ ap Some (sym same) ∙ sym (position_some p (xs ++ y ∷ []) within)

  found_here : length xs ≤ position_or_len p xs → or_added (position p xs) (p y) (length xs) ≡ position p (xs ++ y ∷ [])
  found_here h = go (eqb_tells (position_or_len p xs) (length xs))
    where
      at_end : position_or_len p xs ≡ length xs
      at_end = omega (arith, h, prefix_len-le-length (λ x. not (p x)) xs)

      new_place : nat_eq (position_or_len p xs) (length xs) ≡ true → position_or_len p (xs ++ y ∷ []) ≡ length xs + cond (p y) 0 1
      new_place t = position_or_len_push p xs y ∙ ap (λ b. cond b (length xs + cond (p y) 0 1) (position_or_len p xs)) t

      by_test : nat_eq (position_or_len p xs) (length xs) ≡ true → (b : Bool) → p y ≡ b → or_added None b (length xs) ≡ position p (xs ++ y ∷ [])
      by_test t true e =
          let same : position_or_len p (xs ++ y ∷ []) ≡ length xs + 0 = new_place t ∙ ap (λ b. length xs + cond b 0 1) e in
          let at : length xs ≡ position_or_len p (xs ++ y ∷ []) = omega (arith, same) in
          let within : position_or_len p (xs ++ y ∷ []) < length (xs ++ y ∷ []) = omega (arith, same, length-append xs (y ∷ [])) in
          ap Some at ∙ sym (position_some p (xs ++ y ∷ []) within)
      by_test t false e =
          let same : position_or_len p (xs ++ y ∷ []) ≡ length xs + 1 = new_place t ∙ ap (λ b. length xs + cond b 0 1) e in
          let past : length (xs ++ y ∷ []) ≤ position_or_len p (xs ++ y ∷ []) = omega (arith, same, length-append xs (y ∷ [])) in
          sym (position_none p (xs ++ y ∷ []) past)

      go : ((nat_eq (position_or_len p xs) (length xs) ≡ true) × (position_or_len p xs ≡ length xs)) ⊎ ((nat_eq (position_or_len p xs) (length xs) ≡ false)
          × (position_or_len p xs ≡ length xs → ⊥)) → or_added (position p xs) (p y) (length xs) ≡ position p (xs ++ y ∷ [])
      go (inl (t, e)) = ap (λ o. or_added o (p y) (length xs)) (position_none p xs h) ∙ by_test t (p y) refl
      go (inr (f, other)) = absurd (other at_end)

  -- one more element
  pub position_push : or_added (position p xs) (p y) (length xs) ≡ position p (xs ++ y ∷ [])
  position_push = go (cases_lt (position_or_len p xs) (length xs))
    where
      go : (position_or_len p xs < length xs) ⊎ (length xs ≤ position_or_len p xs) → or_added (position p xs) (p y) (length xs) ≡ position p (xs ++ y ∷ [])
      go (inl h) = found_before h
      go (inr h) = found_here h

pub added_nothing : (o : Option ℕ) (number : ℕ) → or_added o false number ≡ o
added_nothing None number = refl
added_nothing (Some k) number = refl

-- an index of elements in a list, by tests, after one more element
pub index_push : {X : Type 0} (p : List ℕ → X → Bool) (old new : Index) (xs : List X) (y : X) (number : ℕ) → number ≡ length xs
    → Finds old (λ t. position (p t) xs) → IsAdded old new (λ t. p t y) number → Finds new (λ t. position (p t) (xs ++ y ∷ []))
index_push p old new xs y number e finds added bytes u =
    added (λ t. position (p t) xs) finds bytes u ∙ ap (λ k. or_added (position (p (chars bytes)) xs) (p (chars bytes) y) k) e
    ∙ position_push (p (chars bytes)) xs y

-- the index of parser rules after one more rule
pub rules_push : (old new : Index) (rules : List WrittenRule) (rule : WrittenRule) (number : ℕ) → number ≡ length (parser_rules rules)
    → Finds old (λ n. position (λ (r : ParserRule). same_text r.name n) (parser_rules rules)) → IsAdded old new (is_parser_rule_of rule) number
    → Finds new (λ n. position (λ (r : ParserRule). same_text r.name n) (parser_rules (rules ++ rule ∷ [])))
rules_push old new rules (WrittenRule.parser_rule r) number e finds added bytes u =
    let list : parser_rules (rules ++ WrittenRule.parser_rule r ∷ []) ≡ parser_rules rules ++ r ∷ [] =
    filter_map-append as_parser_rule rules (WrittenRule.parser_rule r ∷ []) in
    index_push (λ n (x : ParserRule). same_text x.name n) old new (parser_rules rules) r number e finds added bytes u
    ∙ ap (position (λ (x : ParserRule). same_text x.name (chars bytes))) (sym list)
rules_push old new rules (WrittenRule.lexer_rule r) number e finds added bytes u =
    let list : parser_rules (rules ++ WrittenRule.lexer_rule r ∷ []) ≡ parser_rules rules =
    filter_map-append as_parser_rule rules (WrittenRule.lexer_rule r ∷ []) ∙ append-nil (parser_rules rules) in
    added (λ n. position (λ (x : ParserRule). same_text x.name n) (parser_rules rules)) finds bytes u
    ∙ added_nothing (position (λ (x : ParserRule). same_text x.name (chars bytes)) (parser_rules rules)) number
    ∙ ap (position (λ (x : ParserRule). same_text x.name (chars bytes))) (sym list)

-- how many there are then
pub number_push : (rules : List WrittenRule) (rule : WrittenRule) (number : ℕ) → number ≡ length (parser_rules rules)
    → next_number rule number ≡ length (parser_rules (rules ++ rule ∷ []))
number_push rules (WrittenRule.parser_rule r) number e =
    omega (arith, e, ap length (filter_map-append as_parser_rule rules (WrittenRule.parser_rule r ∷ [])), length-append (parser_rules rules) (r ∷ []))
number_push rules (WrittenRule.lexer_rule r) number e =
    e ∙ ap length (sym (append-nil (parser_rules rules)) ∙ sym (filter_map-append as_parser_rule rules (WrittenRule.lexer_rule r ∷ [])))

pub next-le : (rule : WrittenRule) (number : ℕ) → next_number rule number ≤ number + 1
next-le (WrittenRule.parser_rule r) number = omega arith
next-le (WrittenRule.lexer_rule r) number = omega arith

-- one more element of a slice, as a contract sees it
pub mapped_more : {X Y : Type 0} (f : X → Y) (xs : List X) (i : ℕ) (x : X) → i < length xs → x ≡ get_or xs i x
    → map f (take (i + 1) xs) ≡ map f (take i xs) ++ f x ∷ []
mapped_more f xs i x h e = ap (map f) (take_more xs i x h) ∙ map-append f (take i xs) (get_or xs i x ∷ []) ∙ ap (λ y. map f (take i xs) ++ f y ∷ []) (sym e)

-- the index of kinds after one more kind
pub kinds_push : (p : List ℕ → TokenKind → Bool) (old new : Index) (kinds : List Kind) (i : ℕ) (kind : Kind) → i < length kinds → kind ≡ get_or kinds i kind
    → Finds old (λ t. position (p t) (map kind_of (take i kinds))) → IsAdded old new (λ t. p t (kind_of kind)) i
    → Finds new (λ t. position (p t) (map kind_of (take (i + 1) kinds)))
kinds_push p old new kinds i kind h is finds added =
    let many : i ≡ length (map kind_of (take i kinds)) = omega (arith, h, length-map (take i kinds) kind_of, length-take i kinds) in
    let P : List TokenKind → Type 0 = λ l. Finds new (λ t. position (p t) l) in
    subst P (sym (mapped_more kind_of kinds i kind h is)) (index_push p old new (map kind_of (take i kinds)) (kind_of kind) i many finds added)
