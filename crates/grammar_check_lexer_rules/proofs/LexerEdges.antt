-- The edges of uses of lexer rules.
use Rattle.std.proofs.Common.{◌≡◌, inl, inr, ℕ, zero, suc, List, [], ◌∷◌, Option, Some, None, map, slice_get, refl, sym, ap, ◌∙◌, subst, arith}
use Rattle.std.specs.List.{Contains, cons_option, filter_map}
use Rattle.std.proofs.lemmas.List.{length-map}
use Rattle.std.proofs.lemmas.Option.{same_Some, slice_get_within}
use Rattle.grammar_tree.specs.Faults.{Uses, UsesThrough, used_names}
use Rattle.grammar_tree.specs.Kinds.{lexer_rules}
use Rattle.grammar_tree.specs.Written.{LexerRule, WrittenRule, WrittenGrammar}
use Rattle.grammar_tree.proofs.Lent.{contains_cases, contains_filter_map, contains_first}
use Rattle.grammar_tree.proofs.Lent.{elements_contains_later as contains_later, contains_none, at_of_contains, lexer_place as index_of_rule}
use Rattle.grammar_check_nodes.specs.Graph.{HasEdge, IsClosed, Reaches}
use Rattle.grammar_check_lexer_rules.specs.Lexer.{OneRule, lexer_index, lexer_successors, lexer_edges}
use Rattle.grammar_check_lexer_rules.proofs.LexerFacts.{contains_rule, index_of_name, rule_of_index}

-- a map of a map
pub twice : {X Y Z : Type 0} (g : Y → Z) (f : X → Y) (xs : List X) → map (λ x. g (f x)) xs ≡ map g (map f xs)
twice g f [] = refl
twice g f (x ∷ xs) = ap (λ l. g (f x) ∷ l) (twice g f xs)

-- what is in a list that is filtered by options
pub from_filter_map : {X Y : Type 0} (h : X → Option Y) (xs : List X) (y : Y) → Contains (filter_map h xs) y → (x : X) × Contains xs x × (h x ≡ Some y)
from_filter_map h [] y c = absurd (contains_none y c)
from_filter_map {X = X} {Y = Y} h (x ∷ xs) y c = step (h x) refl (from_filter_map h xs y) c
  where
    step : (o : Option Y) → h x ≡ o → (Contains (filter_map h xs) y → (z : X) × Contains xs z × (h z ≡ Some y)) → Contains (cons_option o (filter_map h xs)) y
        → (z : X) × Contains (x ∷ xs) z × (h z ≡ Some y)
    step None e more d = let it = more d in (it.0, contains_later x xs it.0 it.1, it.2)
    step (Some w) e more d = elim (contains_cases w (filter_map h xs) y d) [
      | inl same ↦ (x, contains_first x xs x refl, e ∙ ap Some same)
      | inr later ↦ let it = more later in (it.0, contains_later x xs it.0 it.1, it.2)
    ]

row_at : (g : WrittenRule → List ℕ) (rules : List WrittenRule) (i : ℕ) (successors : List ℕ) → slice_get (map g rules) i ≡ Some successors
    → (rule : WrittenRule) × (slice_get rules i ≡ Some rule) × (g rule ≡ successors)
row_at g [] i successors e = absurd cc
row_at g (r ∷ rules) zero successors e = (r, refl, same_Some (g r) successors e)
row_at g (r ∷ rules) (suc i) successors e = row_at g rules i successors e

at_row : (g : WrittenRule → List ℕ) (rules : List WrittenRule) (i : ℕ) (rule : WrittenRule) → slice_get rules i ≡ Some rule
    → slice_get (map g rules) i ≡ Some (g rule)
at_row g [] i rule e = absurd cc
at_row g (r ∷ rules) zero rule e = ap (λ x. Some (g x)) (same_Some r rule e)
at_row g (r ∷ rules) (suc i) rule e = at_row g rules i rule e

module _ (rules : List WrittenRule) where
  -- an edge is a use of one lexer rule by another
  abbrev UsesAt : ℕ → ℕ → Type 0
  UsesAt i j =
      (user : LexerRule) × (slice_get rules i ≡ Some (WrittenRule.lexer_rule user))
      × ((used : LexerRule) × (slice_get rules j ≡ Some (WrittenRule.lexer_rule used)) × Contains (used_names user.alts) used.name)

  of_row : (i j : ℕ) (rule : WrittenRule) → slice_get rules i ≡ Some rule → Contains (lexer_successors (lexer_index rules) rule) j → UsesAt i j
  of_row i j (WrittenRule.parser_rule r) at c = absurd (contains_none j c)
  of_row i j (WrittenRule.lexer_rule r) at c =
      let it = from_filter_map (lexer_index rules) (used_names r.alts) j c in
      let used = rule_of_index rules it.0 j it.2 in
      let P : List ℕ → Type 0 = λ n. Contains (used_names r.alts) n in
      (r, at, (used.0, used.1, subst P (sym used.2) it.1))

  pub edge_uses : (i j : ℕ) → HasEdge (lexer_edges rules) i j → UsesAt i j
  edge_uses i j (successors, at, c) =
      let it = row_at (lexer_successors (lexer_index rules)) rules i successors at in
      let P : List ℕ → Type 0 = λ l. Contains l j in
      of_row i j it.0 it.1 (subst P (sym it.2) c)

  pub closed : IsClosed (lexer_edges rules)
  closed i j edge =
      let it = (edge_uses i j edge).2 in
      omega (arith, slice_get_within rules j (WrittenRule.lexer_rule it.0) it.1, length-map rules (lexer_successors (lexer_index rules)))

  module _ (one : OneRule rules) where
    pub uses_edge : (i j : ℕ) (user used : LexerRule) → slice_get rules i ≡ Some (WrittenRule.lexer_rule user)
        → slice_get rules j ≡ Some (WrittenRule.lexer_rule used) → Contains (used_names user.alts) used.name → HasEdge (lexer_edges rules) i j
    uses_edge i j user used at at' c =
        let index = index_of_name rules one j used at' in (
          lexer_successors (lexer_index rules) (WrittenRule.lexer_rule user),
          at_row (lexer_successors (lexer_index rules)) rules i (WrittenRule.lexer_rule user) at,
          contains_filter_map (lexer_index rules) (used_names user.alts) used.name j index c,
        )

module _ (G : WrittenGrammar) (one : OneRule G.rules) where
  abbrev edges : List (List ℕ)
  edges = lexer_edges G.rules

  index_of : (r : LexerRule) → Contains (lexer_rules G.rules) r → (i : ℕ) × (slice_get G.rules i ≡ Some (WrittenRule.lexer_rule r))
  index_of r c = let it = at_of_contains (lexer_rules G.rules) r c in index_of_rule G.rules it.0 r it.1

  same_rule : (i j : ℕ) (a b : LexerRule) → slice_get G.rules i ≡ Some (WrittenRule.lexer_rule a) → slice_get G.rules j ≡ Some (WrittenRule.lexer_rule b)
      → a.name ≡ b.name → i ≡ j
  same_rule i j a b at at' e = one i j (WrittenRule.lexer_rule a) (WrittenRule.lexer_rule b) at at' e

  pub edge_of_use : (i j : ℕ) (a b : LexerRule) → slice_get G.rules i ≡ Some (WrittenRule.lexer_rule a) → slice_get G.rules j ≡ Some (WrittenRule.lexer_rule b)
      → Uses G a.name b.name → HasEdge edges i j
  edge_of_use i j a b at at' u =
      let it = index_of u.rule u.of_grammar in
      let index : it.0 ≡ i = same_rule it.0 i u.rule a it.1 at u.named in
      let P : ℕ → Type 0 = λ k. slice_get G.rules k ≡ Some (WrittenRule.lexer_rule u.rule) in
      uses_edge G.rules one i j u.rule b (subst P index it.1) at' u.uses

  pub use_of_edge : (i j : ℕ) (a b : LexerRule) → slice_get G.rules i ≡ Some (WrittenRule.lexer_rule a) → slice_get G.rules j ≡ Some (WrittenRule.lexer_rule b)
      → HasEdge edges i j → Uses G a.name b.name
  use_of_edge i j a b at at' edge =
      let it = edge_uses G.rules i j edge in
      let user : it.0 ≡ a = lexer_same it.0 a (sym it.1 ∙ at) in
      let used : it.2.0 ≡ b = lexer_same it.2.0 b (sym it.2.1 ∙ at') in
      record {
        rule = it.0;
        of_grammar = contains_rule G.rules i it.0 it.1;
        named = ap (λ (r : LexerRule). r.name) user;
        uses = (let P : LexerRule → Type 0 = λ r. Contains (used_names it.0.alts) r.name in subst P used it.2.2);
      }
    where
      lexer_same : (x y : LexerRule) → Some (WrittenRule.lexer_rule x) ≡ Some (WrittenRule.lexer_rule y) → x ≡ y
      lexer_same x y e = cc

  first_user : {x y : List ℕ} → UsesThrough G x y → (r : LexerRule) × Contains (lexer_rules G.rules) r × (r.name ≡ x)
  first_user (UsesThrough.directly x y u) = (u.rule, u.of_grammar, u.named)
  first_user (UsesThrough.through x y z u more) = (u.rule, u.of_grammar, u.named)

  reaches : {x y : List ℕ} → UsesThrough G x y → (i j : ℕ) (a b : LexerRule) → slice_get G.rules i ≡ Some (WrittenRule.lexer_rule a)
      → slice_get G.rules j ≡ Some (WrittenRule.lexer_rule b) → a.name ≡ x → b.name ≡ y → Reaches edges i j
  reaches (UsesThrough.directly x y u) i j a b at at' e f =
      let P : List ℕ → Type 0 = λ n. Uses G n y in
      let Q : List ℕ → Type 0 = λ n. Uses G a.name n in
      Reaches.by_edge i j (edge_of_use i j a b at at' (subst Q (sym f) (subst P (sym e) u)))
  reaches (UsesThrough.through x y z u more) i j a b at at' e f =
      let m = first_user more in
      let k = index_of m.0 m.1 in
      let P : List ℕ → Type 0 = λ n. Uses G n y in
      let Q : List ℕ → Type 0 = λ n. Uses G a.name n in
      Reaches.by_edges i k.0 j (edge_of_use i k.0 a m.0 at k.1 (subst Q (sym m.2) (subst P (sym e) u))) (reaches more k.0 j m.0 b k.1 at' m.2 f)

  pub uses_itself : (i : ℕ) (a : LexerRule) → slice_get G.rules i ≡ Some (WrittenRule.lexer_rule a) → UsesThrough G a.name a.name → Reaches edges i i
  uses_itself i a at u = reaches u i i a a at at refl refl

  through : {i j : ℕ} → Reaches edges i j → (a b : LexerRule) → slice_get G.rules i ≡ Some (WrittenRule.lexer_rule a)
      → slice_get G.rules j ≡ Some (WrittenRule.lexer_rule b) → UsesThrough G a.name b.name
  through (Reaches.by_edge i j edge) a b at at' = UsesThrough.directly a.name b.name (use_of_edge i j a b at at' edge)
  through (Reaches.by_edges i m j edge path) a b at at' =
      let it = (edge_uses G.rules i m edge).2 in
      UsesThrough.through a.name it.0.name b.name (use_of_edge i m a it.0 at it.1 edge) (through path it.0 b it.1 at')

  first_rule : {i j : ℕ} → Reaches edges i j → (a : LexerRule) × (slice_get G.rules i ≡ Some (WrittenRule.lexer_rule a))
  first_rule (Reaches.by_edge i j edge) = let it = edge_uses G.rules i j edge in (it.0, it.1)
  first_rule (Reaches.by_edges i m j edge path) = let it = edge_uses G.rules i m edge in (it.0, it.1)

  pub loops : (i : ℕ) → Reaches edges i i → (a : LexerRule) × (slice_get G.rules i ≡ Some (WrittenRule.lexer_rule a)) × UsesThrough G a.name a.name
  loops i path = let it = first_rule path in (it.0, it.1, through path it.0 it.0 it.1 it.1)
