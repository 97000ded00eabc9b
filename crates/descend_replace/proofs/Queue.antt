-- A queue of trees, in which each tree is followed by its children at the end, has them level by level.
use Rattle.std.proofs.Common.{◌≡◌, ℕ, zero, suc, ◌+◌, ◌<◌, ◌≤◌, List, [], ◌∷◌, ◌++◌, length, get_or, map, refl}
use Rattle.std.proofs.Common.{sym, ap, ◌∙◌, subst, arith, append_assoc, length-append}
use Rattle.std.specs.Prelude.{max}
use Rattle.std.specs.List.{Contains, flat_map, range_with_len}
use Rattle.std.proofs.Math.Nat.{le-max_left, le-max_right}
use Rattle.std.proofs.lemmas.List.{append-nil, length-map, map-append}
use Rattle.std.proofs.lemmas.Grind.{flat_map-append}
use Rattle.std.proofs.lemmas.List.Elements.{Contains-append_right}
use Rattle.syntax_tree.specs.Trees.{PlainTree, PlainTrees, children_of}
use Rattle.syntax_tree.specs.Numbered.{number_of, roots}
use Rattle.syntax_tree.specs.Levels.{at_depth, at_depth_all, below_in_level_order, depth, height}
use Rattle.descend_replace.specs.LevelLaws.{LevelsAreChildren, children_of_each, list_of}

first_level : (ts : PlainTrees) → at_depth_all 0 ts ≡ list_of ts
first_level PlainTrees.none = refl
first_level (PlainTrees.next t ts) = ap (λ (l : List PlainTree). t ∷ l) (first_level ts)

mutual
  next_level : (t : PlainTree) (d : ℕ) → at_depth (suc d) t ≡ children_of_each (at_depth d t)
  next_level (PlainTree.leaf n k i) zero = refl
  next_level (PlainTree.leaf n k i) (suc d) = refl
  next_level (PlainTree.node n r a ts) zero = first_level ts ∙ sym (append-nil (list_of ts))
  next_level (PlainTree.node n r a ts) (suc d) = next_level_all ts d

  next_level_all : (ts : PlainTrees) (d : ℕ) → at_depth_all (suc d) ts ≡ children_of_each (at_depth_all d ts)
  next_level_all PlainTrees.none d = refl
  next_level_all (PlainTrees.next t ts) d =
      ap (λ (l : List PlainTree). l ++ at_depth_all (suc d) ts) (next_level t d)
      ∙ ap (λ (l : List PlainTree). children_of_each (at_depth d t) ++ l) (next_level_all ts d)
      ∙ sym (flat_map-append (λ (u : PlainTree). list_of (children_of u)) (at_depth d t) (at_depth_all d ts))

pub levels_are_children : LevelsAreChildren
levels_are_children t d = next_level t d

mutual
  no_level : (d : ℕ) (t : PlainTree) → depth t < d → at_depth d t ≡ []
  no_level zero t lt = absurd (omega (arith, lt))
  no_level (suc d) (PlainTree.leaf n k i) lt = refl
  no_level (suc d) (PlainTree.node n r a ts) lt = no_level_all d ts (let le : height ts < suc d = lt in omega (arith, le))

  no_level_all : (d : ℕ) (ts : PlainTrees) → height ts ≤ d → at_depth_all d ts ≡ []
  no_level_all d PlainTrees.none le = refl
  no_level_all d (PlainTrees.next t ts) le =
      let both : max (suc (depth t)) (height ts) ≤ d = le in
      let one = le-max_left (suc (depth t)) (height ts) in
      let two = le-max_right (suc (depth t)) (height ts) in
      ap (λ (l : List PlainTree). l ++ at_depth_all d ts) (no_level d t (omega (arith, both, one))) ∙ no_level_all d ts (omega (arith, both, two))

-- so many levels, of which these trees are the first
abbrev pub levels : ℕ → List PlainTree → List PlainTree
levels zero ts = []
levels (suc n) ts = ts ++ levels n (children_of_each ts)

-- the level that comes after so many others, of which these trees are the first
abbrev pub level_after : ℕ → List PlainTree → List PlainTree
level_after zero ts = ts
level_after (suc n) ts = level_after n (children_of_each ts)

after_children : (n : ℕ) (ts : List PlainTree) → level_after n (children_of_each ts) ≡ children_of_each (level_after n ts)
after_children zero ts = refl
after_children (suc n) ts = after_children n (children_of_each ts)

-- the trees below the tree, one level down
abbrev pub first_below : PlainTree → List PlainTree
first_below t = list_of (children_of t)

one_down : (t : PlainTree) → at_depth 1 t ≡ first_below t
one_down t = next_level t 0 ∙ append-nil (first_below t)

level_is : (t : PlainTree) (d : ℕ) → at_depth (suc d) t ≡ level_after d (first_below t)
level_is t zero = one_down t
level_is t (suc d) = next_level t (suc d) ∙ ap children_of_each (level_is t d) ∙ sym (after_children d (first_below t))

levels_from : (f : ℕ → List PlainTree) (n a : ℕ) (ts : List PlainTree) → ((d e : ℕ) → e ≡ a + d → f e ≡ level_after d ts)
    → flat_map f (range_with_len a n) ≡ levels n ts
levels_from f zero a ts each = refl
levels_from f (suc n) a ts each =
    ap (λ (l : List PlainTree). l ++ flat_map f (range_with_len (a + 1) n)) (each 0 a (omega arith))
    ∙ ap (λ (l : List PlainTree). ts ++ l) (levels_from f n (a + 1) (children_of_each ts) (λ d e is. each (suc d) e (omega (arith, is))))

order_is : (t : PlainTree) → below_in_level_order t ≡ levels (depth t) (first_below t)
order_is t =
    levels_from (λ d. at_depth (suc d) t) (depth t) 0 (first_below t)
    (λ d e is. ap (λ (x : ℕ). at_depth (suc x) t) (let same : e ≡ d = omega (arith, is) in same) ∙ level_is t d)

no_more : (t : PlainTree) → level_after (depth t) (first_below t) ≡ []
no_more t = sym (level_is t (depth t)) ∙ no_level (suc (depth t)) t (omega arith)

no_levels : (n : ℕ) → levels n [] ≡ []
no_levels zero = refl
no_levels (suc n) = no_levels n

pub roots_numbers : (ts : PlainTrees) → roots ts ≡ map number_of (list_of ts)
roots_numbers PlainTrees.none = refl
roots_numbers (PlainTrees.next t ts) = ap (λ (l : List ℕ). number_of t ∷ l) (roots_numbers ts)

-- The numbers that were found are those of the trees whose children were found too, of the rest of their level, and of the next level as far as it is known.
pub record IsQueue (v : PlainTree) (done : ℕ) (found : List ℕ) : Type 0 where
  pub visited : List PlainTree
  pub current : List PlainTree
  pub following : List PlainTree
  pub deeper : ℕ
  pub numbers : found ≡ map number_of (visited ++ (current ++ following))
  pub count : length visited ≡ done
  pub whole : visited ++ (current ++ levels deeper (following ++ children_of_each current)) ≡ below_in_level_order v
  pub ends : level_after deeper (following ++ children_of_each current) ≡ []

pub queue_begins : (v : PlainTree) (found : List ℕ) → found ≡ roots (children_of v) → IsQueue v 0 found
queue_begins v found e =
    record {
      visited = [];
      current = [];
      following = first_below v;
      deeper = depth v;
      numbers = e ∙ roots_numbers (children_of v);
      count = refl;
      whole = ap (levels (depth v)) (append-nil (first_below v)) ∙ sym (order_is v);
      ends = ap (level_after (depth v)) (append-nil (first_below v)) ∙ no_more v;
    }

-- The next tree of a queue, whose children aren't found yet.
pub record HasNext (v : PlainTree) (done : ℕ) (found : List ℕ) : Type 0 where
  pub tree : PlainTree
  pub visited : List PlainTree
  pub current : List PlainTree
  pub following : List PlainTree
  pub deeper : ℕ
  pub numbers : found ≡ map number_of (visited ++ ((tree ∷ current) ++ following))
  pub count : length visited ≡ done
  pub whole : visited ++ ((tree ∷ current) ++ levels deeper (following ++ children_of_each (tree ∷ current))) ≡ below_in_level_order v
  pub ends : level_after deeper (following ++ children_of_each (tree ∷ current)) ≡ []

-- the next level begins
next_begins : (v : PlainTree) (done : ℕ) (found : List ℕ) (visited following : List PlainTree) (deeper : ℕ) → found ≡ map number_of (visited ++ following)
    → length visited ≡ done →
    visited ++ levels deeper (following ++ []) ≡ below_in_level_order v → level_after deeper (following ++ []) ≡ [] → done < length found → HasNext v done found
next_begins v done found visited [] deeper numbers count whole ends lt =
    absurd (let same = ap length numbers in let all = length-map (visited ++ []) number_of in let both = length-append visited [] in
    omega (arith, same, all, both, count, lt))
next_begins v done found visited (t ∷ ts) zero numbers count whole ends lt = absurd (let none : t ∷ (ts ++ []) ≡ [] = ends in cc)
next_begins v done found visited (t ∷ ts) (suc n) numbers count whole ends lt =
    let all : (t ∷ ts) ++ [] ≡ t ∷ ts = append-nil (t ∷ ts) in
    record {
      tree = t;
      visited = visited;
      current = ts;
      following = [];
      deeper = n;
      numbers = numbers ∙ ap (λ (l : List PlainTree). map number_of (visited ++ l)) (sym all);
      count = count;
      whole = ap (λ (l : List PlainTree). visited ++ levels (suc n) l) (sym all) ∙ whole;
      ends = ap (level_after (suc n)) (sym all) ∙ ends;
    }

has_next : (v : PlainTree) (done : ℕ) (found : List ℕ) (visited current following : List PlainTree) (deeper : ℕ)
    → found ≡ map number_of (visited ++ (current ++ following)) → length visited ≡ done →
    visited ++ (current ++ levels deeper (following ++ children_of_each current)) ≡ below_in_level_order v
    → level_after deeper (following ++ children_of_each current) ≡ [] → done < length found → HasNext v done found
has_next v done found visited [] following deeper numbers count whole ends lt = next_begins v done found visited following deeper numbers count whole ends lt
has_next v done found visited (t ∷ current) following deeper numbers count whole ends lt =
    record {
      tree = t;
      visited = visited;
      current = current;
      following = following;
      deeper = deeper;
      numbers = numbers;
      count = count;
      whole = whole;
      ends = ends;
    }

pub next_of : (v : PlainTree) (done : ℕ) (found : List ℕ) → IsQueue v done found → done < length found → HasNext v done found
next_of v done found q lt = has_next v done found q.visited q.current q.following q.deeper q.numbers q.count q.whole q.ends lt

-- with the next tree's children found
pub queue_goes_on : (v : PlainTree) (done : ℕ) (found more : List ℕ) (next : HasNext v done found) → more ≡ found ++ roots (children_of next.tree)
    → IsQueue v (done + 1) more
queue_goes_on v done found more next e =
    let t = next.tree in
    let below = first_below next.tree in
    let pushed : (next.following ++ below) ++ children_of_each next.current ≡ next.following ++ children_of_each (next.tree ∷ next.current) =
    append_assoc next.following below (children_of_each next.current) in
    record {
      visited = next.visited ++ next.tree ∷ [];
      current = next.current;
      following = next.following ++ below;
      deeper = next.deeper;
      numbers =
          e
          ∙ ap (λ (l : List ℕ). l ++ roots (children_of next.tree)) next.numbers
          ∙ ap (λ (l : List ℕ). map number_of (next.visited ++ ((next.tree ∷ next.current) ++ next.following)) ++ l) (roots_numbers (children_of next.tree))
          ∙ sym (map-append number_of (next.visited ++ ((next.tree ∷ next.current) ++ next.following)) below)
          ∙ ap (map number_of) (regroup next.tree next.visited next.current next.following below);
      count = let both = length-append next.visited (next.tree ∷ []) in omega (arith, both, next.count);
      whole =
          append_assoc next.visited (next.tree ∷ []) (next.current ++ levels next.deeper ((next.following ++ below) ++ children_of_each next.current))
          ∙ ap (λ (l : List PlainTree). next.visited ++ ((next.tree ∷ next.current) ++ levels next.deeper l)) pushed
          ∙ next.whole;
      ends = ap (level_after next.deeper) pushed ∙ next.ends;
    }
  where
    regroup : (t : PlainTree) (a b c d : List PlainTree) → (a ++ ((t ∷ b) ++ c)) ++ d ≡ (a ++ t ∷ []) ++ (b ++ (c ++ d))
    regroup t a b c d = simp append_assoc

over : (found : List ℕ) (done : ℕ) (visited current following : List PlainTree) → found ≡ map number_of (visited ++ (current ++ following))
    → length visited ≡ done → length found ≤ done → (current ≡ []) × (following ≡ [])
over found done visited [] [] numbers count le = (refl, refl)
over found done visited [] (t ∷ ts) numbers count le =
    absurd (let same = ap length numbers in let all = length-map (visited ++ t ∷ ts) number_of in let both = length-append visited (t ∷ ts) in
    omega (arith, same, all, both, count, le))
over found done visited (t ∷ ts) us numbers count le =
    absurd (let same = ap length numbers in let all = length-map (visited ++ ((t ∷ ts) ++ us)) number_of in let both = length-append visited ((t ∷ ts) ++ us) in
    omega (arith, same, all, both, count, le))

-- Where all trees of the queue were visited, it has all that is below.
pub queue_ends : (v : PlainTree) (done : ℕ) (found : List ℕ) → IsQueue v done found → length found ≤ done → found ≡ map number_of (below_in_level_order v)
queue_ends v done found q le =
    let end = over found done q.visited q.current q.following q.numbers q.count le in
    let rest : q.current ++ levels q.deeper (q.following ++ children_of_each q.current) ≡ q.current ++ q.following =
    ap (λ (l : List PlainTree). l ++ levels q.deeper (q.following ++ children_of_each l)) end.0
    ∙ ap (λ (l : List PlainTree). levels q.deeper (l ++ [])) end.1
    ∙ no_levels q.deeper
    ∙ sym (ap (λ (l : List PlainTree). l ++ q.following) end.0 ∙ end.1) in
    q.numbers ∙ ap (λ (l : List PlainTree). map number_of (q.visited ++ l)) (sym rest) ∙ ap (map number_of) q.whole

-- The queue isn't longer than what is below, and the next tree is below.
pub next_is_below : (v : PlainTree) (done : ℕ) (found : List ℕ) (next : HasNext v done found) → Contains (below_in_level_order v) next.tree
next_is_below v done found next =
    subst (λ (l : List PlainTree). Contains l next.tree) next.whole
    (Contains-append_right next.visited ((next.tree ∷ next.current) ++ levels next.deeper (next.following ++ children_of_each (next.tree ∷ next.current)))
    next.tree (zero, omega arith, refl))

pub next_is_before : (v : PlainTree) (done : ℕ) (found : List ℕ) (next : HasNext v done found) → done < length (below_in_level_order v)
next_is_before v done found next =
    let same = ap length next.whole in
    let both = length-append next.visited ((next.tree ∷ next.current) ++ levels next.deeper (next.following ++ children_of_each (next.tree ∷ next.current))) in
    omega (arith, same, both, next.count)

-- the number at the index of the next tree
pub next_number : (v : PlainTree) (done : ℕ) (found : List ℕ) (next : HasNext v done found) (d : ℕ) → get_or found done d ≡ number_of next.tree
next_number v done found next d =
    ap (λ (l : List ℕ). get_or l done d) (next.numbers ∙ map-append number_of next.visited ((next.tree ∷ next.current) ++ next.following))
    ∙ at_middle (map number_of next.visited) (number_of next.tree) (map number_of (next.current ++ next.following)) done
    (length-map next.visited number_of ∙ next.count)
  where
    at_middle : (xs : List ℕ) (y : ℕ) (ys : List ℕ) (i : ℕ) → length xs ≡ i → get_or (xs ++ y ∷ ys) i d ≡ y
    at_middle [] y ys zero e = refl
    at_middle [] y ys (suc i) e = absurd (omega (arith, e))
    at_middle (x ∷ xs) y ys zero e = absurd (omega (arith, e))
    at_middle (x ∷ xs) y ys (suc i) e = at_middle xs y ys i (omega (arith, e))
