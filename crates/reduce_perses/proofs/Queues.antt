-- Queues of nodes of a tree, as they get more nodes, and as the tree changes elsewhere.
use Rattle.std.proofs.Common.{◌≡◌, ℕ, ◌+◌, ◌≤◌, Bool, true, false, cond, List, [], ◌∷◌, Some, refl, sym, ap, ◌∙◌, subst, arith}
use Rattle.std.specs.List.{AllByRecursion}
use Rattle.std.specs.Option.{option_map_or}
use Rattle.node_queue.specs.Waiting.{Waiting, comes_before, with_node}
use Rattle.node_queue.proofs.Lent.{by_test, all-with_node, stays_in_order, with_node-after, with_node-before}
use Rattle.syntax_tree.specs.Trees.{PlainTree, PlainTrees, size, size_all}
use Rattle.syntax_tree.specs.Numbered.{number_of, subtree, subtree_among}
use Rattle.syntax_tree.proofs.Lent.{AreWithin, IsWithin, root_found}
use Rattle.reduce_perses.specs.Queued.{AreApartAt, AreApartIn, IsEntryIn, IsQueueOf, nodes_in, waiting_of, waits, with_trees}
use Rattle.reduce_perses.proofs.NodeFacts.{first_found, later_found, not_both, same_node}

pub all_both : {A : Type 0} (P Q R : A → Type 0) (xs : List A) → ((x : A) → P x → Q x → R x) → AllByRecursion P xs → AllByRecursion Q xs → AllByRecursion R xs
all_both P Q R [] f ps qs = tt
all_both P Q R (x ∷ xs) f ps qs = (f x ps.0 qs.0, all_both P Q R xs f ps.1 qs.1)

pub all_map : {A : Type 0} (P R : A → Type 0) (xs : List A) → ((x : A) → P x → R x) → AllByRecursion P xs → AllByRecursion R xs
all_map P R [] f ps = tt
all_map P R (x ∷ xs) f ps = (f x ps.0, all_map P R xs f ps.1)

pub apart_swapped : (t : PlainTree) (entry other : Waiting) → AreApartAt t entry other → AreApartAt t other entry
apart_swapped t entry other apart u v eu ev p x y ex ey = apart v u ev eu p y x ey ex

apart_with : (t : PlainTree) (added : Waiting) (queue : List Waiting) → AllByRecursion (AreApartAt t added) queue → AreApartIn t queue
    → AreApartIn t (with_node added queue)
apart_with t added [] all apart = (tt, tt)
apart_with t added (next ∷ later) all apart =
    by_test (comes_before next added)
    (λ is. subst (AreApartIn t) (sym (with_node-after added next later is))
    (all-with_node (AreApartAt t next) added later (apart_swapped t added next all.0) apart.0, apart_with t added later all.1 apart.1))
    (λ is. subst (AreApartIn t) (sym (with_node-before added next later is)) (all, apart))

abbrev pub size_at : PlainTree → Waiting → ℕ
size_at t entry = option_map_or size (subtree entry.node t) 0

nodes_with : (t : PlainTree) (added : Waiting) (queue : List Waiting) → nodes_in t (with_node added queue) ≡ size_at t added + nodes_in t queue
nodes_with t added [] = refl
nodes_with t added (next ∷ later) =
    by_test (comes_before next added)
    (λ is. let more = nodes_with t added later in let same = ap (nodes_in t) (with_node-after added next later is) in omega (arith, more, same))
    (λ is. ap (nodes_in t) (with_node-before added next later is))

-- The tree changes, but not at the nodes of the queue.

abbrev pub IsSameAt : PlainTree → PlainTree → Waiting → Type 0
IsSameAt t u entry = subtree entry.node u ≡ subtree entry.node t

entry_same : (t u : PlainTree) (entry : Waiting) → IsSameAt t u entry → IsEntryIn t entry → IsEntryIn u entry
entry_same t u entry same is = record { node = is.node; node_is = same ∙ is.node_is; waits_is = is.waits_is; entry_is = is.entry_is }

apart_same : (t u : PlainTree) (queue : List Waiting) → AllByRecursion (IsSameAt t u) queue → AreApartIn t queue → AreApartIn u queue
apart_same t u [] same apart = tt
apart_same t u (entry ∷ queue) same apart = (
  all_both (IsSameAt t u) (AreApartAt t entry) (AreApartAt u entry) queue (λ other e a x y ex ey. a x y (sym same.0 ∙ ex) (sym e ∙ ey)) same.1 apart.0,
  apart_same t u queue same.1 apart.1,
)

pub queue_same : (t u : PlainTree) (queue : List Waiting) → AllByRecursion (IsSameAt t u) queue → IsQueueOf t queue → IsQueueOf u queue
queue_same t u queue same is = record {
  in_order = is.in_order;
  entries = all_both (IsSameAt t u) (IsEntryIn t) (IsEntryIn u) queue (λ entry e i. entry_same t u entry e i) same is.entries;
  apart = apart_same t u queue same is.apart;
}

pub nodes_same : (t u : PlainTree) (queue : List Waiting) → AllByRecursion (IsSameAt t u) queue → nodes_in u queue ≡ nodes_in t queue
nodes_same t u [] same = refl
nodes_same t u (entry ∷ queue) same =
    let first = ap (λ o. option_map_or size o 0) same.0 in
    let later = nodes_same t u queue same.1 in
    omega (arith, first, later)

-- Trees of the tree wait too.

-- All that is in these trees is in the tree.
abbrev pub AreIn : PlainTree → PlainTrees → Type 0
AreIn t us = (p : ℕ) (y : PlainTree) → subtree_among p us ≡ Some y → subtree p t ≡ Some y

-- Nothing in the node that the entry is of is in these trees.
abbrev pub IsApartFrom : PlainTree → PlainTrees → Waiting → Type 0
IsApartFrom t us entry = (u : PlainTree) → subtree entry.node t ≡ Some u → (p : ℕ) (x y : PlainTree) → subtree p u ≡ Some x → subtree_among p us ≡ Some y → ⊥

-- A queue that the trees us can be added to.
pub record IsOpenFor (t : PlainTree) (us : PlainTrees) (queue : List Waiting) : Type 0 where
  pub queue_is : IsQueueOf t queue
  pub apart : AllByRecursion (IsApartFrom t us) queue

module _ (t : PlainTree) (low middle high : ℕ) (x : PlainTree) (us : PlainTrees) (first : IsWithin low middle x) (others : AreWithin middle high us)
    (inside : AreIn t (PlainTrees.next x us)) where
  root_in : subtree (number_of x) t ≡ Some x
  root_in = inside (number_of x) x (first_found (number_of x) x us x (root_found x))

  others_in : AreIn t us
  others_in p y e = inside p y (later_found low middle high p x us y first others e)

  fewer_apart : (entry : Waiting) → IsApartFrom t (PlainTrees.next x us) entry → IsApartFrom t us entry
  fewer_apart entry apart u e p y z ey ez = apart u e p y z ey (later_found low middle high p x us z first others ez)

  from_first : (entry : Waiting) → IsApartFrom t (PlainTrees.next x us) entry → AreApartAt t (waiting_of x) entry
  from_first entry apart u v eu ev p y z ey ez =
      let same : u ≡ x = same_node (subtree (number_of x) t) u x eu root_in in
      apart v ev p z y ez (first_found p x us y (ap (subtree p) (sym same) ∙ ey))

  first_apart : IsApartFrom t us (waiting_of x)
  first_apart u e p y z ey ez =
      let same : u ≡ x = same_node (subtree (number_of x) t) u x e root_in in
      not_both low middle high p x us y z first others (ap (subtree p) (sym same) ∙ ey) ez

  with_first : (queue : List Waiting) → waits x ≡ true → IsOpenFor t (PlainTrees.next x us) queue → IsOpenFor t us (with_node (waiting_of x) queue)
  with_first queue is open_for = record {
    queue_is = record {
      in_order = stays_in_order (waiting_of x) queue open_for.queue_is.in_order;
      entries =
          all-with_node (IsEntryIn t) (waiting_of x) queue (record { node = x; node_is = root_in; waits_is = is; entry_is = refl }) open_for.queue_is.entries;
      apart =
          apart_with t (waiting_of x) queue (all_map (IsApartFrom t (PlainTrees.next x us)) (AreApartAt t (waiting_of x)) queue from_first open_for.apart)
          open_for.queue_is.apart;
    };
    apart =
        all-with_node (IsApartFrom t us) (waiting_of x) queue first_apart
        (all_map (IsApartFrom t (PlainTrees.next x us)) (IsApartFrom t us) queue fewer_apart open_for.apart);
  }

  without_first : (queue : List Waiting) → IsOpenFor t (PlainTrees.next x us) queue → IsOpenFor t us queue
  without_first queue open_for =
      record { queue_is = open_for.queue_is; apart = all_map (IsApartFrom t (PlainTrees.next x us)) (IsApartFrom t us) queue fewer_apart open_for.apart }

  pub one_more : (b : Bool) (queue : List Waiting) → waits x ≡ b → IsOpenFor t (PlainTrees.next x us) queue
      → IsOpenFor t us (cond b (with_node (waiting_of x) queue) queue)
  one_more true queue is open_for = with_first queue is open_for
  one_more false queue is open_for = without_first queue open_for

  pub nodes_one_more : (b : Bool) (queue : List Waiting) → nodes_in t (cond b (with_node (waiting_of x) queue) queue) ≤ size x + nodes_in t queue
  nodes_one_more true queue =
      let more = nodes_with t (waiting_of x) queue in
      let here = ap (λ o. option_map_or size o 0) root_in in
      omega (arith, more, here)
  nodes_one_more false queue = omega arith

module _ (t : PlainTree) where
  pub queue_more : (low high : ℕ) (us : PlainTrees) (queue : List Waiting) → AreWithin low high us → AreIn t us → IsOpenFor t us queue
      → IsQueueOf t (with_trees us queue)
  queue_more low high PlainTrees.none queue within inside open_for = open_for.queue_is
  queue_more low high (PlainTrees.next x us) queue within inside open_for =
      queue_more within.0 high us (cond (waits x) (with_node (waiting_of x) queue) queue) within.2 (others_in t low within.0 high x us within.1 within.2 inside)
      (one_more t low within.0 high x us within.1 within.2 inside (waits x) queue refl open_for)

  pub nodes_more : (low high : ℕ) (us : PlainTrees) (queue : List Waiting) → AreWithin low high us → AreIn t us
      → nodes_in t (with_trees us queue) ≤ size_all us + nodes_in t queue
  nodes_more low high PlainTrees.none queue within inside = omega arith
  nodes_more low high (PlainTrees.next x us) queue within inside =
      let more =
      nodes_more within.0 high us (cond (waits x) (with_node (waiting_of x) queue) queue) within.2
      (others_in t low within.0 high x us within.1 within.2 inside) in
      let one = nodes_one_more t low within.0 high x us within.1 within.2 inside (waits x) queue in
      omega (arith, more, one)
