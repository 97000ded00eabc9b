-- A queue with one node more.
use Rattle.std.proofs.Common.{◌≡◌, ◌⊎◌, inl, inr, ⊎_elim, ◌<◌, ℕ, zero, suc, true, false, List, [], ◌∷◌, length, get_or, refl, sym, ◌∙◌, subst, arith}
use Rattle.std.specs.Prelude.{Contains}
use Rattle.std.specs.List.{AllByRecursion}
use Rattle.node_queue.specs.Waiting.{IsInOrder, Waiting, comes_before, with_node}
use Rattle.node_queue.specs.Laws.{HasOneMore, NextIsHeaviest, StaysInOrder}
use Rattle.node_queue.proofs.OrderLemmas.{asymmetric, by_test, not_before-trans, no_lighter}

pub with_node-after : (added next : Waiting) (later : List Waiting) → comes_before next added ≡ true
    → with_node added (next ∷ later) ≡ next ∷ with_node added later
with_node-after added next later is = rw is refl

pub with_node-before : (added next : Waiting) (later : List Waiting) → comes_before next added ≡ false → with_node added (next ∷ later) ≡ added ∷ next ∷ later
with_node-before added next later is = rw is refl

-- a queue with one node more isn't empty
pub with_node-some : (added : Waiting) (queue : List Waiting) → with_node added queue ≡ [] → ⊥
with_node-some added [] none = cc
with_node-some added (next ∷ later) none =
    by_test (comes_before next added)
    (λ is. let both : next ∷ with_node added later ≡ [] = sym (with_node-after added next later is) ∙ none in cc)
    (λ is. let both : added ∷ next ∷ later ≡ [] = sym (with_node-before added next later is) ∙ none in cc)

-- what holds of the added node and of each other one holds of all
pub all-with_node : (P : Waiting → Type 0) (added : Waiting) (queue : List Waiting) → P added → AllByRecursion P queue
    → AllByRecursion P (with_node added queue)
all-with_node P added [] has all = (has, tt)
all-with_node P added (next ∷ later) has all =
    by_test (comes_before next added)
    (λ is. subst (AllByRecursion P) (sym (with_node-after added next later is)) (all.0, all-with_node P added later has all.1))
    (λ is. subst (AllByRecursion P) (sym (with_node-before added next later is)) (has, all))

all-map : (P Q : Waiting → Type 0) → ((node : Waiting) → P node → Q node) → (queue : List Waiting) → AllByRecursion P queue → AllByRecursion Q queue
all-map P Q each [] all = tt
all-map P Q each (next ∷ later) all = (each next all.0, all-map P Q each later all.1)

pub stays_in_order : StaysInOrder
stays_in_order added [] order = (tt, tt)
stays_in_order added (next ∷ later) order =
    by_test (comes_before next added)
    (λ is. subst IsInOrder (sym (with_node-after added next later is))
    (all-with_node (λ other. comes_before other next ≡ false) added later (asymmetric next added is) order.0, stays_in_order added later order.1))
    (λ is. subst IsInOrder (sym (with_node-before added next later is)) (
      (
        is,
        all-map (λ other. comes_before other next ≡ false) (λ other. comes_before other added ≡ false)
            (λ other isn't. not_before-trans other next added isn't is) later order.0,
      ),
      order,
    ))

-- Which nodes there are.

contains_next : (next : Waiting) (later : List Waiting) → Contains (next ∷ later) next
contains_next next later = (0, omega arith, refl)

contains_later : (next node : Waiting) (later : List Waiting) → Contains later node → Contains (next ∷ later) node
contains_later next node later has = (suc has.0, let within = has.1 in omega arith, has.2)

contains_at : (next node : Waiting) (later : List Waiting) (k : ℕ) → k < length (next ∷ later) → get_or (next ∷ later) k node ≡ node → (node ≡ next)
    ⊎ Contains later node
contains_at next node later zero within is = inl (sym is)
contains_at next node later (suc k) within is = inr (k, omega arith, is)

-- a node of a queue is the next one or a later one
pub contains-cons : (next node : Waiting) (later : List Waiting) → Contains (next ∷ later) node → (node ≡ next) ⊎ Contains later node
contains-cons next node later has = contains_at next node later has.0 has.1 has.2

contains_none : (node : Waiting) → Contains [] node → ⊥
contains_none node has = let within = has.1 in omega arith

same_or_contains : (next node : Waiting) (later : List Waiting) → (node ≡ next) ⊎ Contains later node → Contains (next ∷ later) node
same_or_contains next node later has =
    ⊎_elim (λ same. subst (λ n. Contains (next ∷ later) n) (sym same) (contains_next next later)) (contains_later next node later) has

has_added : (added node : Waiting) (queue : List Waiting) → Contains (with_node added queue) node → (node ≡ added) ⊎ Contains queue node
has_added added node [] has = contains-cons added node [] has
has_added added node (next ∷ later) has =
    by_test (comes_before next added)
    (λ is. ⊎_elim (λ same. inr (same_or_contains next node later (inl same)))
    (λ more. ⊎_elim (λ same. inl same) (λ old. inr (contains_later next node later old)) (has_added added node later more))
    (contains-cons next node (with_node added later) (subst (λ q. Contains q node) (with_node-after added next later is) has)))
    (λ is. contains-cons added node (next ∷ later) (subst (λ q. Contains q node) (with_node-before added next later is) has))

keeps_added : (added node : Waiting) (queue : List Waiting) → (node ≡ added) ⊎ Contains queue node → Contains (with_node added queue) node
keeps_added added node [] has = same_or_contains added node [] has
keeps_added added node (next ∷ later) has =
    by_test (comes_before next added)
    (λ is. subst (λ q. Contains q node) (sym (with_node-after added next later is))
    (⊎_elim (λ same. contains_later next node (with_node added later) (keeps_added added node later (inl same)))
    (λ old. ⊎_elim (λ same. same_or_contains next node (with_node added later) (inl same))
    (λ more. contains_later next node (with_node added later) (keeps_added added node later (inr more)))
    (contains-cons next node later old))
    has))
    (λ is. subst (λ q. Contains q node) (sym (with_node-before added next later is)) (same_or_contains added node (next ∷ later) has))

pub has_one_more : HasOneMore
has_one_more added node queue = (has_added added node queue, keeps_added added node queue)

all-contains : (P : Waiting → Type 0) (queue : List Waiting) (node : Waiting) → AllByRecursion P queue → Contains queue node → P node
all-contains P [] node all has = absurd (contains_none node has)
all-contains P (next ∷ later) node all has =
    ⊎_elim (λ same. subst P (sym same) all.0) (λ more. all-contains P later node all.1 more) (contains-cons next node later has)

pub next_is_heaviest : NextIsHeaviest
next_is_heaviest next later order other has =
    no_lighter next other (all-contains (λ node. comes_before node next ≡ false) later other order.0 has)
