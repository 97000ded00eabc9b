-- A queue in order is given by how often each node is in it.
use Rattle.std.proofs.Common.{◌≡◌, ◌<◌, ◌+◌, ◌==◌, ◌&&◌, ℕ, Bool, true, false, cond, List, [], ◌∷◌, refl, sym, ap, ◌∙◌, subst, arith}
use Rattle.std.specs.List.{AllByRecursion}
use Rattle.std.specs.Bool.{Decides}
use Rattle.std.proofs.lemmas.Bool.Decides.{Decides-and, Decides-eqb}
use Rattle.node_queue.specs.Waiting.{IsInOrder, Waiting, comes_before, with_node}
use Rattle.node_queue.proofs.OrderLemmas.{antisymmetric, by_test, irreflexive, same_waiting}
use Rattle.node_queue.proofs.QueueLemmas.{with_node-after, with_node-before}

-- the two nodes are one
abbrev pub is_same : Waiting → Waiting → Bool
is_same a b = a.node == b.node && (a.weight == b.weight && a.first == b.first)

decides : (a b : Waiting) → Decides (is_same a b) ((a.node ≡ b.node) × ((a.weight ≡ b.weight) × (a.first ≡ b.first)))
decides a b = Decides-and _ _ (Decides-eqb a.node b.node) (Decides-and _ _ (Decides-eqb a.weight b.weight) (Decides-eqb a.first b.first))

same-is : (a b : Waiting) → is_same a b ≡ true → a ≡ b
same-is a b is = let parts = (decides a b).0 is in same_waiting a b parts.0 parts.1.0 parts.1.1

is-same : (a : Waiting) → is_same a a ≡ true
is-same a = (decides a a).1 (refl, (refl, refl))

-- one where the node is this one
abbrev pub count_at : Waiting → Waiting → ℕ
count_at node other = cond (is_same node other) 1 0

-- how often the node is in the queue
abbrev pub count_of : Waiting → List Waiting → ℕ
count_of node [] = 0
count_of node (next ∷ later) = count_at node next + count_of node later

pub count_of-with_node : (node added : Waiting) (queue : List Waiting) → count_of node (with_node added queue) ≡ count_at node added + count_of node queue
count_of-with_node node added [] = refl
count_of-with_node node added (next ∷ later) =
    by_test (comes_before next added)
    (λ is. let rest = count_of-with_node node added later in ap (count_of node) (with_node-after added next later is) ∙ omega (arith, rest))
    (λ is. ap (count_of node) (with_node-before added next later is))

counts_itself : (node : Waiting) (later : List Waiting) → 0 < count_of node (node ∷ later)
counts_itself node later = let one : count_at node node ≡ 1 = rw (is-same node) refl in omega (arith, one)

-- what holds of all nodes holds of one that is counted
all-counted : (P : Waiting → Type 0) (queue : List Waiting) (node : Waiting) → AllByRecursion P queue → 0 < count_of node queue → P node
all-counted P [] node all some = absurd (omega arith)
all-counted P (next ∷ later) node all some =
    by_test (is_same node next)
    (λ is. subst P (sym (same-is node next is)) all.0)
    (λ is. let none : count_at node next ≡ 0 = rw is refl in all-counted P later node all.1 (omega (arith, none)))

-- none that is counted comes before the first
first_of : (first : Waiting) (later : List Waiting) (node : Waiting) → IsInOrder (first ∷ later) → 0 < count_of node (first ∷ later)
    → comes_before node first ≡ false
first_of first later node order some =
    all-counted (λ other. comes_before other first ≡ false) (first ∷ later) node (irreflexive first, order.0) some

pub same_counts : (queue other : List Waiting) → IsInOrder queue → IsInOrder other → ((node : Waiting) → count_of node queue ≡ count_of node other)
    → queue ≡ other
same_counts [] [] order order' counts = refl
same_counts [] (b ∷ other) order order' counts = absurd (let some = counts_itself b other in let is = counts b in omega arith)
same_counts (a ∷ queue) [] order order' counts = absurd (let some = counts_itself a queue in let is = counts a in omega arith)
same_counts (a ∷ queue) (b ∷ other) order order' counts =
    let same : a ≡ b =
    antisymmetric a b
    (first_of b other a order' (subst (λ n. 0 < n) (counts a) (counts_itself a queue)))
    (first_of a queue b order (subst (λ n. 0 < n) (sym (counts b)) (counts_itself b other))) in
    let rest : queue ≡ other =
    same_counts queue other order.1 order'.1 (λ node. let whole = counts node in let first = ap (count_at node) same in omega (arith, whole, first)) in
    λ i. same i ∷ rest i
