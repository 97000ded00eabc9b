-- Heaps with the same entries mean the same queue.
use Rattle.std.proofs.Common.{◌≡◌, length, Some, ◌+◌, ◌==◌, ◌&&◌, ◌||◌, ℕ, Bool, true, false, cond, List, [], ◌∷◌, refl, sym, ap, ◌∙◌, arith}
use Rattle.std.specs.Prelude.{IsTrue, drop, nat_lt, option_map, slice_get}
use Rattle.std.specs.List.{AllByRecursion, sum_by}
use Rattle.std.specs.List.Sorted.{IsPermutation}
use Rattle.std.specs.BinaryHeap.{IsUpperBound}
use Rattle.std.specs.Ordering.{is_lt, ordering_then}
use Rattle.std.specs.declared.cmp.Ordering.{Ordering}
use Rattle.std.specs.declared.cmp.Ordering.TheVariants.{Less, Equal, Greater}
use Rattle.std.proofs.lemmas.List.Sorted.{sum_by-IsPermutation}
use Rattle.std.proofs.lemmas.List.Sums.{sum_by-cons}
use Rattle.node_queue.specs.declared.queue.Entry.{Entry}
use Rattle.node_queue.specs.Waiting.{IsInOrder, Waiting, comes_before, with_node}
use Rattle.node_queue.specs.inner.Heap.{entry_cmp, in_order, waiting_of}
use Rattle.std.proofs.lemmas.Bool.{eqb-true}
use Rattle.node_queue.proofs.QueueLemmas.{all-with_node, stays_in_order, with_node-before, with_node-some}
use Rattle.node_queue.proofs.Counts.{count_at, count_of, count_of-with_node, same_counts}

pub is_in_order : (entries : List Entry) → IsInOrder (in_order entries)
is_in_order [] = tt
is_in_order (entry ∷ entries) = stays_in_order (waiting_of entry) (in_order entries) (is_in_order entries)

count-in_order : (node : Waiting) (entries : List Entry) → count_of node (in_order entries) ≡ sum_by (λ entry. count_at node (waiting_of entry)) entries
count-in_order node [] = refl
count-in_order node (entry ∷ entries) =
    let rest = count-in_order node entries in
    count_of-with_node node (waiting_of entry) (in_order entries) ∙ ap (λ n. count_at node (waiting_of entry) + n) rest
    ∙ sym (sum_by-cons (λ entry. count_at node (waiting_of entry)) entry entries)

-- the same entries in another order
pub in_order-permutation : (entries others : List Entry) → IsPermutation entries others → in_order others ≡ in_order entries
in_order-permutation entries others is =
    same_counts (in_order others) (in_order entries) (is_in_order others) (is_in_order entries)
    (λ node. count-in_order node others ∙ sum_by-IsPermutation (λ entry. count_at node (waiting_of entry)) entries others is
    ∙ sym (count-in_order node entries))

lt-then : (less same : Bool) (order : Ordering) → is_lt (ordering_then (cond less Less (cond same Equal Greater)) order) ≡ (less || (same && is_lt order))
lt-then true same order = refl
lt-then false true order = refl
lt-then false false order = refl

lt-last : (less same : Bool) → is_lt (cond less Less (cond same Equal Greater)) ≡ less
lt-last true same = refl
lt-last false true = refl
lt-last false false = refl

-- an entry is less where the other comes before it
lt-entry_cmp : (a b : Entry) → is_lt (entry_cmp a b) ≡ comes_before (waiting_of b) (waiting_of a)
lt-entry_cmp a b =
    lt-then (nat_lt a.weight b.weight) (a.weight == b.weight) _
    ∙ ap (λ t. nat_lt a.weight b.weight || (a.weight == b.weight && t))
    (lt-then (nat_lt b.first.0 a.first.0) (b.first.0 == a.first.0) _
    ∙ ap (λ t. nat_lt b.first.0 a.first.0 || (b.first.0 == a.first.0 && t)) (lt-last (nat_lt b.node.0 a.node.0) (b.node.0 == a.node.0)))

all-in_order : (P : Waiting → Type 0) (entries : List Entry) → AllByRecursion (λ entry. P (waiting_of entry)) entries → AllByRecursion P (in_order entries)
all-in_order P [] all = tt
all-in_order P (entry ∷ entries) all = all-with_node P (waiting_of entry) (in_order entries) all.0 (all-in_order P entries all.1)

none_before : (top : Entry) (entries : List Entry) → IsUpperBound entry_cmp top entries
    → AllByRecursion (λ entry. comes_before (waiting_of entry) (waiting_of top) ≡ false) entries
none_before top [] all = tt
none_before top (entry ∷ entries) all = (sym (lt-entry_cmp top entry) ∙ all.0, none_before top entries all.1)

with_first : (node : Waiting) (queue : List Waiting) → AllByRecursion (λ other. comes_before other node ≡ false) queue → with_node node queue ≡ node ∷ queue
with_first node [] all = refl
with_first node (next ∷ later) all = with_node-before node next later all.0

-- the greatest entry is the next node, and the others are the later ones
pub in_order-top : (top : Entry) (entries others : List Entry) → IsPermutation entries (top ∷ others) → IsUpperBound entry_cmp top others
    → in_order entries ≡ waiting_of top ∷ in_order others
in_order-top top entries others is greatest =
    sym (in_order-permutation entries (top ∷ others) is)
    ∙ with_first (waiting_of top) (in_order others)
    (all-in_order (λ other. comes_before other (waiting_of top) ≡ false) others (none_before top others greatest))

-- a queue is empty where it has no entries
pub in_order-empty : (entries : List Entry) (len : ℕ) (result : Bool) → len ≡ length entries → result ≡ (len == 0) → (IsTrue result → in_order entries ≡ [])
    × (in_order entries ≡ [] → IsTrue result)
in_order-empty [] len result is answer = (λ _. refl, λ _. answer ∙ rw is refl)
in_order-empty (entry ∷ entries) len result is answer = (
  λ yes. absurd (let none = eqb-true len 0 (sym answer ∙ yes) in omega (arith, is, none)),
  λ none. absurd (with_node-some (waiting_of entry) (in_order entries) none),
)

-- what is taken out of a queue that begins with this node
pub first-of : (node : Waiting) (queue later : List Waiting) → queue ≡ node ∷ later → Some node.node ≡ option_map (λ waiting. waiting.node) (slice_get queue 0)
first-of node queue later is = rw is refl

pub later-of : (node : Waiting) (queue later : List Waiting) → queue ≡ node ∷ later → later ≡ drop 1 queue
later-of node queue later is = rw is refl
