-- The order of nodes is total.
use Rattle.std.proofs.Common.{◌≡◌, ◌⊎◌, ◌<◌, Bool, true, false, refl, sym, ◌∙◌, arith}
use Rattle.std.proofs.lemmas.Bool.{false≢true}
use Rattle.std.proofs.lemmas.Bool.Decides.{Decides-and, Decides-eqb, Decides-ltb, Decides-or}
use Rattle.std.specs.Bool.{Decides}
use Rattle.node_queue.specs.Waiting.{Waiting, comes_before}
use Rattle.node_queue.specs.Laws.{IsNoLighter}

pub by_test : (b : Bool) {P : Type 0} → (b ≡ true → P) → (b ≡ false → P) → P
by_test true at_true at_false = at_true refl
by_test false at_true at_false = at_false refl

-- what the order says of two nodes
IsBefore : Waiting → Waiting → Type 0
IsBefore a b = (b.weight < a.weight) ⊎ ((b.weight ≡ a.weight) × ((a.first < b.first) ⊎ ((a.first ≡ b.first) × (a.node < b.node))))

decides : (a b : Waiting) → Decides (comes_before a b) (IsBefore a b)
unfolding IsBefore
decides a b =
    Decides-or _ _ (Decides-ltb b.weight a.weight)
    (Decides-and _ _ (Decides-eqb b.weight a.weight)
    (Decides-or _ _ (Decides-ltb a.first b.first)
    (Decides-and _ _ (Decides-eqb a.first b.first) (Decides-ltb a.node b.node))))

is_before : (a b : Waiting) → comes_before a b ≡ true → IsBefore a b
is_before a b = (decides a b).0

not_before : (a b : Waiting) → comes_before a b ≡ false → IsBefore a b → ⊥
not_before a b isn't is = false≢true (sym isn't ∙ (decides a b).1 is)

false_where : (b : Bool) → (b ≡ true → ⊥) → b ≡ false
false_where b never = by_test b (λ is. absurd (never is)) (λ is. is)

-- no node comes before itself
pub irreflexive : (a : Waiting) → comes_before a a ≡ false
unfolding IsBefore
irreflexive a = false_where (comes_before a a) (λ is. let fact = is_before a a is in grind arith)

-- of two nodes at most one comes before the other
pub asymmetric : (a b : Waiting) → comes_before a b ≡ true → comes_before b a ≡ false
unfolding IsBefore
asymmetric a b is = false_where (comes_before b a) (λ back. let one = is_before a b is in let other = is_before b a back in grind arith)

-- where a doesn't come before b, nor b before c, a doesn't come before c
pub not_before-trans : (a b c : Waiting) → comes_before a b ≡ false → comes_before b c ≡ false → comes_before a c ≡ false
unfolding IsBefore
not_before-trans a b c first second =
    false_where (comes_before a c) (λ is.
    let fact = is_before a c is in let never = not_before a b first in let never' = not_before b c second in grind arith)

pub same_waiting : (a b : Waiting) → a.node ≡ b.node → a.weight ≡ b.weight → a.first ≡ b.first → a ≡ b
same_waiting a b p q r = λ i. record { node = p i; weight = q i; first = r i }

-- two nodes of which none comes before the other are one
pub antisymmetric : (a b : Waiting) → comes_before a b ≡ false → comes_before b a ≡ false → a ≡ b
unfolding IsBefore
antisymmetric a b first second =
    let never = not_before a b first in
    let never' = not_before b a second in
    let node : a.node ≡ b.node = grind arith in
    let weight : a.weight ≡ b.weight = grind arith in
    let begin : a.first ≡ b.first = grind arith in
    same_waiting a b node weight begin

-- a node that doesn't come after another is no lighter
pub no_lighter : (node other : Waiting) → comes_before other node ≡ false → IsNoLighter node other
unfolding IsBefore
no_lighter node other isn't = let never = not_before other node isn't in grind arith
