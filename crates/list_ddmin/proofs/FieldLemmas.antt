-- What the fields mark, and the state that they stand for.
use Rattle.std.proofs.Common.{◌≡◌, ℕ, ◌+◌, ◌-◌, ◌*◌, ◌^◌, ◌<◌, min, max, Bool, true, false, cond, List, [], ◌∷◌}
use Rattle.std.proofs.Common.{length, replicate, arith, refl, sym, ap, ◌∙◌, subst, IsSome}
use Rattle.std.proofs.lemmas.Bool.{false≢true}
use Rattle.std.proofs.lemmas.Bool.Decides.{nat_tests}
use Rattle.std.proofs.lemmas.List.{length-replicate}
use Rattle.std.specs.Prelude.{◌&&◌, nat_lt}
use Rattle.list_ddmin.specs.declared.machine.Phase.{Phase}
use Rattle.list_ddmin.specs.declared.machine.Phase.TheVariants.{Nothing, Parts, Complements, End}
use Rattle.list_ddmin.specs.ListStep.{kept_count, kept_where, border, part, complement}
use Rattle.list_ddmin.specs.Machine as machine
use Rattle.list_ddmin.specs.Machine.{IsSound, begun, after}
use Rattle.list_ddmin.specs.inner.Fields.{state_of, IsWhole, begun_phase, next_phase, first_phase_of, chosen, Marks, Agrees}
use Rattle.list_ddmin.proofs.Minimal.{length-part, length-complement, kept_count-all}
use Rattle.list_ddmin.proofs.Follows.{IsSound-after, IsSound-start}

none_chosen : (place : ℕ) → chosen 0 0 true place ≡ false
none_chosen place = grind (arith, nat_tests)

pub kept_where-none : (place : ℕ) (keep : List Bool) → kept_where (chosen 0 0 true) place keep ≡ replicate (length keep) false
kept_where-none place [] = refl
kept_where-none place (true ∷ keep) = let here : chosen 0 0 true place ≡ false = none_chosen place in let rest = kept_where-none (place + 1) keep in cc
kept_where-none place (false ∷ keep) = ap (λ l. false ∷ l) (kept_where-none place keep)

pub kept_where-part : (keep : List Bool) (size n i low high : ℕ) → size ≡ kept_count keep → low ≡ border size n i → high ≡ border size n (i + 1)
    → kept_where (chosen low high true) 0 keep ≡ part keep n i
unfolding part
kept_where-part keep size n i low high counted from to =
    let from' : low ≡ border (kept_count keep) n i = from ∙ ap (λ s. border s n i) counted in
    let to' : high ≡ border (kept_count keep) n (i + 1) = to ∙ ap (λ s. border s n (i + 1)) counted in
    λ j. kept_where (chosen (from' j) (to' j) true) 0 keep

pub kept_where-complement : (keep : List Bool) (size n i low high : ℕ) → size ≡ kept_count keep → low ≡ border size n i → high ≡ border size n (i + 1)
    → kept_where (chosen low high false) 0 keep ≡ complement keep n i
unfolding complement
kept_where-complement keep size n i low high counted from to =
    let from' : low ≡ border (kept_count keep) n i = from ∙ ap (λ s. border s n i) counted in
    let to' : high ≡ border (kept_count keep) n (i + 1) = to ∙ ap (λ s. border s n (i + 1)) counted in
    λ j. kept_where (chosen (from' j) (to' j) false) 0 keep

pub Marks-length : (phase : Phase) (keep asked : List Bool) → Marks phase keep asked → length asked ≡ length keep
Marks-length Nothing keep asked marks = ap length marks ∙ length-replicate (length keep) false
Marks-length (Parts n at) keep asked marks = ap length marks ∙ length-part keep n at
Marks-length (Complements n at) keep asked marks = ap length marks ∙ length-complement keep n at
Marks-length End keep asked marks = marks

state_of-cond : (b : Bool) (p q : Phase) (keep : List Bool) → state_of (cond b p q) keep ≡ cond b (state_of p keep) (state_of q keep)
state_of-cond true p q keep = refl
state_of-cond false p q keep = refl

pub state_of-begun : (keep : List Bool) (n : ℕ) → state_of (begun_phase (kept_count keep) n) keep ≡ begun keep n
state_of-begun keep n = state_of-cond (nat_lt (kept_count keep) 2) End (Parts n 0) keep

-- The next phase, with the list that it works on, stands for the state after the answer.
pub state_of-next_phase : (phase : Phase) (keep asked : List Bool) (answer : Bool) → IsWhole phase keep → Marks phase keep asked
    → IsSome (machine.asks (state_of phase keep))
    → state_of (next_phase phase answer (kept_count (cond answer asked keep))) (cond answer asked keep) ≡ after (state_of phase keep) answer
state_of-next_phase Nothing keep asked true whole marks asking = ap machine.End marks
state_of-next_phase Nothing keep asked false whole marks asking = state_of-begun keep 2 ∙ ap (λ k. begun k 2) whole
state_of-next_phase (Parts n at) keep asked true whole marks asking = state_of-begun asked 2 ∙ ap (λ k. begun k 2) marks
state_of-next_phase (Parts n at) keep asked false whole marks asking = state_of-cond (nat_lt (at + 1) n) (Parts n (at + 1)) (Complements n 0) keep
state_of-next_phase (Complements n at) keep asked true whole marks asking = state_of-begun asked (max (n - 1) 2) ∙ ap (λ k. begun k (max (n - 1) 2)) marks
state_of-next_phase (Complements n at) keep asked false whole marks asking =
    state_of-cond (nat_lt (at + 1) n) (Complements n (at + 1)) (cond (nat_lt n (kept_count keep)) (Parts (min (kept_count keep) (2 * n)) 0) End) keep
    ∙ ap (λ s. cond (nat_lt (at + 1) n) (machine.Complements keep n (at + 1)) s)
    (state_of-cond (nat_lt n (kept_count keep)) (Parts (min (kept_count keep) (2 * n)) 0) End keep)
state_of-next_phase End keep asked answer whole marks asking = absurd (false≢true asking)

-- Only a start has the phase Nothing.
IsWhole-cond : (b : Bool) (p q : Phase) (keep : List Bool) → IsWhole p keep → IsWhole q keep → IsWhole (cond b p q) keep
IsWhole-cond true p q keep at_true at_false = at_true
IsWhole-cond false p q keep at_true at_false = at_false

IsWhole-begun : (size n : ℕ) (keep : List Bool) → IsWhole (begun_phase size n) keep
IsWhole-begun size n keep = IsWhole-cond (nat_lt size 2) End (Parts n 0) keep tt tt

IsWhole-next : (phase : Phase) (answer : Bool) (size : ℕ) (keep : List Bool) → IsWhole (next_phase phase answer size) keep
IsWhole-next Nothing true size keep = tt
IsWhole-next Nothing false size keep = IsWhole-begun size 2 keep
IsWhole-next (Parts n at) true size keep = IsWhole-begun size 2 keep
IsWhole-next (Parts n at) false size keep = IsWhole-cond (nat_lt (at + 1) n) (Parts n (at + 1)) (Complements n 0) keep tt tt
IsWhole-next (Complements n at) true size keep = IsWhole-begun size (max (n - 1) 2) keep
IsWhole-next (Complements n at) false size keep =
    IsWhole-cond (nat_lt (at + 1) n) (Complements n (at + 1)) (cond (nat_lt n size) (Parts (min size (2 * n)) 0) End) keep tt
    (IsWhole-cond (nat_lt n size) (Parts (min size (2 * n)) 0) End keep tt tt)
IsWhole-next End answer size keep = tt

-- what an answer leaves in the fields, once the next candidate is marked
pub Agrees-next : (phase : Phase) (keep asked marked : List Bool) (answer : Bool) → Agrees phase keep asked
    → IsSome (machine.asks (state_of phase keep))
    → Marks (next_phase phase answer (kept_count (cond answer asked keep))) (cond answer asked keep) marked
    → Agrees (next_phase phase answer (kept_count (cond answer asked keep))) (cond answer asked keep) marked
Agrees-next phase keep asked marked answer agrees asking marks =
    let size : length (cond answer asked keep) ≡ length keep = same_size answer in
    let becomes = state_of-next_phase phase keep asked answer agrees.whole agrees.marked asking in
    record {
      few = rw size agrees.few;
      same = Marks-length (next_phase phase answer (kept_count (cond answer asked keep))) (cond answer asked keep) marked marks;
      whole = IsWhole-next phase answer (kept_count (cond answer asked keep)) (cond answer asked keep);
      sound = subst IsSound (sym becomes) (IsSound-after (state_of phase keep) answer agrees.sound);
      marked = marks;
    }
  where
    same_size : (b : Bool) → length (cond b asked keep) ≡ length keep
    same_size true = agrees.same
    same_size false = refl

-- The same, where the parts come under names of their own.
pub answered : (phase next : Phase) (keep asked now marked : List Bool) (answer : Bool) (size : ℕ) → Agrees phase keep asked
    → IsSome (machine.asks (state_of phase keep)) → now ≡ cond answer asked keep → size ≡ kept_count now → next ≡ next_phase phase answer size
    → Marks next now marked → Agrees next now marked × (state_of next now ≡ after (state_of phase keep) answer)
answered phase next keep asked now marked answer size agrees asking now_is size_is next_is marks =
    let size' : size ≡ kept_count (cond answer asked keep) = size_is ∙ ap kept_count now_is in
    let next' : next ≡ next_phase phase answer (kept_count (cond answer asked keep)) = next_is ∙ ap (λ m. next_phase phase answer m) size' in
    let marks' : Marks (next_phase phase answer (kept_count (cond answer asked keep))) (cond answer asked keep) marked =
    subst (λ k. Marks (next_phase phase answer (kept_count (cond answer asked keep))) k marked) now_is (subst (λ p. Marks p now marked) next' marks) in
    let P : Phase → List Bool → Type 0 = λ p k. Agrees p k marked × (state_of p k ≡ after (state_of phase keep) answer) in
    subst (λ p. P p now) (sym next')
    (subst (λ k. P (next_phase phase answer (kept_count (cond answer asked keep))) k) (sym now_is)
    (Agrees-next phase keep asked marked answer agrees asking marks', state_of-next_phase phase keep asked answer agrees.whole agrees.marked asking))

pub state_of-first : (len : ℕ) (may_be_empty : Bool) → state_of (first_phase_of len may_be_empty) (replicate len true) ≡ machine.start len may_be_empty
state_of-first len may_be_empty =
    let whole = replicate len true in
    let size : kept_count whole ≡ len = kept_count-all len in
    let go_on : state_of (begun_phase len 2) whole ≡ begun whole 2 = ap (λ n. state_of (begun_phase n 2) whole) (sym size) ∙ state_of-begun whole 2 in
    state_of-cond (may_be_empty && nat_lt 0 len) Nothing (begun_phase len 2) whole
    ∙ (λ i. cond (may_be_empty && nat_lt 0 len) (machine.Nothing (length-replicate len true i)) (go_on i))

pub IsWhole-first : (len : ℕ) (may_be_empty : Bool) → IsWhole (first_phase_of len may_be_empty) (replicate len true)
IsWhole-first len may_be_empty =
    IsWhole-cond (may_be_empty && nat_lt 0 len) Nothing (begun_phase len 2) (replicate len true)
    (ap (λ n. replicate n true) (sym (length-replicate len true))) (IsWhole-begun len 2 (replicate len true))

pub started : (len : ℕ) (may_be_empty : Bool) (phase : Phase) (keep marked : List Bool) → len < 2 ^ 32 → keep ≡ replicate len true
    → phase ≡ first_phase_of len may_be_empty → Marks phase keep marked → Agrees phase keep marked × (state_of phase keep ≡ machine.start len may_be_empty)
started len may_be_empty phase keep marked few all first marks =
    let begins : state_of phase keep ≡ machine.start len may_be_empty = (λ i. state_of (first i) (all i)) ∙ state_of-first len may_be_empty in
    let size : length keep ≡ len = ap length all ∙ length-replicate len true in (
      record {
        few = rw size few;
        same = Marks-length phase keep marked marks;
        whole = rw (first, all) (IsWhole-first len may_be_empty);
        sound = subst IsSound (sym begins) (IsSound-start len may_be_empty);
        marked = marks;
      },
      begins,
    )
