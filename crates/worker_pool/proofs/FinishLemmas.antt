-- Where no worker holds a claim.
use Rattle.std.proofs.Common.{◌≡◌, ℕ, List, [], ◌∷◌, All, Bool, true, false, cond, Option, Some, None, IsSome}
use Rattle.std.proofs.Common.{find, map, option_map, nat_eq, refl, sym, ap, ◌∙◌, subst}
use Rattle.std.proofs.lemmas.Cmp.{nat_eq_equiv}
use Rattle.std.proofs.lemmas.List.Elements.{All-head, All-tail}
use Rattle.std.specs.List.{cons_option}
use Rattle.verdict_table.specs.declared.table.Claim.{Claim}
use Rattle.reduce_step.specs.Plan.{Plan, asked}
use Rattle.ordered_commit.specs.Moves.{OpenClaim, text_of_worker}
use Rattle.ordered_commit.specs.declared.seat.Seat.{Seat}
use Rattle.ordered_commit.specs.Seats.{Agrees, SameForOthers, claims_held, is_claim, seat_of, with_seat}
use Rattle.ordered_commit.specs.BoardState.{BoardState, claim_by, held_claim, held_claims}
use Rattle.ordered_commit.specs.TakeEnds.{IsWaiting}

head_free : (o : Option ℕ) (ns : List ℕ) → cons_option o ns ≡ [] → (o ≡ None) × (ns ≡ [])
head_free None ns is = (refl, is)
head_free (Some n) ns is = absurd (cc is)

-- nobody holds a claim
no_holder_at : (n : ℕ) (s : Seat) (o : Option ℕ) (rest : Option Seat) → o ≡ None → rest ≡ None → cond (is_claim n o) (Some s) rest ≡ None
no_holder_at n s None rest free none = none
no_holder_at n s (Some m) rest free none = absurd (cc free)

no_holder : (n : ℕ) (seats : List Seat) → claims_held seats ≡ [] → find (λ s. is_claim n s.claim) seats ≡ None
no_holder n [] free = refl
no_holder n (s ∷ seats) free =
    let both = head_free s.claim (claims_held seats) free in
    no_holder_at n s s.claim (find (λ (t : Seat). is_claim n t.claim) seats) both.0 (no_holder n seats both.1)

none_held : (seats : List Seat) (claims : List Claim) → claims_held seats ≡ [] → held_claims seats claims ≡ []
none_held seats [] free = refl
none_held seats (c ∷ claims) free =
    let nobody : held_claim seats c ≡ None =
    ap (λ (o : Option Seat). option_map (claim_by c.text) (option_map (λ (s : Seat). s.worker) o)) (no_holder c.number seats free) in
    ap (λ (o : Option OpenClaim). cons_option o (held_claims seats claims)) nobody ∙ none_held seats claims free

-- so nobody waits for another
pub not_waiting : {S J : Type 0} (plan : S → Plan) (worker : ℕ) (state : BoardState S J) → claims_held state.seats ≡ [] → IsWaiting plan worker state → ⊥
not_waiting plan worker state free waiting =
    let none : None ≡ asked (plan state.front) = ap (text_of_worker waiting.another) (sym (none_held state.seats state.table.claims free)) ∙ waiting.claimed in
    absurd (cc (subst IsSome (sym none) waiting.asking))

-- a claim that was made and ended leaves all free
freed_at : (s seat seat' : Seat) (b : Bool) → b ≡ nat_eq s.worker seat.worker → s.claim ≡ None → seat'.claim ≡ None → seat'.worker ≡ seat.worker
    → (cond (nat_eq (cond b seat s).worker seat'.worker) seat' (cond b seat s)).claim ≡ None
freed_at s seat seat' true is free done same =
    let equal : nat_eq seat.worker seat'.worker ≡ true = ap (nat_eq seat.worker) same ∙ nat_eq_equiv.refl seat.worker in
    rw equal done
freed_at s seat seat' false is free done same = either_free (nat_eq s.worker seat'.worker)
  where
    either_free : (c : Bool) → (cond c seat' s).claim ≡ None
    either_free true = done
    either_free false = free

pub freed : (seats : List Seat) (seat seat' : Seat) → claims_held seats ≡ [] → seat'.claim ≡ None → seat'.worker ≡ seat.worker
    → claims_held (with_seat seat' (with_seat seat seats)) ≡ []
freed [] seat seat' free done same = refl
freed (s ∷ seats) seat seat' free done same =
    let both = head_free s.claim (claims_held seats) free in
    ap (λ (o : Option ℕ). cons_option o (claims_held (with_seat seat' (with_seat seat seats))))
    (freed_at s seat seat' (nat_eq s.worker seat.worker) refl both.0 done same)
    ∙ freed seats seat seat' both.1 done same

-- what is the same for others, and then the same again
pub others_twice : (worker worker' : ℕ) (one two three : List Seat) → worker' ≡ worker → SameForOthers worker one two → SameForOthers worker' two three
    → SameForOthers worker one three
others_twice worker worker' one two three same first second other apart = second other (λ is. apart (is ∙ same)) ∙ first other apart

-- ---- the seats that the workers bring back

some_of : (a b : Seat) → Some a ≡ Some b → a ≡ b
some_of a b is = cc is

pub same_seats : (all xs ys : List Seat) → map (λ (s : Seat). s.worker) xs ≡ map (λ (s : Seat). s.worker) ys → All (Agrees all) xs → All (Agrees all) ys
    → xs ≡ ys
same_seats all [] [] numbers one two = refl
same_seats all [] (y ∷ ys) numbers one two = absurd (cc numbers)
same_seats all (x ∷ xs) [] numbers one two = absurd (cc numbers)
same_seats all (x ∷ xs) (y ∷ ys) numbers one two =
    let number : x.worker ≡ y.worker = cc numbers in
    let later : map (λ (s : Seat). s.worker) xs ≡ map (λ (s : Seat). s.worker) ys = cc numbers in
    let head : x ≡ y = some_of x y (sym (All-head (Agrees all) x xs one) ∙ ap (λ (n : ℕ). seat_of n all) number ∙ All-head (Agrees all) y ys two) in
    let tail = same_seats all xs ys later (All-tail (Agrees all) x xs one) (All-tail (Agrees all) y ys two) in
    (λ i. head i ∷ tail i)

pub all_free : (seats : List Seat) → All (λ (s : Seat). s.claim ≡ None) seats → claims_held seats ≡ []
all_free [] free = refl
all_free (s ∷ seats) free =
    ap (λ (o : Option ℕ). cons_option o (claims_held seats)) (All-head (λ (t : Seat). t.claim ≡ None) s seats free)
    ∙ all_free seats (All-tail (λ (t : Seat). t.claim ≡ None) s seats free)
