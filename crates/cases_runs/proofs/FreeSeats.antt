-- Seats that are handed back, looked at one after another.
use Rattle.std.proofs.Common.{◌≡◌, ◌+◌, ◌<◌, ◌≤◌, ◌++◌, ℕ, suc, List, [], ◌∷◌, All, None, length, map, take, get_or, arith, refl, sym, ap, ◌∙◌, subst}
use Rattle.std.proofs.lemmas.List.{map-append, take_all, take_more}
use Rattle.std.proofs.lemmas.List.Elements.{All-nil, All-push}
use Rattle.std.proofs.lemmas.List.Sorted.{IsPermutation-refl}
use Rattle.std.specs.List.{range_with_len}
use Rattle.std.specs.List.Sorted.{IsPermutation}
use Rattle.ordered_commit.specs.declared.seat.Seat.{Seat}
use Rattle.ordered_commit.specs.Seats.{Agrees, AreFreeSeats}
use Rattle.ordered_commit.proofs.Lent.{range_more}

-- the first so many of these seats are those of the workers from 1 on, agree and have no claim
pub record AreFreeSoFar (own given : List Seat) (count : ℕ) : Type 0 where
  pub numbered : map (λ s. s.worker) (take count given) ≡ range_with_len 1 count
  pub agree : All (Agrees own) (take count given)
  pub free : All (λ s. s.claim ≡ None) (take count given)

pub none_looked_at : (own given : List Seat) → AreFreeSoFar own given 0
none_looked_at own given = record { numbered = refl; agree = All-nil (Agrees own); free = All-nil (λ (s : Seat). s.claim ≡ None) }

pub one_more_free : (own given : List Seat) (count : ℕ) (s : Seat) → AreFreeSoFar own given count → count < length given → s ≡ get_or given count s
    → s.worker ≡ count + 1 → s.claim ≡ None → Agrees own s
    → AreFreeSoFar own given (count + 1)
one_more_free own given count s free within is number none agrees =
    let more : take (count + 1) given ≡ take count given ++ s ∷ [] = take_more given count s within ∙ ap (λ (t : Seat). take count given ++ t ∷ []) (sym is) in
    let same : s.worker ≡ 1 + count = omega (arith, number) in
    let next : suc count ≡ count + 1 = omega arith in
    let numbers : map (λ (t : Seat). t.worker) (take count given ++ s ∷ []) ≡ range_with_len 1 (count + 1) =
    map-append (λ (t : Seat). t.worker) (take count given) (s ∷ [])
    ∙ ap (λ (ns : List ℕ). ns ++ s.worker ∷ []) free.numbered
    ∙ ap (λ (n : ℕ). range_with_len 1 count ++ n ∷ []) same
    ∙ sym (range_more 1 count)
    ∙ ap (range_with_len 1) next in
    record {
      numbered = ap (map (λ (t : Seat). t.worker)) more ∙ numbers;
      agree = subst (All (Agrees own)) (sym more) (All-push (Agrees own) (take count given) s free.agree agrees);
      free = subst (All (λ (t : Seat). t.claim ≡ None)) (sym more) (All-push (λ (t : Seat). t.claim ≡ None) (take count given) s free.free none);
    }

pub all_looked_at : (own given : List Seat) → map (λ (s : Seat). s.worker) own ≡ range_with_len 1 (length own) → length given ≡ length own
    → AreFreeSoFar own given (length given) → AreFreeSeats own given
all_looked_at own given numbered many free =
    let most : length given ≤ length given = omega arith in
    let whole : take (length given) given ≡ given = take_all (length given) given most in
    let numbers : map (λ (s : Seat). s.worker) given ≡ range_with_len 1 (length given) = ap (map (λ (s : Seat). s.worker)) (sym whole) ∙ free.numbered in
    record {
      one_each =
          subst (IsPermutation (map (λ (s : Seat). s.worker) own)) (numbered ∙ ap (range_with_len 1) (sym many) ∙ sym numbers)
          (IsPermutation-refl (map (λ (s : Seat). s.worker) own));
      agree = subst (All (Agrees own)) whole free.agree;
      free = subst (All (λ (s : Seat). s.claim ≡ None)) whole free.free;
    }
