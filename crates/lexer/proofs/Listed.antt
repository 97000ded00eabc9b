-- Lists of the alternatives that can begin with a character.
use Rattle.std.proofs.Common.{◌≡◌, ◌<◌, ◌≤◌, ◌+◌, ◌⊎◌, inl, inr, ℕ, zero, suc, Vec, map, take, List, [], ◌∷◌, ◌++◌, Some, slice_get}
use Rattle.std.proofs.Common.{slice_index_or, length, refl, sym, ap, ap₂, ◌∙◌, subst, arith, length-append}
use Rattle.std.specs.List.{Contains}
use Rattle.std.proofs.lemmas.Bool.{cases_lt}
use Rattle.std.proofs.lemmas.List.Elements.{Contains-push, Contains-push_cases, Contains-append_left}
use Rattle.std.proofs.lemmas.Option.{slice_get-get_or}
use Rattle.lexer_match.specs.declared.nfa.State.{State}
use Rattle.lexer_match.specs.declared.alternative.Alternative.{Alternative}
use Rattle.lexer_match.specs.Nfa.{Reads}
use Rattle.lexer.specs.declared.candidates.Beginning.{Beginning}
use Rattle.lexer_nfa.specs.Order.{NeverFall}
use Rattle.lexer_match.specs.StateSets.{ReadsTo}
use Rattle.lexer.specs.inner.Candidates.{AreCandidates, AreListed, IsBeginning}
use Rattle.std.proofs.lemmas.List.{map-append}
use Rattle.lexer_nfa.proofs.Lent.{mapped_len}
use Rattle.lexer_match.proofs.Lent.{index_default, get_before, get_last, get_within}

take_snoc : (all : List Alternative) (i : ℕ) (d : Alternative) → i < length all → take (suc i) all ≡ take i all ++ slice_index_or all i d ∷ []
take_snoc [] i d h = absurd (omega (arith, h))
take_snoc (x ∷ all) zero d h = refl
take_snoc (x ∷ all) (suc i) d h = ap (λ l. x ∷ l) (take_snoc all i d (omega arith))

module _ (P : List State) (all : List Alternative) (c : ℕ) where
  abbrev pub Complete : ℕ → List Alternative → Type 0
  Complete i list = (k : ℕ) (a : Alternative) (w : List ℕ) → k < i → slice_get all k ≡ Some a → Reads P a.start (c ∷ w) → Contains list a

  pub among_more : (list new : List Alternative) (x : Alternative) → new ≡ list ++ x ∷ [] → Contains all x
      → ((a : Alternative) → Contains list a → Contains all a) → (a : Alternative) → Contains new a → Contains all a
  among_more list new x e here before a k = let Q : List Alternative → Type 0 = λ l. Contains l a in pick (Contains-push_cases list x a (subst Q e k))
    where
      pick : Contains list a ⊎ (x ≡ a) → Contains all a
      pick (inl k) = before a k
      pick (inr same) = let Q : Alternative → Type 0 = λ y. Contains all y in subst Q same here

  complete_next : (i : ℕ) (list new : List Alternative) (x d : Alternative) → i < length all → x ≡ slice_index_or all i d
      → ((a : Alternative) → Contains list a → Contains new a) → ((w : List ℕ) → Reads P x.start (c ∷ w) → Contains new x) → Complete i list
      → Complete (i + 1) new
  complete_next i list new x d inside is kept here before k a w h e r = pick (cases_lt k i)
    where
      pick : (k < i) ⊎ (i ≤ k) → Contains new a
      pick (inl l) = kept a (before k a w l e r)
      pick (inr l) =
          let same : k ≡ i = omega (arith, h, l) in
          let q : Some a ≡ Some x = sym e ∙ ap (λ n. slice_get all n) same ∙ slice_get-get_or all i d inside ∙ ap Some (sym is) in
          let it : x ≡ a = cc in
          let Q : Alternative → Type 0 = λ y. Reads P y.start (c ∷ w) in
          let R : Alternative → Type 0 = λ y. Contains new y in
          subst R it (here w (subst Q (sym it) r))

  pub complete_more : (i : ℕ) (list new : List Alternative) (x d : Alternative) → i < length all → x ≡ slice_index_or all i d → new ≡ list ++ x ∷ []
      → Complete i list → Complete (i + 1) new
  complete_more i list new x d inside is e =
      let Q : List Alternative → Type 0 = λ l. (a : Alternative) → Contains list a → Contains l a in
      let R : List Alternative → Type 0 = λ l. Contains l x in
      complete_next i list new x d inside is (subst Q (sym e) (λ a k. Contains-append_left list (x ∷ []) a k)) (λ w r. subst R (sym e) (Contains-push list x))

  pub complete_skip : (i : ℕ) (list new : List Alternative) (x d : Alternative) → i < length all → x ≡ slice_index_or all i d → new ≡ list
      → ((w : List ℕ) → ¬ Reads P x.start (c ∷ w)) → Complete i list → Complete (i + 1) new
  complete_skip i list new x d inside is e none =
      let Q : List Alternative → Type 0 = λ l. (a : Alternative) → Contains list a → Contains l a in
      complete_next i list new x d inside is (subst Q (sym e) (λ a k. k)) (λ w r. absurd (none w r))

  pub complete_all : (i : ℕ) (list : List Alternative) → length all ≤ i → ((a : Alternative) → Contains list a → Contains all a) → Complete i list
      → AreCandidates P all list c
  complete_all i list h among complete =
      record {
        among = among;
        complete = λ a w (k, l, e) r. complete k a w (omega (arith, h, l)) (slice_get-get_or all k a l ∙ ap Some e) r;
      }

-- none of the states so far reads the character
abbrev pub Unread : List State → ℕ → List ℕ → ℕ → Type 0
Unread P c states i = (k next : ℕ) → k < i → ¬ ReadsTo P (slice_index_or states k 0) c next

pub unread_more : (P : List State) (c : ℕ) (states : List ℕ) (i : ℕ) → Unread P c states i → ((next : ℕ) → ¬ ReadsTo P (slice_index_or states i 0) c next)
    → Unread P c states (i + 1)
unread_more P c states i before here k next h r = pick (cases_lt k i)
  where
    pick : (k < i) ⊎ (i ≤ k) → ⊥
    pick (inl l) = before k next l r
    pick (inr l) =
        let same : k ≡ i = omega (arith, h, l) in
        let Q : ℕ → Type 0 = λ x. ReadsTo P (slice_index_or states x 0) c next in here next (subst Q same r)

pub unread_all : (P : List State) (c : ℕ) (states : List ℕ) (i : ℕ) → length states ≤ i → Unread P c states i → (n next : ℕ) → Contains states n
    → ¬ ReadsTo P n c next
unread_all P c states i h all n next (k, inside, e) r =
    let Q : ℕ → Type 0 = λ x. ReadsTo P x c next in all k next (omega (arith, h, inside)) (subst Q (sym e ∙ index_default states k n 0 inside) r)

pub alternative_at : (list : List Beginning) (i : ℕ) (b : Beginning) → i < length list → b ≡ slice_index_or list i b
    → b.alternative ≡ slice_index_or (map (λ (x : Beginning). x.alternative) list) i b.alternative
alternative_at [] i b h e = absurd (omega (arith, h))
alternative_at (x ∷ list) zero b h e = ap (λ (y : Beginning). y.alternative) e
alternative_at (x ∷ list) (suc i) b h e = alternative_at list i b (omega arith) e

pub alternatives_more : (all : List Alternative) (i : ℕ) (d : Alternative) (list new : List Beginning) (b : Beginning) → i < length all
    → b.alternative ≡ slice_index_or all i d → new ≡ list ++ b ∷ [] → map (λ (x : Beginning). x.alternative) list ≡ take i all
    → map (λ (x : Beginning). x.alternative) new ≡ take (i + 1) all
alternatives_more all i d list new b inside is e before =
    let f : Beginning → Alternative = λ x. x.alternative in
    let more : suc i ≡ i + 1 = omega arith in
    ap (λ l. map f l) e ∙ map-append f list (b ∷ []) ∙ ap₂ ◌++◌ before (ap (λ x. x ∷ []) is) ∙ sym (take_snoc all i d inside) ∙ ap (λ n. take n all) more

pub each_beginning : (P : List State) (list new : List Beginning) (b : Beginning) → new ≡ list ++ b ∷ [] → IsBeginning P b
    → ((x : Beginning) → Contains list x → IsBeginning P x) → (x : Beginning) → Contains new x → IsBeginning P x
each_beginning P list new b e here before x k = let Q : List Beginning → Type 0 = λ l. Contains l x in pick (Contains-push_cases list b x (subst Q e k))
  where
    pick : Contains list x ⊎ (b ≡ x) → IsBeginning P x
    pick (inl k) = before x k
    pick (inr same) = let Q : Beginning → Type 0 = λ y. IsBeginning P y in subst Q same here

pub listed_more : {A : Type 0} (P : List State) (all : List Alternative) (lists new : List (Vec Alternative A)) (list : Vec Alternative A) (c : ℕ)
    → new ≡ lists ++ list ∷ [] → length lists ≡ c → AreListed P all lists → AreCandidates P all list.items c → AreListed P all new
listed_more {A} P all lists new list c e n before here k l g = pick (cases_lt k (length lists))
  where
    at : slice_get (lists ++ list ∷ []) k ≡ Some l
    at = ap (λ x. slice_get x k) (sym e) ∙ g

    pick : (k < length lists) ⊎ (length lists ≤ k) → AreCandidates P all l.items k
    pick (inl h) = before k l (sym (get_before lists (list ∷ []) k h) ∙ at)
    pick (inr h) =
        let last : k ≡ length lists = omega (arith, h, get_within (lists ++ list ∷ []) l k at, length-append lists (list ∷ [])) in
        let q : Some list ≡ Some l = sym (get_last lists list k last) ∙ at in
        let is : list ≡ l = cc in
        let Q : Vec Alternative A → Type 0 = λ x. AreCandidates P all x.items k in
        let R : ℕ → Type 0 = λ x. AreCandidates P all list.items x in
        subst Q is (subst R (sym (last ∙ n)) here)

index_mapped : (list : List Beginning) (i : ℕ) (d : Beginning)
    → slice_index_or (map (λ (b : Beginning). b.alternative) list) i d.alternative ≡ (slice_index_or list i d).alternative
index_mapped [] i d = refl
index_mapped (x ∷ list) zero d = refl
index_mapped (x ∷ list) (suc i) d = index_mapped list i d

-- beginnings are in the order of their alternatives
pub beginnings_order : (list : List Beginning) (all : List Alternative) → map (λ (b : Beginning). b.alternative) list ≡ all
    → NeverFall (λ (a : Alternative). a.kind) all → NeverFall (λ (b : Beginning). b.alternative.kind) list
beginnings_order list all e never i j d before within =
    let Q : List Alternative → Type 0 = λ l. NeverFall (λ (a : Alternative). a.kind) l in
    let inside : j < length (map (λ (b : Beginning). b.alternative) list) = omega (arith, within, mapped_len (λ (b : Beginning). b.alternative) list) in
    omega (
      arith,
      subst Q (sym e) never i j d.alternative before inside,
      ap (λ (a : Alternative). a.kind) (index_mapped list i d),
      ap (λ (a : Alternative). a.kind) (index_mapped list j d),
    )
