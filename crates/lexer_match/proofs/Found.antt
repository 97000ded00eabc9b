-- What stays true of a table while sets and steps are added to it.
use Rattle.std.proofs.Common.{◌≡◌, ◌≢◌, ◌<◌, ◌≤◌, ◌+◌, ◌*◌, ◌⊎◌, inl, inr, ◌↔◌, ℕ, zero, suc, Bool, true, false, Bor, Vec, List, [], ◌∷◌, ◌++◌, Option, Some}
use Rattle.std.proofs.Common.{None, IsPermutation, MatchOption, slice_get, slice_index_or, replicate, length, refl, sym, ap, ◌∙◌, subst, arith, append_assoc}
use Rattle.std.proofs.Common.{length-append}
use Rattle.std.specs.Bool.{⊤}
use Rattle.std.proofs.Math.ListN.{set}
use Rattle.std.specs.List.{Contains}
use Rattle.std.specs.Slice.{IsItemAt}
use Rattle.std.proofs.lemmas.Bool.{cases_lt, ltb-true}
use Rattle.std.proofs.lemmas.List.{append-nil}
use Rattle.std.proofs.lemmas.Option.{slice_get-get_or, slice_get_past, slice_get_read}
use Rattle.std.proofs.lemmas.List.Sorted.{Contains-permutation, IsPermutation-sym}
use Rattle.lexer_match.specs.declared.nfa.State.{State}
use Rattle.lexer_match.specs.declared.table.Reached.{Reached}
use Rattle.lexer_match.specs.declared.table.Step.{Step}
use Rattle.lexer_match.specs.declared.table.Table.{Table}
use Rattle.lexer_match.specs.Nfa.{Reads}
use Rattle.lexer_match.specs.StateSets.{AreMarked, ReadsFrom}
use Rattle.lexer_match.specs.inner.StateSets.{IsFollowed}
use Rattle.lexer_match.specs.inner.Subsets.{AreSets, HasStepsBefore, IsNumbered, IsSame, IsSet, StartsWith}
use Rattle.lexer_match.specs.Table.{AfterSet, AreStarts, AreSteps, IsReached, IsStep, IsTable, states_in, states_of}
use Rattle.lexer_match.proofs.States.{get_before, get_last, get_within, set_at, set_other}
use Rattle.lexer_match.proofs.StateSets.{eq_or_not}
use Rattle.lexer_match.proofs.Living.{ReadsOn}
use Rattle.lexer_match.proofs.Steps.{both_ways, end_reads, marked_inside}

abbrev pub HaveSame : List ℕ → List ℕ → Type 0
HaveSame a b = (n : ℕ) → Contains a n ↔ Contains b n

pub starts_same : {X : Type 0} (list : List X) → StartsWith list list
starts_same list = ([], sym (append-nil list))

pub starts_as : {X : Type 0} (new old : List X) → new ≡ old → StartsWith new old
starts_as new old e = ([], e ∙ sym (append-nil old))

pub starts_both : {X : Type 0} (a b c : List X) → StartsWith b a → StartsWith c b → StartsWith c a
starts_both a b c (f, e) (g, h) = (f ++ g, h ∙ ap (λ l. l ++ g) e ∙ append_assoc a f g)

pub starts_longer : {X : Type 0} (list first : List X) → StartsWith list first → length first ≤ length list
starts_longer list first (more, e) = omega (arith, ap length e, length-append first more)

-- a set keeps its number
pub states_kept : {A : Type 0} (sets new : List (Vec ℕ A)) (n : ℕ) → StartsWith new sets → n < length sets → states_of new n ≡ states_of sets n
states_kept sets new n (more, e) h = ap (λ l. states_of l n) e ∙ ap (λ o. states_in o) (get_before sets more n h)

pub states_last : {A : Type 0} (sets new : List (Vec ℕ A)) (set : Vec ℕ A) → new ≡ sets ++ set ∷ [] → states_of new (length sets) ≡ set.items
states_last sets new set e = ap (λ l. states_of l (length sets)) e ∙ ap (λ o. states_in o) (get_last sets set (length sets) refl)

pub numbered_last : {A : Type 0} (sets new : List (Vec ℕ A)) (set : Vec ℕ A) (n : ℕ) → new ≡ sets ++ set ∷ [] → n ≡ length sets → IsNumbered new set.items n
numbered_last sets new set n e h = (omega (arith, h, ap length e, length-append sets (set ∷ [])), ap (λ k. states_of new k) h ∙ states_last sets new set e)

module _ (P : List State) where
  no_set : IsSet P []
  no_set = record { inside = λ n (k, h, e). absurd (omega (arith, h)); followed = λ n next (k, h, e) g. absurd (omega (arith, h)) }

  pub no_sets : {A : Type 0} (sets : List (Vec ℕ A)) → sets ≡ [] → AreSets P sets
  no_sets {A} sets e n = let Q : List (Vec ℕ A) → Type 0 = λ l. IsSet P (states_of l n) in subst Q (sym e) no_set

  pub sets_more : {A : Type 0} (sets new : List (Vec ℕ A)) (set : Vec ℕ A) → new ≡ sets ++ set ∷ [] → IsSet P set.items → AreSets P sets → AreSets P new
  sets_more {A} sets new set e here before n = pick (cases_lt n (length sets))
    where
      Q : List ℕ → Type 0
      Q l = IsSet P l

      last : (n < suc (length sets)) ⊎ (suc (length sets) ≤ n) → length sets ≤ n → IsSet P (states_of new n)
      last (inl h) l =
          let at : n ≡ length sets = omega (arith, h, l) in
          subst Q (sym (ap (λ k. states_of new k) at ∙ states_last sets new set e)) here
      last (inr h) l = subst Q (sym (ap (λ o. states_in o) (slice_get_past new n (omega (arith, h, ap length e, length-append sets (set ∷ [])))))) no_set

      pick : (n < length sets) ⊎ (length sets ≤ n) → IsSet P (states_of new n)
      pick (inl h) = subst Q (sym (states_kept sets new n (set ∷ [], e) h)) (before n)
      pick (inr h) = last (cases_lt n (suc (length sets))) h

  pub sets_as : {A : Type 0} (new old : List (Vec ℕ A)) → new ≡ old → AreSets P old → AreSets P new
  sets_as {A} new old e are = let Q : List (Vec ℕ A) → Type 0 = λ l. AreSets P l in subst Q (sym e) are

  pub set_same : (a b : List ℕ) → HaveSame a b → IsSet P b → IsSet P a
  set_same a b same set =
      record {
        inside = λ n k. set.inside n ((same n).0 k);
        followed = λ n next k g. (same next).1 (set.followed n next ((same n).0 k) g);
      }

  pub reads_same : (a b w : List ℕ) → HaveSame a b → ReadsFrom P a w ↔ ReadsFrom P b w
  reads_same a b w same = (λ (n, k, r). (n, (same n).0 k, r), λ (n, k, r). (n, (same n).1 k, r))

  -- what is reached stays so, where sets are added
  pub reached_kept : {A : Type 0} (sets new : List (Vec ℕ A)) (L : List ℕ → Type 0) (r : Reached) → StartsWith new sets → IsReached P sets L r
      → IsReached P new L r
  reached_kept sets new L r more reached =
      let Q : List ℕ → Type 0 = λ l. (w : List ℕ) → ReadsFrom P l w ↔ L w in
      record {
        inside = omega (arith, reached.inside, starts_longer new sets more);
        reads = subst Q (sym (states_kept sets new r.set more reached.inside)) reached.reads;
        ends = reached.ends;
        goes_on = reached.goes_on;
      }

  pub reached_as : {A : Type 0} (sets : List (Vec ℕ A)) (L M : List ℕ → Type 0) (r : Reached) → ((w : List ℕ) → L w ↔ M w) → IsReached P sets L r
      → IsReached P sets M r
  reached_as sets L M r same reached =
      record {
        inside = reached.inside;
        reads = λ w. both_ways (reached.reads w) (same w);
        ends = both_ways reached.ends (same []);
        goes_on = both_ways reached.goes_on (λ (c, w, l). (c, w, (same (c ∷ w)).0 l), λ (c, w, m). (c, w, (same (c ∷ w)).1 m));
      }

  pub step_kept : {A : Type 0} (sets new : List (Vec ℕ A)) (n c : ℕ) (step : Step) → StartsWith new sets → n < length sets → IsStep P sets n c step
      → IsStep P new n c step
  step_kept sets new n c Step.Unknown more h is = tt
  step_kept sets new n c Step.Stuck more h is = λ w r. let Q : List ℕ → Type 0 = λ l. ReadsFrom P l (c ∷ w) in is w (subst Q (states_kept sets new n more h) r)
  step_kept sets new n c (Step.To r) more h is =
      reached_as new (AfterSet P sets n c) (AfterSet P new n c) r (λ w. kept w) (reached_kept sets new (AfterSet P sets n c) r more is)
    where
      kept : (w : List ℕ) → AfterSet P sets n c w ↔ AfterSet P new n c w
      kept w = let Q : List ℕ → Type 0 =
          λ l. ReadsFrom P l (c ∷ w) in (λ k. subst Q (sym (states_kept sets new n more h)) k, λ k. subst Q (states_kept sets new n more h) k)

  pub steps_none : {A : Type 0} (sets : List (Vec ℕ A)) (steps : List Step) → steps ≡ [] → AreSteps P sets steps
  steps_none sets steps e n c step h at = let k : None ≡ Some step = sym (ap (λ l. slice_get l (n * 128 + c)) e) ∙ at in absurd (cc)

  pub steps_kept : {A : Type 0} (sets new : List (Vec ℕ A)) (steps : List Step) → StartsWith new sets → AreSteps P sets steps → AreSteps P new steps
  steps_kept sets new steps more are n c step h at =
      let (inside, is) = are n c step h at in (omega (arith, inside, starts_longer new sets more), step_kept sets new n c step more inside is)

  pub steps_more : {A : Type 0} (sets : List (Vec ℕ A)) (steps new : List Step) (step : Step) (n c : ℕ) → new ≡ steps ++ step ∷ [] → HasStepsBefore n c steps
      → c < 128 → n < length sets → IsStep P sets n c step → AreSteps P sets steps → AreSteps P sets new
  steps_more {A} sets steps new step n c e count below inside here before m d other h at = pick (cases_lt (m * 128 + d) (length steps))
    where
      found : slice_get (steps ++ step ∷ []) (m * 128 + d) ≡ Some other
      found = ap (λ l. slice_get l (m * 128 + d)) (sym e) ∙ at

      pick : (m * 128 + d < length steps) ⊎ (length steps ≤ m * 128 + d) → (m < length sets) × IsStep P sets m d other
      pick (inl l) = before m d other h (sym (get_before steps (step ∷ []) (m * 128 + d) l) ∙ found)
      pick (inr l) =
          let last : m * 128 + d ≡ length steps =
          omega (arith, l, get_within (steps ++ step ∷ []) other (m * 128 + d) found, length-append steps (step ∷ [])) in
          let q : Some step ≡ Some other = sym (get_last steps step (m * 128 + d) last) ∙ found in
          let is : step ≡ other = cc in
          let row : n ≡ m = omega (arith, last, count, below, h) in
          let column : c ≡ d = omega (arith, last, count, below, h) in
          let Q : Step → Type 0 = λ x. IsStep P sets n c x in
          let R : ℕ → Type 0 = λ x. (x < length sets) × IsStep P sets x c other in
          let S : ℕ → Type 0 = λ x. (m < length sets) × IsStep P sets m x other in
          subst S column (subst R row (inside, subst Q is here))

  pub starts_none : {A : Type 0} (sets : List (Vec ℕ A)) (starts : List (Option Reached)) (n : ℕ) → starts ≡ replicate n None → AreStarts P sets starts
  starts_none sets starts n e state r at = absurd (nothing n state (ap (λ l. slice_get l state) (sym e) ∙ at))
    where
      nothing : (n k : ℕ) → slice_get (replicate {A = Option Reached} n None) k ≡ Some (Some r) → ⊥
      nothing zero k f = absurd (cc)
      nothing (suc n) zero f = absurd (cc)
      nothing (suc n) (suc k) f = nothing n k f

  pub starts_kept : {A : Type 0} (sets new : List (Vec ℕ A)) (starts : List (Option Reached)) → StartsWith new sets → AreStarts P sets starts
      → AreStarts P new starts
  starts_kept sets new starts more are state r at = reached_kept sets new (Reads P state) r more (are state r at)

  pub starts_more : {A : Type 0} (sets : List (Vec ℕ A)) (starts new : List (Option Reached)) (state : ℕ) (found : Option Reached)
      → new ≡ set starts state found → state < length starts → MatchOption found ⊤ (IsReached P sets (Reads P state)) → AreStarts P sets starts
      → AreStarts P sets new
  starts_more {A} sets starts new state found e inside here before other r at = pick (eq_or_not other state)
    where
      in_set : slice_get (set starts state found) other ≡ Some (Some r)
      in_set = ap (λ l. slice_get l other) (sym e) ∙ at

      this : (o : Option Reached) → o ≡ Some r → MatchOption o ⊤ (IsReached P sets (Reads P state)) → IsReached P sets (Reads P state) r
      this None f m = absurd (cc)
      this (Some s) f m = let same : s ≡ r = cc in let Q : Reached → Type 0 = λ x. IsReached P sets (Reads P state) x in subst Q same m

      pick : (other ≡ state) ⊎ (other ≢ state) → IsReached P sets (Reads P other) r
      pick (inl same) =
          let q : Some found ≡ Some (Some r) = sym (set_at starts found state inside) ∙ ap (λ k. slice_get (set starts state found) k) (sym same) ∙ in_set in
          let is : found ≡ Some r = cc in
          let Q : ℕ → Type 0 = λ x. IsReached P sets (Reads P x) r in
          subst Q (sym same) (this found is here)
      pick (inr not) = before other r (sym (set_other starts found state other not) ∙ in_set)

  pub set_of : (states : List ℕ) (marks : List Bool) → AreMarked states marks → length marks ≡ length P → IsFollowed P states → IsSet P states
  set_of states marks exact size followed = record { inside = λ n k. marked_inside states marks (length P) n exact size k; followed = followed }

  -- a set with the same states, and with its mark of the end, is reached by what these states read
  pub reached_of : {A : Type 0} (sets : List (Vec ℕ A)) (states : List ℕ) (marks : List Bool) (n : ℕ) (ends goes_on : Bool) → AreMarked states marks
      → IsFollowed P states → ends ≡ slice_index_or marks 0 false → (goes_on ≡ true) ↔ ReadsOn P states → IsSame sets states n
      → IsReached P sets (ReadsFrom P states) (record { set = n; ends = ends; goes_on = goes_on })
  reached_of sets states marks n ends goes_on exact followed e on (inside, same) =
      let empty = end_reads P states followed in
      record {
        inside = inside;
        reads = λ w. reads_same (states_of sets n) states w same;
        ends = both_ways (λ t. sym e ∙ t, λ t. e ∙ t) (both_ways (exact 0) (empty.1, empty.0));
        goes_on = on;
      }

  pub step_of : {A : Type 0} (sets new : List (Vec ℕ A)) (before now : List ℕ) (n c : ℕ) (r : Reached) → StartsWith new sets → n < length sets
      → states_of sets n ≡ before → ((w : List ℕ) → ReadsFrom P now w ↔ ReadsFrom P before (c ∷ w)) → IsReached P new (ReadsFrom P now) r
      → IsStep P new n c (Step.To r)
  step_of sets new before now n c r more h e step reached = reached_as new (ReadsFrom P now) (AfterSet P new n c) r (λ w. kept w) reached
    where
      kept : (w : List ℕ) → ReadsFrom P now w ↔ AfterSet P new n c w
      kept w = let Q : List ℕ → Type 0 = λ l. ReadsFrom P now w ↔ ReadsFrom P l (c ∷ w) in subst Q (sym (states_kept sets new n more h ∙ e)) (step w)

  pub stuck_of : {A : Type 0} (sets : List (Vec ℕ A)) (before now : List ℕ) (n c : ℕ) → states_of sets n ≡ before
      → ((w : List ℕ) → ReadsFrom P now w ↔ ReadsFrom P before (c ∷ w)) → now ≡ [] → IsStep P sets n c Step.Stuck
  stuck_of sets before now n c e step none w r = nothing ((step w).1 (subst Q e r))
    where
      Q : List ℕ → Type 0
      Q l = ReadsFrom P l (c ∷ w)

      nothing : ReadsFrom P now w → ⊥
      nothing (m, (k, h, f), more) = omega (arith, h, ap length none)

  -- what the table says of a step
  pub table_step : (t : Table) (n c : ℕ) (step : Step) → c < 128 → slice_get t.steps.items (n * 128 + c) ≡ Some step → IsTable P t
      → IsStep P t.sets.items n c step
  table_step t n c step h e is = (is.steps n c step h e).1

  -- and of where a reading begins
  pub table_start : (t : Table) (state : ℕ) (found : Option Reached) → slice_get t.starts.items state ≡ Some found → IsTable P t
      → MatchOption found ⊤ (IsReached P t.sets.items (Reads P state))
  table_start t state None e is = tt
  table_start t state (Some r) e is = is.starts state r e

pub numbered_known : {A : Type 0} (sets : List (Vec ℕ A)) (n : ℕ) (set : Vec ℕ A) (states : List ℕ) → slice_get sets n ≡ Some set → set.items ≡ states
    → IsNumbered sets states n
numbered_known sets n set states e same = (get_within sets set n e, ap (λ o. states_in o) e ∙ same)

-- what `get` gives
pub item_some : {X : Type 0} (xs : List X) (i : ℕ) (x : Bor X) (r : Option (Bor X)) → r ≡ Some x → IsItemAt xs i r → slice_get xs i ≡ Some x.now
item_some {X} xs i x r e at =
    let P : Option (Bor X) → Type 0 = λ o. IsItemAt xs i o in
    let here = subst P e at in
    slice_get_read xs (length xs) i x.now refl (ltb-true i (length xs) (sym here.0)) here.1

pub in_some : {X : Type 0} (o : Option X) (x : X) (Q : X → Type 0) → o ≡ Some x → MatchOption o ⊤ Q → Q x
in_some None x Q e m = absurd (cc)
in_some (Some y) x Q e m = let same : y ≡ x = cc in subst Q same m

pub option_as : {X : Type 0} (o : Option X) (Q R : X → Type 0) → ((x : X) → Q x → R x) → MatchOption o ⊤ Q → MatchOption o ⊤ R
option_as None Q R f m = tt
option_as (Some x) Q R f m = f x m

pub same_sorted : (states sorted : List ℕ) → IsPermutation states sorted → HaveSame sorted states
same_sorted states sorted p n = (λ k. Contains-permutation sorted states n (IsPermutation-sym states sorted p) k, λ k. Contains-permutation states sorted n p k)

pub same_numbered : {A : Type 0} (sets : List (Vec ℕ A)) (states sorted : List ℕ) (n : ℕ) → HaveSame sorted states → IsNumbered sets sorted n
    → IsSame sets states n
same_numbered sets states sorted n same (inside, are) =
    (inside, λ m. let Q : List ℕ → Type 0 = λ l. Contains l m ↔ Contains states m in subst Q (sym are) (same m))

pub contains_at : {X : Type 0} (xs : List X) (k : ℕ) (x : X) → slice_get xs k ≡ Some x → Contains xs x
contains_at xs k x e =
    let inside = get_within xs x k e in
    let q : Some (slice_index_or xs k x) ≡ Some x = sym (slice_get-get_or xs k x inside) ∙ e in
    (k, inside, cc)
