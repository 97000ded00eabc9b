-- How the history of one thread begins, and that of a run, which is a beginning of it.
use Rattle.std.proofs.Common.{◌≡◌, ◌++◌, ℕ, List, [], ◌∷◌, Bool, Option, Some, None, IsSome, refl, sym, ap, ◌∙◌, subst, append-nil}
use Rattle.std.specs.List.{IsDistinct}
use Rattle.std.specs.Str.{bytes_eq}
use Rattle.script_gate_trait.specs.declared.gate.Verdict.{Verdict}
use Rattle.script_gate_trait.specs.declared.gate.Verdict.TheVariants.{Yes, No}
use Rattle.reduce_step.specs.Plan.{Ask, End, HasEnded, Plan, after, asked, follow}
use Rattle.verdict_table.specs.TableState.{texts_of, verdict_in}
use Rattle.reduce_step.proofs.Lent.{follow_ended, stays}
use Rattle.verdict_table.proofs.Lent.{extends_itself}
use Rattle.reduce_journal.specs.declared.event.Event.{Event}
use Rattle.reduce_journal.specs.declared.event.Event.TheVariants.{Recorded, Committed}
use Rattle.reduce_journal.specs.History.{History, records_of}
use Rattle.ordered_commit.specs.Moves.{KeptVerdicts}
use Rattle.ordered_commit.specs.Replay.{replay}
use Rattle.ordered_commit.specs.declared.fault.PoolFault.{PoolFault}
use Rattle.ordered_commit.specs.declared.fault.PoolFault.TheVariants.{Script, Journal, Memory}
use Rattle.worker_pool.specs.Sequential.{by_verdict, sequential_from, sequential_history}
use Rattle.worker_pool.specs.RunHistory.{BeginsWith, EndsAtFirst, IsBeginning, IsSequential, own_history}
use Rattle.worker_pool.specs.RunEnds.{ReducerEnds}
use Rattle.worker_pool.specs.inner.UnderWay.{GoesOn, IsUnansweredAt, LeadsOn}
use Rattle.worker_pool.proofs.SequentialLemmas.{after_end, after_unanswered}

-- nothing comes before nothing
none_before : (h later : History) → [] ≡ h ++ later → h ≡ []
none_before [] later is = refl
none_before (e ∷ h) later is = absurd (cc is)

-- one commit has no record
commit_alone : (h later : History) (n : ℕ) → Committed n ∷ [] ≡ h ++ later → records_of h ≡ []
commit_alone [] later n is = refl
commit_alone (e ∷ h) later n is =
    let first : Committed n ≡ e = cc is in
    let rest : [] ≡ h ++ later = cc is in
    subst (λ (f : Event). records_of (f ∷ h) ≡ []) first (ap records_of (none_before h later rest))

-- what begins with a record of this text
text_first : (h later rest : History) (text : List ℕ) (verdict : Verdict) (k : Bool) (a b : Plan) → Recorded text verdict k ∷ rest ≡ h ++ later
    → BeginsWith (Ask text a b) (records_of h)
text_first [] later rest text verdict k a b is = tt
text_first (e ∷ h) later rest text verdict k a b is =
    let first : Recorded text verdict k ≡ e = cc is in
    subst (λ (f : Event). BeginsWith (Ask text a b) (records_of (f ∷ h))) first refl

none_begins : (first : Plan) (h : History) → h ≡ [] → BeginsWith first (records_of h)
none_begins first h none = subst (λ (l : History). BeginsWith first (records_of l)) (sym none) tt

begins_by : (o : Option Verdict) (text : List ℕ) (k : Bool) (a b : Plan) (at_yes at_no h later : History)
    → by_verdict o (Recorded text Yes k ∷ at_yes) (Recorded text No k ∷ at_no) ≡ h ++ later → BeginsWith (Ask text a b) (records_of h)
begins_by None text k a b at_yes at_no h later is = none_begins (Ask text a b) h (none_before h later is)
begins_by (Some Yes) text k a b at_yes at_no h later is = text_first h later at_yes text Yes k a b is
begins_by (Some No) text k a b at_yes at_no h later is = text_first h later at_no text No k a b is

-- the first record is of the text that is asked first
begins : (V : List ℕ → Option Verdict) (K : KeptVerdicts) (first : Plan) (h later : History) → sequential_history V K first ≡ h ++ later
    → BeginsWith first (records_of h)
begins V K (End result) h later is = none_begins (End result) h (none_before h later is)
begins V K (Ask text a b) h later is = begins_by (V text) text _ a b _ _ h later is

-- a first answer that ends the reducer is the only record
only_first : (h later rest : History) (text : List ℕ) (verdict : Verdict) (k : Bool) (first : Plan) → Recorded text verdict k ∷ Committed 1 ∷ rest ≡ h ++ later
    → (HasEnded (after first verdict) → rest ≡ []) → EndsAtFirst first (records_of h)
only_first [] later rest text verdict k first is ends = tt
only_first (e ∷ h) later rest text verdict k first is ends =
    let same : Recorded text verdict k ≡ e = cc is in
    let others : Committed 1 ∷ rest ≡ h ++ later = cc is in
    subst (λ (f : Event). EndsAtFirst first (records_of (f ∷ h))) same
    (λ ended. commit_alone h later 1 (subst (λ (l : History). Committed 1 ∷ l ≡ h ++ later) (ends ended) others))

none_one : (first : Plan) (h : History) → h ≡ [] → EndsAtFirst first (records_of h)
none_one first h none = subst (λ (l : History). EndsAtFirst first (records_of l)) (sym none) tt

one_by : (o : Option Verdict) (text : List ℕ) (k : Bool) (a b : Plan) (at_yes at_no h later : History) → (HasEnded a → at_yes ≡ [])
    → (HasEnded b → at_no ≡ [])
    → by_verdict o (Recorded text Yes k ∷ Committed 1 ∷ at_yes) (Recorded text No k ∷ Committed 1 ∷ at_no) ≡ h ++ later
    → EndsAtFirst (Ask text a b) (records_of h)
one_by None text k a b at_yes at_no h later yes_ends no_ends is = none_one (Ask text a b) h (none_before h later is)
one_by (Some Yes) text k a b at_yes at_no h later yes_ends no_ends is = only_first h later at_yes text Yes k (Ask text a b) is yes_ends
one_by (Some No) text k a b at_yes at_no h later yes_ends no_ends is = only_first h later at_no text No k (Ask text a b) is no_ends

one_at_end : (V : List ℕ → Option Verdict) (K : KeptVerdicts) (first : Plan) (h later : History) → sequential_history V K first ≡ h ++ later
    → EndsAtFirst first (records_of h)
one_at_end V K (End result) h later is = none_one (End result) h (none_before h later is)
one_at_end V K (Ask text a b) h later is =
    one_by (V text) text _ a b _ _ h later (λ ended. after_end K V (record { text = text; verdict = Yes } ∷ []) a ended)
    (λ ended. after_end K V (record { text = text; verdict = No } ∷ []) b ended) is

-- ---- the end of a run

module _ (K : KeptVerdicts) (first : Plan) (h : History) (distinct : IsDistinct bytes_eq (texts_of (records_of h))) where
  -- it is a beginning of what one thread does over its records
  is_beginning : GoesOn K first h → IsBeginning h (own_history K first h)
  is_beginning goes =
      (sequential_from (verdict_in (records_of h)) K (records_of h) (replay first h), goes (verdict_in (records_of h)) (extends_itself (records_of h) distinct))

  -- all of it, where nothing follows
  whole : GoesOn K first h → sequential_from (verdict_in (records_of h)) K (records_of h) (replay first h) ≡ [] → h ≡ own_history K first h
  unfolding is_beginning
  whole goes nothing = sym ((is_beginning goes).1 ∙ ap (λ (l : History). h ++ l) nothing ∙ append-nil h)

  -- by the fault
  pub is_sequential : (fault : Option PoolFault) → GoesOn K first h → (fault ≡ None → HasEnded (replay first h))
      → IsUnansweredAt fault (replay first h) (records_of h) → IsSequential K fault first h
  is_sequential None goes ended waits = whole goes (after_end K (verdict_in (records_of h)) (records_of h) (replay first h) (ended refl))
  is_sequential (Some (Script worker)) goes ended waits =
      whole goes (after_unanswered K (verdict_in (records_of h)) (records_of h) (replay first h) waits.0 waits.1 waits.2)
  is_sequential (Some Journal) goes ended waits = is_beginning goes
  is_sequential (Some (Memory _)) goes ended waits = is_beginning goes

  follows_here : LeadsOn first h → follow (verdict_in (records_of h)) first ≡ follow (verdict_in (records_of h)) (replay first h)
  follows_here leads = leads (verdict_in (records_of h)) (extends_itself (records_of h) distinct)

  is_some : (o : Option (List ℕ)) (text : List ℕ) → o ≡ Some text → IsSome o
  is_some o text is = subst (λ (x : Option (List ℕ)). IsSome x) (sym is) refl

  pub reducer_ends : (fault : Option PoolFault) (plan : Plan) → LeadsOn first h → (fault ≡ None → plan ≡ replay first h)
      → (fault ≡ None → HasEnded (replay first h)) → IsUnansweredAt fault (replay first h) (records_of h)
      → ReducerEnds fault first plan (records_of h)
  reducer_ends None plan leads replayed ended waits =
      let there = replayed refl in
      (ap asked there ∙ ended refl, there ∙ sym (follows_here leads ∙ follow_ended (verdict_in (records_of h)) (replay first h) (ended refl)))
  reducer_ends (Some (Script worker)) plan leads replayed ended waits =
      is_some (asked (follow (verdict_in (records_of h)) first)) waits.0
      (ap asked (follows_here leads ∙ stays (verdict_in (records_of h)) (replay first h) waits.0 waits.1 waits.2) ∙ waits.1)
  reducer_ends (Some Journal) plan leads replayed ended waits = tt
  reducer_ends (Some (Memory _)) plan leads replayed ended waits = tt

-- where the run ended, it has begun with the first text, and with its only record where that ended it
pub has_beginning : (K : KeptVerdicts) (fault : Option PoolFault) (first : Plan) (h : History) → IsSequential K fault first h
    → IsBeginning h (own_history K first h)
has_beginning K None first h is = ([], sym is ∙ sym (append-nil h))
has_beginning K (Some (Script worker)) first h is = ([], sym is ∙ sym (append-nil h))
has_beginning K (Some Journal) first h is = is
has_beginning K (Some (Memory _)) first h is = is

pub begins_with : (K : KeptVerdicts) (fault : Option PoolFault) (first : Plan) (h : History) → IsSequential K fault first h → BeginsWith first (records_of h)
begins_with K fault first h is = let part = has_beginning K fault first h is in begins (verdict_in (records_of h)) K first h part.0 part.1

pub ends_at_first : (K : KeptVerdicts) (fault : Option PoolFault) (first : Plan) (h : History) → IsSequential K fault first h
    → EndsAtFirst first (records_of h)
ends_at_first K fault first h is = let part = has_beginning K fault first h is in one_at_end (verdict_in (records_of h)) K first h part.0 part.1
