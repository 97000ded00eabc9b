-- Tables without open claims: what they hold, and what a claim adds that is filled at once.
use Rattle.std.proofs.Common.{◌≡◌, ◌+◌, ◌++◌, ◌||◌, not, ℕ, List, [], ◌∷◌, Bool, true, false, cond, Option, Some, None, is_some, unwrap_or}
use Rattle.std.proofs.Common.{refl, sym, ap, ◌∙◌, subst}
use Rattle.std.specs.Prelude.{IfSome, if◌then◌else◌}
use Rattle.std.specs.List.{list_any}
use Rattle.std.specs.Str.{bytes_eq}
use Rattle.std.proofs.lemmas.Cmp.{nat_eq_equiv}
use Rattle.std.proofs.lemmas.Slice.Eq.{bytes_eq-Decides}
use Rattle.script_gate_trait.specs.declared.gate.Verdict.{Verdict}
use Rattle.verdict_table.specs.declared.found.Found.{Found}
use Rattle.verdict_table.specs.declared.found.Found.TheVariants.{Absent, Filled}
use Rattle.verdict_table.specs.declared.record.Record.{Record}
use Rattle.verdict_table.specs.declared.table.Claim.{Claim}
use Rattle.verdict_table.specs.Kept.{SameVerdicts, with_first}
use Rattle.verdict_table.specs.TableState.{TableState, claim_in, found_in, other_claims, record_from, text_claimed, texts_of, verdict_in}

-- a text that none of the records has isn't found among them
not_recorded : (n : ℕ) (text : List ℕ) (rs : List Record) (filled : List ℕ) → list_any (bytes_eq text) (texts_of rs) ≡ false
    → record_from n text rs filled ≡ None
not_recorded n text [] filled none = refl
not_recorded n text (r ∷ rs) [] none = refl
not_recorded n text (r ∷ rs) (c ∷ cs) none = step (bytes_eq text r.text) none (not_recorded (n + 1) text rs cs)
  where
    step : (b : Bool) → (b || list_any (bytes_eq text) (texts_of rs)) ≡ false
        → (list_any (bytes_eq text) (texts_of rs) ≡ false → record_from (n + 1) text rs cs ≡ None)
        → cond b (Some (Filled c n r.verdict)) (record_from (n + 1) text rs cs) ≡ None
    step true none later = absurd (cc none)
    step false none later = later none

pub absent_where : (table : TableState) (text : List ℕ) → table.claims ≡ [] → list_any (bytes_eq text) (texts_of table.records) ≡ false
    → found_in table text ≡ Absent
absent_where table text closed none =
    ap (λ (o : Option Found). unwrap_or o (unwrap_or (claim_in text table.claims) Absent)) (not_recorded 1 text table.records table.filled none)
    ∙ ap (λ (cs : List Claim). unwrap_or (claim_in text cs) Absent) closed

-- ---- a claim that is filled

only_claim : (claim : ℕ) (text : List ℕ) → other_claims claim (record { number = claim; text = text } ∷ []) ≡ []
only_claim claim text = ap (λ (b : Bool). cond (not b) (record { number = claim; text = text } ∷ []) []) (nat_eq_equiv.refl claim)

pub filled_so : (old mid new : TableState) (claim : ℕ) (text : List ℕ) (verdict : Verdict)
    → mid ≡ record { claims = old.claims ++ record { number = claim; text = text } ∷ []; records = old.records; filled = old.filled }
    → text_claimed claim mid.claims ≡ Some text
    → IfSome (text_claimed claim mid.claims) (λ t. new.records ≡ mid.records ++ record { text = t; verdict = verdict } ∷ [])
    → new.claims ≡ other_claims claim mid.claims
    → old.claims ≡ [] → (new.records ≡ old.records ++ record { text = text; verdict = verdict } ∷ []) × (new.claims ≡ [])
filled_so old mid new claim text verdict is opened recorded closed none =
    let records : new.records ≡ mid.records ++ record { text = text; verdict = verdict } ∷ [] =
    subst (λ (o : Option (List ℕ)). IfSome o (λ t. new.records ≡ mid.records ++ record { text = t; verdict = verdict } ∷ [])) opened recorded in (
      records ∙ ap (λ (t : TableState). t.records ++ record { text = text; verdict = verdict } ∷ []) is,
      closed ∙ ap (λ (t : TableState). other_claims claim t.claims) is
          ∙ ap (λ (cs : List Claim). other_claims claim (cs ++ record { number = claim; text = text } ∷ [])) none ∙ only_claim claim text,
    )

-- ---- records of which each is the first of its text

-- a text that has no verdict yet is added
pub with_new : (records : List Record) (added : Record) → verdict_in records added.text ≡ None → with_first added records ≡ records ++ added ∷ []
with_new records added none = ap (λ (o : Option Verdict). if is_some o then records else (records ++ added ∷ [])) none

-- the verdict of one record more: that of an earlier one, or its own
verdict_later : (records : List Record) (added : Record) (text : List ℕ) (o : Option Verdict) → verdict_in records text ≡ o
    → verdict_in (records ++ added ∷ []) text ≡ (if is_some o then o else cond (bytes_eq text added.text) (Some added.verdict) None)
verdict_later [] added text o is = ap (λ (p : Option Verdict). if is_some p then p else cond (bytes_eq text added.text) (Some added.verdict) None) is
verdict_later (r ∷ records) added text o is = at (bytes_eq text r.text) is (verdict_later records added text)
  where
    at : (b : Bool) → cond b (Some r.verdict) (verdict_in records text) ≡ o
        → ((p : Option Verdict) → verdict_in records text ≡ p
        → verdict_in (records ++ added ∷ []) text ≡ (if is_some p then p else cond (bytes_eq text added.text) (Some added.verdict) None))
        → cond b (Some r.verdict) (verdict_in (records ++ added ∷ []) text)
        ≡ (if is_some o then o else cond (bytes_eq text added.text) (Some added.verdict) None)
    at true is later = ap (λ (p : Option Verdict). if is_some p then p else cond (bytes_eq text added.text) (Some added.verdict) None) is
    at false is later = later o is

-- so a map of the first verdicts stays one with each record that comes
pub first_more : (kept records : List Record) (added : Record) → SameVerdicts kept records → SameVerdicts (with_first added kept) (records ++ added ∷ [])
first_more kept records added same text =
    by (verdict_in kept added.text) refl ∙ sym (verdict_later records added text (verdict_in kept text) (sym (same text)))
  where
    whole : Option Verdict → Option Verdict
    whole o = if is_some o then o else cond (bytes_eq text added.text) (Some added.verdict) None

    -- a text that has a verdict keeps it
    keeps : (b : Bool) (v : Verdict) (o p : Option Verdict) → (b ≡ true → o ≡ p) → p ≡ Some v → o ≡ (if is_some o then o else cond b (Some added.verdict) None)
    keeps b v (Some w) p equal is = refl
    keeps true v None p equal is = let no : ◌≡◌ {A = Option Verdict} None (Some v) = equal refl ∙ is in absurd (cc no)
    keeps false v None p equal is = refl

    by : (o : Option Verdict) → verdict_in kept added.text ≡ o
        → verdict_in (if is_some o then kept else (kept ++ added ∷ [])) text ≡ whole (verdict_in kept text)
    by None is = verdict_later kept added text (verdict_in kept text) refl
    by (Some v) is =
        keeps (bytes_eq text added.text) v (verdict_in kept text) (verdict_in kept added.text)
        (λ equal. ap (verdict_in kept) ((bytes_eq-Decides text added.text).0 equal)) is
