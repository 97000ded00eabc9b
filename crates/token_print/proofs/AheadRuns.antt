-- The runs that are ahead of an offset, and which of them carries what is there.
use Rattle.std.proofs.Common.{◌≡◌, ◌<◌, ◌≤◌, ◌+◌, ◌^◌, ◌⊎◌, inl, inr, ℕ, suc, true, false, cond, nat_eq, List, [], ◌∷◌, ◌++◌, Option, Some}
use Rattle.std.proofs.Common.{None, map, drop, slice_index_or, length, refl, sym, ap, ◌∙◌, subst, arith, append_assoc}
use Rattle.std.specs.Prelude.{◌||◌, MatchOption, ⊤}
use Rattle.std.specs.List.{All, list_any}
use Rattle.std.proofs.lemmas.Bool.{and_parts, cases_Bool, eqb-true, leb-true, ltb-true}
use Rattle.std.proofs.lemmas.List.{drop_all}
use Rattle.std.proofs.lemmas.List.Elements.{All-append, All-cons, All-head, All-nil, All-tail, All-weaker}
use Rattle.lexer.specs.declared.piece.Piece.{Piece}
use Rattle.lexer.specs.Tokens.{token_of}
use Rattle.token_print.specs.Spelling.{gap_text}
use Rattle.token_print.specs.declared.layout.Layout.{Layout}
use Rattle.token_print.specs.declared.runs.Run.{Run}
use Rattle.token_print.specs.declared.style.Style.{Style}
use Rattle.token_print.specs.inner.Ahead.{HasPassed, IsCurrent, RunsAreShort, ahead, runs_from}
use Rattle.token_print.specs.inner.Copies.{AreCopied, IsCopy, run_end}
use Rattle.token_print.specs.Printed.{separator}
use Rattle.token_print.specs.Runs.{is_carried, is_copy_at, join_size, run_at, runs_at, stretches}
use Rattle.token_print.proofs.Stretches.{eq_false}

-- the piece with this number is copied at the offset of the text
abbrev pub IsCopiedAt : ℕ → Run → Piece → Type 0
IsCopiedAt at run p = (run.from ≤ p.start) × (p.start < run.to) × (at + run.from ≡ run.at + p.start) × (p.seen ≤ run.limit)

copied_at : (at : ℕ) (run : Run) (p : Piece) → is_copy_at at run p ≡ true → IsCopiedAt at run p
copied_at at run p e =
    let a = and_parts _ _ e in
    let b = and_parts _ _ a.1 in
    let c = and_parts _ _ b.1 in
    (leb-true _ _ a.0, ltb-true _ _ b.0, eqb-true _ _ c.0, leb-true _ _ c.1)

module _ (at : ℕ) (run : Run) where
  -- a run carries nothing where none of the pieces is copied
  pub carries_none : (items : List Piece) → ((k : ℕ) (d : Piece) → k < length items → ¬ IsCopiedAt at run (slice_index_or items k d))
      → list_any (is_copy_at at run) items ≡ false
  carries_none [] none = refl
  carries_none (p ∷ items) none = pick (carries_none items (λ k d h. none (suc k) d (omega (arith, h)))) (cases_Bool (is_copy_at at run p))
    where
      pick : list_any (is_copy_at at run) items ≡ false → (is_copy_at at run p ≡ true) ⊎ (is_copy_at at run p ≡ false)
          → list_any (is_copy_at at run) (p ∷ items) ≡ false
      pick later (inl t) = absurd (none 0 p (omega arith) (copied_at at run p t))
      pick later (inr f) = ap (λ b. b || list_any (is_copy_at at run) items) f ∙ later

  pub passed_carries : (items : List Piece) → run_end run ≤ at → list_any (is_copy_at at run) items ≡ false
  passed_carries items h = carries_none items (λ k d l (low, high, here, few). omega (arith, low, high, here, h))

  pub later_carries : (items : List Piece) → at < run.at → list_any (is_copy_at at run) items ≡ false
  later_carries items h = carries_none items (λ k d l (low, high, here, few). omega (arith, low, high, here, h))

module _ (items : List Piece) (at : ℕ) where
  abbrev CarriesNone : Run → Type 0
  CarriesNone run = list_any (is_copy_at at run) items ≡ false

  none_carried : (runs : List Run) → All CarriesNone runs → is_carried items runs at ≡ false
  none_carried [] all = refl
  none_carried (run ∷ runs) all =
      ap (λ b. b || is_carried items runs at) (All-head CarriesNone run runs all) ∙ none_carried runs (All-tail CarriesNone run runs all)

  module _ (start text : List ℕ) where
    later_none : (offset : ℕ) (runs : List Run) → AreCopied start text offset runs → at < offset → All CarriesNone runs
    later_none offset [] copied h = All-nil CarriesNone
    later_none offset (run ∷ runs) (copy, after, copied) h =
        All-cons CarriesNone run runs (later_carries at run items (omega (arith, after, h))) (later_none (run_end run) runs copied (omega (arith, after, h)))

    copied_after : (offset : ℕ) (passed runs : List Run) → AreCopied start text offset (passed ++ runs) → (o : ℕ) × AreCopied start text o runs
    copied_after offset [] runs copied = (offset, copied)
    copied_after offset (run ∷ passed) runs (copy, after, copied) = copied_after (run_end run) passed runs copied

    pub current_copy : (run : Run) (all : List Run) → AreCopied start text 0 all → IsCurrent all at (Some run) → IsCopy start text run
    current_copy run all copied (inside, rest, passed) =
        let P : List Run → Type 0 = λ l. AreCopied start text 0 l in
        let (o, (copy, after, later)) = copied_after 0 passed.passed (run ∷ rest) (subst P passed.cut copied) in copy

    passed_none : (passed : List Run) → All (λ run. run_end run ≤ at) passed → All CarriesNone passed
    passed_none = All-weaker (λ run. run_end run ≤ at) CarriesNone (λ run h. passed_carries at run items h)

    -- What the current run doesn't carry, no run does.
    pub not_carried : (current : Option Run) (all : List Run) → AreCopied start text 0 all → IsCurrent all at current → MatchOption current ⊤ CarriesNone
        → is_carried items all at ≡ false
    not_carried None all copied passed none =
        ap (λ l. is_carried items l at) passed.cut
        ∙ none_carried (passed.passed ++ []) (All-append CarriesNone passed.passed [] (passed_none passed.passed passed.over) (All-nil CarriesNone))
    not_carried (Some run) all copied (inside, rest, passed) none =
        let P : List Run → Type 0 = λ l. AreCopied start text 0 l in
        let (o, (copy, after, later)) = copied_after 0 passed.passed (run ∷ rest) (subst P passed.cut copied) in
        ap (λ l. is_carried items l at) passed.cut
        ∙ none_carried (passed.passed ++ run ∷ rest)
        (All-append CarriesNone passed.passed (run ∷ rest) (passed_none passed.passed passed.over)
        (All-cons CarriesNone run rest none (later_none (run_end run) rest later inside)))

-- Where runs are passed.
pub passed_at_first : (offset : ℕ) (all : List Run) → HasPassed offset all all
passed_at_first offset all = record { passed = []; cut = refl; over = All-nil (λ run. run_end run ≤ offset) }

pub passed_one : (offset : ℕ) (all before rest : List Run) (run : Run) → HasPassed offset all before → before ≡ run ∷ rest → run_end run ≤ offset
    → HasPassed offset all rest
passed_one offset all before rest run p e over =
    record {
      passed = p.passed ++ run ∷ [];
      cut = p.cut ∙ ap (λ l. p.passed ++ l) e ∙ sym (append_assoc p.passed (run ∷ []) rest);
      over =
          All-append (λ r. run_end r ≤ offset) p.passed (run ∷ []) p.over (All-cons (λ r. run_end r ≤ offset) run [] over (All-nil (λ r. run_end r ≤ offset)));
    }

pub passed_more : (offset next : ℕ) (all before after : List Run) → offset ≤ next → HasPassed offset all before → HasPassed next before after
    → HasPassed next all after
passed_more offset next all before after h p q =
    record {
      passed = p.passed ++ q.passed;
      cut = p.cut ∙ ap (λ l. p.passed ++ l) q.cut ∙ sym (append_assoc p.passed q.passed after);
      over =
          All-append (λ r. run_end r ≤ next) p.passed q.passed
          (All-weaker (λ r. run_end r ≤ offset) (λ r. run_end r ≤ next) (λ r k. omega (arith, k, h)) p.passed p.over) q.over;
    }

-- what holds of all runs holds of those that are ahead
all_after : (P : Run → Type 0) (passed runs : List Run) → All P (passed ++ runs) → All P runs
all_after P [] runs all = all
all_after P (run ∷ passed) runs all = all_after P passed runs (All-tail P run (passed ++ runs) all)

pub short_after : (offset : ℕ) (all after : List Run) → RunsAreShort all → HasPassed offset all after → RunsAreShort after
short_after offset all after short p =
    let P : Run → Type 0 = λ run. (run.from ≤ run.to) × (run_end run < 2 ^ 32) in
    let Q : List Run → Type 0 = λ l. All P l in all_after P p.passed after (subst Q p.cut short)

-- the current run is one of them
pub short_run : (offset : ℕ) (all : List Run) (layout : Layout) (kept : List ℕ) (next : ℕ) (current : Option Run) (run : Run) → current ≡ Some run
    → RunsAreShort all → HasPassed offset all (ahead layout kept next current) → (run.from ≤ run.to) × (run_end run < 2 ^ 32)
short_run offset all layout kept next current run is short p =
    let P : Option Run → Type 0 = λ o. HasPassed offset all (ahead layout kept next o) in
    let Q : Run → Type 0 = λ r. (r.from ≤ r.to) × (run_end r < 2 ^ 32) in
    let rest = runs_from layout kept next (run_end run) in
    All-head Q run rest (short_after offset all (run ∷ rest) short (subst P is p))

pub copies_short : (start text : List ℕ) (offset : ℕ) (runs : List Run) → AreCopied start text offset runs → length text < 2 ^ 32 → RunsAreShort runs
copies_short start text offset [] copied small = λ k d h. absurd (omega (arith, h))
copies_short start text offset (run ∷ runs) (copy, after, copied) small =
    All-cons (λ r. (r.from ≤ r.to) × (run_end r < 2 ^ 32)) run runs (copy.rises, omega (arith, copy.fits, small))
    (copies_short start text (run_end run) runs copied small)

-- A run and those after it are the runs from its first token on.
pub run_ahead : (layout : Layout) (kept : List ℕ) (next end at begin first last : ℕ) (run : Run) → next < end →
    stretches layout.style (drop next kept) ≡ (first, last) ∷ stretches layout.style (drop end kept) →
    begin ≡ at + cond (nat_eq next 0) 0 (length (separator layout.skips (gap_text layout.start.now (map token_of layout.tokens.now) first))) →
    run ≡ run_at layout.skips layout.start.now (map token_of layout.tokens.now) layout.style begin (first, last) →
    run ∷ runs_from layout kept end (run_end run) ≡ runs_from layout kept next at
run_ahead layout kept next end at begin first last run less is begins same =
    let start = layout.start.now in
    let tokens = map token_of layout.tokens.now in
    let rest = stretches layout.style (drop end kept) in
    let size = join_size layout.skips start tokens rest in
    ap (λ r. r ∷ runs_from layout kept end (run_end r)) same
    ∙ ap (λ b. run_at layout.skips start tokens layout.style begin (first, last) ∷ runs_at layout.skips start tokens layout.style
    (run_end (run_at layout.skips start tokens layout.style begin (first, last)) + cond b 0 size) rest) (eq_false end 0 (λ e. omega (arith, e, less)))
    ∙ ap (λ b. runs_at layout.skips start tokens layout.style b ((first, last) ∷ rest)) begins
    ∙ ap (λ ss. runs_at layout.skips start tokens layout.style (at + cond (nat_eq next 0) 0 (join_size layout.skips start tokens ss)) ss) (sym is)

pub none_ahead : (layout : Layout) (kept : List ℕ) (next at : ℕ) → length kept ≤ next → runs_from layout kept next at ≡ []
none_ahead layout kept next at h = ap (λ l. of (stretches layout.style l)) (drop_all next kept h) ∙ none layout.style
  where
    of : List (ℕ × ℕ) → List Run
    of ss =
        runs_at layout.skips layout.start.now (map token_of layout.tokens.now) layout.style
        (at + cond (nat_eq next 0) 0 (join_size layout.skips layout.start.now (map token_of layout.tokens.now) ss)) ss

    none : (style : Style) → of (stretches style []) ≡ []
    none Style.AsWas = refl
    none Style.Squeezed = refl
