-- How a reading by states can end, and how it goes on.
use Rattle.std.proofs.Common.{◌≡◌, ◌+◌, ◌⊎◌, inl, inr, ◌↔◌, ℕ, suc, Bool, true, false, cond, List, [], ◌∷◌}
use Rattle.std.proofs.Common.{◌++◌, slice_index_or, length, refl, sym, ◌∙◌, true≢false}
use Rattle.std.specs.Prelude.{encode_utf8}
use Rattle.std.specs.Str.{chars}
use Rattle.lexer_match.specs.declared.nfa.State.{State}
use Rattle.lexer_match.specs.declared.alternative.Alternative.{Alternative}
use Rattle.lexer_match.specs.declared.alternative.Seen.{Seen}
use Rattle.lexer_match.specs.Live.{AreLive}
use Rattle.lexer_match.specs.Nfa.{Reads}
use Rattle.lexer_match.specs.Reading.{IsRead}
use Rattle.lexer_match.specs.Seen.{IsExtent}
use Rattle.lexer_match.specs.StateSets.{AreMarked, ReadsFrom}
use Rattle.lexer_match.specs.inner.StateSets.{IsFollowed}
use Rattle.lexer_match.proofs.Best.{IsBestBelow, IsSoFar, at_end, at_shortest, at_stop, at_stuck, ended_reads, goes_on, left_bytes}
use Rattle.lexer_match.proofs.Best.{not_ended, seen_dead, seen_end, seen_shortest, seen_stopped, so_far_more, tested}
use Rattle.lexer_match.proofs.Living.{IsFlagged, ReadsOn, flagged_on}
use Rattle.lexer_match.proofs.Seeing.{MayGoOn}
use Rattle.lexer_match.proofs.Traced.{IsStuck, stuck_end, stuck_over}

-- What is known of the states before it is looked whether the reading goes on.
pub record IsAt (P : List State) (a : Alternative) (text states rest : List ℕ) (read longest : ℕ) (marks flags : List Bool) (ended on : Bool)
    (now : ℕ) : Type 0 where
  pub so_far : IsSoFar P a text states rest read longest
  pub exact : AreMarked states marks
  pub followed : IsFollowed P states
  pub live : AreLive P flags
  pub ends : ended ≡ slice_index_or marks 0 false
  pub flagged : IsFlagged flags states on
  pub longest_is : now ≡ cond ended read longest

module _ (P : List State) (a : Alternative) (text states rest : List ℕ) (read longest : ℕ) (marks flags : List Bool) (ended on : Bool) (now : ℕ)
    (at : IsAt P a text states rest read longest marks flags ended on now) where
  same : (ended ≡ true) ↔ Reads P a.start at.so_far.done
  same = ended_reads P a text states rest read longest at.so_far marks ended at.exact at.followed at.ends

  best : IsBestBelow (IsRead P a) (chars text) (suc (length at.so_far.done)) now
  best = tested P a text states rest read longest at.so_far ended now same at.longest_is

  reads_on : (on ≡ true) ↔ ReadsOn P states
  reads_on = flagged_on P flags states at.live on at.followed at.flagged

  never : on ≡ false → (c : ℕ) (w : List ℕ) → ¬ ReadsFrom P states (c ∷ w)
  never still c w r = true≢false (sym (reads_on.1 (c, w, r)) ∙ still)

  pub open_none : ended ≡ false → ¬ ReadsFrom P states []
  open_none = not_ended P a text states rest read longest at.so_far ended same

  -- no longer match can come
  pub over_extent : (remaining : ℕ) → read + remaining ≡ length text → (on ≡ false) ⊎ ((ended ≡ true) × (a.short ≡ true))
      → IsExtent (IsRead P a) (chars text) (record { longest = now; seen = Seen.Until remaining })
  over_extent remaining count (inr (ends, short)) =
      record {
        longest = at_shortest P a text states rest read longest at.so_far now short (same.0 ends) best;
        seen = seen_shortest P a text states rest read longest at.so_far remaining count short (same.0 ends);
      }
  over_extent remaining count (inl still) =
      record {
        longest = at_stuck P a text states rest read longest at.so_far now (λ u v f some r. none u some r) best;
        seen = seen_stopped P a text states rest read longest at.so_far remaining count (never still);
      }
    where
      none : (u : List ℕ) → (u ≡ [] → ⊥) → ¬ ReadsFrom P states u
      none [] some r = some refl
      none (c ∷ u) some r = never still c u r

  pub over_stuck : (remaining : ℕ) → read + remaining ≡ length text → (on ≡ false) ⊎ ((ended ≡ true) × (a.short ≡ true)) → ended ≡ false
      → IsStuck P states rest (Seen.Until remaining)
  over_stuck remaining count (inr (ends, short)) unended = absurd (true≢false (sym ends ∙ unended))
  over_stuck remaining count (inl still) unended =
      stuck_over P text states rest remaining (left_bytes P a text states rest read longest at.so_far remaining count) (open_none unended) (never still)

  -- it is known that nothing is read from here
  pub known_extent : (seen : Seen) → ended ≡ false → IsStuck P states rest seen → IsExtent (IsRead P a) (chars text) (record { longest = now; seen = seen })
  known_extent seen unended stuck =
      record {
        longest = at_stop P a text states rest read longest at.so_far now stuck.none best;
        seen = seen_dead P a text states rest read longest at.so_far seen ended same unended stuck.none stuck.decides;
      }

  module _ (more : on ≡ true) (closed : a.short ≡ true → ended ≡ false) where
    pub on_now : ReadsOn P states
    on_now = reads_on.0 more

    may_go_on : MayGoOn (IsRead P a) at.so_far.done
    may_go_on = let (c, w, r) = on_now in goes_on P a text states rest read longest at.so_far ended same closed c w r

    -- the text is at its end
    pub end_extent : length rest ≡ 0 → IsExtent (IsRead P a) (chars text) (record { longest = now; seen = Seen.All })
    end_extent none =
        record {
          longest = at_end P a text states rest read longest at.so_far now none best;
          seen = seen_end P a text states rest read longest at.so_far none may_go_on;
        }

    pub end_stuck : length rest ≡ 0 → ended ≡ false → IsStuck P states rest Seen.All
    end_stuck none unended = stuck_end P text states rest none (open_none unended) on_now

    -- one character more
    pub read_more : (c : ℕ) (left new : List ℕ) (count : ℕ) → rest ≡ encode_utf8 c ++ left → count ≡ read + length (encode_utf8 c)
        → ((w : List ℕ) → ReadsFrom P new w ↔ ReadsFrom P states (c ∷ w)) → IsSoFar P a text new left count now
    read_more c left new count e n step = so_far_more P a text states rest read longest at.so_far c left new count now ended e n step same closed may_go_on best
