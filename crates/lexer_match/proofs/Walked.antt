-- How far a reading by a table came.
use Rattle.std.proofs.Common.{◌≡◌, ◌≢◌, ◌+◌, ◌⊎◌, inl, inr, ◌↔◌, ℕ, suc, true, false, cond, Vec, List, [], ◌∷◌}
use Rattle.std.proofs.Common.{◌++◌, length, refl, sym, ◌∙◌, subst, arith, true≢false}
use Rattle.std.proofs.lemmas.List.{append-nil}
use Rattle.std.proofs.lemmas.Str.{chars_past_char}
use Rattle.std.specs.Prelude.{encode_utf8}
use Rattle.std.specs.Str.{chars, IsUtf8}
use Rattle.lexer_match.specs.declared.nfa.State.{State}
use Rattle.lexer_match.specs.declared.alternative.Alternative.{Alternative}
use Rattle.lexer_match.specs.declared.table.Reached.{Reached}
use Rattle.lexer_match.specs.declared.table.Step.{Step}
use Rattle.lexer_match.specs.Nfa.{Reads}
use Rattle.lexer_match.specs.Reading.{IsRead}
use Rattle.lexer_match.specs.StateSets.{ReadsFrom}
use Rattle.lexer_match.specs.Table.{IsReached, IsStep, states_of}
use Rattle.lexer_match.specs.declared.alternative.Seen.{Seen}
use Rattle.lexer_match.specs.Seen.{IsExtent}
use Rattle.lexer_match.proofs.Best.{IsBestBelow, IsSoFar, at_end, at_shortest, at_stuck, goes_on, seen_end, seen_shortest}
use Rattle.lexer_match.proofs.Best.{seen_stopped, seen_stuck, so_far_more, so_far_none, tested}
use Rattle.lexer_match.proofs.Living.{ReadsOn}
use Rattle.lexer_match.proofs.Seeing.{MayGoOn}
use Rattle.lexer_match.proofs.Steps.{both_ways}

other_way : {A B : Type 0} → A ↔ B → B ↔ A
other_way f = (f.1, f.0)

-- What is known after some characters were read, and those from `rest` on weren't. Both are bytes.
pub record IsWalked {A : Type 0} (P : List State) (sets : List (Vec ℕ A)) (a : Alternative) (text : List ℕ) (at : Reached) (rest : List ℕ)
    (read longest : ℕ) : Type 0 where
  pub so_far : IsSoFar P a text (states_of sets at.set) rest read longest
  pub ends : (at.ends ≡ true) ↔ ReadsFrom P (states_of sets at.set) []
  pub goes_on : (at.goes_on ≡ true) ↔ ReadsOn P (states_of sets at.set)

module _ {A : Type 0} (P : List State) (sets : List (Vec ℕ A)) (a : Alternative) (text : List ℕ) where
  pub walked_none : (start : Reached) (rest : List ℕ) → IsUtf8 text → rest ≡ text → IsReached P sets (Reads P a.start) start
      → IsWalked P sets a text start rest 0 0
  walked_none start rest utf8 e reached =
      let Q : List ℕ → Type 0 = λ x. IsSoFar P a text (states_of sets start.set) x 0 0 in
      record {
        so_far = subst Q (sym e) (so_far_none P a text (states_of sets start.set) utf8 reached.reads);
        ends = both_ways reached.ends (other_way (reached.reads []));
        goes_on = both_ways reached.goes_on (λ (c, w, l). (c, w, (reached.reads (c ∷ w)).1 l), λ (c, w, l). (c, w, (reached.reads (c ∷ w)).0 l));
      }

  module _ (at : Reached) (rest : List ℕ) (read longest now : ℕ) (w : IsWalked P sets a text at rest read longest) (is : now ≡ cond at.ends read longest) where
    done_reads : (at.ends ≡ true) ↔ Reads P a.start w.so_far.done
    done_reads =
        let Q : List ℕ → Type 0 = λ x. Reads P a.start x in
        both_ways w.ends (both_ways (w.so_far.reads []) (λ r. subst Q (append-nil w.so_far.done) r, λ r. subst Q (sym (append-nil w.so_far.done)) r))

    best : IsBestBelow (IsRead P a) (chars text) (suc (length w.so_far.done)) now
    best = tested P a text (states_of sets at.set) rest read longest w.so_far at.ends now done_reads is

    -- no longer match can come
    pub walked_over : (remaining : ℕ) → read + remaining ≡ length text → (at.goes_on ≡ false) ⊎ ((at.ends ≡ true) × (a.short ≡ true))
        → IsExtent (IsRead P a) (chars text) (record { longest = now; seen = Seen.Until remaining })
    walked_over remaining count (inr (ends, short)) =
        record {
          longest = at_shortest P a text (states_of sets at.set) rest read longest w.so_far now short (done_reads.0 ends) best;
          seen = seen_shortest P a text (states_of sets at.set) rest read longest w.so_far remaining count short (done_reads.0 ends);
        }
    walked_over remaining count (inl still) =
        record {
          longest = at_stuck P a text (states_of sets at.set) rest read longest w.so_far now none best;
          seen = seen_stopped P a text (states_of sets at.set) rest read longest w.so_far remaining count never;
        }
      where
        never : (c : ℕ) (v : List ℕ) → ¬ ReadsFrom P (states_of sets at.set) (c ∷ v)
        never c v r = true≢false (sym (w.goes_on.1 (c, v, r)) ∙ still)

        none : (u v : List ℕ) → chars rest ≡ u ++ v → u ≢ [] → ¬ ReadsFrom P (states_of sets at.set) u
        none [] v f some r = some refl
        none (d ∷ u) v f some r = never d u r

    module _ (on : at.goes_on ≡ true) (closed : a.short ≡ true → at.ends ≡ false) where
      more : MayGoOn (IsRead P a) w.so_far.done
      more = let (c, v, r) = w.goes_on.0 on in goes_on P a text (states_of sets at.set) rest read longest w.so_far at.ends done_reads closed c v r

      -- the text is at its end
      pub walked_end : length rest ≡ 0 → IsExtent (IsRead P a) (chars text) (record { longest = now; seen = Seen.All })
      walked_end none =
          record {
            longest = at_end P a text (states_of sets at.set) rest read longest w.so_far now none best;
            seen = seen_end P a text (states_of sets at.set) rest read longest w.so_far none more;
          }

      -- nothing goes on with the next character
      pub walked_stuck : (c : ℕ) (left : List ℕ) (after remaining : ℕ) → rest ≡ encode_utf8 c ++ left → after ≡ read + length (encode_utf8 c)
          → after + remaining ≡ length text → IsStep P sets at.set c Step.Stuck
          → IsExtent (IsRead P a) (chars text) (record { longest = now; seen = Seen.Until remaining })
      walked_stuck c left after remaining e n count stuck =
          record {
            longest = at_stuck P a text (states_of sets at.set) rest read longest w.so_far now none best;
            seen = seen_stuck P a text (states_of sets at.set) rest read longest w.so_far c left remaining e (omega (arith, n, count)) more stuck;
          }
        where
          none : (u v : List ℕ) → chars rest ≡ u ++ v → u ≢ [] → ¬ ReadsFrom P (states_of sets at.set) u
          none [] v f some r = some refl
          none (d ∷ u) v f some r =
              let both : c ∷ chars left ≡ d ∷ (u ++ v) = sym (chars_past_char rest left c w.so_far.utf8 e) ∙ f in
              let head : c ≡ d = cc in
              let Q : ℕ → Type 0 = λ x. ReadsFrom P (states_of sets at.set) (x ∷ u) in
              stuck u (subst Q (sym head) r)

      pub walked_more : (c : ℕ) (left : List ℕ) (count : ℕ) (next : Reached) → rest ≡ encode_utf8 c ++ left → count ≡ read + length (encode_utf8 c)
          → IsStep P sets at.set c (Step.To next) → IsWalked P sets a text next left count now
      walked_more c left count next e n step =
          record {
            so_far =
                so_far_more P a text (states_of sets at.set) rest read longest w.so_far c left
                (states_of sets next.set) count now at.ends e n step.reads done_reads closed more best;
            ends = both_ways step.ends (other_way (step.reads []));
            goes_on = both_ways step.goes_on (λ (d, v, l). (d, v, (step.reads (d ∷ v)).1 l), λ (d, v, l). (d, v, (step.reads (d ∷ v)).0 l));
          }
