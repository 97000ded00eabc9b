-- One step through a printed text: a piece that is read, or a stretch that is carried.
use Rattle.std.proofs.Common.{◌≡◌, ◌<◌, ◌≤◌, ◌↔◌, ℕ, suc, true, false, cond, not, List, [], ◌∷◌, ◌++◌, Option}
use Rattle.std.proofs.Common.{Some, None, drop, length, refl, sym, ap, ◌∙◌, subst, arith}
use Rattle.std.specs.Prelude.{MatchOption, ⊤}
use Rattle.std.specs.List.{between, list_any}
use Rattle.std.specs.Str.{chars, IsCharBoundary, IsUtf8}
use Rattle.std.proofs.lemmas.Str.{IsUtf8-between}
use Rattle.grammar_tree.specs.Written.{WrittenGrammar}
use Rattle.grammar_tree.specs.Lexes.{IsNext, Piece as PlainPiece, is_gap_kind}
use Rattle.lexer.specs.declared.piece.Piece.{Piece}
use Rattle.lexer.specs.Pieces.{IsPieceOf}
use Rattle.token_print.specs.LexingLaws.{IsSlice}
use Rattle.token_print.specs.declared.joins.Joins.{Joins}
use Rattle.token_print.specs.declared.joins.Progress.{Progress}
use Rattle.token_print.specs.declared.joins.Stretch.{Stretch}
use Rattle.token_print.specs.declared.layout.Layout.{Layout}
use Rattle.token_print.specs.declared.runs.Run.{Run}
use Rattle.token_print.specs.inner.Ahead.{HasPassed, IsCurrent, ahead, runs_from}
use Rattle.token_print.specs.inner.Copies.{AreCopied, run_end}
use Rattle.token_print.specs.inner.Joins.{AreCarried, AreOthers, ArePassed, IsCarriedStretch, IsJoinsOf, IsKeptFrom}
use Rattle.token_print.specs.inner.Joins.{IsPassed, items_of, runs_of, spelled_from, start_of}
use Rattle.token_print.specs.Runs.{is_carried, is_copy_at}
use Rattle.token_print.proofs.AheadRuns.{current_copy, not_carried}
use Rattle.token_print.proofs.Going.{keeps_none, keeps_at_end, one_lexed, passed_read}
use Rattle.token_print.proofs.Passing.{others_by, passed_by, rises_by}

-- what a piece is of a text, as a slice
pub piece_slice : (G : WrittenGrammar) (text : List ℕ) (p : Piece) → IsUtf8 text → IsPieceOf G text p → IsSlice text p.start p.end
piece_slice G text p utf8 is =
    record {
      rises = omega (arith, is.rises);
      within = is.within;
      starts = is.starts;
      ends = is.ends;
      utf8 = IsUtf8-between text p.start p.end utf8 (omega (arith, is.rises)) is.starts is.ends;
    }

module _ (G : WrittenGrammar) (j : Joins) (of : IsJoinsOf G j) (p : Progress) (starts : IsCharBoundary j.text.now p.at) where
  -- a stretch that is carried
  pub step_over : (s : Stretch) → IsCarriedStretch j p.at s → (reads : ℕ) (o : Option Progress) → MatchOption o (AreOthers j s p.found) (ArePassed j s p)
      → MatchOption o (¬ IsKeptFrom G j p) (λ q. (p.at < q.at) × IsPassed G j p q reads reads)
  step_over s (run, copy, carried) reads None others = others_by G j of p s run copy carried others
  step_over s (run, copy, carried) reads (Some q) passed =
      (omega (arith, passed.at, rises_by G j of p s run copy carried), passed_by G j of p s run copy carried q starts passed reads)

  module _ (few : p.found ≤ length j.kept.now) (uncarried : is_carried (items_of j) (runs_of j) p.at ≡ false) (reads : ℕ) (piece : Piece)
      (begins : piece.start ≡ p.at) (is : IsPieceOf G j.text.now piece) where
    abbrev word : List ℕ
    word = chars (between piece.start piece.end j.text.now)

    abbrev read : PlainPiece
    read = record { kind = piece.kind; text = word }

    next : (at : ℕ) → at ≡ piece.end → IsNext G (chars (drop p.at j.text.now)) piece.kind word (chars (drop at j.text.now))
    next at e =
        let P : ℕ → Type 0 = λ n. IsNext G (chars (drop n j.text.now)) piece.kind word (chars (drop piece.end j.text.now)) in
        let Q : ℕ → Type 0 = λ n. IsNext G (chars (drop p.at j.text.now)) piece.kind word (chars (drop n j.text.now)) in
        subst Q (sym e) (subst P begins is.next)

    pub read_gap : is_gap_kind G piece.kind ≡ true → (p.at < piece.end) × IsPassed G j p (record { at = piece.end; found = p.found }) reads (suc reads)
    read_gap gap =
        let q : Progress = record { at = piece.end; found = p.found } in
        let rises : p.at < piece.end = omega (arith, begins, is.rises) in (
          rises,
          passed_read G j of.text p q piece.kind word (next piece.end refl) starts is.ends rises few uncarried
              (sym (ap (λ b. cond (not b) (read ∷ []) [] ++ spelled_from j p.found) gap)) reads,
        )

    pub read_token : is_gap_kind G piece.kind ≡ false → (o : Option Progress) →
        MatchOption o ((rest : List PlainPiece) → ¬ (spelled_from j p.found ≡ read ∷ rest))
        (λ q. (q.at ≡ piece.end) × (q.found ≤ length j.kept.now) × (spelled_from j p.found ≡ read ∷ spelled_from j q.found)) →
        MatchOption o (¬ IsKeptFrom G j p) (λ q. (p.at < q.at) × IsPassed G j p q reads (suc reads))
    read_token token None others =
        let q : Progress = record { at = piece.end; found = p.found } in
        keeps_none G j of.text p q (read ∷ []) (one_lexed G j of.text p q piece.kind word (next piece.end refl))
        (λ rest e. others rest (e ∙ ap (λ b. cond (not b) (read ∷ []) [] ++ rest) token))
    read_token token (Some q) (at, few_found, spelled) =
        let rises : p.at < q.at = omega (arith, at, begins, is.rises) in
        let Q : ℕ → Type 0 = λ n. IsCharBoundary j.text.now n in (
          rises,
          passed_read G j of.text p q piece.kind word (next q.at at) starts (subst Q (sym at) is.ends) rises few_found uncarried
              (spelled ∙ sym (ap (λ b. cond (not b) (read ∷ []) [] ++ spelled_from j q.found) token)) reads,
        )

-- at the end of a text all kept tokens were found, or some weren't
pub kept_at_end : (G : WrittenGrammar) (j : Joins) → IsJoinsOf G j → (p : Progress) → length j.text.now ≤ p.at → p.found ≤ length j.kept.now
    → ((spelled_from j p.found ≡ []) ↔ (p.found ≡ length j.kept.now)) → IsKeptFrom G j p ↔ (p.found ≡ length j.kept.now)
kept_at_end G j of p end few none =
    let ends = keeps_at_end G j of.text p end in (λ k. none.0 (ends.0 k), λ e. ends.1 (none.1 e))

-- What one of the runs carries, by the current one.
pub carried_in_some : (j : Joins) (at : ℕ) (run : Run) → AreCopied (start_of j) j.text.now 0 (runs_of j) → IsCurrent (runs_of j) at (Some run)
    → (o : Option Stretch) → MatchOption o (list_any (is_copy_at at run) (items_of j) ≡ false) (AreCarried (items_of j) run at) →
    MatchOption o (is_carried (items_of j) (runs_of j) at ≡ false) (IsCarriedStretch j at)
carried_in_some j at run copied current None none = not_carried (items_of j) at (start_of j) j.text.now (Some run) (runs_of j) copied current none
carried_in_some j at run copied current (Some s) carried = (run, current_copy (items_of j) at (start_of j) j.text.now run (runs_of j) copied current, carried)

-- the current one is the first of those that are ahead
pub current_is : (at : ℕ) (all : List Run) (layout : Layout) (kept : List ℕ) (next : ℕ) (o : Option Run) → HasPassed at all (ahead layout kept next o)
    → MatchOption o ⊤ (λ run. at < run_end run) → IsCurrent all at o
current_is at all layout kept next None passed t = passed
current_is at all layout kept next (Some run) passed inside = (inside, runs_from layout kept next (run_end run), passed)

pub at_none : {A : Type 0} (o : Option A) (P : Type 0) (Q : A → Type 0) → o ≡ None → MatchOption o P Q → P
at_none {A} o P Q e m = let R : Option A → Type 0 = λ x. MatchOption x P Q in subst R e m

pub at_some : {A : Type 0} (o : Option A) (a : A) (P : Type 0) (Q : A → Type 0) → o ≡ Some a → MatchOption o P Q → Q a
at_some {A} o a P Q e m = let R : Option A → Type 0 = λ x. MatchOption x P Q in subst R e m
