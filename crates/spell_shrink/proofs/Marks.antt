-- The marks of a text's pieces.
use Rattle.std.proofs.Common.{◌≡◌, ◌∙◌, ◌+◌, ◌<◌, ◌≤◌, ◌≢◌, ◌⊎◌, inl, inr, ⊎_elim, ℕ, zero, suc, Bool, true, false, cond, max, List, [], ◌∷◌, ◌++◌}
use Rattle.std.proofs.Common.{All, Option, Some, None}
use Rattle.std.proofs.Common.{length, take, get_or, ltb, refl, sym, ap, subst, arith}
use Rattle.std.specs.Prelude.{string_bytes}
use Rattle.std.specs.List.{AllWithin}
use Rattle.std.specs.List.Sorted.{IsNonDecreasingBy, IsPartitionPoint}
use Rattle.std.proofs.Math.Logic.{∥∥₁_elim}
use Rattle.std.proofs.Math.Nat.{le-max_left, zero-max}
use Rattle.std.proofs.Props.{props}
use Rattle.std.proofs.lemmas.Bool.{cases_order}
use Rattle.std.proofs.lemmas.List.Elements.{All-head, All-tail}
use Rattle.grammar_tree.specs.Written.{WrittenGrammar}
use Rattle.grammar_tree.specs.Lexes.{is_gap_kind}
use Rattle.lexer.specs.declared.piece.Piece.{Piece}
use Rattle.lexer.specs.Pieces.{AreJoined, HasPieces, IsPieceOf}
use Rattle.spell_shrink.specs.declared.cut_text.CutText.{CutText}
use Rattle.spell_shrink.specs.declared.cut_text.Mark.{Mark}
use Rattle.spell_shrink.specs.inner.Changes.{IsCut, mark_after, marks_after}

-- ---- one piece after another

module _ (G : WrittenGrammar) where
  -- up to where the pieces have seen, and how many of them are tokens
  abbrev pub state_after : ℕ → ℕ → List Piece → ℕ × ℕ
  state_after reach tokens [] = (reach, tokens)
  state_after reach tokens (p ∷ pieces) = state_after (max reach p.seen) (cond (is_gap_kind G p.kind) tokens (suc tokens)) pieces

  -- the mark of a piece after that
  abbrev pub mark_at : ℕ × ℕ → Piece → Mark
  mark_at state p = record { start = p.start; reach = max state.0 p.seen; tokens = state.1 }

  abbrev pub next_state : ℕ × ℕ → Piece → ℕ × ℕ
  next_state state p = (max state.0 p.seen, cond (is_gap_kind G p.kind) state.1 (suc state.1))

  pub state_push : (reach tokens : ℕ) (pieces : List Piece) (p : Piece)
      → state_after reach tokens (pieces ++ p ∷ []) ≡ next_state (state_after reach tokens pieces) p
  state_push reach tokens [] p = refl
  state_push reach tokens (q ∷ pieces) p = state_push (max reach q.seen) (cond (is_gap_kind G q.kind) tokens (suc tokens)) pieces p

  pub marks_push : (reach tokens : ℕ) (pieces : List Piece) (p : Piece)
      → marks_after G reach tokens (pieces ++ p ∷ []) ≡ marks_after G reach tokens pieces ++ mark_at (state_after reach tokens pieces) p ∷ []
  marks_push reach tokens [] p = refl
  marks_push reach tokens (q ∷ pieces) p =
      let mark : Mark = record { start = q.start; reach = max reach q.seen; tokens = tokens } in
      ap (λ (marks : List Mark). mark ∷ marks) (marks_push (max reach q.seen) (cond (is_gap_kind G q.kind) tokens (suc tokens)) pieces p)

  -- The last piece with its mark says what comes after these pieces.
  abbrev pub SaysLast : Option (Mark × Piece) → List Piece → Type 0
  SaysLast last pieces = (p : Piece) → mark_after G last p ≡ mark_at (state_after 0 0 pieces) p

  pub says_none : SaysLast None []
  says_none p = λ i. record { start = p.start; reach = sym (zero-max p.seen) i; tokens = 0 }

  pub says_next : (last : Option (Mark × Piece)) (pieces : List Piece) (p : Piece) → SaysLast last pieces
      → SaysLast (Some (mark_after G last p, p)) (pieces ++ p ∷ [])
  says_next last pieces p says q =
      ap (λ (mark : Mark). mark_after G (Some (mark, p)) q) (says p) ∙ sym (ap (λ (state : ℕ × ℕ). mark_at state q) (state_push 0 0 pieces p))

  -- no more of them are tokens than there are
  few_after : (reach tokens : ℕ) (pieces : List Piece) → (state_after reach tokens pieces).1 ≤ tokens + length pieces
  few_after reach tokens [] = omega arith
  few_after reach tokens (p ∷ pieces) = by (λ n. few_after (max reach p.seen) n pieces) (is_gap_kind G p.kind)
    where
      by : ((n : ℕ) → (state_after (max reach p.seen) n pieces).1 ≤ n + length pieces) → (gap : Bool)
          → (state_after (max reach p.seen) (cond gap tokens (suc tokens)) pieces).1 ≤ tokens + suc (length pieces)
      by few true = omega (arith, few tokens)
      by few false = omega (arith, few (suc tokens))

  pub few_tokens : (last : Option (Mark × Piece)) (pieces : List Piece) (p : Piece) → SaysLast last pieces → (mark_after G last p).tokens ≤ length pieces
  few_tokens last pieces p says =
      let few = few_after 0 0 pieces in
      let same = ap (λ (mark : Mark). mark.tokens) (says p) in
      omega (arith, few, same)

-- ---- pieces of a text

-- each has a character, so they are no more than the text's bytes
joined_few : (G : WrittenGrammar) (text : List ℕ) (at end : ℕ) (pieces : List Piece) → AreJoined at end pieces → All (IsPieceOf G text) pieces
    → length pieces + at ≤ end
joined_few G text at end [] joined each = omega (arith, joined)
joined_few G text at end (p ∷ pieces) joined each =
    let first = All-head (IsPieceOf G text) p pieces each in
    let later = joined_few G text p.end end pieces joined.1 (All-tail (IsPieceOf G text) p pieces each) in
    let rises = first.rises in
    omega (arith, joined.0, rises, later)

pub pieces_few : (G : WrittenGrammar) (text : List ℕ) (pieces : List Piece) → HasPieces G text pieces → length pieces ≤ length text
pieces_few G text pieces has = let few = joined_few G text 0 (length text) pieces has.joined has.each in omega (arith, few)

-- ---- the marks rise

module _ (n : Mark → ℕ) where
  -- none is less than this, and none less than the one before it
  abbrev RiseFrom : ℕ → List Mark → Type 0
  RiseFrom low [] = Unit {0}
  RiseFrom low (m ∷ marks) = (low ≤ n m) × RiseFrom (n m) marks

  each_from : (low : ℕ) (marks : List Mark) → RiseFrom low marks → (k : ℕ) (d : Mark) → k < length marks → low ≤ n (get_or marks k d)
  each_from low [] rise k d less = absurd (omega (arith, less))
  each_from low (m ∷ marks) rise zero d less = rise.0
  each_from low (m ∷ marks) rise (suc k) d less =
      let first = rise.0 in let later = each_from (n m) marks rise.1 k d (omega (arith, less)) in omega (arith, first, later)

  not_falling : (low : ℕ) (marks : List Mark) → RiseFrom low marks → IsNonDecreasingBy n marks
  not_falling low [] rise i j d order less = absurd (omega (arith, less))
  not_falling low (m ∷ marks) rise zero zero d order less = omega arith
  not_falling low (m ∷ marks) rise zero (suc j) d order less = each_from (n m) marks rise.1 j d (omega (arith, less))
  not_falling low (m ∷ marks) rise (suc i) zero d order less = absurd (omega (arith, order))
  not_falling low (m ∷ marks) rise (suc i) (suc j) d order less = not_falling (n m) marks rise.1 i j d (omega (arith, order)) (omega (arith, less))

module _ (G : WrittenGrammar) where
  reaches_rise : (reach tokens : ℕ) (pieces : List Piece) → RiseFrom (λ (m : Mark). m.reach) reach (marks_after G reach tokens pieces)
  reaches_rise reach tokens [] = tt
  reaches_rise reach tokens (p ∷ pieces) =
      (le-max_left reach p.seen, reaches_rise (max reach p.seen) (cond (is_gap_kind G p.kind) tokens (suc tokens)) pieces)

  lower : (text : List ℕ) (reach tokens at low end : ℕ) (pieces : List Piece) → low ≤ at → AreJoined at end pieces → All (IsPieceOf G text) pieces
      → RiseFrom (λ (m : Mark). m.start) low (marks_after G reach tokens pieces)
  lower text reach tokens at low end [] below joined each = tt
  lower text reach tokens at low end (p ∷ pieces) below joined each =
      let first = All-head (IsPieceOf G text) p pieces each in
      let rises = first.rises in (
        omega (arith, below, joined.0),
        lower text (max reach p.seen) (cond (is_gap_kind G p.kind) tokens (suc tokens)) p.end p.start end pieces (omega (arith, rises)) joined.1
            (All-tail (IsPieceOf G text) p pieces each),
      )

  -- of a text that is cut, and where nothing is marked
  pub reaches_not_falling : (cut : CutText) → IsCut G cut → IsNonDecreasingBy (λ (m : Mark). m.reach) cut.marks.items
  reaches_not_falling cut (inl none) = subst (IsNonDecreasingBy (λ (m : Mark). m.reach)) (sym none) (not_falling (λ (m : Mark). m.reach) 0 [] tt)
  reaches_not_falling cut (inr is) =
      subst (IsNonDecreasingBy (λ (m : Mark). m.reach)) (sym is.2)
      (not_falling (λ (m : Mark). m.reach) 0 (marks_after G 0 0 is.0) (reaches_rise 0 0 is.0))

  pub starts_not_falling : (cut : CutText) → IsCut G cut → IsNonDecreasingBy (λ (m : Mark). m.start) cut.marks.items
  starts_not_falling cut (inl none) = subst (IsNonDecreasingBy (λ (m : Mark). m.start)) (sym none) (not_falling (λ (m : Mark). m.start) 0 [] tt)
  starts_not_falling cut (inr is) =
      subst (IsNonDecreasingBy (λ (m : Mark). m.start)) (sym is.2)
      (not_falling (λ (m : Mark). m.start) 0 (marks_after G 0 0 is.0)
      (lower (string_bytes cut.text) 0 0 0 0 (length (string_bytes cut.text)) is.0 (omega arith) is.1.joined is.1.each))

-- whatever the grammar
pub reaches_rising : (cut : CutText) → ∥ ((G : WrittenGrammar) × IsCut G cut) ∥₁ → IsNonDecreasingBy (λ (m : Mark). m.reach) cut.marks.items
reaches_rising cut is = ∥∥₁_elim is (hlevel props) (λ p. reaches_not_falling p.0 cut p.1)

pub starts_rising : (cut : CutText) → ∥ ((G : WrittenGrammar) × IsCut G cut) ∥₁ → IsNonDecreasingBy (λ (m : Mark). m.start) cut.marks.items
starts_rising cut is = ∥∥₁_elim is (hlevel props) (λ p. starts_not_falling p.0 cut p.1)

-- where marks that are lent are parted, by where they begin
pub starts_point : (marks lent : List Mark) → lent ≡ marks → (offset i : ℕ)
    → IsPartitionPoint (λ (m : Mark). ltb m.start offset ≡ true) (λ (m : Mark). ltb m.start offset ≡ false) lent i
    → IsPartitionPoint (λ (m : Mark). ltb m.start offset ≡ true) (λ (m : Mark). ltb m.start offset ≡ false) marks i
starts_point marks lent same offset i =
    subst (λ (l : List Mark). IsPartitionPoint (λ (m : Mark). ltb m.start offset ≡ true) (λ (m : Mark). ltb m.start offset ≡ false) l i) same

-- ---- the first ones

pub all_taken : (P : Mark → Type 0) (marks : List Mark) (k : ℕ) → k ≤ length marks → AllWithin P marks 0 k → All P (take k marks)
all_taken P marks k within holds = at marks k within holds
  where
    at : (marks : List Mark) (k : ℕ) → k ≤ length marks → AllWithin P marks 0 k → All P (take k marks)
    at marks zero within holds j d less = absurd (omega (arith, less))
    at [] (suc k) within holds j d less = absurd (omega (arith, within))
    at (m ∷ marks) (suc k) within holds zero d less = holds 0 d (omega arith) (omega arith)
    at (m ∷ marks) (suc k) within holds (suc j) d less =
        at marks k (omega (arith, within)) (λ i e low high. holds (suc i) e (omega arith) (omega (arith, high))) j d (omega (arith, less))

-- ---- where no piece begins

order : (a b : ℕ) → (a < b) ⊎ (b ≤ a)
order a b = ⊎_elim (λ same. inr (omega (arith, same))) (λ other. ⊎_elim (λ less. inl less) (λ more. inr (omega (arith, more))) other) (cases_order a b)

pub none_begins : (marks : List Mark) (offset index : ℕ) → IsNonDecreasingBy (λ (m : Mark). m.start) marks
    → AllWithin (λ (m : Mark). m.start < offset) marks 0 index → AllWithin (λ (m : Mark). offset ≤ m.start) marks index (length marks)
    → ((d : Mark) → index < length marks → (get_or marks index d).start ≢ offset) → All (λ (m : Mark). m.start ≢ offset) marks
none_begins marks offset index rises before after other k d less same =
    ⊎_elim
    (λ first. let below = before k d (omega arith) first in omega (arith, below, same))
    (λ later.
    let within : index < length marks = omega (arith, later, less) in
    let low = after index d (omega arith) within in
    let high = rises index k d later less in
    other d within (omega (arith, low, high, same)))
    (order k index)
