-- From pairs to the pairs after a token: which texts can be ended from them.
use Rattle.std.proofs.Common.{◌≡◌, ◌⊎◌, inl, inr, ◌+◌, ◌<◌, ◌≤◌, ◌++◌, ℕ, suc, List, [], ◌∷◌, Option, Some, None, Bool, cond}
use Rattle.std.proofs.Common.{nat_eq, All, map, drop, length, arith, refl, sym, ap, ◌∙◌, subst, append_assoc}
use Rattle.std.specs.Prelude.{◌↔◌}
use Rattle.std.specs.List.{Contains}
use Rattle.std.proofs.lemmas.Bool.{cases_eq, cases_lt, ne_eqb}
use Rattle.std.proofs.lemmas.List.{drop-drop, drop_at}
use Rattle.std.proofs.lemmas.List.Elements.{All-cons, All-head, All-tail}
use Rattle.grammar_tree.specs.Lexes.{PlacedToken}
use Rattle.token_print.specs.Spelling.{gap_text, spelling_at}
use Rattle.token_print.specs.declared.style.Skips.{Skips}
use Rattle.token_print.specs.declared.style.Style.{Style}
use Rattle.token_print.specs.Printed.{before, printed_after, separator}
use Rattle.cert_check_texts.specs.inner.Reached.{AreAfterBy, AreAfterFirst, AreAfterToken, AreFirst, AreSomeAfter}
use Rattle.cert_check_texts.specs.inner.Reached.{CanEnd, Follows, GoesOn, LeavesOut, RiseAfter, SomeCanEnd, piece}
use Rattle.cert_check_texts.specs.declared.reached.Reached.{Reached}
use Rattle.cert_check_texts.proofs.Conses.{head_of, nothing_is, tail_of}

-- what comes after another number and isn't the next one comes after that one too
out_if : (m n : ℕ) → m < n → (n ≡ suc m → ⊥) → suc m < n
out_if m n after not = by (cases_lt (suc m) n)
  where
    by : (suc m < n) ⊎ (n ≤ suc m) → suc m < n
    by (inl far) = far
    by (inr near) = absurd (not (omega (arith, after, near)))

module _ (skips : Skips) (start : List ℕ) (tokens : List PlacedToken) (style : Style) (text : List ℕ) where
  abbrev Print : Option ℕ → List ℕ → List ℕ
  Print = printed_after skips start tokens style

  abbrev Piece : Option ℕ → ℕ → List ℕ
  Piece = piece skips start tokens style text

  abbrev Goes : Option ℕ → ℕ → ℕ → ℕ → Type 0
  Goes = GoesOn skips start tokens style text

  abbrev Can : Option ℕ → ℕ → List (List ℕ) → Type 0
  Can = CanEnd skips start tokens style text

  abbrev SomeCan : List Reached → List (List ℕ) → Type 0
  SomeCan = SomeCanEnd skips start tokens style text

  -- what is printed of a token and those after it is its piece, and then what is printed of these
  print_more : (last : Option ℕ) (index : ℕ) (kept : List ℕ) → Print last (index ∷ kept) ≡ Piece last index ++ Print (Some index) kept
  print_more last index kept = sym (append_assoc (before skips start tokens style last index) (spelling_at start tokens index) (Print (Some index) kept))

  -- where the text goes on with a piece, what is after the piece is at its end
  after_piece : (offset : ℕ) (front rest : List ℕ) → drop offset text ≡ front ++ rest → drop (offset + length front) text ≡ rest
  after_piece offset front rest is = sym (drop-drop (length front) offset text) ∙ ap (drop (length front)) is ∙ drop_at front rest (length front) refl

  -- where a token ends that comes after another one
  abbrev end_at : Option ℕ → ℕ → ℕ → ℕ
  end_at last offset index = offset + length (Piece last index)

  module _ (last : Option ℕ) (offset : ℕ) (spelling : List ℕ) (spellings : List (List ℕ)) (can : Can last offset (spelling ∷ spellings)) (index : ℕ)
      (kept : List ℕ) (is : can.kept ≡ index ∷ kept) where
    printed_so : drop offset text ≡ Piece last index ++ Print (Some index) kept
    printed_so = can.printed ∙ ap (Print last) is ∙ print_more last index kept

    rise_so : RiseAfter last (index ∷ kept)
    rise_so = subst (λ (numbers : List ℕ). RiseAfter last numbers) is can.rise

    there_so : All (λ i. i < length tokens) (index ∷ kept)
    there_so = subst (All (λ i. i < length tokens)) is can.there

    -- the token that is kept first: the text goes on with it, and can end from there
    goes_on : Goes last offset index (end_at last offset index)
    goes_on = record {
      after = rise_so.0;
      there = All-head (λ i. i < length tokens) index kept there_so;
      printed =
          printed_so ∙ ap (λ (rest : List ℕ). Piece last index ++ rest) (sym (after_piece offset (Piece last index) (Print (Some index) kept) printed_so));
      at_end = refl;
    }

    can_go : Can (Some index) (end_at last offset index) spellings
    can_go = record {
      kept = kept;
      rise = rise_so.1;
      there = All-tail (λ i. i < length tokens) index kept there_so;
      spelled = tail_of (ap (map (spelling_at start tokens)) (sym is) ∙ can.spelled);
      printed = after_piece offset (Piece last index) (Print (Some index) kept) printed_so;
    }

  -- from where a token leads to, the token comes first
  came_from : (last : Option ℕ) (offset index end : ℕ) (spelling : List ℕ) (spellings : List (List ℕ)) → spelling_at start tokens index ≡ spelling
      → Goes last offset index end → Can (Some index) end spellings → Can last offset (spelling ∷ spellings)
  came_from last offset index end spelling spellings spelled goes can = record {
    kept = index ∷ can.kept;
    rise = (goes.after, can.rise);
    there = All-cons (λ i. i < length tokens) index can.kept goes.there can.there;
    spelled = λ i. spelled i ∷ can.spelled i;
    printed = goes.printed ∙ ap (λ (rest : List ℕ). Piece last index ++ rest) can.printed ∙ sym (print_more last index can.kept);
  }

  -- the token that is kept first, of the first spelling
  first_kept : (last : Option ℕ) (offset : ℕ) (spelling : List ℕ) (spellings : List (List ℕ)) (can : Can last offset (spelling ∷ spellings)) (kept : List ℕ)
      → can.kept ≡ kept
      → (index : ℕ) × (later : List ℕ) × (can.kept ≡ index ∷ later) × (spelling_at start tokens index ≡ spelling)
  first_kept last offset spelling spellings can [] is = absurd (nothing_is (ap (map (spelling_at start tokens)) (sym is) ∙ can.spelled))
  first_kept last offset spelling spellings can (index ∷ later) is = (index, later, is, head_of (ap (map (spelling_at start tokens)) (sym is) ∙ can.spelled))

  module _ (spelling : List ℕ) (spellings : List (List ℕ)) where
    -- the pairs after a first token
    module _ (next : List Reached) (are : AreAfterFirst skips start tokens style text spelling next) where
      begin_by : (can : Can None 0 (spelling ∷ spellings)) → (index : ℕ) × (later : List ℕ) × (can.kept ≡ index ∷ later)
          × (spelling_at start tokens index ≡ spelling) → SomeCan next spellings
      begin_by can (index, later, is, spelled) =
          let pair : Reached = record { last = index; offset = end_at None 0 index } in
          (pair, (are pair).1 (spelled, goes_on None 0 spelling spellings can index later is), can_go None 0 spelling spellings can index later is)

      begun_by : (pair : Reached) → Can (Some pair.last) pair.offset spellings → (spelling_at start tokens pair.last ≡ spelling)
          × Goes None 0 pair.last pair.offset → Can None 0 (spelling ∷ spellings)
      begun_by pair can (spelled, goes) = came_from None 0 pair.last pair.offset spelling spellings spelled goes can

      started : SomeCan next spellings → Can None 0 (spelling ∷ spellings)
      started (pair, among, can) = begun_by pair can ((are pair).0 among)

      -- The text can end so exactly where it can from one of the pairs after the first token.
      pub first_pairs : Can None 0 (spelling ∷ spellings) ↔ SomeCan next spellings
      first_pairs = (λ can. begin_by can (first_kept None 0 spelling spellings can can.kept refl), started)

    -- From a pair after a later token the text can end so, and with this token before from one of the pairs that it is after.
    module _ (pairs next : List Reached) (are : AreSomeAfter skips start tokens style text pairs spelling next) where
      come_by : (pair : Reached) → Can (Some pair.last) pair.offset spellings
          → (from : Reached) × Contains pairs from × (spelling_at start tokens pair.last ≡ spelling) × Goes (Some from.last) from.offset pair.last pair.offset
          → SomeCan pairs (spelling ∷ spellings)
      come_by pair can (from, among, spelled, goes) =
          (from, among, came_from (Some from.last) from.offset pair.last pair.offset spelling spellings spelled goes can)

      pub came : SomeCan next spellings → SomeCan pairs (spelling ∷ spellings)
      came (pair, among, can) = come_by pair can (are pair among)

    -- the pairs after a later token
    module _ (pairs next : List Reached) (are : AreAfterToken skips start tokens style text pairs spelling next) where
      go_by : (from : Reached) → Contains pairs from → (can : Can (Some from.last) from.offset (spelling ∷ spellings))
          → (index : ℕ) × (later : List ℕ) × (can.kept ≡ index ∷ later) × (spelling_at start tokens index ≡ spelling) → SomeCan next spellings
      go_by from among can (index, later, is, spelled) =
          let pair : Reached = record { last = index; offset = end_at (Some from.last) from.offset index } in (
            pair,
            (are pair).1 (from, among, spelled, goes_on (Some from.last) from.offset spelling spellings can index later is),
            can_go (Some from.last) from.offset spelling spellings can index later is,
          )

      went : SomeCan pairs (spelling ∷ spellings) → SomeCan next spellings
      went (from, among, can) = go_by from among can (first_kept (Some from.last) from.offset spelling spellings can can.kept refl)

      -- From some pair the text can end so exactly where it can from one of the pairs after the first token.
      pub some_next : SomeCan pairs (spelling ∷ spellings) ↔ SomeCan next spellings
      some_next = (went, came pairs next (λ pair. (are pair).0))

  -- what is printed before a token that follows none of two others is the same after both
  same_before : (one other index : ℕ) → suc one < index → suc other < index → (s : Style)
      → before skips start tokens s (Some one) index ≡ before skips start tokens s (Some other) index
  same_before one other index far far' Style.Squeezed = refl
  same_before one other index far far' Style.AsWas =
      let apart : nat_eq index (suc one) ≡ nat_eq index (suc other) =
      ne_eqb index (suc one) (λ e. omega (arith, far, e)) ∙ sym (ne_eqb index (suc other) (λ e. omega (arith, far', e))) in
      ap (λ (b : Bool). cond b (gap_text start tokens index) (separator skips (gap_text start tokens index))) apart

  -- so the text goes on with it after one as after the other
  goes_alike : (one other offset index end : ℕ) → suc one < index → suc other < index → Goes (Some one) offset index end → Goes (Some other) offset index end
  goes_alike one other offset index end far far' goes =
      let same : Piece (Some one) index ≡ Piece (Some other) index =
      ap (λ (front : List ℕ). front ++ spelling_at start tokens index) (same_before one other index far far' style) in
      record {
        after = omega (arith, far');
        there = goes.there;
        printed = goes.printed ∙ ap (λ (front : List ℕ). front ++ drop end text) same;
        at_end = goes.at_end ∙ ap (λ (front : List ℕ). offset + length front) same;
      }

  -- The pairs after a token, by those that it follows, and by the first ones at each offset that it comes after and doesn't follow, are all of them.
  module _ (pairs firsts nexts laters next : List Reached) (spelling : List ℕ) (are_first : AreFirst pairs firsts)
      (by_nexts : AreAfterBy skips start tokens style text Follows pairs spelling nexts)
      (by_laters : AreAfterBy skips start tokens style text LeavesOut firsts spelling laters)
      (both : (pair : Reached) → Contains next pair ↔ (Contains nexts pair ⊎ Contains laters pair)) where
    abbrev Origin : Reached → Type 0
    Origin pair =
        (from : Reached) × Contains pairs from × (spelling_at start tokens pair.last ≡ spelling) × Goes (Some from.last) from.offset pair.last pair.offset

    of_next : (pair : Reached) → (from : Reached) × Contains pairs from × Follows from.last pair.last × (spelling_at start tokens pair.last ≡ spelling)
        × Goes (Some from.last) from.offset pair.last pair.offset → Origin pair
    of_next pair (from, among, comes, spelled, goes) = (from, among, spelled, goes)

    of_later : (pair : Reached) → (from : Reached) × Contains firsts from × LeavesOut from.last pair.last × (spelling_at start tokens pair.last ≡ spelling)
        × Goes (Some from.last) from.offset pair.last pair.offset → Origin pair
    of_later pair (from, among, comes, spelled, goes) = (from, are_first.among from among, spelled, goes)

    origin : (pair : Reached) → Contains nexts pair ⊎ Contains laters pair → Origin pair
    origin pair (inl near) = of_next pair ((by_nexts pair).0 near)
    origin pair (inr away) = of_later pair ((by_laters pair).0 away)

    -- by the first pair at the offset of one that it comes from
    by_first : (pair from : Reached) → suc from.last < pair.last → spelling_at start tokens pair.last ≡ spelling
        → Goes (Some from.last) from.offset pair.last pair.offset
        → (first : Reached) × Contains firsts first × (first.offset ≡ from.offset) × (first.last ≤ from.last) → Contains laters pair
    by_first pair from far spelled goes (first, among, same, no_later) =
        let out : suc first.last < pair.last = omega (arith, far, no_later) in
        let there : Goes (Some from.last) first.offset pair.last pair.offset =
        subst (λ (offset : ℕ). Goes (Some from.last) offset pair.last pair.offset) (sym same) goes in
        (by_laters pair).1 (first, among, out, spelled, goes_alike from.last first.last first.offset pair.last pair.offset far out there)

    by_case : (pair from : Reached) → Contains pairs from → spelling_at start tokens pair.last ≡ spelling
        → Goes (Some from.last) from.offset pair.last pair.offset
        → (pair.last ≡ suc from.last) ⊎ (pair.last ≡ suc from.last → ⊥) → Contains nexts pair ⊎ Contains laters pair
    by_case pair from among spelled goes (inl follows) = inl ((by_nexts pair).1 (from, among, follows, spelled, goes))
    by_case pair from among spelled goes (inr not) =
        let after : from.last < pair.last = goes.after in
        let far : suc from.last < pair.last = out_if from.last pair.last after not in
        inr (by_first pair from far spelled goes (are_first.least from among))

    goal_of : (pair : Reached) → Origin pair → Contains nexts pair ⊎ Contains laters pair
    goal_of pair (from, among, spelled, goes) = by_case pair from among spelled goes (cases_eq pair.last (suc from.last))

    pub are_next : AreAfterToken skips start tokens style text pairs spelling next
    are_next pair = (λ among. origin pair ((both pair).0 among), λ from. (both pair).1 (goal_of pair from))
