-- Tokens come one after another.
use Rattle.std.proofs.Common.{ℕ, zero, suc, ◌+◌, ◌<◌, ◌≤◌, Bool, true, false, cond, List, [], ◌∷◌, length, arith}
use Rattle.std.specs.Prelude.{⊤, encode_utf8_all}
use Rattle.std.specs.List.{All, AllPairs}
use Rattle.std.proofs.lemmas.List.Elements.{All-head, All-tail}
use Rattle.grammar_tree.specs.Written.{WrittenGrammar}
use Rattle.grammar_tree.specs.Lexes.{Piece, PlacedToken, is_gap_kind, placed_tokens}

-- The tokens begin at the offset or later, each no earlier than the one before it ends.
abbrev pub Rise : ℕ → List PlacedToken → Type 0
Rise at [] = ⊤
Rise at (t ∷ tokens) = (at ≤ t.start) × (t.start ≤ t.end) × Rise t.end tokens

rise_later : (at from : ℕ) (tokens : List PlacedToken) → at ≤ from → Rise from tokens → Rise at tokens
rise_later at from [] h r = tt
rise_later at from (t ∷ tokens) h (first, len, more) = (omega (arith, h, first), len, more)

pub placed_rise : (G : WrittenGrammar) (at : ℕ) (pieces : List Piece) → Rise at (placed_tokens G at pieces)
placed_rise G at [] = tt
placed_rise G at (p ∷ pieces) = step (is_gap_kind G p.kind) (placed_rise G (at + length (encode_utf8_all p.text)) pieces)
  where
    step : (gap : Bool) → Rise (at + length (encode_utf8_all p.text)) (placed_tokens G (at + length (encode_utf8_all p.text)) pieces) →
        Rise at (cond gap (placed_tokens G (at + length (encode_utf8_all p.text)) pieces)
        (record { kind = p.kind; start = at; end = at + length (encode_utf8_all p.text) } ∷ placed_tokens G (at + length (encode_utf8_all p.text)) pieces))
    step true r = rise_later at (at + length (encode_utf8_all p.text)) (placed_tokens G (at + length (encode_utf8_all p.text)) pieces) (omega arith) r
    step false r = (omega arith, omega arith, r)

-- each token begins at the offset or later
pub begin_later : (at : ℕ) (tokens : List PlacedToken) → Rise at tokens → All (λ t. at ≤ t.start) tokens
begin_later at [] r k d h = absurd (omega (arith, h))
begin_later at (t ∷ tokens) r zero d h = r.0
begin_later at (t ∷ tokens) r (suc k) d h = omega (arith, r.0, r.1, begin_later t.end tokens r.2 k d (omega (arith, h)))

pub apart : (at : ℕ) (tokens : List PlacedToken) → Rise at tokens → AllPairs (λ t u. t.end ≤ u.start) tokens
apart at [] r i j d lt h = absurd (omega (arith, h))
apart at (t ∷ tokens) r i zero d lt h = absurd (omega (arith, lt))
apart at (t ∷ tokens) r zero (suc j) d lt h = begin_later t.end tokens r.2 j d (omega (arith, h))
apart at (t ∷ tokens) r (suc i) (suc j) d lt h = apart t.end tokens r.2 i j d (omega (arith, lt)) (omega (arith, h))

-- tokens of at least one byte each are no more than the bytes up to where the last one ends
pub few : (text : List ℕ) (at : ℕ) (tokens : List PlacedToken) → Rise at tokens → All (λ t. (t.start < t.end) × (t.end ≤ length text)) tokens → at ≤ length text
    → at + length tokens ≤ length text
few text at [] r parts h = omega (arith, h)
few text at (t ∷ tokens) r parts h =
    let P : PlacedToken → Type 0 = λ x. (x.start < x.end) × (x.end ≤ length text) in
    let (some, within) = All-head P t tokens parts in
    omega (arith, r.0, some, few text t.end tokens r.2 (All-tail P t tokens parts) within)
