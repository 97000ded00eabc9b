-- The mode of bytes is lawful.
use Rattle.std.proofs.Common.{◌≡◌, ◌+◌, ◌-◌, ◌<◌, ◌≤◌, inl, inr, ⊎_elim, ℕ, zero, suc, List, [], ◌∷◌, length, remove, drop, sym, ap, subst, arith}
use Rattle.std.proofs.lemmas.Bool.{cases_eq}
use Rattle.reduce_rounds.specs.Trials.{AllTried, EachIsSmaller, IsTriedAtNo}
use Rattle.reduce_rounds.specs.Mode.{IsLawful, Keeps, TriesEdits}
use Rattle.cases_reducers.specs.ByteMode.{IsByteEdit, IsNoLonger, byte_mode, deletions_from}

pub length-remove : (text : List ℕ) (k : ℕ) → k < length text → length (remove text k) + 1 ≡ length text
length-remove [] k within = absurd (omega arith)
length-remove (x ∷ text) zero within = omega arith
length-remove (x ∷ text) (suc k) within = let rest = length-remove text k (omega arith) in omega arith

smaller-from : (n : ℕ) (text : List ℕ) (at : ℕ) → at + n ≤ length text → EachIsSmaller (λ t. length t) (length text) (deletions_from n text at)
smaller-from zero text at fits = tt
smaller-from (suc n) text at fits =
    let less = length-remove text at (omega arith) in
    (omega arith, (smaller-from n (remove text at) at (omega arith), smaller-from n text (at + 1) (omega arith)))

tried-from : (n : ℕ) (text : List ℕ) (at k : ℕ) → at ≤ k → k < at + n → IsTriedAtNo (deletions_from n text at) (remove text k)
tried-from zero text at k low high = absurd (omega arith)
tried-from (suc n) text at k low high =
    ⊎_elim (λ same. inl (ap (remove text) same)) (λ other. inr (tried-from n text (at + 1) k (omega arith) (omega arith))) (cases_eq at k)

smaller-round : (text : List ℕ) → EachIsSmaller (λ t. length t) (length text) (deletions_from (length text - 1) text 1)
smaller-round [] = tt
smaller-round (x ∷ text) = smaller-from (length (x ∷ text) - 1) (x ∷ text) 1 (omega arith)

kept-from : (start : List ℕ) (n : ℕ) (text : List ℕ) (at : ℕ) → at + n ≤ length text → IsNoLonger start text
    → AllTried (IsNoLonger start) (deletions_from n text at)
kept-from start zero text at fits kept = tt
kept-from start (suc n) text at fits kept =
    let less = length-remove text at (omega arith) in
    let shorter : IsNoLonger start (remove text at) = omega arith in
    (shorter, (kept-from start n (remove text at) at (omega arith) shorter, kept-from start n text (at + 1) (omega arith) kept))

kept-round : (start text : List ℕ) → IsNoLonger start text → AllTried (IsNoLonger start) (deletions_from (length text - 1) text 1)
kept-round start [] kept = tt
kept-round start (x ∷ text) kept = kept-from start (length (x ∷ text) - 1) (x ∷ text) 1 (omega arith) kept

marked : (start : List ℕ) → IsNoLonger start (9 ∷ drop 1 start)
marked [] = omega arith
marked (x ∷ start) = omega arith

keeps : (start : List ℕ) → Keeps (byte_mode start) (IsNoLonger start)
keeps start = record {
  start = omega arith;
  opening = (marked start, (tt, tt));
  round = kept-round start;
  phase = λ text kept. tt;
}

pub is_lawful : (start : List ℕ) → IsLawful (byte_mode start) (IsNoLonger start)
is_lawful start = record { keeps = keeps start; smaller = λ text kept. smaller-round text; phases = λ text kept. tt }

pub tries_edits : (start : List ℕ) → TriesEdits (byte_mode start) (IsNoLonger start) IsByteEdit
tries_edits start text other kept edit =
    subst (λ t. IsTriedAtNo (deletions_from (length text - 1) text 1) t) (sym edit.3)
    (tried-from (length text - 1) text 1 edit.0 edit.1 (let within = edit.2 in omega arith))
