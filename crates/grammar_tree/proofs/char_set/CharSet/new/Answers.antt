use Rattle.std.proofs.Common.{◌≡◌, ℕ, ◌+◌, ◌<◌, List, [], ◌∷◌, ◌++◌, length, take, get_or, sym, ap, ◌∙◌}
use Rattle.std.proofs.lemmas.List.{take_more}
use Rattle.grammar_tree.proofs.char_set.CharSet.new.Goals as goal

one_more : (xs old new : List (ℕ × ℕ)) (i first last : ℕ) → new ≡ old ++ (first, last) ∷ [] → old ≡ take i xs → first ≡ (get_or xs i (0, 0)).0
    → last ≡ (get_or xs i (0, 0)).1 → i < length xs → new ≡ take (i + 1) xs
one_more xs old new i first last e so a b h =
    e
    ∙ ap (λ (l : List (ℕ × ℕ)). l ++ (first, last) ∷ []) so
    ∙ ap (λ (n : ℕ). take i xs ++ (n, last) ∷ []) a
    ∙ ap (λ (n : ℕ). take i xs ++ ((get_or xs i (0, 0)).0, n) ∷ []) b
    ∙ sym (take_more xs i (0, 0) h)

pub loop-range-preserved : goal.loop-range-preserved
loop-range-preserved c =
    one_more c.args.ranges.now c.loop-range.numbers.items c.push.new.self.items c.loop-range.range-index c.from.result c.from-in-loop-range.result
    c.in_ok-push.ensures.items c.loop-range.invariant c.from.ensures c.from-in-loop-range.ensures c.loop-range-test.true
