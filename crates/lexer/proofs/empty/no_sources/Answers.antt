use Rattle.std.proofs.Common.{◌≡◌, ◌++◌, ◌∷◌, [], ℕ, List, Vec, Global, map, ap, ◌∙◌, arith}
use Rattle.std.proofs.lemmas.List.{map-append}
use Rattle.lexer.proofs.EmptyTexts.{no_edge_more}
use Rattle.lexer.proofs.empty.no_sources.Goals as goal

abbrev items : Vec ℕ Global → List ℕ
items v = v.items

pub loop-preserved : goal.loop-preserved
loop-preserved c =
    let rows = c.loop.rows.items in
    let new = c.push.new.self.items in
    let more : map items new ≡ map items rows ++ [] ∷ [] =
    ap (map items) c.in_ok-push.ensures.items ∙ map-append items rows (c.new.result ∷ []) ∙ ap (λ r. map items rows ++ r ∷ []) c.new.ensures.items in
    record {
      len = omega (arith, c.in_ok-push.ensures.len, c.loop.invariant.len);
      none = no_edge_more (map items rows) (map items new) more c.loop.invariant.none;
    }
