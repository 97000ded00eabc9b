use Rattle.std.proofs.Common.{◌≡◌, ◌∙◌, ◌<◌, ◌≤◌, ◌+◌, ◌-◌, ◌^◌, ◌++◌, ℕ, [], ◌∷◌, List, Option, Some, None, length, take, get_or, ap, subst, sym, arith}
use Rattle.std.specs.Prelude.{IfSome}
use Rattle.std.proofs.lemmas.List.{length-take-le, take_all, take_more}
use Rattle.grammar_tree.specs.Written.{WrittenGrammar}
use Rattle.lexer.specs.declared.piece.Piece.{Piece}
use Rattle.lexer.specs.Reads.{LexReads}
use Rattle.spell_shrink.specs.declared.cut_text.Mark.{Mark}
use Rattle.spell_shrink.specs.inner.Changes.{mark_after, marks_after}
use Rattle.spell_shrink.proofs.Marks.{SaysLast, few_tokens, marks_push, says_next, says_none}
use Rattle.spell_shrink.proofs.cut_text.marks_of.Goals as goal

-- what the loop knows, after so many pieces
abbrev Knows : WrittenGrammar → List Piece → ℕ → List Mark → Option (Mark × Piece) → Type 0
Knows G pieces k marks last =
    (marks ≡ marks_after G 0 0 (take k pieces)) × SaysLast G last (take k pieces) × IfSome last (λ l. l.0.tokens < k)

one_more : (G H : WrittenGrammar) → H ≡ G → (pieces : List Piece) (k : ℕ) (d : Piece) (marks new : List Mark) (last : Option (Mark × Piece)) (mark : Mark)
    → k < length pieces → mark ≡ mark_after H last (get_or pieces k d) → new ≡ marks ++ mark ∷ [] → Knows G pieces k marks last
    → Knows G pieces (k + 1) new (Some (mark, get_or pieces k d))
one_more G H same pieces k d marks new last mark less mark_is pushed knows =
    let taken = take k pieces in
    let p = get_or pieces k d in
    let is : mark ≡ mark_after G last p = mark_is ∙ ap (λ (g : WrittenGrammar). mark_after g last p) same in
    let more : take (k + 1) pieces ≡ taken ++ p ∷ [] = take_more pieces k d less in
    let few : mark.tokens ≤ length taken =
    subst (λ (m : Mark). m.tokens ≤ length taken) (sym is) (few_tokens G last taken p knows.1) in (
      pushed ∙ (λ i. knows.0 i ++ (is ∙ knows.1 p) i ∷ []) ∙ sym (ap (marks_after G 0 0) more ∙ marks_push G 0 0 taken p),
      subst (λ (m : Mark). SaysLast G (Some (m, p)) (take (k + 1) pieces)) (sym is)
          (subst (SaysLast G (Some (mark_after G last p, p))) (sym more) (says_next G last taken p knows.1)),
      omega (arith, few, length-take-le k pieces (omega (arith, less))),
    )

bounded : (last : Option (Mark × Piece)) (k n : ℕ) → IfSome last (λ l. l.0.tokens < k) → k < n → n < 2 ^ 32 → IfSome last (λ l. l.0.tokens < 2 ^ 32 - 1)
bounded None k n below less small = tt
bounded (Some l) k n below less small = omega (arith, below, less, small)

pub next_mark-mark-requires : goal.next_mark-mark-requires
next_mark-mark-requires c =
    bounded c.loop-piece.last c.loop-piece.piece-index (length c.args.pieces.now) c.loop-piece.invariant.2 c.loop-piece-test.true c.requires

pub loop-piece-init : goal.loop-piece-init
loop-piece-init c = (c.new-marks.ensures.items, says_none c.args.lexer.now.grammar, tt)

pub loop-piece-preserved : goal.loop-piece-preserved
loop-piece-preserved c =
    one_more c.args.lexer.now.grammar _ (ap (λ (reader : LexReads). reader.checked.grammar) c.new-reader.ensures) c.args.pieces.now c.loop-piece.piece-index _
    c.loop-piece.marks.items c.push.new.self.items c.loop-piece.last c.next_mark-mark.result c.loop-piece-test.true c.next_mark-mark.ensures
    c.in_ok-push.ensures.items c.loop-piece.invariant

pub returns : goal.returns
returns c =
    c.loop-piece.invariant.0 ∙ ap (marks_after c.args.lexer.now.grammar 0 0) (take_all c.loop-piece.piece-index c.args.pieces.now c.loop-piece-test.false)
