use Rattle.std.proofs.Common.{◌≡◌, ◌∙◌, ℕ, List, Some, ap, inl, inr, refl, sym, arith}
use Rattle.std.specs.List.{between}
use Rattle.std.specs.Str.{chars}
use Rattle.spell_shrink.proofs.reading.Expected.pass.Goals as goal

pub overflow_add-result : goal.overflow_add-result
overflow_add-result g c = omega (arith, c.is_next.ensures.small c.if-not-is_next.false)

-- a piece of a gap kind
pub returns-then-is_gap : goal.returns-then-is_gap
returns-then-is_gap g c = (refl, inl (sym c.is_gap.ensures ∙ c.if-is_gap.true, refl))

-- a token that isn't the expected one
pub returns-then-not-is_next : goal.returns-then-not-is_next
returns-then-not-is_next g c =
    let text : c.range.result.now ≡ between c.args.piece.start c.args.piece.end c.args.text.now = c.range.ensures.value in
    record {
      visible = sym c.is_gap.ensures ∙ c.if-is_gap.false;
      other = λ is.
          c.is_next.ensures.no c.if-not-is_next.true
          (is ∙ ap (λ (l : List ℕ). Some (record { kind = c.args.piece.kind; text = chars l })) (sym text));
    }

-- the expected one
pub returns : goal.returns
returns g c =
    let text : c.range.result.now ≡ between c.args.piece.start c.args.piece.end c.args.text.now = c.range.ensures.value in
    let next = c.is_next.ensures.yes c.if-not-is_next.false in (
      refl,
      inr (
        sym c.is_gap.ensures ∙ c.if-is_gap.false,
        omega arith,
        next ∙ ap (λ (l : List ℕ). Some (record { kind = c.args.piece.kind; text = chars l })) text,
      ),
    )
