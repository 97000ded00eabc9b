-- Elements of stars and pluses move on.
use Rattle.std.proofs.Common.{◌≡◌, ◌⊎◌, inl, inr, ℕ, ◌<◌, ◌≤◌, List, [], sym, ap, ◌∙◌, subst, arith}
use Rattle.std.specs.List.{between}
use Rattle.std.proofs.lemmas.List.Edits.{between_none}
use Rattle.normal_form.specs.declared.normal.Sym.{Sym}
use Rattle.normal_form.specs.Form.{NormalForm}
use Rattle.normal_form.specs.NormalDerives.{NormalDerives}
use Rattle.normal_form.specs.FormLaws.{ElementsAreNotEmpty}
use Rattle.normal_form.specs.Spans.{DerivesSpan}
use Rattle.normal_form.specs.SpanLaws.{ElementsMoveOn}

-- a span that isn't empty ends after its first position
moves : (N : NormalForm) (kinds : List ℕ) (s : Sym) (i j : ℕ) → (NormalDerives N s [] → ⊥) → DerivesSpan N kinds s i j → i < j
moves N kinds s i j filled d = by (order i j d.rises)
  where
    order : (i j : ℕ) → i ≤ j → (i < j) ⊎ (i ≡ j)
    order i j l = grind (arith, l)

    by : (i < j) ⊎ (i ≡ j) → i < j
    by (inl l) = l
    by (inr e) =
        let none : between i j kinds ≡ [] = ap (λ n. between i n kinds) (sym e) ∙ between_none kinds i in
        absurd (filled (subst (NormalDerives N s) none d.derived))

pub elements_move_on : ElementsAreNotEmpty → ElementsMoveOn
elements_move_on law N normal kinds r i j s (inl at) d = moves N kinds s i j ((law N normal).star r s at) d
elements_move_on law N normal kinds r i j s (inr at) d = moves N kinds s i j ((law N normal).plus r s at) d
