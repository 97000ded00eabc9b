use Rattle.std.proofs.Common.{◌≡◌, [], ◌∷◌, ◌++◌, ◌-◌, ◌≤◌, ap, sym, ◌∙◌, arith, append_assoc}
use Rattle.normal_form.specs.NormalOf.{new_names}
use Rattle.normal_form_build.proofs.NewNames.{names_at}
use Rattle.normal_form_build.proofs.rule_names.push_names.Goals as goal

pub loop-number-preserved : goal.loop-number-preserved
loop-number-preserved c =
    let first = c.push.new.self.items in
    let from : 1 ≤ c.loop-number.number = omega arith in
    c.in_ok-push-2.ensures.items
    ∙ ap (λ l. l ++ c.in_ok-new_name.field-0 ∷ []) c.loop-number.invariant
    ∙ append_assoc first (new_names c.args.name.now 1 (c.loop-number.number - 1)) (c.in_ok-new_name.field-0 ∷ [])
    ∙ ap (λ l. first ++ l) (ap (λ t. new_names c.args.name.now 1 (c.loop-number.number - 1) ++ t ∷ []) c.in_ok-new_name.ensures
    ∙ sym (names_at c.args.name.now c.loop-number.number from))

pub returns : goal.returns
returns c =
    let last : c.loop-number.number ≡ c.args.size = omega arith in
    c.loop-number.invariant
    ∙ ap (λ k. c.push.new.self.items ++ new_names c.args.name.now 1 (k - 1)) last
    ∙ ap (λ l. l ++ new_names c.args.name.now 1 (c.args.size - 1))
    (c.in_ok-push.ensures.items ∙ ap (λ t. c.args.names.now.items ++ t ∷ []) c.in_ok-copy.ensures)
    ∙ append_assoc c.args.names.now.items (c.args.name.now ∷ []) (new_names c.args.name.now 1 (c.args.size - 1))
