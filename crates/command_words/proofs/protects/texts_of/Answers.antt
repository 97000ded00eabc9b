use Rattle.std.proofs.Common.{◌∙◌, ℕ, List, arith, map, sym}
use Rattle.std.proofs.lemmas.List.{length-map}
use Rattle.std.specs.Borrow.{Bor}
use Rattle.command_words.proofs.FoundValues.{few_enough, no_texts, too_many}
use Rattle.command_words.proofs.protects.texts_of.Goals as goal

pub returns-in-None : goal.returns-in-None
returns-in-None c = λ table uses has takes.
    rw c.new.ensures.items (no_texts c.args.name.now uses (sym (has.has.values c.args.name.now takes) ∙ sym c.in-None.ensures))

pub returns-in-Some : goal.returns-in-Some
returns-in-Some c = λ table uses has takes.
    too_many c.args.name.now uses (map (λ text. text.now) c.in-Some.texts.now)
    (omega (arith, length-map c.in-Some.texts.now (λ (text : Bor (List ℕ)). text.now)))
    (sym (has.has.values c.args.name.now takes) ∙ sym c.in-Some.ensures)

pub returns-in_ok-from_slice-in-Some-2 : goal.returns-in_ok-from_slice-in-Some-2
returns-in_ok-from_slice-in-Some-2 c = λ table uses has takes.
    rw c.in_ok-from_slice-in-Some-2.ensures.items
    (few_enough c.args.name.now uses (map (λ text. text.now) c.in-Some.texts.now)
    (omega (arith, length-map c.in-Some.texts.now (λ (text : Bor (List ℕ)). text.now)))
    (sym (has.has.values c.args.name.now takes) ∙ sym c.in-Some.ensures))
