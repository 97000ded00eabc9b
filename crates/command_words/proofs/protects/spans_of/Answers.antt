use Rattle.std.proofs.Common.{◌≡◌, ◌∙◌, ℕ, List, IfOk, Option, arith, codes, map, option_map, refl, subst, sym}
use Rattle.std.proofs.lemmas.List.{length-map}
use Rattle.std.specs.Borrow.{Bor}
use Rattle.command_words.specs.Lines.{span_read}
use Rattle.command_words.specs.Options.{LineSpan}
use Rattle.command_words.specs.Tables.{reduce_table}
use Rattle.command_words.proofs.FoundValues.{few_spans, named_by, no_spans, too_many_spans}
use Rattle.command_words.proofs.protects.spans_of.Goals as goal

pub returns-in-None : goal.returns-in-None
returns-in-None c = λ uses has.
    rw c.new.ensures.items (no_spans uses (sym (has.has.values (codes "protect") (named_by reduce_table (codes "protect") refl)) ∙ sym c.in-None.ensures))

pub returns-in-Some : goal.returns-in-Some
returns-in-Some c = λ uses has.
    too_many_spans uses (map (λ text. text.now) c.in-Some.texts.now) (omega (arith, length-map c.in-Some.texts.now (λ (text : Bor (List ℕ)). text.now)))
    (sym (has.has.values (codes "protect") (named_by reduce_table (codes "protect") refl)) ∙ sym c.in-Some.ensures)

pub returns-in-Some-2 : goal.returns-in-Some-2
returns-in-Some-2 c = λ uses has.
    subst (λ (o : Option (List LineSpan)). IfOk c.read_spans.result (λ spans. option_map (λ spans. map span_read spans.items) spans ≡ o))
    (few_spans uses (map (λ text. text.now) c.in-Some.texts.now) (omega (arith, length-map c.in-Some.texts.now (λ (text : Bor (List ℕ)). text.now)))
    (sym (has.has.values (codes "protect") (named_by reduce_table (codes "protect") refl)) ∙ sym c.in-Some.ensures))
    c.read_spans.ensures
