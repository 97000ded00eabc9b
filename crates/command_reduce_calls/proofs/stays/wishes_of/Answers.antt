use Rattle.std.proofs.Common.{◌∙◌, arith, ap, List, [], ◌∷◌, ◌++◌, Option, map, sym}
use Rattle.std.proofs.lemmas.List.{append-nil, take_all}
use Rattle.std.specs.Option.{option_to_list}
use Rattle.command_words.specs.declared.commands.LineSpan.{LineSpan}
use Rattle.line_guard.specs.declared.wish.Wish.{Wish}
use Rattle.line_guard.specs.declared.wish.Wish.TheVariants as wish
use Rattle.command_reduce_calls.proofs.StaysLemmas.{wishes-read}
use Rattle.command_reduce_calls.proofs.stays.wishes_of.Goals.{in-Some+in_ok-push-3, in_default}
use Rattle.command_reduce_calls.proofs.stays.wishes_of.Goals as goal

pub returns : goal.returns
returns c =
    let protects = c.args.protects.now in
    let all = c.loop-text.wishes.items in
    let lines =
    c.loop-span.invariant
    ∙ ap (λ l. map (λ span. wish.Lines span.first span.last) l) (take_all c.loop-span.span-index protects.lines.items (omega arith)) in
    let texts =
    c.loop-text.invariant
    ∙ ap (λ l. c.loop-span.wishes.items ++ map (λ text. wish.Holding text.now) l) (take_all c.loop-text.text-index protects.texts.items (omega arith)) in
    let whole = wishes-read protects c.loop-span.wishes.items all lines texts in
    let with_only : Option LineSpan → List Wish = λ only. all ++ map (λ span. wish.Only span.first span.last) (option_to_list only) in
    elim c.match-protects.branch [
      | in-Some+in_ok-push-3 w ↦
          ap (λ v. v.items) w.wishes-is ∙ w.in_ok-push-3.ensures.items
          ∙ (λ i. all ++ wish.Only (w.from-in-Some.ensures i) (w.from-in-Some-2.ensures i) ∷ [])
          ∙ ap with_only (sym w.in-Some.is) ∙ whole
      | in_default w ↦ ap (λ v. v.items) w.wishes-is ∙ sym (append-nil all) ∙ ap with_only (sym w.in_default.is) ∙ whole
    ]
