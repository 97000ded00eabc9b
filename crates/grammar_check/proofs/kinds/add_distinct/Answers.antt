use Rattle.std.proofs.Common.{◌++◌, [], ◌∷◌, cond, is_some, sym, ap, ◌∙◌, append-nil}
use Rattle.std.specs.Str.{chars}
use Rattle.grammar_check_faults.specs.inner.Seen.{seen_in}
use Rattle.grammar_check_faults.proofs.Lent.{seen_again, seen_push, was_not_seen, was_seen}
use Rattle.grammar_check.proofs.kinds.add_distinct.Goals as goal

pub returns-then-is_some : goal.returns-then-is_some
returns-then-is_some c = λ texts finds.
    let there = was_seen texts c.args.text.now (sym (c.is_some.ensures ∙ ap is_some (c.get.ensures (seen_in texts) finds)) ∙ c.if-is_some.true) in (
      λ bytes utf8. finds bytes utf8 ∙ seen_again texts c.args.text.now there (chars bytes),
      sym (ap (λ b. c.args.found.now.items ++ cond b [] (c.args.text.now ∷ [])) there ∙ append-nil c.args.found.now.items),
    )

pub returns : goal.returns
returns c = λ texts finds.
    let none = was_not_seen texts c.args.text.now (sym (c.is_some.ensures ∙ ap is_some (c.get.ensures (seen_in texts) finds)) ∙ c.if-is_some.false) in (
      λ bytes utf8. c.in_ok-add.ensures (seen_in texts) finds bytes utf8 ∙ seen_push texts c.args.text.now (chars bytes),
      c.in_ok-push.ensures.items
          ∙ ap (λ t. c.args.found.now.items ++ t ∷ []) c.in_ok-copy.ensures
          ∙ sym (ap (λ b. c.args.found.now.items ++ cond b [] (c.args.text.now ∷ [])) none),
    )
