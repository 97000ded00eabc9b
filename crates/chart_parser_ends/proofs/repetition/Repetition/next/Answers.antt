use Rattle.std.proofs.Common.{subst, sym, nat_cmp, ◌∙◌, ap, length, arith}
use Rattle.std.proofs.lemmas.Grind.{get_or_default_zero}
use Rattle.chart_parser_ends.specs.inner.Working.{IsNext}
use Rattle.std.specs.List.Sorted.{IsBinarySearchResult}
use Rattle.chart_parser_ends.proofs.Rising.{next_missing, none_left}
use Rattle.chart_parser_ends.proofs.repetition.Repetition.next.Goals as goal

pub returns-then-next-len-clause-least : goal.returns-then-next-len-clause-least
returns-then-next-len-clause-least c =
    subst (IsNext c.args.self.now.reached.items c.args.self.now.from)
    (sym (c.index.ensures ∙ get_or_default_zero c.args.self.now.reached.items c.in-Err.next c.index.result.now
    (omega (arith, c.if-next-len.true, ap length c.deref.ensures.value, c.deref.ensures.len))))
    (next_missing c.args.self.now.reached.items c.args.self.now.from c.binary_search.result c.in-Err.next
    (subst (λ l. IsBinarySearchResult (λ y. nat_cmp y c.args.self.now.from) l c.binary_search.result) c.deref.ensures.value c.binary_search.ensures.position)
    c.requires c.in-Err.is (omega (arith, c.if-next-len.true, ap length c.deref.ensures.value, c.deref.ensures.len)))

pub returns-else-next-len-clause-least : goal.returns-else-next-len-clause-least
returns-else-next-len-clause-least c =
    none_left c.args.self.now.reached.items c.args.self.now.from c.binary_search.result c.in-Err.next
    (subst (λ l. IsBinarySearchResult (λ y. nat_cmp y c.args.self.now.from) l c.binary_search.result) c.deref.ensures.value c.binary_search.ensures.position)
    c.requires c.in-Err.is (omega (arith, c.if-next-len.false, ap length c.deref.ensures.value, c.deref.ensures.len))
