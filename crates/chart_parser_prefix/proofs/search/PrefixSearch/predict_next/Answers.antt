use Rattle.std.proofs.Common.{List, ap, arith, false, get_or, length, subst, sym, take, true, ◌<◌, ◌∙◌, ◌≡◌, ◌≤◌}
use Rattle.chart_parser_prefix.proofs.Growing.{read_at}
use Rattle.chart_parser_prefix.proofs.Walking.{closed_again, closed_all, closed_more, walk_grown}
use Rattle.chart_parser_prefix.specs.inner.Expected.{of_symbol}
use Rattle.chart_parser_prefix.specs.inner.Walk.{symbols_at}
use Rattle.normal_form.specs.declared.normal.Sym.{Sym}
use Rattle.normal_form.specs.declared.normal.Sym.TheVariants.{Kind}
use Rattle.std.proofs.lemmas.List.Elements.{Contains-get_or}
use Rattle.std.specs.List.{Contains}
use Rattle.chart_parser_prefix.proofs.search.PrefixSearch.predict_next.Goals as goal

false_true : false ≡ true → ⊥
false_true e = absurd (cc)

pub returns-then-done-symbols-clause-more : goal.returns-then-done-symbols-clause-more
returns-then-done-symbols-clause-more c e = absurd (false_true e)

pub returns-then-done-symbols-clause-all : goal.returns-then-done-symbols-clause-all
returns-then-done-symbols-clause-all c e =
    let N = c.args.self.now.normal.now in
    let K = c.args.self.now.kinds.now in
    let start = c.args.self.now.start in
    let p = c.args.position in
    let old = c.args.lists.now.items in
    let done = c.args.done in
    let symbols = c.as_slice-symbols.result.now in
    let at = c.as_slice-symbols.ensures.value ∙ read_at old p c.index.result.now (omega (arith, c.requires.walk.count, c.requires.within)) c.index.ensures in
    closed_all N K start p done old (subst (λ (x : List Sym). length x ≤ done) at (omega (arith, c.if-done-symbols.true))) c.requires.closed

pub is_done-requires : goal.is_done-requires
is_done-requires c = omega (arith, c.if-done-symbols.false)

pub returns-then-is_done-clause-more : goal.returns-then-is_done-clause-more
returns-then-is_done-clause-more c e =
    let N = c.args.self.now.normal.now in
    let K = c.args.self.now.kinds.now in
    let start = c.args.self.now.start in
    let p = c.args.position in
    let old = c.args.lists.now.items in
    let done = c.args.done in
    let symbols = c.as_slice-symbols.result.now in
    let at = c.as_slice-symbols.ensures.value ∙ read_at old p c.index.result.now (omega (arith, c.requires.walk.count, c.requires.within)) c.index.ensures in
    let s = get_or symbols done (Kind 0) in
    let l : done < length (symbols_at old p) = subst (λ (x : List Sym). done < length x) at (omega (arith, c.if-done-symbols.false)) in
    let is = ap (λ (x : List Sym). get_or x done (Kind 0)) at in
    closed_again N K start p done s (Kind 0) old l is c.requires.closed
    (subst (λ (x : List Sym). Contains (take done x) s) at (c.is_done.ensures c.if-is_done.true))

pub returns-then-is_done-clause-all : goal.returns-then-is_done-clause-all
returns-then-is_done-clause-all c e = absurd (false_true (sym e))

pub predict-requires-clause-count : goal.predict-requires-clause-count
predict-requires-clause-count c = c.requires.walk.count

pub returns-clause-walk : goal.returns-clause-walk
returns-clause-walk c =
    let N = c.args.self.now.normal.now in
    let K = c.args.self.now.kinds.now in
    let start = c.args.self.now.start in
    let p = c.args.position in
    let old = c.args.lists.now.items in
    let done = c.args.done in
    let symbols = c.as_slice-symbols.result.now in
    let at = c.as_slice-symbols.ensures.value ∙ read_at old p c.index.result.now (omega (arith, c.requires.walk.count, c.requires.within)) c.index.ensures in
    let s = get_or symbols done (Kind 0) in
    let l : done < length (symbols_at old p) = subst (λ (x : List Sym). done < length x) at (omega (arith, c.if-done-symbols.false)) in
    let is = ap (λ (x : List Sym). get_or x done (Kind 0)) at in
    let there = subst (λ (x : List Sym). Contains x s) at (Contains-get_or symbols done (Kind 0) (omega (arith, c.if-done-symbols.false))) in
    walk_grown N K start p old c.predict.new.lists.items c.requires.walk c.in_ok-predict.ensures.grown
    (λ t m q. of_symbol s p t m (c.requires.walk.sound s p there) q)

pub returns-clause-more : goal.returns-clause-more
returns-clause-more c e =
    let N = c.args.self.now.normal.now in
    let K = c.args.self.now.kinds.now in
    let start = c.args.self.now.start in
    let p = c.args.position in
    let old = c.args.lists.now.items in
    let done = c.args.done in
    let symbols = c.as_slice-symbols.result.now in
    let at = c.as_slice-symbols.ensures.value ∙ read_at old p c.index.result.now (omega (arith, c.requires.walk.count, c.requires.within)) c.index.ensures in
    let s = get_or symbols done (Kind 0) in
    let l : done < length (symbols_at old p) = subst (λ (x : List Sym). done < length x) at (omega (arith, c.if-done-symbols.false)) in
    let is = ap (λ (x : List Sym). get_or x done (Kind 0)) at in
    closed_more N K start p done s (Kind 0) old c.predict.new.lists.items l is c.requires.closed c.in_ok-predict.ensures.grown c.in_ok-predict.ensures.all

pub returns-clause-all : goal.returns-clause-all
returns-clause-all c e = absurd (false_true (sym e))
