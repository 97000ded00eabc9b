use Rattle.std.proofs.Common.{arith, false, length, refl, subst, sym, take, true, ℕ, ◌∙◌, ◌≡◌}
use Rattle.chart_parser_prefix.proofs.Walking.{is_longest, walk_on}
use Rattle.chart_parser_prefix.specs.Prefixes.{IsLongestViable, IsViablePrefix}
use Rattle.chart_parser_prefix.specs.inner.Walk.{IsClosed, IsWalk}
use Rattle.chart_parser_prefix.proofs.search.PrefixSearch.longest.Goals as goal

false_true : false ≡ true → ⊥
false_true e = absurd (cc)

pub loop-position-init : goal.loop-position-init
loop-position-init c = record { same = refl; walk = c.requires.walk; viable = c.requires.viable }

pub close-requires-clause-chart : goal.close-requires-clause-chart
close-requires-clause-chart c = c.loop-position.invariant.same ∙ c.requires.chart

pub close-requires-2-clause-chart : goal.close-requires-2-clause-chart
close-requires-2-clause-chart c = c.loop-position.invariant.same ∙ c.requires.chart

pub close-requires-2-clause-walk : goal.close-requires-2-clause-walk
close-requires-2-clause-walk c =
    let N = c.args.self.now.normal.now in
    let K = c.args.self.now.kinds.now in
    let end : c.loop-position.position ≡ c.last-last.result = omega (arith, c.loop-position-test.false, c.loop-position.auto.position-end) in
    subst (λ (n : ℕ). IsWalk N K c.args.self.now.start n c.loop-position.lists.items) end c.loop-position.invariant.walk

pub goes_on-requires-clause-chart : goal.goes_on-requires-clause-chart
goes_on-requires-clause-chart c = c.in_ok-close.ensures.same ∙ c.loop-position.invariant.same ∙ c.requires.chart

pub goes_on-requires-clause-walk : goal.goes_on-requires-clause-walk
goes_on-requires-clause-walk c =
    let N = c.args.self.now.normal.now in
    let K = c.args.self.now.kinds.now in
    subst (IsWalk N K c.args.self.now.start c.loop-position.position) (sym c.deref.ensures.value) c.in_ok-close.ensures.walk

pub goes_on-requires-clause-closed : goal.goes_on-requires-clause-closed
goes_on-requires-clause-closed c =
    let N = c.args.self.now.normal.now in
    let K = c.args.self.now.kinds.now in
    subst (IsClosed N K c.loop-position.position) (sym c.deref.ensures.value) c.in_ok-close.ensures.closed

pub clear_at-requires : goal.clear_at-requires
clear_at-requires c = omega (arith, c.in_ok-close.ensures.walk.count, c.loop-position-test.true, c.last-last.ensures)

pub returns-then-not-branch-clause-longest : goal.returns-then-not-branch-clause-longest
returns-then-not-branch-clause-longest c =
    let N = c.args.self.now.normal.now in
    let K = c.args.self.now.kinds.now in
    is_longest N K c.args.self.now.start c.loop-position.position
    (omega (arith, c.loop-position-test.true, c.last-last.ensures)) c.loop-position.invariant.viable
    (λ l v. false_true (sym c.if-not-branch.true ∙ c.in_ok-goes_on.ensures.answer.1 v))

pub loop-position-preserved : goal.loop-position-preserved
loop-position-preserved c =
    let N = c.args.self.now.normal.now in
    let K = c.args.self.now.kinds.now in
    record {
      same = c.in_ok-goes_on.ensures.same ∙ c.in_ok-close.ensures.same ∙ c.loop-position.invariant.same;
      walk =
          walk_on N K c.args.self.now.start c.loop-position.position c.close.new.lists.items c.in_ok-close.ensures.walk c.in_ok-close.ensures.closed
          c.clear_at.new.lists.items c.clear_at.ensures;
      viable = c.in_ok-goes_on.ensures.answer.0 c.if-not-branch.false;
    }

pub returns-clause-longest : goal.returns-clause-longest
returns-clause-longest c =
    let N = c.args.self.now.normal.now in
    let K = c.args.self.now.kinds.now in
    let end : c.loop-position.position ≡ length K = omega (arith, c.loop-position-test.false, c.last-last.ensures, c.loop-position.auto.position-end) in
    subst (IsLongestViable N c.args.self.now.start K) (sym c.last-last.ensures)
    (is_longest N K c.args.self.now.start (length K) (omega arith)
    (subst (λ (n : ℕ). IsViablePrefix N c.args.self.now.start (take n K)) end c.loop-position.invariant.viable) (λ l v. omega (arith, l)))
