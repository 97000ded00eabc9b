use Rattle.std.proofs.Common.{◌≡◌, ◌<◌, ◌∷◌, [], List, ℕ, ap, arith, length, refl, subst, sym, true≢false, ◌∙◌}
use Rattle.std.specs.List.Sorted.{IsStrictlyIncreasing}
use Rattle.reduce_core.specs.Lines.{lines_of}
use Rattle.cert_check_texts.specs.Texts.{LineStart}
use Rattle.cert_check_texts.specs.inner.Numbers.{HasNumbers, line_at}
use Rattle.cert_check_texts.proofs.Found as found
use Rattle.cert_check_texts.proofs.Taking.{empty_is, joined_lines, next_taken, none_taken, nothing_left, split_lines, takes_where_some}
use Rattle.cert_check_texts.proofs.line_texts.LineTexts.are_lines.Goals as goal

pub index_from-at-requires : goal.index_from-at-requires
index_from-at-requires c = subst IsStrictlyIncreasing (sym c.with-equal.ensures) (c.self.invariant.rise c.split_at.result.0.now)

pub loop-rest-init : goal.loop-rest-init
loop-rest-init c = (λ taken. taken, λ taken. taken)

pub loop-rest-preserved : goal.loop-rest-preserved
loop-rest-preserved c =
    let line = c.split_at.result.0.now in
    let later = c.split_at.result.1.now in
    let start = c.args.self.now.start in
    let has =
    subst (λ (s : List ℕ). HasNumbers c.self.inside.numbers (line_at s) (length (lines_of s))) (ap (λ (s : LineStart). s.start) c.self.view_is)
    c.self.invariant in
    let joined = joined_lines c.loop-rest.rest.now line later c.first_line_end.result c.split_at.ensures.front c.split_at.ensures.back in
    let is =
    split_lines c.loop-rest.rest.now line later c.first_line_end.result c.first_line_end.ensures.line c.split_at.ensures.front c.split_at.ensures.back in
    let within : c.index_from-at.result < length c.with-equal.result.now = omega arith in
    let one =
    found.is_line c.self.inside.numbers start line c.with-equal.result.now has c.with-equal.ensures c.loop-rest.next c.index_from-at.result
    c.index_from-at.ensures.before within in
    next_taken start line later (subst (λ (t : List ℕ). lines_of t ≡ line ∷ lines_of later) joined is) _ c.loop-rest.next _
    (c.index_from-at.ensures.others c.index_from-at.result (omega arith) within) one.0 one.1
    (found.none_between c.self.inside.numbers start line c.with-equal.result.now has c.with-equal.ensures c.loop-rest.next c.index_from-at.result
    c.index_from-at.ensures.before within)
    (rw joined at c.loop-rest.invariant)

pub returns-then-at-equal : goal.returns-then-at-equal
returns-then-at-equal c =
    let line = c.split_at.result.0.now in
    let later = c.split_at.result.1.now in
    let start = c.args.self.now.start in
    let has =
    subst (λ (s : List ℕ). HasNumbers c.self.inside.numbers (line_at s) (length (lines_of s))) (ap (λ (s : LineStart). s.start) c.self.view_is)
    c.self.invariant in
    let joined = joined_lines c.loop-rest.rest.now line later c.first_line_end.result c.split_at.ensures.front c.split_at.ensures.back in
    let is =
    split_lines c.loop-rest.rest.now line later c.first_line_end.result c.first_line_end.ensures.line c.split_at.ensures.front c.split_at.ensures.back in
    let where_some = takes_where_some start c.args.text.now in (
      λ is'. absurd (true≢false (sym is')),
      λ some. absurd (none_taken start line later (subst (λ (t : List ℕ). lines_of t ≡ line ∷ lines_of later) joined is) _ c.loop-rest.next
          (λ none. absurd (true≢false (sym ((empty_is c.loop-rest.rest.now _ _ refl c.is_empty.ensures).1 (joined ∙ none)) ∙ c.loop-rest-test.true)))
          (found.none_left c.self.inside.numbers start line c.with-equal.result.now has c.with-equal.ensures c.loop-rest.next c.index_from-at.result
          c.index_from-at.ensures.before (omega arith))
          (rw joined at c.loop-rest.invariant) (where_some.1 some)),
    )

pub returns : goal.returns
returns c =
    let none : c.loop-rest.rest.now ≡ [] = (empty_is c.loop-rest.rest.now _ c.is_empty.result refl c.is_empty.ensures).0 c.loop-rest-test.false in (
      λ is. (takes_where_some c.args.self.now.start c.args.text.now).0
          (nothing_left _ _ c.loop-rest.rest.now none c.loop-rest.invariant),
      λ some. refl,
    )
