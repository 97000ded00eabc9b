use Rattle.std.proofs.Common.{◌≡◌, ◌<◌, List, ℕ, length, map, slice_index_or, sym, ap, ◌∙◌, subst, arith}
use Rattle.std.specs.List.{Contains}
use Rattle.lexer.specs.declared.candidates.Beginning.{Beginning}
use Rattle.lexer_match.specs.declared.alternative.Alternative.{Alternative}
use Rattle.lexer_nfa.proofs.Lent.{mapped_len}
use Rattle.lexer.proofs.Listed.{alternative_at, among_more, complete_more, complete_skip, complete_all}
use Rattle.lexer.proofs.candidates.beginning_with.Goals.{then-is_read+in_ok-push, else-is_read}
use Rattle.lexer.proofs.candidates.beginning_with.Goals as goal

pub is_read-requires : goal.is_read-requires
is_read-requires c =
    let x = c.beginning-item.result in
    let is = c.requires x (c.loop-beginning.beginning-index, omega arith, sym c.beginning-item.is) in
    record { inside = λ n k. let Q : List ℕ → Type 0 = λ l. Contains l n in is.inside n (subst Q c.deref.ensures.value k) }

pub loop-beginning-preserved : goal.loop-beginning-preserved
loop-beginning-preserved c =
    let P = c.args.nfa.now in
    let all = map (λ (b : Beginning). b.alternative) c.args.beginnings.now in
    let i = c.loop-beginning.beginning-index in
    let item = c.beginning-item.result in
    let x = item.alternative in
    let is : x ≡ slice_index_or all i x = alternative_at c.args.beginnings.now i item (omega arith) c.beginning-item.is in
    let inside : i < length all = omega (arith, mapped_len (λ (b : Beginning). b.alternative) c.args.beginnings.now) in
    let list = c.loop-beginning.list.items in
    let new = c.if-is_read.list.items in
    let before = c.loop-beginning.invariant in
    let first = (c.requires item (i, omega arith, sym c.beginning-item.is)).first in
    record {
      among = elim c.if-is_read.branch [
        | then-is_read+in_ok-push w ↦ among_more P all c.args.c list new x (ap (λ v. v.items) w.list-is ∙ w.in_ok-push.ensures.items)
            (i, inside, sym is) before.among
        | else-is_read w ↦ let Q : List Alternative → Type 0 =
            λ l. (a : Alternative) → Contains l a → Contains all a in subst Q (sym (ap (λ v. v.items) w.list-is)) before.among
      ];
      complete = elim c.if-is_read.branch [
        | then-is_read+in_ok-push w ↦ complete_more P all c.args.c i list new x x inside is
            (ap (λ v. v.items) w.list-is ∙ w.in_ok-push.ensures.items) before.complete
        | else-is_read w ↦
            complete_skip P all c.args.c i list new x x inside is (ap (λ v. v.items) w.list-is)
            (λ u r. let (n, next, k, step, rest) = (first c.args.c u).0 r in let Q : List ℕ → Type 0 = λ l. Contains l n in
            c.is_read.ensures.not w.if-is_read.false n next (subst Q (sym c.deref.ensures.value) k) step) before.complete
      ];
    }

pub returns : goal.returns
returns c =
    complete_all c.args.nfa.now (map (λ (b : Beginning). b.alternative) c.args.beginnings.now) c.args.c c.loop-beginning.beginning-index
    c.loop-beginning.list.items (omega (arith, mapped_len (λ (b : Beginning). b.alternative) c.args.beginnings.now)) c.loop-beginning.invariant.among
    c.loop-beginning.invariant.complete
