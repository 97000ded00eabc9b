use Rattle.std.proofs.Common.{◌≡◌, ◌≤◌, ◌/◌, ◌-◌, ◌∙◌, ℕ, List, sym, ap, subst, length, take, drop, arith}
use Rattle.std.proofs.lemmas.List.{length-drop, length-take-le, take-append-drop}
use Rattle.std.proofs.Math.Seq.{take-length}
use Rattle.grammar_tree.specs.Lexes.{is_gap_kind}
use Rattle.lexer.specs.declared.gaps.Singles.{Singles}
use Rattle.lexer.specs.inner.Gaps.{AreDecided}
use Rattle.lexer_nfa.proofs.Lent.{apart, take_order}
use Rattle.lexer.proofs.Singles.{joined_decided, none_decided, one_decided}
use Rattle.lexer.proofs.gaps.+decide.Goals as goal

abbrev kind_number : Singles → ℕ
kind_number s = s.kind

pub returns-then-singles-eq0 : goal.returns-then-singles-eq0
returns-then-singles-eq0 t c G named =
    none_decided (is_gap_kind G) c.args.singles.now c.in_ok-decided.decided c.in_ok-none.none
    (omega arith) c.in_ok-none.ensures c.in_ok-decided.ensures.matched c.in_ok-decided.ensures.gaps

pub returns-then-singles-eq1 : goal.returns-then-singles-eq1
returns-then-singles-eq1 t c G named =
    one_decided (is_gap_kind G) c.args.singles.now c.index-singles-0.result c.in_ok-decided-2.decided c.is_gap.result (omega arith) c.index-singles-0.is
    (c.is_gap.ensures G named) c.in_ok-decided-2.ensures.matched c.in_ok-decided-2.ensures.gaps

pub decide-requires : goal.decide-requires
decide-requires t c =
    let list = c.args.singles.now in
    let half : length list / 2 ≤ length list = omega arith in
    (omega (arith, c.decreases, length-take-le (length list / 2) list half), take_order kind_number (length list / 2) list half c.requires.order)

pub returns : goal.returns
returns t c G named =
    let list = c.args.singles.now in
    let n = length list / 2 in
    let half : n ≤ length list = omega arith in
    let count : length list - n ≡ length (drop n list) = omega (arith, length-drop n list) in
    let Q : List Singles → Type 0 = λ l. AreDecided (is_gap_kind G) l c.in_ok-other.other in
    joined_decided (is_gap_kind G) list (take n list) (drop n list)
    (sym (take-append-drop n list)) c.in_ok-lesser.lesser c.in_ok-other.other c.in_ok-decided-3.decided (apart kind_number n list half c.requires.order)
    (c.in_ok-lesser.ensures G named) (subst Q (ap (λ k. take k (drop n list)) count ∙ take-length (drop n list)) (c.in_ok-other.ensures G named))
    c.in_ok-decided-3.ensures.matched c.in_ok-decided-3.ensures.gaps
