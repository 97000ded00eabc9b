use Rattle.std.proofs.Common.{◌≡◌, ℕ, Bool, List, true, ap, arith, length, subst, sym, true≢false, ◌∙◌}
use Rattle.std.specs.Prelude.{◌↔◌, IfOk, IsTrue}
use Rattle.std.specs.Str.{IsUtf8}
use Rattle.keep_guard.specs.Keep.{holds_all}
use Rattle.cert_check_texts.specs.Texts.{IsCandidateFrom, IsTreeStart, TreeStart}
use Rattle.cert_check_texts.proofs.Language.{answered, may_be_asked}
use Rattle.cert_check_texts.proofs.Printed.{start_is}
use Rattle.cert_check_texts.proofs.tree_texts.TreeTextsCandidates.is_candidate.Goals as goal

pub returns-then-text-self : goal.returns-then-text-self
returns-then-text-self c =
    let t = c.self.inside in
    let is_start : IsTreeStart c.args.self.now =
    subst IsTreeStart c.self.view_is (start_is t.lexer t.start.now t.tokens t.normal t.skips t.separators.items t.equal t.keeps c.self.invariant) in
    let same : length t.start.now ≡ length c.args.self.now.start = ap (λ (s : TreeStart). length s.start) c.self.view_is in
    (λ is. absurd (true≢false (sym is)), λ one. absurd (omega (arith, same, c.texts_are_short.ensures c.args.self.now c.args.text.now is_start one)))

pub returns-then-not-holds_all : goal.returns-then-not-holds_all
returns-then-not-holds_all c =
    let same = ap (λ (s : TreeStart). holds_all s.keeps c.args.text.now) c.self.view_is in
    (λ is. absurd (true≢false (sym is)), λ one. absurd (true≢false (sym one.held ∙ sym same ∙ sym c.holds_all.ensures ∙ c.if-not-holds_all.true)))

pub is_tree_text-requires-clause-utf8 : goal.is_tree_text-requires-clause-utf8
is_tree_text-requires-clause-utf8 c = subst IsUtf8 (sym c.in-Ok.ensures.cases.0) c.in-Ok.ensures.cases.1

pub is_tree_text-requires-clause-short : goal.is_tree_text-requires-clause-short
is_tree_text-requires-clause-short c = omega (arith, ap length c.in-Ok.ensures.cases.0, c.self.invariant.short)

pub returns-in-Err : goal.returns-in-Err
returns-in-Err c = (λ is. absurd (true≢false (sym is)), λ one. absurd (c.in-Err.ensures.cases.0 one.in_language.utf8))

pub returns-in-Ok : goal.returns-in-Ok
returns-in-Ok c =
    let same = c.in-Ok.ensures.cases.0 in
    let view = ap (λ (s : TreeStart). holds_all s.keeps c.args.text.now) c.self.view_is in
    let held : holds_all c.args.self.now.keeps c.in-Ok.read.now ≡ true =
    ap (holds_all c.args.self.now.keeps) same ∙ sym view ∙ sym c.holds_all.ensures ∙ c.if-not-holds_all.false in
    subst (λ (t : List ℕ). IfOk c.is_tree_text.result (λ (b : Bool). IsTrue b ↔ IsCandidateFrom c.args.self.now t)) same
    (answered c.is_tree_text.result (may_be_asked c.args.self.now c.in-Ok.read.now held) c.is_tree_text.ensures)
