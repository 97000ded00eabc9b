use Rattle.std.proofs.Common.{◌∙◌, ap, sym, true≢false}
use Rattle.keep_guard.specs.Keep.{holds_all}
use Rattle.cert_check_texts.specs.Texts.{LineStart}
use Rattle.cert_check_texts.proofs.Taking.{listed_lines}
use Rattle.cert_check_texts.proofs.line_texts.LineTextsCandidates.is_candidate.Goals as goal

pub returns-then-not-are_lines : goal.returns-then-not-are_lines
returns-then-not-are_lines c =
    (λ is. absurd (true≢false (sym is)), λ one. absurd (true≢false (sym (c.are_lines.ensures.1 (one.lines, one.some, one.joined)) ∙ c.if-not-are_lines.true)))

pub returns : goal.returns
returns c =
    let held = ap (λ (s : LineStart). holds_all s.keeps c.args.text.now) c.self.view_is in
    let both = listed_lines c.args.self.now.keeps c.args.self.now.start c.args.text.now (c.are_lines.ensures.0 c.if-not-are_lines.false) in
    (λ is. both.0 (sym held ∙ sym c.holds_all.ensures ∙ is), λ one. c.holds_all.ensures ∙ held ∙ both.1 one)
