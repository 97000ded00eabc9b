use Rattle.std.proofs.Common.{◌+◌, All, List, ℕ, arith, subst, sym, true≢false, ◌∙◌}
use Rattle.std.proofs.lemmas.List.{take_all}
use Rattle.std.proofs.lemmas.List.Elements.{All-more, All-nil}
use Rattle.verdict_table.specs.declared.record.Record.{Record}
use Rattle.cert_check.proofs.Numbered.{other_found, record_read}
use Rattle.cert_check.proofs.candidates.first_other.Goals as goal

pub may_be_asked-requires : goal.may_be_asked-requires
may_be_asked-requires g c =
    λ marked. c.requires c.loop-index.index c.index-records-index.result (c.is_marked.ensures marked)
    (record_read c.args.records.now c.loop-index.index c.index-records-index.result c.loop-index-test.true c.index-records-index.is)

pub loop-index-init : goal.loop-index-init
loop-index-init g c = All-nil (λ (q : Record). g.C.Candidates.IsCandidate c.args.candidates.now q.text)

pub loop-index-preserved : goal.loop-index-preserved
loop-index-preserved g c =
    let r : Record = c.index-records-index.result in
    let Is : Record → Type 0 = λ q. g.C.Candidates.IsCandidate c.args.candidates.now q.text in
    let so : Is r = c.in_ok-may.ensures.0 c.if-not-may.false in
    All-more Is c.args.records.now c.loop-index.index r c.loop-index-test.true c.loop-index.invariant (subst Is c.index-records-index.is so)

pub returns-then-not-may : goal.returns-then-not-may
returns-then-not-may g c =
    let r : Record = c.index-records-index.result in
    let Is : List ℕ → Type 0 = λ t. g.C.Candidates.IsCandidate c.args.candidates.now t in
    let other : ¬ Is r.text = λ one. true≢false (sym (c.in_ok-may.ensures.1 one) ∙ c.if-not-may.true) in
    other_found Is c.args.records.now c.loop-index.index r c.loop-index.invariant
    (record_read c.args.records.now c.loop-index.index r c.loop-index-test.true c.index-records-index.is) other (c.loop-index.index + 1)
    (omega arith)

pub returns : goal.returns
returns g c =
    let Is : Record → Type 0 =
    λ q. g.C.Candidates.IsCandidate c.args.candidates.now q.text in
    subst (All Is) (take_all c.loop-index.index c.args.records.now c.loop-index-test.false) c.loop-index.invariant
