use Rattle.std.proofs.Common.{◌≡◌, ◌∙◌, ap, sym, subst, ◌-◌, ◌++◌, length, take, drop}
use Rattle.std.specs.Prelude.{IfOk}
use Rattle.list_ddmin.specs.ListStep.{kept_count}
use Rattle.list_ddmin.specs.inner.Plain.{positions_from, flags_of}
use Rattle.list_ddmin.proofs.Positions.{flags_of-part, flags_of-complement, borders_fit, tail_whole}
use Rattle.list_ddmin.proofs.plain.candidate.Goals as goal

pub slice_bounds-flags-end : goal.slice_bounds-flags-end
slice_bounds-flags-end c =
    let all : c.deref.result.now ≡ positions_from 0 c.args.keep.now = c.deref.ensures.value ∙ c.in_ok-positions.ensures.positions in
    let counted : c.len-size.result ≡ kept_count c.args.keep.now = c.len-size.ensures ∙ c.in_ok-positions.ensures.count in
    let fit =
    borders_fit c.args.keep.now c.deref.result.now c.len-size.result c.args.n c.args.i c.border_of-low.result c.border_of-high.result all counted
    c.border_of-low.ensures c.border_of-high.ensures c.requires.fits c.requires.at in
    fit.1

pub returns-in-Part : goal.returns-in-Part
returns-in-Part c =
    let all : c.deref.result.now ≡ positions_from 0 c.args.keep.now = c.deref.ensures.value ∙ c.in_ok-positions.ensures.positions in
    let counted : c.len-size.result ≡ kept_count c.args.keep.now = c.len-size.ensures ∙ c.in_ok-positions.ensures.count in
    let is =
    flags_of-part c.args.keep.now c.deref.result.now c.len-size.result c.args.n c.args.i c.border_of-low.result c.border_of-high.result all counted
    c.border_of-low.ensures c.border_of-high.ensures c.requires.fits c.requires.at in
    rw c.in-Part.is (subst (λ l. IfOk c.flags.result (λ flags. flags.items ≡ l)) is c.flags.ensures)

pub slice_bounds-extend_from_slice-count : goal.slice_bounds-extend_from_slice-count
slice_bounds-extend_from_slice-count c =
    let all : c.deref-in-Complement-2.result.now ≡ positions_from 0 c.args.keep.now =
    c.deref-in-Complement-2.ensures.value ∙ c.in_ok-positions.ensures.positions in
    let counted : c.len-size.result ≡ kept_count c.args.keep.now = c.len-size.ensures ∙ c.in_ok-positions.ensures.count in
    (borders_fit c.args.keep.now c.deref-in-Complement-2.result.now c.len-size.result c.args.n c.args.i c.border_of-low.result c.border_of-high.result all
    counted c.border_of-low.ensures c.border_of-high.ensures c.requires.fits c.requires.at).1

pub slice_bounds-extend_from_slice-start : goal.slice_bounds-extend_from_slice-start
slice_bounds-extend_from_slice-start c =
    let all : c.deref-in-Complement-2.result.now ≡ positions_from 0 c.args.keep.now = c.deref-in-Complement-2.ensures.value
    ∙ c.in_ok-positions.ensures.positions in
    let counted : c.len-size.result ≡ kept_count c.args.keep.now = c.len-size.ensures ∙ c.in_ok-positions.ensures.count in
    let fit =
    borders_fit c.args.keep.now c.deref-in-Complement-2.result.now c.len-size.result c.args.n c.args.i c.border_of-low.result c.border_of-high.result all
    counted c.border_of-low.ensures c.border_of-high.ensures c.requires.fits c.requires.at in
    fit.1

pub returns : goal.returns
returns c =
    let all : c.deref-in-Complement.result.now ≡ positions_from 0 c.args.keep.now = c.deref-in-Complement.ensures.value ∙ c.in_ok-positions.ensures.positions in
    let counted : c.len-size.result ≡ kept_count c.args.keep.now = c.len-size.ensures ∙ c.in_ok-positions.ensures.count in
    let is =
    flags_of-complement c.args.keep.now c.deref-in-Complement.result.now c.len-size.result c.args.n c.args.i c.border_of-low.result c.border_of-high.result all
    counted c.border_of-low.ensures c.border_of-high.ensures c.requires.fits c.requires.at in
    let same : c.deref-in-Complement-2.result.now ≡ c.deref-in-Complement.result.now =
    c.deref-in-Complement-2.ensures.value ∙ sym c.deref-in-Complement.ensures.value in
    let tail : take (length c.deref-in-Complement-2.result.now - c.border_of-high.result) (drop c.border_of-high.result c.deref-in-Complement-2.result.now)
    ≡ drop c.border_of-high.result c.deref-in-Complement.result.now =
    tail_whole c.border_of-high.result c.deref-in-Complement-2.result.now ∙ ap (λ l. drop c.border_of-high.result l) same in
    let began = c.in_ok-others-in-Complement.ensures.items in
    let others = c.deref-in-Complement-3.ensures.value ∙ c.in_ok-extend_from_slice-in-Complement.ensures.items ∙ (λ i. began i ++ tail i) in
    rw c.in-Complement.is (subst (λ l. IfOk c.flags-in-Complement.result (λ flags. flags.items ≡ l))
    (ap (λ l. flags_of l 0 (length c.args.keep.now)) others ∙ is) c.flags-in-Complement.ensures)
