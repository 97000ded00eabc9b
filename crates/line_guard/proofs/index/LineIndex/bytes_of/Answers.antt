use Rattle.std.proofs.Common.{◌∙◌, ◌<◌, ℕ, List, ap, length, subst, sym}
use Rattle.line_guard.specs.inner.Slices.{begin_from}
use Rattle.line_guard.proofs.LineParts.{slice-at}
use Rattle.line_guard.proofs.index.LineIndex.bytes_of.Goals as goal

pub slice_bounds-result-count : goal.slice_bounds-result-count
slice_bounds-result-count c =
    let ends = c.self.inside.ends.items in
    let same = c.self.view_is in
    let inside : c.args.at < length ends = subst (λ (l : List ℕ). c.args.at < length l) (sym same) c.requires.inside in
    let begun = c.begin_of-begin.ensures ∙ ap (λ (l : List ℕ). begin_from 0 l c.args.at) (sym same) in
    (slice-at c.args.text.now ends c.args.at c.begin_of-begin.result c.index.result.now (same ∙ c.requires.index) inside begun c.index.ensures).rises

pub slice_bounds-result-start : goal.slice_bounds-result-start
slice_bounds-result-start c =
    let ends = c.self.inside.ends.items in
    let same = c.self.view_is in
    let inside : c.args.at < length ends = subst (λ (l : List ℕ). c.args.at < length l) (sym same) c.requires.inside in
    let begun = c.begin_of-begin.ensures ∙ ap (λ (l : List ℕ). begin_from 0 l c.args.at) (sym same) in
    (slice-at c.args.text.now ends c.args.at c.begin_of-begin.result c.index.result.now (same ∙ c.requires.index) inside begun c.index.ensures).rises

pub slice_bounds-result-end : goal.slice_bounds-result-end
slice_bounds-result-end c =
    let ends = c.self.inside.ends.items in
    let same = c.self.view_is in
    let inside : c.args.at < length ends = subst (λ (l : List ℕ). c.args.at < length l) (sym same) c.requires.inside in
    let begun = c.begin_of-begin.ensures ∙ ap (λ (l : List ℕ). begin_from 0 l c.args.at) (sym same) in
    (slice-at c.args.text.now ends c.args.at c.begin_of-begin.result c.index.result.now (same ∙ c.requires.index) inside begun c.index.ensures).within

pub returns : goal.returns
returns c =
    let ends = c.self.inside.ends.items in
    let same = c.self.view_is in
    let inside : c.args.at < length ends = subst (λ (l : List ℕ). c.args.at < length l) (sym same) c.requires.inside in
    let begun = c.begin_of-begin.ensures ∙ ap (λ (l : List ℕ). begin_from 0 l c.args.at) (sym same) in
    (slice-at c.args.text.now ends c.args.at c.begin_of-begin.result c.index.result.now (same ∙ c.requires.index) inside begun c.index.ensures).is
