use Rattle.std.proofs.Common.{List, [], ap, refl, slice_get, subst, sym, ℕ, ◌++◌, ◌∙◌, ◌∷◌, ◌≡◌}
use Rattle.chart_parser_ends.specs.inner.Exact.{IsTokenOf}
use Rattle.chart_parser_prefix.proofs.Tokens.{adds_list, adds_nothing, kinds_in_set, one_kind}
use Rattle.chart_parser_prefix.specs.inner.Following.{AddsKinds}
use Rattle.normal_form.specs.declared.normal.Sym.{Sym}
use Rattle.normal_form.specs.declared.normal.Sym.TheVariants.{Kind, Set}
use Rattle.std.specs.Option.{option_map_or}
use Rattle.chart_parser_prefix.proofs.following.add_kinds.Goals as goal

pub returns-in_ok-push-in-Kind : goal.returns-in_ok-push-in-Kind
returns-in_ok-push-in-Kind c =
    let N = c.args.normal.now in
    let old = c.args.kinds.now.items in
    let new = c.push.new.self.items in
    let kind = c.in-Kind.kind in
    subst (λ (t : Sym). AddsKinds (IsTokenOf N t) old new) (sym c.in-Kind.is)
    (subst (AddsKinds (IsTokenOf N (Kind kind)) old) (sym c.in_ok-push-in-Kind.ensures.items) (adds_list old (kind ∷ []) (one_kind N kind)))

pub returns-in_ok-extend_from_slice-in-Set : goal.returns-in_ok-extend_from_slice-in-Set
returns-in_ok-extend_from_slice-in-Set c =
    let N = c.args.normal.now in
    let old = c.args.kinds.now.items in
    let new = c.extend_from_slice.new.self.items in
    let set = c.in-Set.set in
    let more = c.in_ok-more-in-Set.more.items in
    let is = c.in_ok-more-in-Set.ensures ∙ ap (λ (sets : List (List ℕ)). option_map_or (λ l. l) (slice_get sets set) []) c.sets.ensures in
    let items : new ≡ old ++ c.deref.result.now = rw c.in_ok-extend_from_slice-in-Set.was at c.extend_from_slice.ensures.items in
    let joined = items ∙ ap (λ (l : List ℕ). old ++ l) c.deref.ensures.value in
    subst (λ (t : Sym). AddsKinds (IsTokenOf N t) old new) (sym c.in-Set.is)
    (subst (AddsKinds (IsTokenOf N (Set set)) old) (sym joined) (adds_list old more (kinds_in_set N set (slice_get N.sets set) more refl is)))

pub returns-in-Rule : goal.returns-in-Rule
returns-in-Rule c =
    let N = c.args.normal.now in
    let old = c.args.kinds.now.items in
    subst (λ (t : Sym). AddsKinds (IsTokenOf N t) old old) (sym c.in-Rule.is) (adds_nothing old (λ k h. h))
