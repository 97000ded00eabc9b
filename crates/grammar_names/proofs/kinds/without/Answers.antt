use Rattle.std.proofs.Common.{◌≡◌, ◌++◌, Bool, true, false, [], ◌∷◌, cond, get_or, not, sym, ap, ◌∙◌, subst, take}
use Rattle.std.specs.Prelude.{nat_eq}
use Rattle.std.specs.List.Sorted.{IsNonDecreasing}
use Rattle.std.proofs.lemmas.List.{append-nil, get_or_default}
use Rattle.std.proofs.lemmas.List.Sorted.{IsNonDecreasingBy-from_sort, list_any-IsPermutation}
use Rattle.grammar_names.specs.KindLists.{is_in, lacking}
use Rattle.grammar_names.proofs.KindLists.{lacking_more}
use Rattle.grammar_names.proofs.kinds.without.Goals.{then-not-is_among+in_ok-push, else-not-is_among}
use Rattle.grammar_names.proofs.kinds.without.Goals as goal

pub is_among-requires : goal.is_among-requires
is_among-requires c =
    subst IsNonDecreasing (sym c.deref.ensures.value) (IsNonDecreasingBy-from_sort (λ x. x) c.sort_unstable.new.self.items c.sort_unstable.ensures.sorted)

pub loop-kind-preserved : goal.loop-kind-preserved
loop-kind-preserved c =
    let kinds = c.args.kinds.now in
    let left_out = c.args.left_out.now in
    let i = c.loop-kind.kind-index in
    let k = get_or kinds i 0 in
    let same = c.is_among.ensures ∙ ap (λ l. is_in l k) c.deref.ensures.value
    ∙ sym (list_any-IsPermutation (λ other. nat_eq other k) c.in_ok-ordered.ordered.items c.sort_unstable.new.self.items c.sort_unstable.ensures.permutation)
    ∙ ap (λ l. is_in l k) c.in_ok-ordered.ensures.items in
    let more = lacking_more left_out kinds i k c.loop-kind-test.true (get_or_default kinds i 0 k c.loop-kind-test.true) in
    let step = λ (b : Bool) (e : c.is_among.result ≡ b). more ∙ ap (λ z. lacking (take i kinds) left_out ++ cond (not z) (k ∷ []) []) (sym same ∙ e) in
    elim c.if-not-is_among.branch [
      | then-not-is_among+in_ok-push w ↦
          ap (λ v. v.items) w.others-is ∙ w.in_ok-push.ensures.items ∙ ap (λ l. l ++ k ∷ []) c.loop-kind.invariant ∙ sym (step false w.if-not-is_among.true)
      | else-not-is_among w ↦
          ap (λ v. v.items) w.others-is ∙ c.loop-kind.invariant ∙ sym (append-nil (lacking (take i kinds) left_out)) ∙ sym (step true w.if-not-is_among.false)
    ]
