use Rattle.std.proofs.Common.{◌≡◌, ◌∙◌, ◌*◌, ◌<◌, ◌≤◌, min, arith, rules, ap, sym, subst, Some, None, map}
use Rattle.std.specs.Prelude.{IfOk}
use Rattle.list_ddmin.specs.ListStep.{Outcome, kept_count, part, complement, ends_with, ddmin, enough_calls}
use Rattle.list_ddmin.specs.inner.Plain.{asks_before, IsTried, IsOneOf}
use Rattle.list_ddmin.proofs.Enough.{ddmin-few}
use Rattle.list_ddmin.proofs.Rows.{at_part, at_complement, at_finer, at_end, found_part, found_complement, fewer_elements, more_parts}
use Rattle.list_ddmin.proofs.plain.+ddmin.Goals as goal

pub returns-then-size-lt2 : goal.returns-then-size-lt2
returns-then-size-lt2 g t c =
    let size : c.len-size.result ≡ kept_count c.args.keep.items =
    c.len-size.ensures ∙ c.in_ok-positions_of.ensures.count ∙ ap kept_count c.deref.ensures.value in
    ap (λ o. asks_before (map (λ v. v.items) c.args.questions.now.items) o)
    (ddmin-few (g.T.Test.verdict c.args.test.now) c.args.keep.items c.args.n (omega arith))

pub ddmin-requires : goal.ddmin-requires
ddmin-requires g t c κs within =
    let size : c.len-size.result ≡ kept_count c.args.keep.items = c.len-size.ensures ∙ c.in_ok-positions_of.ensures.count
    ∙ ap kept_count c.deref.ensures.value in
    let fits : c.args.n ≤ kept_count c.args.keep.items = c.requires.fits (omega arith) in
    let one : IsOneOf (part c.args.keep.items c.args.n) c.args.n c.in-Some.part.items =
    rw (c.deref-2.ensures.value, c.in-Some.is) at c.in_ok-part.ensures.one in
    let found = found_part c.args.keep.items c.in-Some.part.items c.args.n one c.requires.two fits in
    let falls : enough_calls (kept_count c.in-Some.part.items) 2 < enough_calls (kept_count c.args.keep.items) c.args.n =
    fewer_elements (kept_count c.in-Some.part.items) (kept_count c.args.keep.items) 2 c.args.n found.0 in
    search rules

pub returns-in-Some : goal.returns-in-Some
returns-in-Some g t c =
    let size : c.len-size.result ≡ kept_count c.args.keep.items = c.len-size.ensures
    ∙ c.in_ok-positions_of.ensures.count ∙ ap kept_count c.deref.ensures.value in
    let verdict = g.T.Test.verdict c.args.test.now in
    let old = map (λ v. v.items) c.args.questions.now.items in
    let mid = map (λ v. v.items) c.first_yes.new.questions.items in
    let row : IsTried verdict (part c.args.keep.items c.args.n) c.args.n old mid (Some c.in-Some.part.items) =
    rw (c.deref-2.ensures.value, c.in-Some.is) at c.in_ok-part.ensures.row in
    let is = at_part verdict c.args.keep.items c.args.n old mid mid c.requires.two (c.requires.fits (omega arith)) c.in-Some.part.items row in
    subst (λ (o : Outcome). IfOk c.ddmin.result (λ found. o ≡ asks_before (map (λ v. v.items) c.ddmin.new.questions.items) (ends_with found.items)))
    (sym is) c.ddmin.ensures

pub ddmin-requires-in-Some-2 : goal.ddmin-requires-in-Some-2
ddmin-requires-in-Some-2 g t c κs within =
    let size : c.len-size.result ≡ kept_count c.args.keep.items = c.len-size.ensures ∙ c.in_ok-positions_of.ensures.count ∙ ap kept_count
    c.deref.ensures.value in
    let fits : c.args.n ≤ kept_count c.args.keep.items = c.requires.fits (omega arith) in
    let one : IsOneOf (complement c.args.keep.items c.args.n) c.args.n c.in-Some-2.complement.items =
    rw (c.deref-3.ensures.value, c.in-Some-2.is) at c.in_ok-complement.ensures.one in
    let found = found_complement c.args.keep.items c.in-Some-2.complement.items c.args.n one c.requires.two fits in
    let falls : enough_calls (kept_count c.in-Some-2.complement.items) c.max.result < enough_calls (kept_count c.args.keep.items) c.args.n =
    fewer_elements (kept_count c.in-Some-2.complement.items) (kept_count c.args.keep.items) c.max.result c.args.n found.0 in
    search rules

pub returns-in-Some-2 : goal.returns-in-Some-2
returns-in-Some-2 g t c =
    let size : c.len-size.result ≡ kept_count c.args.keep.items = c.len-size.ensures ∙ c.in_ok-positions_of.ensures.count ∙ ap
    kept_count c.deref.ensures.value in
    let verdict = g.T.Test.verdict c.args.test.now in
    let old = map (λ v. v.items) c.args.questions.now.items in
    let mid = map (λ v. v.items) c.first_yes.new.questions.items in
    let new = map (λ v. v.items) c.first_yes-2.new.questions.items in
    let first : IsTried verdict (part c.args.keep.items c.args.n) c.args.n old mid None =
    rw (c.deref-2.ensures.value, c.in_default.is) at c.in_ok-part.ensures.row in
    let row : IsTried verdict (complement c.args.keep.items c.args.n) c.args.n mid new (Some c.in-Some-2.complement.items) =
    rw (c.deref-3.ensures.value, c.in-Some-2.is) at c.in_ok-complement.ensures.row in
    let is =
    at_complement verdict c.args.keep.items c.args.n old mid new c.requires.two (c.requires.fits (omega arith)) c.in-Some-2.complement.items first row in
    let parts = ap (λ m. asks_before new (ddmin verdict c.in-Some-2.complement.items m)) (sym c.max.ensures) in
    subst (λ (o : Outcome). IfOk c.ddmin-in-Some-2.result
    (λ found. o ≡ asks_before (map (λ v. v.items) c.ddmin-in-Some-2.new.questions.items) (ends_with found.items))) (sym (is ∙ parts)) c.ddmin-in-Some-2.ensures

pub ddmin-requires-then-n-size : goal.ddmin-requires-then-n-size
ddmin-requires-then-n-size g t c κs within =
    let size : c.len-size.result ≡ kept_count
    c.args.keep.items = c.len-size.ensures ∙ c.in_ok-positions_of.ensures.count ∙ ap kept_count c.deref.ensures.value in
    let falls : enough_calls (kept_count c.args.keep.items) c.min-finer.result < enough_calls (kept_count c.args.keep.items) c.args.n =
    more_parts (kept_count c.args.keep.items) c.args.n c.min-finer.result (omega arith) (omega arith) in
    search rules

pub returns-then-n-size : goal.returns-then-n-size
returns-then-n-size g t c =
    let size : c.len-size.result
    ≡ kept_count c.args.keep.items = c.len-size.ensures ∙ c.in_ok-positions_of.ensures.count ∙ ap kept_count c.deref.ensures.value in
    let verdict = g.T.Test.verdict c.args.test.now in
    let old = map (λ v. v.items) c.args.questions.now.items in
    let mid = map (λ v. v.items) c.first_yes.new.questions.items in
    let new = map (λ v. v.items) c.first_yes-2.new.questions.items in
    let first : IsTried verdict (part c.args.keep.items c.args.n) c.args.n old mid None = rw
    (c.deref-2.ensures.value, c.in_default.is) at c.in_ok-part.ensures.row in
    let row : IsTried verdict (complement c.args.keep.items c.args.n) c.args.n mid new None =
    rw (c.deref-3.ensures.value, c.in_default-2.is) at c.in_ok-complement.ensures.row in
    let is = at_finer verdict c.args.keep.items c.args.n old mid new c.requires.two (c.requires.fits (omega arith)) first row (omega arith) in
    let finer : min (kept_count c.args.keep.items) (2 * c.args.n) ≡ c.min-finer.result = omega arith in
    let parts = ap (λ m. asks_before new (ddmin verdict c.args.keep.items m)) finer in
    subst (λ (o : Outcome). IfOk c.ddmin-then-n-size.result
    (λ found. o ≡ asks_before (map (λ v. v.items) c.ddmin-then-n-size.new.questions.items) (ends_with found.items)))
    (sym (is ∙ parts)) c.ddmin-then-n-size.ensures

pub returns : goal.returns
returns g t c =
    let size : c.len-size.result ≡ kept_count c.args.keep.items =
    c.len-size.ensures ∙ c.in_ok-positions_of.ensures.count ∙ ap kept_count c.deref.ensures.value in
    let verdict = g.T.Test.verdict c.args.test.now in
    let old = map (λ v. v.items) c.args.questions.now.items in
    let mid = map (λ v. v.items) c.first_yes.new.questions.items in
    let new = map (λ v. v.items) c.first_yes-2.new.questions.items in
    let first : IsTried verdict (part c.args.keep.items c.args.n) c.args.n old mid None = rw (c.deref-2.ensures.value, c.in_default.is) at
    c.in_ok-part.ensures.row in
    let row : IsTried verdict (complement c.args.keep.items c.args.n) c.args.n mid new None = rw
    (c.deref-3.ensures.value, c.in_default-2.is) at c.in_ok-complement.ensures.row in
    at_end verdict c.args.keep.items c.args.n old mid new c.requires.two (c.requires.fits (omega arith)) first row (omega arith)
