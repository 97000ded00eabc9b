use Rattle.std.proofs.Common.{◌≡◌, ◌<◌, ◌+◌, ◌-◌, ◌*◌, ◌/◌, ℕ, List, leb-true, slice_get, slice_index, slice_index_or, ap, ◌∙◌, arith}
use Rattle.std.proofs.lemmas.Option.{slice_get-get_or}
use Rattle.token_print.proofs.joins.is_near.Goals as goal

pub returns : goal.returns
returns c t k d low high inside =
    let items = c.args.pieces.now.items.items in
    let lent = c.as_slice-farthest.result.now in
    let block = c.args.index / 64 in
    let from : block * 64 ≡ c.args.index = omega arith in
    let there : block * 64 + (k - c.args.index) ≡ k = omega (arith, from, low) in
    let few : k - c.args.index < 64 = omega (arith, low, high) in
    let far = c.requires block (k - c.args.index) (slice_index_or items k d) few (ap (slice_get items) there ∙ slice_get-get_or items k d inside) in
    omega (arith, far, leb-true (slice_index lent block) c.args.limit t, ap (λ (l : List ℕ). slice_index l block) c.as_slice-farthest.ensures.value)
