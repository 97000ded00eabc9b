use Rattle.std.proofs.Common.{◌≡◌, ◌++◌, ◌∷◌, [], List, ℕ, Option, Some, arith, ap, ◌∙◌}
use Rattle.std.specs.BTreeMap.{get_by}
use Rattle.std.specs.BTreeMap.Entry.{entry_value, map_with_value}
use Rattle.std.specs.Cmp.Lexicographic.{slice_cmp}
use Rattle.std.specs.Option.{option_map_or}
use Rattle.std.specs.Ordering.{nat_cmp}
use Rattle.std.proofs.lemmas.Map.Text.{btree_map_updates_str}
use Rattle.cert_check_texts.specs.inner.Numbers.{listed_with}
use Rattle.cert_check_texts.specs.declared.numbers.Numbers.{Numbers}
use Rattle.cert_check_texts.proofs.Adding.{Listed, added, found_or_made}
use Rattle.cert_check_texts.proofs.numbers.Numbers.add.Goals as goal

pub returns : goal.returns
returns c = λ other.
    let entry = c.in_ok-self.field-0 in
    let list = c.push.new.self in
    let new : Numbers = record { lists = map_with_value entry list } in
    let before : entry_value entry ≡ get_by (λ k. slice_cmp nat_cmp c.args.bytes.now k.now) c.args.self.now.lists = c.in_ok-self.ensures.value in
    let found : c.or_default.result.now.items ≡ listed_with c.args.self.now c.args.bytes.now =
    found_or_made (entry_value entry) c.or_default.result.now _ (λ made is. is.0) c.or_default.ensures.value
    ∙ ap (λ (o : Option Listed). option_map_or (λ (v : Listed). v.items) o []) before in
    let is =
    added c.args.self.now new c.args.bytes.now c.args.number list
    (btree_map_updates_str c.args.bytes.now c.args.self.now.lists new.lists (Some list) (c.in_ok-self.ensures.update.0 list))
    (c.in_ok-push.ensures.items ∙ ap (λ (l : List ℕ). l ++ c.args.number ∷ []) found) other in
    grind (arith, is)
