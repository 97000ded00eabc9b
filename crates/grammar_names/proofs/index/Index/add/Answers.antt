-- The key has the text's bytes, so that `insert` gave the text the number.
use Rattle.std.proofs.Common.{◌≡◌, ℕ, List, string_bytes, sym, ◌∙◌, subst}
use Rattle.std.proofs.lemmas.Map.Text.{btree_map_updates_text}
use Rattle.std.proofs.lemmas.Result.{IfOk-at_ok}
use Rattle.grammar_tree.specs.Kinds.{same_text}
use Rattle.grammar_names.specs.Index.{or_added}
use Rattle.grammar_names.proofs.Adding.{added, MapFinds}
use Rattle.grammar_names.proofs.index.Index.add.Goals as goal

pub returns : goal.returns
returns c f finds =
    let is_text = IfOk-at_ok (λ s. string_bytes s ≡ c.as_str-name.result.now) c.in_ok-key.was c.from_str.ensures.ok in
    let sets = btree_map_updates_text (string_bytes c.in_ok-key.key) c.args.self.now.numbers c.insert.new.self _ c.in_ok-insert.ensures.updates in
    let at_text = rw is_text at sets in
    let P : List ℕ → Type 0 = λ text. MapFinds c.insert.new.self (λ t. or_added (f t) (same_text text t) c.args.number) in
    subst P c.as_str-name.ensures (added c.args.self.now.numbers c.insert.new.self c.as_str-name.result.now c.args.number c.as_str-name.utf8 at_text
    (sym c.contains_key.ensures ∙ c.if-contains_key.false) f finds)
