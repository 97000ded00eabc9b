use Rattle.std.proofs.Common.{◌≡◌, ◌++◌, [], ◌∷◌, false, List, ℕ, is_some, sym, ap, ◌∙◌, subst}
use Rattle.std.specs.Prelude.{position}
use Rattle.grammar_tree.specs.Kinds.{same_text}
use Rattle.grammar_names.specs.KindLists.{IsPartOf, lacking}
use Rattle.normal_form_sets.specs.inner.Sets.{HasNumbers}
use Rattle.normal_form_sets.proofs.Lacking.{numbers_more}
use Rattle.normal_form_sets.proofs.found_sets.add_number.Goals as goal

pub returns : goal.returns
returns c =
    let s = c.args.sets.now in
    let key = c.in_ok-key.key.items in
    let same : key ≡ c.args.missing.now = c.in_ok-key.ensures.items in
    let is_new : is_some (position (λ other. same_text other (lacking s.all key)) s.sets) ≡ false =
    ap (λ l. is_some (position (λ other. same_text other (lacking s.all l)) s.sets)) same ∙ c.requires.is_new in
    let Q : List ℕ → Type 0 = λ l. HasNumbers c.insert.new.self (record { all = s.all; sets = s.sets ++ lacking s.all l ∷ [] }) in
    subst Q same (numbers_more c.args.numbers.now c.insert.new.self s key c.len.result c.len.ensures c.in_ok-insert.ensures.updates is_new
    (subst (IsPartOf s.all) (sym same) c.requires.part) c.requires.numbers)
