use Rattle.std.proofs.Common.{◌≡◌, false, true, [], slice_get, sym, ap, ◌∙◌, subst}
use Rattle.std.specs.Option.{option_map_or}
use Rattle.grammar_names.specs.KindLists.{is_in}
use Rattle.normal_form.specs.declared.normal.Sym.{Sym}
use Rattle.chart_parser_ends.specs.inner.Exact.{IsTokenOf}
use Rattle.chart_parser_ends.proofs.SymbolEnds.{set_token}
use Rattle.chart_parser_ends.proofs.firsts.is_token.Goals as goal

pub returns-in-Set : goal.returns-in-Set
returns-in-Set c =
    let P : Sym → Type 0 =
    λ s. (c.contains.result ≡ true → IsTokenOf c.args.normal.now s c.args.kind) × (IsTokenOf c.args.normal.now s c.args.kind → c.contains.result ≡ true) in
    subst P (sym c.in-Set.is) (set_token c.args.normal.now [] c.in-Set.set c.args.kind c.contains.result
    (c.contains.ensures ∙ ap (λ sets. option_map_or (λ ks. is_in ks c.args.kind) (slice_get sets c.in-Set.set) false) c.sets.ensures))
