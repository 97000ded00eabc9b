use Rattle.std.proofs.Common.{rules, tests, string_bytes, refl}
use Rattle.std.specs.Str.{bytes_eq}
use Rattle.std.proofs.lemmas.Iterator.{YieldsList-from_slice}
use Rattle.std.proofs.lemmas.Iterator.Search.{find_from_yields_List}
use Rattle.edge_io.proofs.Contents.{find-map}
use Rattle.edge_io.proofs.mem_files.find.Goals as goal

pub returns-in_err-entry : goal.returns-in_err-entry
returns-in_err-entry c =
    let found =
    find_from_yields_List (λ entry. bytes_eq (string_bytes entry.0) c.args.name.now) _ _ c.find.result c.find.ensures.ran
    (YieldsList-from_slice c.args.entries.now cc) (λ x b q k. search (rules, tests)) in
    rw (find-map, ← found, c.in_err-entry.was, c.from_residual.ensures) refl

pub returns : goal.returns
returns c =
    let found = find_from_yields_List (λ entry. bytes_eq (string_bytes entry.0) c.args.name.now) _ _ c.find.result c.find.ensures.ran
    (YieldsList-from_slice c.args.entries.now cc) (λ x b q k. search (rules, tests)) in
    rw (find-map, ← found, c.in_ok-entry.was, c.as_slice.ensures.value) refl
