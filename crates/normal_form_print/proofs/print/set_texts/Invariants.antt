use Rattle.std.proofs.Common.{◌≡◌, map, take, string_bytes}
use Rattle.std.specs.Prelude.{encode_utf8_all}
use Rattle.grammar_tree.specs.GrammarView.{kind_of}
use Rattle.normal_form_print.specs.Print.{but_text, numbered_kind_text}
use Rattle.normal_form_sets.specs.Sets.{items_of}
use Rattle.normal_form_print.proofs.print.set_texts.Given as goal

abbrev pub invariant-loop-list : goal.invariant-loop-list
invariant-loop-list l =
    map string_bytes l.texts.items ≡ map (λ missing. encode_utf8_all (but_text (numbered_kind_text (map kind_of l.kinds)) missing))
    (map items_of (take l.list-index l.list-items))
