use Rattle.std.proofs.Common.{◌≡◌, ℕ, List, map, sym, subst, true}
use Rattle.keep_guard.specs.Keep.{holds_all}
use Rattle.keep_guard.proofs.Lent.{holds_all_or_misses}
use Rattle.command_ends.proofs.KeepLemmas.{keep_fails}
use Rattle.command_ends.proofs.keep.held_texts.Goals as goal

pub returns-in-None-clause-keeps : goal.returns-in-None-clause-keeps
returns-in-None-clause-keeps c = c.in_ok-keeps.ensures

pub returns-in-None-clause-kept : goal.returns-in-None-clause-kept
returns-in-None-clause-kept c =
    subst (λ (keeps : List (List ℕ)). holds_all keeps c.args.start.now ≡ true) c.in_ok-keeps.ensures
    ((holds_all_or_misses c.in_ok-keeps.keeps c.args.start.now).1 (sym c.in-None.ensures.missing))

pub returns-clause-refused : goal.returns-clause-refused
returns-clause-refused c =
    keep_fails (map (λ text. text.now) c.args.texts.now) c.args.start.now c.in-Some.index c.of_keep.result
    (rw (← c.in_ok-keeps.ensures) (sym c.in-Some.ensures.missing)) c.of_keep.ensures
