use Rattle.std.proofs.Common.{◌≡◌, ◌∙◌, ℕ, true, false, List, codes, subst, bytes_eq, sym}
use Rattle.command_words.specs.Options.{Values, takes_value}
use Rattle.command_words.specs.Tables.{tree_modes}
use Rattle.command_words.specs.Commands.{tree_mode_named}
use Rattle.command_words.proofs.Firsts.{first_or, lines_mode, mode_named, mode_once, no_mode, tree_mode}
use Rattle.command_words.proofs.mode.mode_of.Goals as goal

pub returns-then-eq : goal.returns-then-eq
returns-then-eq c = λ table uses chooses has.
    let text =
    first_or table uses c.args.matches.now (codes "mode") has
    (mode_named table chooses) _ _ _ c.get_str.ensures c.unwrap_or-mode.ensures in
    c.lines_of.ensures table uses chooses has
    ∙ lines_mode uses (mode_once table uses c.args.matches.now chooses has)
    (subst (λ (t : List ℕ). bytes_eq t (codes "lines") ≡ true) text (sym c.if-eq.ensures))

pub returns-in_err-mode : goal.returns-in_err-mode
returns-in_err-mode c = λ table uses chooses has.
    let text = first_or table uses c.args.matches.now (codes "mode") has
    (mode_named table chooses) _ _ _ c.get_str.ensures c.unwrap_or-mode.ensures in
    rw c.from_residual.ensures
    (no_mode uses (mode_once table uses c.args.matches.now chooses has)
    (subst (λ (t : List ℕ). bytes_eq t (codes "lines") ≡ false) text (sym c.if-eq.ensures))
    (subst (λ (t : List ℕ). takes_value (Values.one_of tree_modes) t ≡ false) text c.in_err-mode.ensures))

pub returns-in_ok-mode : goal.returns-in_ok-mode
returns-in_ok-mode c = λ table uses chooses has.
    let text = first_or table uses c.args.matches.now
    (codes "mode") has (mode_named table chooses) _ _ _ c.get_str.ensures c.unwrap_or-mode.ensures in
    let mode = c.in_ok-mode.mode in
    c.trees_of.ensures table uses chooses has
    ∙ tree_mode uses mode (mode_once table uses c.args.matches.now chooses has)
    (subst (λ (t : List ℕ). bytes_eq t (codes "lines") ≡ false) text (sym c.if-eq.ensures))
    (subst (λ (t : List ℕ). takes_value (Values.one_of tree_modes) t ≡ true) text c.in_ok-mode.ensures.0)
    (subst (λ (t : List ℕ). mode ≡ tree_mode_named t) text c.in_ok-mode.ensures.1)
