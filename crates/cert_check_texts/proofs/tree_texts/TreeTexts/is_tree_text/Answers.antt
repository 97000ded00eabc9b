use Rattle.std.proofs.Common.{sym, true≢false}
use Rattle.cert_check_texts.proofs.tree_texts.TreeTexts.is_tree_text.Goals as goal

pub is_read_text-requires-clause-tokens : goal.is_read_text-requires-clause-tokens
is_read_text-requires-clause-tokens c = rw c.in-Some.is at c.in_ok-found.ensures

pub returns-in-None : goal.returns-in-None
returns-in-None c =
    let none = rw c.in-None.is at c.in_ok-found.ensures in
    (λ is. absurd (true≢false (sym is)), λ both. absurd (none both.1.tokens both.1.has))
