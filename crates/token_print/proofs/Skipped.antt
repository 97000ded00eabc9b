-- What a grammar skips is determined, and so is what is printed.
use Rattle.std.proofs.Common.{◌≡◌, ◌↔◌, Bool, true, false, ℕ, refl, sym, ap, ap₂, ◌∙◌}
use Rattle.grammar_tree.specs.Written.{WrittenGrammar}
use Rattle.grammar_tree.specs.Faults.{IsWellFormed}
use Rattle.token_print.proofs.ByReading.{gaps_are}
use Rattle.token_print.specs.declared.style.Skips.{Skips}
use Rattle.token_print.specs.Laws.{PrintedOneWay, PrintedWithSkips, skips_in}
use Rattle.token_print.specs.Printed.{AreSkipped, printed}

-- two answers to one question are the same
same_answer : {A : Type 0} (b c : Bool) → (b ≡ true) ↔ A → (c ≡ true) ↔ A → b ≡ c
same_answer true true p q = refl
same_answer true false p q = sym (q.1 (p.0 refl))
same_answer false true p q = p.1 (q.0 refl)
same_answer false false p q = refl

pub same_skips : (G : WrittenGrammar) (skips others : Skips) → AreSkipped G skips → AreSkipped G others → skips ≡ others
same_skips G skips others a b =
    ap₂ (λ n s. record { newline = n; space = s }) (same_answer skips.newline others.newline a.newline b.newline)
    (same_answer skips.space others.space a.space b.space)

pub one_way : PrintedOneWay
one_way G start tokens kept style text other a b =
    a.same ∙ ap (λ s. printed s start tokens kept style) (same_skips G a.skips b.skips a.agree b.agree) ∙ sym b.same

skipped : (G : WrittenGrammar) (rule : ℕ) → IsWellFormed G rule → AreSkipped G (skips_in G)
skipped G rule formed = record { newline = gaps_are G rule formed 10; space = gaps_are G rule formed 32 }

pub with_skips : PrintedWithSkips
with_skips G rule formed start tokens kept style text = (
  λ a. a.same ∙ ap (λ s. printed s start tokens kept style) (same_skips G a.skips (skips_in G) a.agree (skipped G rule formed)),
  λ e. record { skips = skips_in G; agree = skipped G rule formed; same = e },
)
