-- The questions of the small reducer after the last one that is listed.
use Rattle.std.proofs.Common.{◌≡◌, ◌≢◌, ℕ, zero, suc, None, refl}
use Rattle.script_gate_trait.specs.declared.gate.Verdict.TheVariants.{Yes, No}
use Rattle.reduce_step.specs.Plan.{after, asked}
use Rattle.cases_runs.specs.SmallPlan.{ended, plan_at}

pub asks_no_more : (n : ℕ) → n ≢ 0 → n ≢ 1 → n ≢ 2 → n ≢ 3 → n ≢ 4 → n ≢ 5 → n ≢ 6 → n ≢ 7 → asked (plan_at n) ≡ None
asks_no_more zero a b c d e f g h = absurd (a refl)
asks_no_more (suc zero) a b c d e f g h = absurd (b refl)
asks_no_more (suc (suc zero)) a b c d e f g h = absurd (c refl)
asks_no_more (suc (suc (suc zero))) a b c d e f g h = absurd (d refl)
asks_no_more (suc (suc (suc (suc zero)))) a b c d e f g h = absurd (e refl)
asks_no_more (suc (suc (suc (suc (suc zero))))) a b c d e f g h = absurd (f refl)
asks_no_more (suc (suc (suc (suc (suc (suc zero)))))) a b c d e f g h = absurd (g refl)
asks_no_more (suc (suc (suc (suc (suc (suc (suc zero))))))) a b c d e f g h = absurd (h refl)
asks_no_more (suc (suc (suc (suc (suc (suc (suc (suc n)))))))) a b c d e f g h = refl

pub ends_at_yes : (n : ℕ) → n ≢ 0 → n ≢ 3 → n ≢ 5 → ended ≡ after (plan_at n) Yes
ends_at_yes zero a b c = absurd (a refl)
ends_at_yes (suc zero) a b c = refl
ends_at_yes (suc (suc zero)) a b c = refl
ends_at_yes (suc (suc (suc zero))) a b c = absurd (b refl)
ends_at_yes (suc (suc (suc (suc zero)))) a b c = refl
ends_at_yes (suc (suc (suc (suc (suc zero))))) a b c = absurd (c refl)
ends_at_yes (suc (suc (suc (suc (suc (suc zero)))))) a b c = refl
ends_at_yes (suc (suc (suc (suc (suc (suc (suc zero))))))) a b c = refl
ends_at_yes (suc (suc (suc (suc (suc (suc (suc (suc n)))))))) a b c = refl

pub ends_at_no : (n : ℕ) → n ≢ 1 → n ≢ 2 → n ≢ 3 → n ≢ 4 → ended ≡ after (plan_at n) No
ends_at_no zero a b c d = refl
ends_at_no (suc zero) a b c d = absurd (a refl)
ends_at_no (suc (suc zero)) a b c d = absurd (b refl)
ends_at_no (suc (suc (suc zero))) a b c d = absurd (c refl)
ends_at_no (suc (suc (suc (suc zero)))) a b c d = absurd (d refl)
ends_at_no (suc (suc (suc (suc (suc zero))))) a b c d = refl
ends_at_no (suc (suc (suc (suc (suc (suc zero)))))) a b c d = refl
ends_at_no (suc (suc (suc (suc (suc (suc (suc zero))))))) a b c d = refl
ends_at_no (suc (suc (suc (suc (suc (suc (suc (suc n)))))))) a b c d = refl
