-- Permits to ask about claimed texts, and what comes of them.
use Rattle.std.specs.Prelude.{◌≡◌, ℕ, List, Result, Ok, Err}
use Rattle.script_gate_trait.specs.declared.gate.Verdict.{Verdict}
use Rattle.script_gate_trait.specs.declared.gate.GateFault.{GateFault}
use Rattle.script_gate_trait.specs.declared.gate.GateFault.TheVariants.{Failed}
use Rattle.boxcar.specs.Table.{Where}

-- the number of a claim, its text, and where this is among the texts that all workers read
pub record ClaimedText : Type 0 where
  pub claim : ℕ
  pub text : List ℕ
  pub token : Where (List ℕ)

-- the same, and a verdict on this text
pub record AnsweredText : Type 0 where
  pub claim : ℕ
  pub text : List ℕ
  pub token : Where (List ℕ)
  pub verdict : Verdict

-- a permit, and why its gate gave no verdict
pub record RefusedAsk : Type 0 where
  pub permit : ClaimedText
  pub fault : GateFault

-- the answer is to the claim of this permit, and on its text, at the same place
abbrev pub IsAnswerTo : ClaimedText → AnsweredText → Type 0
IsAnswerTo permit answer = (answer.claim ≡ permit.claim) × (answer.text ≡ permit.text) × (answer.token ≡ permit.token)

-- there is no answer because the gate failed
abbrev pub GateFailed : {A : Type 0} → Result A RefusedAsk → Type 0
GateFailed (Ok answer) = ⊥
GateFailed (Err unasked) = unasked.fault ≡ Failed
