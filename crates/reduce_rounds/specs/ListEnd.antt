-- What a list step over some elements comes to, where each keep list of the elements stands for a state.
use Rattle.std.specs.Prelude.{ℕ, Bool, List, [], ◌∷◌, ◌++◌, ◌&&◌, ◌||◌, if◌then◌else◌}
use Rattle.std.specs.List.{list_any}
use Rattle.list_ddmin.specs.ListStep.{Outcome}
use Rattle.reduce_rounds.specs.StateTexts.{StateTexts}
use Rattle.reduce_rounds.specs.Reduction.{RoundEnd}

-- the verdict on a keep list: its state is listed, and the text of its state has a yes
abbrev pub keep_verdict : {T : Type 0} → StateTexts T → (List ℕ → Bool) → (List Bool → T) → List Bool → Bool
keep_verdict texts verdict state_of keep = texts.is_listed (state_of keep) && verdict (texts.text (state_of keep))

-- the texts of those keep lists whose states are listed
abbrev pub listed_texts : {T : Type 0} → StateTexts T → (List Bool → T) → List (List Bool) → List (List ℕ)
listed_texts texts state_of [] = []
listed_texts texts state_of (keep ∷ keeps) =
    if texts.is_listed (state_of keep) then texts.text (state_of keep) ∷ listed_texts texts state_of keeps else listed_texts texts state_of keeps

-- these texts were asked before, and there was a yes if `changed`
abbrev pub after_texts : {T : Type 0} → List (List ℕ) → Bool → RoundEnd T → RoundEnd T
after_texts asked changed later = record { questions = asked ++ later.questions; state = later.state; changed = changed || later.changed }

-- An outcome of a list step, and then what goes on from the elements that remain: the texts of what it asked, where their
-- states are listed, and all that is asked after it. There was a yes where one of its questions had one.
abbrev pub after_step : {T : Type 0} → StateTexts T → (List ℕ → Bool) → (List Bool → T) → (List Bool → RoundEnd T) → Outcome → RoundEnd T
after_step texts verdict state_of go outcome =
    after_texts (listed_texts texts state_of outcome.questions) (list_any (keep_verdict texts verdict state_of) outcome.questions) (go outcome.result)
