-- The machine over a list of words.
use Rattle.std.specs.Prelude.{ℕ, List, [], ◌∷◌, Option, Some, None}
use Rattle.grammar_reader_words.specs.declared.word.Word.{Word}
use Rattle.grammar_reader_machine.specs.Machine.{State, step}

abbrev pub and_then : Option State → (State → Option State) → Option State
and_then None go = None
and_then (Some s) go = go s

-- the state after all words, or none where one of them can't follow; the number is how deep blocks may be nested
abbrev pub run : ℕ → State → List Word → Option State
run depth s [] = Some s
run depth s (w ∷ ws) = and_then (step depth s w) (λ t. run depth t ws)
