-- Sets of states from which nothing is read within the rest of a text.
use Rattle.std.specs.Prelude.{◌≡◌, ℕ, List, ◌++◌, length}
use Rattle.std.specs.List.{Contains}
use Rattle.std.specs.Str.{chars}
use Rattle.lexer_match.specs.declared.nfa.State.{State}
use Rattle.lexer_match.specs.declared.dead.DeadSet.{DeadSet}
use Rattle.lexer_match.specs.declared.dead.DeadSets.{DeadSets}
use Rattle.lexer_match.specs.Seen.{IsSeenTo}
use Rattle.lexer_match.specs.StateSets.{ReadsFrom}

-- the set is kept as dead
abbrev pub HasDead : DeadSets → DeadSet → Type 0
HasDead dead set = Contains dead.sets.items set

-- none is
abbrev pub HasNoDead : DeadSets → Type 0
HasNoDead dead = (set : DeadSet) → ¬ HasDead dead set

-- From the states no beginning of the text is read, and up to there the text decides it.
pub record AreDeadStates (P : List State) (text : List ℕ) (dead : DeadSet) : Type 0 where
  pub stuck : (u v : List ℕ) → text ≡ u ++ v → ¬ ReadsFrom P dead.set.states.items u
  pub seen : IsSeenTo (ReadsFrom P dead.set.states.items) text dead.seen

-- So it is where so many bytes of the text remain.
abbrev pub IsDead : List State → List ℕ → DeadSet → Type 0
IsDead P text dead = (front back : List ℕ) → text ≡ front ++ back → length back ≡ dead.set.remaining → AreDeadStates P (chars back) dead

-- what is kept as dead is dead
abbrev pub AreDead : List State → List ℕ → DeadSets → Type 0
AreDead P text dead = (set : DeadSet) → HasDead dead set → IsDead P text set

-- the text is the end of the whole one
abbrev pub EndsWith : List ℕ → List ℕ → Type 0
EndsWith whole text = (front : List ℕ) × (whole ≡ front ++ text)

-- What is kept as dead is so in every whole text of which this one is the end, if it was before.
abbrev pub StayDead : List State → List ℕ → DeadSets → DeadSets → Type 0
StayDead P text old new = (whole : List ℕ) → EndsWith whole text → AreDead P whole old → AreDead P whole new
