-- Keep texts: bytes that have to occur in a candidate.
use Rattle.std.specs.Prelude.{◌≡◌, ◌↔◌, ℕ, ◌==◌, ◌&&◌, ◌||◌, Bool, true, false, List, [], ◌∷◌, ◌++◌, Option, Some, None, option_map, suc, IsTrue, if◌then◌else◌}

-- the text begins with these bytes
abbrev pub begins_with : List ℕ → List ℕ → Bool
begins_with [] text = true
begins_with (byte ∷ keep) [] = false
begins_with (byte ∷ keep) (first ∷ text) = byte == first && begins_with keep text

-- these bytes occur in the text, one after another
abbrev pub occurs : List ℕ → List ℕ → Bool
occurs keep [] = begins_with keep []
occurs keep (first ∷ text) = begins_with keep (first ∷ text) || occurs keep text

-- each of these keep texts occurs in the text
abbrev pub holds_all : List (List ℕ) → List ℕ → Bool
holds_all [] text = true
holds_all (keep ∷ keeps) text = occurs keep text && holds_all keeps text

-- what keep texts admit: a candidate in whose text each of them occurs, whatever numbers it keeps
abbrev pub keeps_admit : List (List ℕ) → List ℕ → List ℕ → Bool
keeps_admit keeps kept text = holds_all keeps text

-- the first of these keep texts that doesn't occur in the text, by its index from 0
abbrev pub first_missing : List (List ℕ) → List ℕ → Option ℕ
first_missing [] text = None
first_missing (keep ∷ keeps) text = if occurs keep text then option_map (λ k. suc k) (first_missing keeps text) else Some 0

-- The laws.

-- Bytes occur in a text exactly where it is some text, then the bytes, then some text.
abbrev pub OccursAsPart : Type 0
OccursAsPart = (keep text : List ℕ) → IsTrue (occurs keep text) ↔ ((before : List ℕ) × (after : List ℕ) × (text ≡ before ++ (keep ++ after)))

-- Each keep text occurs exactly where none is the first that is missing.
abbrev pub HoldsAllOrMisses : Type 0
HoldsAllOrMisses = (keeps : List (List ℕ)) (text : List ℕ) → (holds_all keeps text ≡ true) ↔ (first_missing keeps text ≡ None)
