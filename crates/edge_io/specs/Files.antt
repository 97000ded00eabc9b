-- Files by name: what each of them holds, where that is visible.
use Rattle.std.specs.Prelude.{◌≡◌, ◌≢◌, ◌<◌, ℕ, List, length, Option, Some, IfSome}

-- a file whose content is visible: it is missing, or it holds these bytes
abbrev pub FileContent : Type 0
FileContent = Option (List ℕ)

-- where the content is visible, the file is there and holds exactly these bytes
abbrev pub Holds : List ℕ → Option FileContent → Type 0
Holds bytes content = IfSome content (λ file. file ≡ Some bytes)

-- where the content is visible, the file is there and has more bytes than the limit
abbrev pub IsLonger : ℕ → Option FileContent → Type 0
IsLonger limit content = IfSome content (λ file. (bytes : List ℕ) × (file ≡ Some bytes) × (limit < length bytes))

-- every file is as before, and as visible as before
abbrev pub SameFiles : (List ℕ → Option FileContent) → (List ℕ → Option FileContent) → Type 0
SameFiles old new = (name : List ℕ) → new name ≡ old name

-- every file of another name is as before, and as visible as before
abbrev pub SameOthers : (List ℕ → Option FileContent) → (List ℕ → Option FileContent) → List ℕ → Type 0
SameOthers old new written = (name : List ℕ) → name ≢ written → new name ≡ old name
