-- Files in memory.
use Rattle.std.specs.Prelude.{◌≡◌, ℕ, List, ◌∷◌, Some, None, map, find, option_map, Vec, String, string_bytes}
use Rattle.std.specs.Str.{bytes_eq}
use Rattle.edge_io.specs.Calls.{CallsState, no_calls}
use Rattle.edge_io.specs.Files.{FileContent, IsLonger}

-- a name, and the bytes that are held under it
pub record Entry : Type 0 where
  pub name : List ℕ
  pub bytes : List ℕ

-- the entries, the first of a name counting, and the calls of read and write
pub record FilesState : Type 0 where
  pub entries : List Entry
  pub calls : CallsState

-- the file of a name: the bytes of the first entry that has the name
abbrev pub content_of : List Entry → List ℕ → FileContent
content_of entries name = option_map (λ entry. entry.bytes) (find (λ entry. bytes_eq entry.name name) entries)

-- no entry has the name
abbrev pub IsMissing : List ℕ → FilesState → Type 0
IsMissing name files = content_of files.entries name ≡ None

-- the file of the name is there and has more bytes than the limit
abbrev pub IsTooLong : ℕ → List ℕ → FilesState → Type 0
IsTooLong limit name files = IsLonger limit (Some (content_of files.entries name))

-- files with these entries, before the first call
abbrev pub new_files : List Entry → List ℕ → FilesState
new_files entries to_fail = record { entries = entries; calls = no_calls to_fail }

-- the entries after a file was written: it comes first, so it counts
abbrev pub after_write : List ℕ → List ℕ → List Entry → List Entry
after_write name bytes entries = (record { name = name; bytes = bytes }) ∷ entries

-- the entries of pairs of a name and its bytes, as the program holds them
abbrev pub entries_of : {A : Type 0} → List (String A × Vec ℕ A) → List Entry
entries_of held = map (λ entry. record { name = string_bytes entry.0; bytes = entry.1.items }) held
