-- A gate that runs a script: where a candidate is written, and what is started.
use Rattle.std.specs.Prelude.{ℕ, List, ◌++◌, ◌==◌, if◌then◌else◌, codes}
use Rattle.std.specs.Fmt.{decimal}
use Rattle.std.specs.List.{list_any}

-- the script and the candidate's file of the last opening, and how many calls failed
pub record Opened : Type 0 where
  pub script : List ℕ
  pub file : List ℕ
  pub faults : ℕ

-- the path of a name in a folder
abbrev pub path_in : List ℕ → List ℕ → List ℕ
path_in folder name = folder ++ codes "/" ++ name

-- the folder of the worker with this number
abbrev pub folder_of : List ℕ → ℕ → List ℕ
folder_of work number = path_in work (decimal number)

-- the file that its candidates are written to
abbrev pub file_of : List ℕ → ℕ → List ℕ → List ℕ
file_of work number name = path_in (folder_of work number) name

-- the script by a path: a name without a slash is that of a file in the current folder
abbrev pub script_of : List ℕ → List ℕ
script_of name = if list_any (λ byte. byte == 47) name then name else codes "./" ++ name
