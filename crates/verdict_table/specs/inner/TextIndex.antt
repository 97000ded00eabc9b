-- Texts by their numbers, which a hash computes of their bytes.
use Rattle.std.specs.Prelude.{◌≡◌, ℕ, ◌+◌, ◌≤◌, ◌<◌, List, [], Option, Some, None, IfSome, length, nat_eq, slice_index_or}
use Rattle.std.specs.HashMap.{HashMap, get}
use Rattle.std.specs.Hash.FoldHasher.{finish, initial, write}

-- the number of a text
unfoldable pub text_number : List ℕ → ℕ
text_number text = finish (write initial text)

abbrev pub text_at : List (List ℕ) → ℕ → List ℕ
text_at texts index = slice_index_or texts index []

-- how many texts there are up to this index, with the one at it
abbrev pub count_to : Option ℕ → ℕ
count_to None = 0
count_to (Some index) = index + 1

-- of the first so many texts, this is the last one's index that has the number
pub record IsNewest (number : ℕ) (texts : List (List ℕ)) (count : ℕ) (newest : Option ℕ) : Type 0 where
  pub within : count_to newest ≤ count
  pub same : IfSome newest (λ index. text_number (text_at texts index) ≡ number)
  pub others : (index : ℕ) → count_to newest ≤ index → index < count → text_number (text_at texts index) ≡ number → ⊥

-- for each number the newest text, and for each text the newest one before it that has the same number
pub record IsIndexOf {S : Type 0} (texts : List (List ℕ)) (latest : HashMap ℕ ℕ S) (earlier : List (Option ℕ)) : Type 0 where
  pub same_length : length earlier ≡ length texts
  pub newest : (number : ℕ) → IsNewest number texts (length texts) (get nat_eq latest number)
  pub older : (index : ℕ) → index < length texts → IsNewest (text_number (text_at texts index)) texts index (slice_index_or earlier index None)
