-- Reads one after another.
use Rattle.std.proofs.Common.{◌≡◌, ℕ, List, [], ◌++◌, sym, ap, ◌∙◌, subst, append-nil, append_assoc}
use Rattle.std.proofs.lemmas.List.{map-append}
use Rattle.edge_io.specs.FileCalls.{FileCall, WereMade, good_call}
use Rattle.edge_io.specs.declared.file_call.FileAction.TheVariants.{Read}
use Rattle.edge_io.proofs.Lent.{made_then}
use Rattle.command_ends.specs.World.{SeenCalls, SomeRead, WereRead, reads_of}

-- reads of these and of those
reads_both : (first then : List (List ℕ)) → reads_of first ++ reads_of then ≡ reads_of (first ++ then)
reads_both first then = sym (map-append (good_call Read) first then)

module _ (first : List (List ℕ)) (old mid new : SeenCalls) (read : WereRead first old mid) where
  -- these were read, and then those
  pub read_then : (then : List (List ℕ)) → WereRead then mid new → WereRead (first ++ then) old new
  read_then then is =
      subst (λ (calls : List FileCall). WereMade calls old new) (reads_both first then) (made_then (reads_of first) (reads_of then) old mid new read is)

  -- then nothing
  pub read_then_none : WereMade [] mid new → WereRead first old new
  read_then_none none = subst (λ (paths : List (List ℕ)). WereRead paths old new) (append-nil first) (read_then [] none)

  -- then some of those
  pub read_then_some : (then : List (List ℕ)) → SomeRead then mid new → SomeRead (first ++ then) old new
  read_then_some then is = (
    first ++ is.0,
    is.1,
    ap (λ (paths : List (List ℕ)). first ++ paths) is.2 ∙ sym (append_assoc first is.0 is.1),
    read_then is.0 is.3,
  )

  -- then calls of another kind
  pub read_then_made : (then : List (List ℕ)) (made : List FileCall) → WereMade (reads_of then ++ made) mid new
      → WereMade (reads_of (first ++ then) ++ made) old new
  read_then_made then made is =
      subst (λ (calls : List FileCall). WereMade calls old new)
      (sym (append_assoc (reads_of first) (reads_of then) made) ∙ ap (λ (calls : List FileCall). calls ++ made) (reads_both first then))
      (made_then (reads_of first) (reads_of then ++ made) old mid new read is)

-- of these some were read, so of more
pub some_more : (first then : List (List ℕ)) (old new : SeenCalls) → SomeRead first old new → SomeRead (first ++ then) old new
some_more first then old new is = (
  is.0,
  is.1 ++ then,
  ap (λ (paths : List (List ℕ)). paths ++ then) is.2 ∙ append_assoc is.0 is.1 then,
  is.3,
)

-- where all were read, some were
pub all_some : (paths : List (List ℕ)) (old new : SeenCalls) → WereRead paths old new → SomeRead paths old new
all_some paths old new is = (paths, [], sym (append-nil paths), is)
