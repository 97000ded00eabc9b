-- What a sink has after some pieces that are put one after another.
use Rattle.std.proofs.Common.{◌≡◌, inl, inr, ℕ, suc, ◌+◌, List, [], ◌∷◌, ◌++◌, Option, Some, None, Result, Ok, Err}
use Rattle.std.proofs.Common.{OnErr, length, take, refl, sym, ap, ◌∙◌, arith, append_assoc}
use Rattle.std.specs.Option.{option_map}
use Rattle.std.proofs.lemmas.Bool.{cases_lt}
use Rattle.std.proofs.lemmas.List.{take_all, take_at, take-append-le}
use Rattle.edge_io.specs.Sink.{Put, with_piece, GrewByPrefix}

-- two pieces are one
pub joined : (a b : List ℕ) (old : Option Put) → option_map (with_piece b) (option_map (with_piece a) old) ≡ option_map (with_piece (a ++ b)) old
joined a b None = refl
joined a b (Some put) = ap (λ bytes. Some (record put { bytes = bytes })) (append_assoc put.bytes a b)

take_within : (a b : List ℕ) (count : ℕ) → (n : ℕ) × (take n (a ++ b) ≡ take count a)
take_within a b count = elim (cases_lt count (length a)) [
  | inl less ↦ (count, take-append-le count a b (omega (arith, less)))
  | inr all ↦ (length a, take_at a b (length a) refl ∙ sym (take_all count a all))
]

take_beyond : (a b : List ℕ) (count : ℕ) → take (length a + count) (a ++ b) ≡ a ++ take count b
take_beyond [] b count = let e : 0 + count ≡ count = omega arith in ap (λ n. take n b) e
take_beyond (x ∷ a) b count =
    let e : length (x ∷ a) + count ≡ suc (length a + count) = omega arith in
    ap (λ n. take n (x ∷ (a ++ b))) e ∙ ap (λ t. x ∷ t) (take_beyond a b count)

-- some of the first piece is some of both
pub grew_first : (a b : List ℕ) (old new : Option Put) → GrewByPrefix a old new → GrewByPrefix (a ++ b) old new
grew_first a b old new h =
    let t = take_within a b h.0 in
    (t.0, h.1 ∙ ap (λ piece. option_map (with_piece piece) old) (sym t.1))

-- some of the second piece after the first is some of both
pub grew_later : (a b : List ℕ) (old mid new : Option Put) → mid ≡ option_map (with_piece a) old → GrewByPrefix b mid new → GrewByPrefix (a ++ b) old new
grew_later a b old mid new first h = (
  length a + h.0,
  h.1 ∙ (ap (option_map (with_piece (take h.0 b))) first ∙ (joined a (take h.0 b) old
      ∙ ap (λ piece. option_map (with_piece piece) old) (sym (take_beyond a b h.0)))),
)

-- what holds anyway holds after an error
pub on_err : {T E Q : Type 0} (r : Result T E) → Q → OnErr r Q
on_err (Ok x) q = tt
on_err (Err e) q = q
