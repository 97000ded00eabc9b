-- What a walk's nodes are, when one is taken out or added.
use Rattle.std.proofs.Common.{◌≡◌, Bool, true, false, cond, List, [], ◌∷◌, ◌++◌, sym}
use Rattle.std.specs.List.{All}
use Rattle.std.proofs.lemmas.List.Elements.{All-push, All-same, All-contains, Contains-push}

pub All-pushed : {X : Type 0} (P : X → Type 0) (b : Bool) (new xs : List X) (x : X) → new ≡ cond b (xs ++ x ∷ []) xs → All P xs → P x → All P new
All-pushed P true new xs x e all px = All-same P new (xs ++ x ∷ []) e (All-push P xs x all px)
All-pushed P false new xs x e all px = All-same P new xs e all

pub last_of : {X : Type 0} (P : X → Type 0) (xs ys : List X) (x : X) → xs ≡ ys ++ x ∷ [] → All P xs → P x
last_of P xs ys x e all = All-contains P (ys ++ x ∷ []) x (All-same P (ys ++ x ∷ []) xs (sym e) all) (Contains-push ys x)
