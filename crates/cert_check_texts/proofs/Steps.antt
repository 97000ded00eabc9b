-- The pairs after a token of one spelling, as loops find them.
use Rattle.std.proofs.Common.{◌≡◌, ◌≢◌, ◌⊎◌, inl, inr, ◌+◌, ◌<◌, ◌≤◌, ℕ, suc, List, [], ◌∷◌, None, Some}
use Rattle.std.proofs.Common.{drop, get_or, length, map, arith, refl, sym, ap, ◌∙◌, subst}
use Rattle.std.specs.Prelude.{◌↔◌}
use Rattle.std.specs.List.{Contains}
use Rattle.std.proofs.lemmas.List.{drop_all, drop_more, length-map}
use Rattle.std.proofs.lemmas.List.Elements.{Contains-get_or}
use Rattle.cert_check_texts.specs.inner.Reached.{AreWith, Follows, LeavesOut, SomeOf}
use Rattle.cert_check_texts.specs.inner.Print.{AreAfterBy, AreAfterFirst, AreAfterToken, AreOf, AreSomeAfter, CanEnd, GoesOn, IsLaidOut}
use Rattle.cert_check_texts.specs.inner.Print.{LeadsTo, LeadsToLater, LeadsToNext, SomeCanEnd, tokens_in}
use Rattle.cert_check_texts.specs.inner.Numbers.{listed_with}
use Rattle.cert_check_texts.specs.declared.reached.Reached.{Reached}
use Rattle.cert_check_texts.specs.declared.numbers.Numbers.{Numbers}
use Rattle.cert_check_texts.specs.declared.prints.Print.{Print}
use Rattle.lexer.specs.Tokens.{token_of}
use Rattle.lexer.specs.declared.token.Token.{Token}
use Rattle.token_print.specs.Spelling.{spelling, spelling_at}
use Rattle.cert_check_texts.proofs.Layers.{came, first_pairs, some_next}
use Rattle.cert_check_texts.proofs.Members.{none_in}

-- what is new to an empty list is all that is in it
only_new : (IsNew : Reached → Type 0) (pairs : List Reached) → AreWith [] IsNew pairs → (pair : Reached) → Contains pairs pair → IsNew pair
only_new IsNew pairs are pair at = by ((are pair).0 at)
  where
    by : Contains [] pair ⊎ IsNew pair → IsNew pair
    by (inl in_none) = absurd (none_in pair in_none)
    by (inr new) = new

-- the tokens that are kept with the bytes of a spelling
pub listed_as : (numbers : Numbers) {list bytes spelling : List ℕ} → list ≡ listed_with numbers bytes → bytes ≡ spelling → list ≡ listed_with numbers spelling
listed_as numbers is same = is ∙ ap (listed_with numbers) same

-- the tokens that are kept with a spelling, as they are lent
pub lists_of : (p : Print) → IsLaidOut p → (spelling list : List ℕ) → list ≡ listed_with p.equal.now spelling → (index : ℕ) → Contains list index
    ↔ ((index < length (tokens_in p)) × (spelling_at p.layout.start.now (tokens_in p) index ≡ spelling))
lists_of p laid spelling list is index =
    subst (λ (l : List ℕ). Contains l index ↔ ((index < length (tokens_in p)) × (spelling_at p.layout.start.now (tokens_in p) index ≡ spelling))) (sym is)
    (laid.equal.listed spelling index)

-- they are of the spelling
pub are_of : (p : Print) → IsLaidOut p → (spelling list : List ℕ) → list ≡ listed_with p.equal.now spelling → AreOf p spelling list
are_of p laid spelling list is index = (lists_of p laid spelling list is index).0

-- such tokens are there
pub there_of_all : (p : Print) (spelling list : List ℕ) → AreOf p spelling list → (index : ℕ) → Contains list index → index < length p.layout.tokens.now
there_of_all p spelling list are index among =
    let there = (are index among).0 in omega (arith, there, length-map p.layout.tokens.now token_of)

-- each of them is there
pub there_of : (p : Print) → IsLaidOut p → (spelling list : List ℕ) → list ≡ listed_with p.equal.now spelling → (i d : ℕ) → i < length list
    → get_or list i d < length p.layout.tokens.now
there_of p laid spelling list is i d within =
    let there = ((lists_of p laid spelling list is (get_or list i d)).0 (Contains-get_or list i d within)).0 in
    omega (arith, there, length-map p.layout.tokens.now token_of)

module _ (p : Print) (spelling list : List ℕ)
    (lists : (index : ℕ) → Contains list index ↔ ((index < length (tokens_in p)) × (spelling_at p.layout.start.now (tokens_in p) index ≡ spelling))) where
  abbrev Spelled : ℕ → Type 0
  Spelled index = spelling_at p.layout.start.now (tokens_in p) index ≡ spelling

  abbrev LaterFrom : List Reached → Reached → Type 0
  LaterFrom firsts pair =
      (from : Reached) × Contains firsts from × LeavesOut from.last pair.last × Spelled pair.last × GoesOn p (Some from.last) from.offset pair.last pair.offset

  pub first_are : (firsts : List Reached) → AreWith [] (λ pair. SomeOf list (λ index. LeadsTo p None 0 index pair)) firsts → AreAfterFirst p spelling firsts
  first_are firsts are pair = (λ at. forward (only_new (λ other. SomeOf list (λ index. LeadsTo p None 0 index other)) firsts are pair at), back)
    where
      forward : SomeOf list (λ index. LeadsTo p None 0 index pair) → Spelled pair.last × GoesOn p None 0 pair.last pair.offset
      forward (index, among, (same, goes)) =
          (subst Spelled (sym same) ((lists index).0 among).1, subst (λ (i : ℕ). GoesOn p None 0 i pair.offset) (sym same) goes)

      back : Spelled pair.last × GoesOn p None 0 pair.last pair.offset → Contains firsts pair
      back (spelled, goes) = (are pair).1 (inr (pair.last, (lists pair.last).1 (goes.there, spelled), (refl, goes)))

  pub later_are : (firsts laters : List Reached) → AreWith [] (λ pair. SomeOf list (λ index. SomeOf firsts (λ from. LeadsToLater p index from pair))) laters
      → AreAfterBy p LeavesOut firsts spelling laters
  later_are firsts laters are pair =
      (λ at. forward (only_new (λ other. SomeOf list (λ index. SomeOf firsts (λ from. LeadsToLater p index from other))) laters are pair at), back)
    where
      by_later : (index : ℕ) → Spelled index → (from : Reached) → Contains firsts from → LeavesOut from.last index → pair.last ≡ index
          → GoesOn p (Some from.last) from.offset index pair.offset → LaterFrom firsts pair
      by_later index spelled from among out same goes = (
        from,
        among,
        subst (λ (i : ℕ). LeavesOut from.last i) (sym same) out,
        subst Spelled (sym same) spelled,
        subst (λ (i : ℕ). GoesOn p (Some from.last) from.offset i pair.offset) (sym same) goes,
      )

      forward : SomeOf list (λ index. SomeOf firsts (λ from. LeadsToLater p index from pair)) → LaterFrom firsts pair
      forward (index, among, (from, there, (out, (same, goes)))) = by_later index ((lists index).0 among).1 from there out same goes

      back : LaterFrom firsts pair → Contains laters pair
      back (from, among, out, spelled, goes) =
          (are pair).1 (inr (pair.last, (lists pair.last).1 (goes.there, spelled), (from, among, (out, (refl, goes)))))

abbrev NextFrom : Print → List ℕ → List Reached → Reached → Type 0
NextFrom p spelling pairs pair =
    (from : Reached) × Contains pairs from × Follows from.last pair.last × (spelling_at p.layout.start.now (tokens_in p) pair.last ≡ spelling)
    × GoesOn p (Some from.last) from.offset pair.last pair.offset

pub next_are : (p : Print) (spelling : List ℕ) (pairs nexts : List Reached) → AreWith [] (λ pair. SomeOf pairs (λ from. LeadsToNext p spelling from pair)) nexts
    → AreAfterBy p Follows pairs spelling nexts
next_are p spelling pairs nexts are pair =
    (λ at. forward (only_new (λ other. SomeOf pairs (λ from. LeadsToNext p spelling from other)) nexts are pair at), back)
  where
    forward : SomeOf pairs (λ from. LeadsToNext p spelling from pair) → NextFrom p spelling pairs pair
    forward (from, among, (follows, spelled, goes)) = (from, among, follows, spelled, goes)

    back : NextFrom p spelling pairs pair → Contains nexts pair
    back (from, among, follows, spelled, goes) = (are pair).1 (inr (from, among, (follows, spelled, goes)))

-- the token that follows the last one, and its spelling
module _ (p : Print) (spelling : List ℕ) (from : Reached) (index : ℕ) (next : index ≡ suc from.last) where
  pub next_leads : (before after : List Reached) → spelling_at p.layout.start.now (tokens_in p) index ≡ spelling
      → AreWith before (LeadsTo p (Some from.last) from.offset index) after → AreWith before (LeadsToNext p spelling from) after
  next_leads before after spelled are pair = (λ at. forward ((are pair).0 at), back)
    where
      of_index : LeadsTo p (Some from.last) from.offset index pair → LeadsToNext p spelling from pair
      of_index (same, goes) = (
        same ∙ next,
        subst (λ (i : ℕ). spelling_at p.layout.start.now (tokens_in p) i ≡ spelling) (sym same) spelled,
        subst (λ (i : ℕ). GoesOn p (Some from.last) from.offset i pair.offset) (sym same) goes,
      )

      forward : Contains before pair ⊎ LeadsTo p (Some from.last) from.offset index pair → Contains before pair ⊎ LeadsToNext p spelling from pair
      forward (inl at) = inl at
      forward (inr leads) = inr (of_index leads)

      to_index : LeadsToNext p spelling from pair → LeadsTo p (Some from.last) from.offset index pair
      to_index (follows, is, goes) =
          let same : pair.last ≡ index = follows ∙ sym next in (same, subst (λ (i : ℕ). GoesOn p (Some from.last) from.offset i pair.offset) same goes)

      back : Contains before pair ⊎ LeadsToNext p spelling from pair → Contains after pair
      back (inl at) = (are pair).1 (inl at)
      back (inr nexts) = (are pair).1 (inr (to_index nexts))

  pub other_token : spelling_at p.layout.start.now (tokens_in p) index ≢ spelling → (pair : Reached) → LeadsToNext p spelling from pair → ⊥
  other_token other pair (follows, is, goes) = other (subst (λ (i : ℕ). spelling_at p.layout.start.now (tokens_in p) i ≡ spelling) (follows ∙ sym next) is)

-- where the last token of a pair is the last of the start, none follows it
pub no_token : (p : Print) (spelling : List ℕ) (from : Reached) → length p.layout.tokens.now ≤ suc from.last → (pair : Reached)
    → LeadsToNext p spelling from pair → ⊥
no_token p spelling from past pair (follows, is, goes) =
    let within : pair.last < length (tokens_in p) = goes.there in
    absurd (omega (arith, past, within, follows, length-map p.layout.tokens.now token_of))

-- a token before which one at least is left out
pub later_leads : (p : Print) (from : Reached) (index : ℕ) (before after : List Reached) → LeavesOut from.last index
    → AreWith before (LeadsTo p (Some from.last) from.offset index) after → AreWith before (LeadsToLater p index from) after
later_leads p from index before after out are pair = (λ at. forward ((are pair).0 at), back)
  where
    forward : Contains before pair ⊎ LeadsTo p (Some from.last) from.offset index pair → Contains before pair ⊎ LeadsToLater p index from pair
    forward (inl at) = inl at
    forward (inr leads) = inr (out, leads)

    back : Contains before pair ⊎ LeadsToLater p index from pair → Contains after pair
    back (inl at) = (are pair).1 (inl at)
    back (inr (far, leads)) = (are pair).1 (inr leads)

pub none_out : (p : Print) (from : Reached) (index : ℕ) → (LeavesOut from.last index → ⊥) → (pair : Reached) → LeadsToLater p index from pair → ⊥
none_out p from index not pair (out, leads) = not out

-- One more token is tried, before which one at least is left out.
pub some_later : (p : Print) (spelling : List ℕ) (froms : List Reached) (from : Reached) (index : ℕ) (before after : List Reached)
    → spelling_at p.layout.start.now (tokens_in p) index ≡ spelling → Contains froms from
    → AreSomeAfter p froms spelling before → AreWith before (LeadsToLater p index from) after → AreSomeAfter p froms spelling after
some_later p spelling froms from index before after spelled among are with pair at = by ((with pair).0 at)
  where
    Origin : Type 0
    Origin =
        (from : Reached) × Contains froms from × (spelling_at p.layout.start.now (tokens_in p) pair.last ≡ spelling)
        × GoesOn p (Some from.last) from.offset pair.last pair.offset

    by : Contains before pair ⊎ LeadsToLater p index from pair → Origin
    by (inl old) = are pair old
    by (inr (out, (same, goes))) = (
      from,
      among,
      subst (λ (i : ℕ). spelling_at p.layout.start.now (tokens_in p) i ≡ spelling) (sym same) spelled,
      subst (λ (i : ℕ). GoesOn p (Some from.last) from.offset i pair.offset) (sym same) goes,
    )

-- the tokens that follow are some after
pub some_follow : (p : Print) (spelling : List ℕ) (pairs nexts : List Reached) → AreAfterBy p Follows pairs spelling nexts → AreSomeAfter p pairs spelling nexts
some_follow p spelling pairs nexts are pair at = by ((are pair).0 at)
  where
    by : NextFrom p spelling pairs pair
        → (from : Reached) × Contains pairs from × (spelling_at p.layout.start.now (tokens_in p) pair.last ≡ spelling)
        × GoesOn p (Some from.last) from.offset pair.last pair.offset
    by (from, among, follows, spelled, goes) = (from, among, spelled, goes)

-- ---- from token to token

module _ (p : Print) (found : List ℕ) (spelled : List Token) where
  -- what remains of the spellings
  abbrev Remaining : ℕ → List (List ℕ)
  Remaining i = map (spelling found) (map token_of (drop i spelled))

  -- one token further
  pub next_token : (whole : Type 0) (reached next : List Reached) (i : ℕ) (d : Token) → i < length spelled → whole ↔ SomeCanEnd p reached (Remaining i)
      → AreAfterToken p reached (spelling found (token_of (get_or spelled i d))) next
      → whole ↔ SomeCanEnd p next (Remaining (i + 1))
  next_token whole reached next i d within before are =
      let further =
      some_next p.layout.skips p.layout.start.now (tokens_in p) p.layout.style p.text.now (spelling found (token_of (get_or spelled i d)))
      (Remaining (i + 1)) reached next are in
      let first : Remaining i ≡ spelling found (token_of (get_or spelled i d)) ∷ Remaining (i + 1) =
      ap (λ (l : List Token). map (spelling found) (map token_of l)) (drop_more spelled i d within) in
      let so = subst (λ (l : List (List ℕ)). whole ↔ SomeCanEnd p reached l) first before in
      (λ w. further.0 (so.0 w), λ s. so.1 (further.1 s))

  -- one token further along some of the pairs
  pub few_next : (whole : Type 0) (reached next : List Reached) (i : ℕ) (d : Token) → i < length spelled → (SomeCanEnd p reached (Remaining i) → whole)
      → AreSomeAfter p reached (spelling found (token_of (get_or spelled i d))) next
      → SomeCanEnd p next (Remaining (i + 1)) → whole
  few_next whole reached next i d within before are some =
      let further =
      came p.layout.skips p.layout.start.now (tokens_in p) p.layout.style p.text.now (spelling found (token_of (get_or spelled i d)))
      (Remaining (i + 1)) reached next are some in
      let first : Remaining i ≡ spelling found (token_of (get_or spelled i d)) ∷ Remaining (i + 1) =
      ap (λ (l : List Token). map (spelling found) (map token_of l)) (drop_more spelled i d within) in
      before (subst (λ (l : List (List ℕ)). SomeCanEnd p reached l) (sym first) further)

  -- and after the last token
  pub few_all : (whole : Type 0) (reached : List Reached) (i : ℕ) → length spelled ≤ i → (SomeCanEnd p reached (Remaining i) → whole)
      → SomeCanEnd p reached [] → whole
  few_all whole reached i past before =
      subst (λ (l : List Token). SomeCanEnd p reached (map (spelling found) (map token_of l)) → whole) (drop_all i spelled past) before

  -- where no pair is reached, none can be ended from
  pub none_reached : (whole : Type 0) (reached : List Reached) (i : ℕ) → length reached ≡ 0 → whole ↔ SomeCanEnd p reached (Remaining i) → whole → ⊥
  none_reached whole reached i none before w = by (before.0 w)
    where
      by : SomeCanEnd p reached (Remaining i) → ⊥
      by (pair, (k, within, at), can) = absurd (omega (arith, within, none))

  -- and after the last token
  pub after_all : (whole : Type 0) (reached : List Reached) (i : ℕ) → length spelled ≤ i → whole ↔ SomeCanEnd p reached (Remaining i) → whole
      ↔ SomeCanEnd p reached []
  after_all whole reached i past before =
      subst (λ (l : List Token). whole ↔ SomeCanEnd p reached (map (spelling found) (map token_of l))) (drop_all i spelled past) before

-- from the first token on
pub from_first : (p : Print) (found : List ℕ) (spelled later : List Token) (first : Token) (pairs : List Reached) (word : List ℕ) → spelled ≡ first ∷ later
    → word ≡ spelling found (token_of first) → AreAfterFirst p word pairs
    → SomeCanEnd p pairs (map (spelling found) (map token_of later)) ↔ CanEnd p None 0 (map (spelling found) (map token_of spelled))
from_first p found spelled later first pairs word is word_is are =
    let these = subst (λ (w : List ℕ). AreAfterFirst p w pairs) word_is are in
    let begins =
    first_pairs p.layout.skips p.layout.start.now (tokens_in p) p.layout.style p.text.now (spelling found (token_of first))
    (map (spelling found) (map token_of later)) pairs these in
    subst (λ (l : List Token). SomeCanEnd p pairs (map (spelling found) (map token_of later)) ↔ CanEnd p None 0 (map (spelling found) (map token_of l)))
    (sym is) (begins.1, begins.0)
