-- Records as a map: what extends it, and what it has.
use Rattle.std.proofs.Common.{◌≡◌, ℕ, List, [], ◌∷◌, ◌++◌, Option, Some, None, rules, refl, sym, ◌∙◌, subst, Bool, true, false, cond}
use Rattle.std.proofs.lemmas.Grind.{common_steps}
use Rattle.std.proofs.lemmas.Map.Keys.{IsDistinct-head, IsDistinct-tail}
use Rattle.std.proofs.lemmas.Cmp.{nat_list_eq_equiv}
use Rattle.std.proofs.lemmas.Slice.Eq.{bytes_eq-Decides}
use Rattle.std.specs.List.{AllByRecursion, IsDistinct, list_any}
use Rattle.std.specs.Str.{bytes_eq}
use Rattle.script_gate_trait.specs.declared.gate.Verdict.{Verdict}
use Rattle.verdict_table.specs.TableState.{Extends, texts_of, verdict_in}
use Rattle.verdict_table.specs.declared.record.Record.{Record}

-- what extends a list of records extends its front and its back
pub extends_front : (V : List ℕ → Option Verdict) (rs ss : List Record) → Extends V (rs ++ ss) → Extends V rs
extends_front V [] ss h = tt
extends_front V (r ∷ rs) ss h = (h.0, extends_front V rs ss h.1)

pub extends_back : (V : List ℕ → Option Verdict) (rs ss : List Record) → Extends V (rs ++ ss) → Extends V ss
extends_back V [] ss h = h
extends_back V (r ∷ rs) ss h = extends_back V rs ss h.1

known_at : (V : List ℕ → Option Verdict) (r : Record) (rs : List Record) (t : List ℕ) (v : Verdict) (b : Bool) → b ≡ bytes_eq t r.text
    → V r.text ≡ Some r.verdict → (verdict_in rs t ≡ Some v → V t ≡ Some v) → cond b (Some r.verdict) (verdict_in rs t) ≡ Some v → V t ≡ Some v
known_at V r rs t v true e h later k =
    let same : r.text ≡ t = sym ((bytes_eq-Decides t r.text).0 (sym e)) in
    subst (λ (x : List ℕ). V x ≡ Some v) same (h ∙ k)
known_at V r rs t v false e h later k = later k

-- a recorded verdict is that of each map that extends the records
pub extends_known : (V : List ℕ → Option Verdict) (rs : List Record) (t : List ℕ) (v : Verdict) → Extends V rs → verdict_in rs t ≡ Some v → V t ≡ Some v
extends_known V [] t v h k = absurd (cc k)
extends_known V (r ∷ rs) t v h k = known_at V r rs t v (bytes_eq t r.text) refl h.0 (λ q. extends_known V rs t v h.1 q) k

differs : (x : List ℕ) (w : Verdict) (rs ss : List Record) → AllByRecursion (λ y. bytes_eq x y ≡ false) (texts_of ss) → Extends (verdict_in rs) ss
    → Extends (verdict_in (record { text = x; verdict = w } ∷ rs)) ss
differs x w rs [] h e = tt
differs x w rs (s ∷ ss) h e = (rw (nat_list_eq_equiv.symm s.text x, h.0) e.0, differs x w rs ss h.1 e.1)

-- the map of the records has each record's verdict
pub extends_itself : (rs : List Record) → IsDistinct bytes_eq (texts_of rs) → Extends (verdict_in rs) rs
extends_itself [] d = tt
extends_itself (r ∷ rs) d = (
  rw (nat_list_eq_equiv.refl r.text) refl,
  differs r.text r.verdict rs rs (IsDistinct-head bytes_eq r.text (texts_of rs) d) (extends_itself rs (IsDistinct-tail bytes_eq r.text (texts_of rs) d)),
)

-- a text that no record has has no verdict
pub none_in : (rs : List Record) (text : List ℕ) → list_any (bytes_eq text) (texts_of rs) ≡ false → verdict_in rs text ≡ None
none_in [] text h = refl
none_in (r ∷ rs) text h =
    let apart : bytes_eq text r.text ≡ false = search (rules, common_steps) in
    let later : list_any (bytes_eq text) (texts_of rs) ≡ false = search (rules, common_steps) in
    rw apart (none_in rs text later)

apart_at : (b : Bool) (v : Verdict) (rest : Option Verdict) → cond b (Some v) rest ≡ None → (b ≡ false) × (rest ≡ None)
apart_at true v rest none = absurd (cc none)
apart_at false v rest none = (refl, none)

-- a text without a verdict is that of no record
pub not_among : (rs : List Record) (text : List ℕ) → verdict_in rs text ≡ None → list_any (bytes_eq text) (texts_of rs) ≡ false
not_among [] text none = refl
not_among (r ∷ rs) text none =
    let apart : (bytes_eq text r.text ≡ false) × (verdict_in rs text ≡ None) = apart_at (bytes_eq text r.text) r.verdict (verdict_in rs text) none in
    rw apart.0 (not_among rs text apart.1)
