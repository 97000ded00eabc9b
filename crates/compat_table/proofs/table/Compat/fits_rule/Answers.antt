use Rattle.std.proofs.Common.{◌≡◌, inl, inr, ℕ, true, false, List, Some, map, slice_get, length, get_or, ◌<◌, ◌≤◌, arith, sym, ap, ◌∙◌, subst, true≢false}
use Rattle.std.proofs.lemmas.Bool.{cases_lt, lt-ltb, ltb-true}
use Rattle.std.proofs.lemmas.List.{length-map}
use Rattle.std.proofs.lemmas.Option.{slice_get_within}
use Rattle.std.proofs.Math.Dec.{ltb}
use Rattle.compat_table.specs.declared.row.Row.{Row}
use Rattle.compat_table.proofs.Searching.{got_at}
use Rattle.normal_form.specs.Form.{NormalForm}
use Rattle.compat_table.specs.inner.Table.{IsTableOf}
use Rattle.compat_table.specs.inner.View.{symbols_of}
use Rattle.compat_table.proofs.Edges.{fits_none, fits_row, row_fits}
use Rattle.compat_table.proofs.table.Compat.fits_rule.Goals as goal

-- the row that was read, or that there is none
read : (rows lent : List Row) (r : ℕ) (row : Row) → lent ≡ rows → true ≡ ltb r (length lent) → row ≡ get_or lent r row
    → slice_get (map symbols_of rows) r ≡ Some (symbols_of row)
read rows lent r row same lt e =
    let P : List Row → Type 0 = λ l. slice_get (map symbols_of l) r ≡ Some (symbols_of row) in
    subst P same (got_at symbols_of lent r row (ltb-true r (length lent) (sym lt)) e)

past : (rows lent : List Row) (r : ℕ) → lent ≡ rows → false ≡ ltb r (length lent) → length (map symbols_of rows) ≤ r
past rows lent r same over = elim (cases_lt r (length lent)) [
  | inl below ↦ absurd (true≢false (sym (lt-ltb r (length lent) below) ∙ sym over))
  | inr above ↦ omega (arith, above, ap length same, length-map rows symbols_of)
]

-- there are as many rows of stars as rows
star_within : (N : NormalForm) (rows stars : List Row) (r : ℕ) (row : Row) → IsTableOf N (map symbols_of rows) (map symbols_of stars)
    → slice_get (map symbols_of rows) r ≡ Some (symbols_of row) → r < length stars
star_within N rows stars r row it at =
    omega (arith, slice_get_within (map symbols_of rows) r (symbols_of row) at, it.stars_are.for_each, length-map stars symbols_of)

pub is_in_row-requires-clause-row : goal.is_in_row-requires-clause-row
is_in_row-requires-clause-row c =
    let at : slice_get (map symbols_of c.self.inside.rows.items) c.args.rule ≡ Some (symbols_of c.in-Some.row.now) =
    read c.self.inside.rows.items c.deref.result.now c.args.rule c.in-Some.row.now c.deref.ensures.value c.in-Some.ensures.lookup.0
    c.in-Some.ensures.lookup.1 in
    c.self.invariant.rows_are.sorted c.args.rule (symbols_of c.in-Some.row.now) at

pub is_in_row-requires-clause-stars : goal.is_in_row-requires-clause-stars
is_in_row-requires-clause-stars c =
    let rows = c.self.inside.rows.items in
    let stars = c.self.inside.stars.items in
    let at = read rows c.deref.result.now c.args.rule c.in-Some.row.now c.deref.ensures.value c.in-Some.ensures.lookup.0 c.in-Some.ensures.lookup.1 in
    let with_stars =
    got_at symbols_of stars c.args.rule c.index.result.now (star_within _ rows stars c.args.rule c.in-Some.row.now c.self.invariant at) c.index.ensures in
    c.self.invariant.stars_are.sorted c.args.rule (symbols_of c.index.result.now) with_stars

pub returns-in-Some : goal.returns-in-Some
returns-in-Some c =
    let N = c.args.self.now in
    let rows = map symbols_of c.self.inside.rows.items in
    let stars = map symbols_of c.self.inside.stars.items in
    let row = symbols_of c.in-Some.row.now in
    let P : NormalForm → Type 0 = λ N. IsTableOf N rows stars in
    let it = subst P c.self.view_is c.self.invariant in
    let at : slice_get rows c.args.rule ≡ Some row =
    read c.self.inside.rows.items c.deref.result.now c.args.rule c.in-Some.row.now c.deref.ensures.value
    c.in-Some.ensures.lookup.0 c.in-Some.ensures.lookup.1 in
    let with_stars =
    got_at symbols_of c.self.inside.stars.items c.args.rule c.index.result.now
    (star_within N c.self.inside.rows.items c.self.inside.stars.items c.args.rule c.in-Some.row.now it at) c.index.ensures in
    let symbols = symbols_of c.index.result.now in (
      λ is. row_fits N it.nulls it.nullable rows stars it.rows_are it.stars_are row symbols c.args.rule c.args.child at with_stars (c.is_in_row.ensures.0 is),
      λ f. c.is_in_row.ensures.1 (fits_row N it.nulls it.nullable rows stars it.rows_are it.stars_are row symbols c.args.rule c.args.child at with_stars
          c.requires f),
    )

pub returns-in-None : goal.returns-in-None
returns-in-None c =
    let rows = map symbols_of c.self.inside.rows.items in
    let stars = map symbols_of c.self.inside.stars.items in
    let P : NormalForm → Type 0 = λ N. IsTableOf N rows stars in
    let it = subst P c.self.view_is c.self.invariant in (
      λ is. absurd (true≢false (sym is)),
      λ f.
          absurd (fits_none c.args.self.now it.nulls it.nullable rows stars it.rows_are it.stars_are c.args.rule c.args.child
          (past c.self.inside.rows.items c.deref.result.now c.args.rule c.deref.ensures.value c.in-None.ensures.lookup.0) c.requires f),
    )
