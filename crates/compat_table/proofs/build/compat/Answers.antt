use Rattle.std.proofs.Common.{◌≡◌, Bool, ℕ, List, length, map, sym, ap, ◌∙◌, subst, arith}
use Rattle.std.specs.Global.{Vec}
use Rattle.std.proofs.lemmas.List.{length-map}
use Rattle.grammar_check_nodes.specs.Flags.{flag}
use Rattle.normal_form.specs.declared.normal.Sym.{Sym}
use Rattle.normal_form.specs.Form.{RuleForm, NormalForm}
use Rattle.compat_table.specs.declared.row.Row.{Row}
use Rattle.compat_table.specs.Nullable.{AreNullable}
use Rattle.compat_table.specs.inner.Rows.{next_symbols}
use Rattle.compat_table.specs.inner.Table.{AreRowsOf, AreStarsOf, IsClosed, IsTableOf, edges_of_form}
use Rattle.compat_table.specs.inner.View.{edges_of, symbols_of}
use Rattle.compat_table.proofs.Edges.{closed}
use Rattle.compat_table.proofs.build.compat.Goals as goal

-- the flags that were read
flags_read : (N : NormalForm) (read flags : List Bool) → read ≡ flags → AreNullable N (flag flags) → AreNullable N (flag read)
flags_read N read flags same exact = subst (λ (l : List Bool). AreNullable N (flag l)) (sym same) exact

-- the edges that were found are those of the form
edges_are : (N : NormalForm) (nulls : ℕ → Bool) (read found : List (Vec Sym)) (rules : List RuleForm) → read ≡ found
    → edges_of found ≡ map (next_symbols nulls) rules → rules ≡ N.rules → edges_of read ≡ edges_of_form nulls N
edges_are N nulls read found rules same is all = ap edges_of same ∙ is ∙ ap (λ (l : List RuleForm). map (next_symbols nulls) l) all

-- a table of the parts that were found
table_of : (N M : NormalForm) (nulls : ℕ → Bool) (read : List (Vec Sym)) (lent rows stars : List Row) (rules : List RuleForm) → AreNullable N nulls
    → edges_of read ≡ edges_of_form nulls N → AreRowsOf (edges_of read) (map symbols_of rows) → lent ≡ rows → rules ≡ N.rules
    → AreStarsOf rules (map symbols_of lent) (map symbols_of stars) →
    M ≡ N → IsTableOf M (map symbols_of rows) (map symbols_of stars)
table_of N M nulls read lent rows stars rules exact is are same all with_stars copied =
    let P : List RuleForm → Type 0 = λ l. AreStarsOf l (map symbols_of rows) (map symbols_of stars) in
    let Q : List Row → Type 0 = λ l. AreStarsOf rules (map symbols_of l) (map symbols_of stars) in
    let R : NormalForm → Type 0 = λ K. IsTableOf K (map symbols_of rows) (map symbols_of stars) in
    subst R (sym copied)
    (record {
      nulls = nulls;
      nullable = exact;
      rows_are = subst (λ (e : List (List Sym)). AreRowsOf e (map symbols_of rows)) is are;
      stars_are = subst P all (subst Q same with_stars);
    })

pub rows-requires-clause-closed : goal.rows-requires-clause-closed
rows-requires-clause-closed c =
    let N = c.args.normal.now in
    let nulls = flag c.deref.result.now in
    let is = edges_are N nulls c.deref-2.result.now c.in_ok-edges.edges.items _ c.deref-2.ensures.value c.in_ok-edges.ensures c.rules-rules.ensures in
    subst IsClosed (sym is) (closed N nulls (flags_read N c.deref.result.now c.in_ok-flags.flags.items c.deref.ensures.value c.in_ok-flags.ensures)
    (c.symbols_are_known.ensures N c.is_normal.ensures))

pub stars-requires : goal.stars-requires
stars-requires c =
    let N = c.args.normal.now in
    let few = (c.rules_are_few.ensures N c.is_normal.ensures).few in
    let nulls = flag c.deref.result.now in
    let is = edges_are N nulls c.deref-2.result.now c.in_ok-edges.edges.items _ c.deref-2.ensures.value c.in_ok-edges.ensures c.rules-rules.ensures in
    omega (
      arith,
      few,
      ap length is,
      length-map N.rules (next_symbols nulls),
      c.in_ok-rows.ensures.rows.for_each,
      length-map c.in_ok-rows.rows.items symbols_of,
      ap length c.deref-3.ensures.value,
    )

pub invariant_of-result : goal.invariant_of-result
invariant_of-result c =
    let N = c.args.normal.now in
    let nulls = flag c.deref.result.now in
    let is = edges_are N nulls c.deref-2.result.now c.in_ok-edges.edges.items _ c.deref-2.ensures.value c.in_ok-edges.ensures c.rules-rules.ensures in
    table_of N _ nulls c.deref-2.result.now c.deref-3.result.now c.in_ok-rows.rows.items c.in_ok-stars.stars.items _
    (flags_read N c.deref.result.now c.in_ok-flags.flags.items c.deref.ensures.value c.in_ok-flags.ensures) is c.in_ok-rows.ensures.rows c.deref-3.ensures.value
    c.rules-rules.ensures c.in_ok-stars.ensures c.in_ok-normal.ensures
