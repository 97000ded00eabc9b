use Rattle.std.proofs.Common.{◌≡◌, Some, sym, ◌∙◌, subst, true≢false}
use Rattle.std.proofs.lemmas.Option.{none-some, same_Some}
use Rattle.normal_form.specs.declared.normal.Sym.{Sym}
use Rattle.compat_table.specs.inner.Rows.{IsAmong}
use Rattle.compat_table.specs.inner.View.{symbols_of}
use Rattle.compat_table.proofs.table.Compat.is_plus_of_one.Goals as goal

pub returns-in-Some : goal.returns-in-Some
returns-in-Some c =
    let symbol = c.in-Some.symbol in (
      λ is. (symbol, (c.repeated.ensures symbol).0 c.in-Some.is, c.contains.ensures.0 is),
      λ (t, plus, found).
          let both : Some symbol ≡ Some t = sym c.in-Some.is ∙ (c.repeated.ensures t).1 plus in
          c.contains.ensures.1 (subst (λ (x : Sym). IsAmong (symbols_of c.args.symbols.now) x) (sym (same_Some symbol t both)) found),
    )

pub returns-in-None : goal.returns-in-None
returns-in-None c = (λ is. absurd (true≢false (sym is)), λ (t, plus, found). absurd (none-some t (sym c.in-None.is ∙ (c.repeated.ensures t).1 plus)))
