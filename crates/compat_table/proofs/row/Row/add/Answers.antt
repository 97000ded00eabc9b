use Rattle.std.proofs.Common.{List, take, subst, arith}
use Rattle.std.specs.List.{Contains}
use Rattle.std.proofs.lemmas.List.{take_all}
use Rattle.std.proofs.lemmas.List.Elements.{Contains-get_or}
use Rattle.std.proofs.Math.Numerals.{add-one}
use Rattle.std.proofs.Math.Seq.{take-suc}
use Rattle.normal_form.specs.declared.normal.Sym.{Sym}
use Rattle.normal_form.specs.declared.normal.Sym.TheVariants.{Kind}
use Rattle.compat_table.specs.inner.Rows.{IsGrown}
use Rattle.compat_table.specs.inner.View.{symbols_of}
use Rattle.compat_table.proofs.Searching.{grown_by_none, grown_more}
use Rattle.compat_table.proofs.row.Row.add.Goals as goal

pub loop-symbol-init : goal.loop-symbol-init
loop-symbol-init c = record { marked = c.requires.marked; grown = grown_by_none (symbols_of c.args.self.now); same = λ n lt below. below }

pub add_symbol-requires-clause-symbol : goal.add_symbol-requires-clause-symbol
add_symbol-requires-clause-symbol c q e =
    let P : Sym → Type 0 = λ s. Contains c.args.symbols.now s in
    omega (
      arith,
      c.requires.symbols q (subst P e (Contains-get_or c.args.symbols.now c.loop-symbol.symbol-index (Kind 0) c.loop-symbol-test.true)),
      c.loop-symbol.auto.marks,
    )

pub add_symbol-requires-clause-marked : goal.add_symbol-requires-clause-marked
add_symbol-requires-clause-marked c = c.loop-symbol.invariant.marked

pub returns-in_err-add_symbol-clause-same : goal.returns-in_err-add_symbol-clause-same
returns-in_err-add_symbol-clause-same c n lt below = c.in_err-add_symbol.ensures.same n lt (c.loop-symbol.invariant.same n lt below)

pub loop-symbol-preserved : goal.loop-symbol-preserved
loop-symbol-preserved c =
    let i = c.loop-symbol.symbol-index in
    let more =
    grown_more (take i c.args.symbols.now) _ (symbols_of c.args.self.now) (symbols_of c.loop-symbol.self)
    (symbols_of c.add_symbol.new.self) c.loop-symbol.invariant.grown c.in_ok-add_symbol.ensures.grown in
    record {
      marked = c.in_ok-add_symbol.ensures.marked;
      grown = rw (add-one, take-suc c.args.symbols.now i (Kind 0) c.loop-symbol-test.true) more;
      same = λ n lt below. c.in_ok-add_symbol.ensures.same n lt (c.loop-symbol.invariant.same n lt below);
    }

pub returns-clause-marked : goal.returns-clause-marked
returns-clause-marked c = c.loop-symbol.invariant.marked

pub returns-clause-grown : goal.returns-clause-grown
returns-clause-grown c =
    let P : List Sym → Type 0 = λ l. IsGrown l (symbols_of c.args.self.now) (symbols_of c.loop-symbol.self) in
    subst P (take_all c.loop-symbol.symbol-index c.args.symbols.now c.loop-symbol-test.false) c.loop-symbol.invariant.grown

pub returns-clause-same : goal.returns-clause-same
returns-clause-same c = c.loop-symbol.invariant.same
