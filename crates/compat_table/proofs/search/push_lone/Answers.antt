use Rattle.std.proofs.Common.{Bool, List, [], ◌∷◌, ◌++◌, cond, get_or, take, sym, ap, ◌∙◌, append_assoc}
use Rattle.std.specs.Prelude.{filter, nat_eq}
use Rattle.std.specs.Global.{Vec}
use Rattle.std.proofs.lemmas.List.{append-nil, take_all}
use Rattle.std.proofs.lemmas.List.Elements.{filter_more}
use Rattle.grammar_check_nodes.specs.Flags.{flag}
use Rattle.normal_form.specs.declared.normal.Sym.{Sym}
use Rattle.normal_form.specs.declared.normal.Sym.TheVariants.{Kind}
use Rattle.compat_table.specs.inner.Rows.{need}
use Rattle.compat_table.proofs.search.push_lone.Goals as goal
use Rattle.compat_table.proofs.search.push_lone.Goals.{then-is_lone+in_ok-push, else-is_lone}

pub loop-symbol-preserved : goal.loop-symbol-preserved
loop-symbol-preserved c =
    let p : Sym → Bool = λ s. nat_eq (need (flag c.args.flags.now) s) c.count_needed-needed.result in
    let alt = c.args.alt.now in
    let old = c.args.symbols.now.items in
    let i = c.loop-symbol.symbol-index in
    let item : Sym = get_or alt i (Kind 0) in
    let before : List Sym = filter p (take i alt) in
    let more = filter_more p alt i (Kind 0) c.loop-symbol-test.true in
    elim c.if-is_lone.branch [
      | then-is_lone+in_ok-push w ↦
          ap (λ (v : Vec Sym). v.items) w.symbols-is ∙ w.in_ok-push.ensures.items ∙ ap (λ (l : List Sym). l ++ item ∷ []) c.loop-symbol.invariant
          ∙ append_assoc old before (item ∷ []) ∙ ap (λ (b : Bool). old ++ (before ++ cond b (item ∷ []) [])) (sym (sym c.is_lone.ensures ∙ w.if-is_lone.true))
          ∙ ap (λ (l : List Sym). old ++ l) (sym more)
      | else-is_lone w ↦
          ap (λ (v : Vec Sym). v.items) w.symbols-is ∙ c.loop-symbol.invariant
          ∙ ap (λ (l : List Sym). old ++ l) (sym (append-nil before))
          ∙ ap (λ (b : Bool). old ++ (before ++ cond b (item ∷ []) [])) (sym (sym c.is_lone.ensures ∙ w.if-is_lone.false))
          ∙ ap (λ (l : List Sym). old ++ l) (sym more)
    ]

pub returns : goal.returns
returns c =
    let f = flag c.args.flags.now in
    let alt = c.args.alt.now in
    let old = c.args.symbols.now.items in
    c.loop-symbol.invariant
    ∙ ap (λ (l : List Sym). old ++ filter (λ (s : Sym). nat_eq (need f s) c.count_needed-needed.result) l)
    (take_all c.loop-symbol.symbol-index alt c.loop-symbol-test.false)
    ∙ ap (λ n. old ++ filter (λ (s : Sym). nat_eq (need f s) n) alt) c.count_needed-needed.ensures
