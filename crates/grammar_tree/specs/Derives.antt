-- Which lists of kinds the parser rules of a grammar derive, as they are written.
use Rattle.std.specs.Prelude.{◌≡◌, ℕ, List, [], ◌∷◌, ◌++◌, Option, Some, None, slice_get, map}
use Rattle.std.specs.List.{Contains}
use Rattle.grammar_tree.specs.Written.{WrittenTerm, WrittenSeq, WrittenAlts, ParserRule, WrittenGrammar}
use Rattle.grammar_tree.specs.Kinds.{literal_kind, name_kind, rule_number, any_kinds, other_kinds, parser_rules}

mutual
  -- A term of a parser rule whose names and literals are resolved: to kinds, sets of kinds, and numbers of parser rules.
  pub data Term : Type 0 where
    kind : ℕ → Term
    among : List ℕ → Term
    rule : ℕ → Term
    block : Alts → Term
    opt : Term → Term
    star : Term → Term
    plus : Term → Term
    eof : Term

  -- terms one after another
  pub data Seq : Type 0 where
    done : Seq
    next : Term → Seq → Seq

  -- alternatives
  pub data Alts : Type 0 where
    none : Alts
    or : Seq → Alts → Alts

mutual
  -- The least relation: the term derives the list of kinds, in a grammar whose parser rules have these alternatives.
  pub data Derives (G : List Alts) : Term → List ℕ → Type 0 where
    -- a literal or token name derives its one kind
    by_kind : (k : ℕ) → Derives G (Term.kind k) (k ∷ [])
    -- `.` and `~` derive one kind of their set
    by_among : (ks : List ℕ) (k : ℕ) → Contains ks k → Derives G (Term.among ks) (k ∷ [])
    -- a rule derives what one of its alternatives does
    by_rule : (r : ℕ) (a : Alts) (w : List ℕ) → slice_get G r ≡ Some a → DerivesAlts G a w → Derives G (Term.rule r) w
    -- so does a block
    by_block : (a : Alts) (w : List ℕ) → DerivesAlts G a w → Derives G (Term.block a) w
    -- `?` at most once
    by_absent : (t : Term) → Derives G (Term.opt t) []
    by_present : (t : Term) (w : List ℕ) → Derives G t w → Derives G (Term.opt t) w
    -- `*` any number of times
    by_star : (t : Term) (w : List ℕ) → DerivesMany G t w → Derives G (Term.star t) w
    -- `+` at least once
    by_plus : (t : Term) (u v : List ℕ) → Derives G t u → DerivesMany G t v → Derives G (Term.plus t) (u ++ v)
    -- `EOF` derives the empty list
    by_eof : Derives G Term.eof []

  -- The list is cut into any number of parts, each of which the term derives.
  pub data DerivesMany (G : List Alts) : Term → List ℕ → Type 0 where
    by_end : (t : Term) → DerivesMany G t []
    by_more : (t : Term) (u v : List ℕ) → Derives G t u → DerivesMany G t v → DerivesMany G t (u ++ v)

  -- The list is cut into parts that the terms derive, in their order.
  pub data DerivesSeq (G : List Alts) : Seq → List ℕ → Type 0 where
    by_done : DerivesSeq G Seq.done []
    by_next : (t : Term) (s : Seq) (u v : List ℕ) → Derives G t u → DerivesSeq G s v → DerivesSeq G (Seq.next t s) (u ++ v)

  -- One of the alternatives derives the list.
  pub data DerivesAlts (G : List Alts) : Alts → List ℕ → Type 0 where
    by_first : (s : Seq) (a : Alts) (w : List ℕ) → DerivesSeq G s w → DerivesAlts G (Alts.or s a) w
    by_later : (s : Seq) (a : Alts) (w : List ℕ) → DerivesAlts G a w → DerivesAlts G (Alts.or s a) w

-- What a kind that may be missing derives. A literal or name that means nothing derives nothing.
abbrev pub kind_term : Option ℕ → Term
kind_term None = Term.among []
kind_term (Some k) = Term.kind k

-- A name is that of a parser rule, and else that of a token.
abbrev pub name_term : Option ℕ → Option ℕ → Term
name_term (Some r) token = Term.rule r
name_term None token = kind_term token

-- a term with its names and literals resolved in the grammar
abbrev mutual
  pub resolved : WrittenGrammar → WrittenTerm → Term
  resolved G (WrittenTerm.literal t) = kind_term (literal_kind G t)
  resolved G (WrittenTerm.name n) = name_term (rule_number G n) (name_kind G n)
  resolved G WrittenTerm.any = Term.among (any_kinds G)
  resolved G (WrittenTerm.but refs) = Term.among (other_kinds G refs)
  resolved G (WrittenTerm.block a) = Term.block (resolved_alts G a)
  resolved G (WrittenTerm.opt t) = Term.opt (resolved G t)
  resolved G (WrittenTerm.star t) = Term.star (resolved G t)
  resolved G (WrittenTerm.plus t) = Term.plus (resolved G t)
  resolved G WrittenTerm.eof = Term.eof

  pub resolved_seq : WrittenGrammar → WrittenSeq → Seq
  resolved_seq G WrittenSeq.done = Seq.done
  resolved_seq G (WrittenSeq.next t s) = Seq.next (resolved G t) (resolved_seq G s)

  pub resolved_alts : WrittenGrammar → WrittenAlts → Alts
  resolved_alts G WrittenAlts.none = Alts.none
  resolved_alts G (WrittenAlts.or s a) = Alts.or (resolved_seq G s) (resolved_alts G a)

-- the alternatives of the parser rules, in the order of their numbers
abbrev pub bodies : WrittenGrammar → List Alts
bodies G = map (λ (r : ParserRule). resolved_alts G r.alts) (parser_rules G.rules)

-- the parser rule with this number derives the list of kinds
abbrev pub RuleDerives : WrittenGrammar → ℕ → List ℕ → Type 0
RuleDerives G r w = Derives (bodies G) (Term.rule r) w
