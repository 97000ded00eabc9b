-- What is known of the words that were read, by the state that they led to.
use Rattle.std.proofs.Common.{ℕ, ◌≡◌, true, List, [], ◌∷◌, ◌++◌, Option, Some, None, refl, sym, ap, subst, ◌∙◌, append_assoc, append-nil}
use Rattle.grammar_tree.specs.Written.{WrittenGrammar}
use Rattle.grammar_reader_words.specs.declared.word.Word.{Word}
use Rattle.grammar_reader_words.specs.declared.word.Word.TheVariants as w
use Rattle.grammar_reader_machine.specs.Machine as m
use Rattle.grammar_reader.specs.WordByWord.{run, and_then}
use Rattle.grammar_reader_notation.specs.Naming.{MayFollow, Without, IsWithinRule, IsAfterArrow, IsSuffix, question, star, plus}
use Rattle.grammar_reader_notation.specs.Naming.{IsAfterSuffix, after_suffix, IsAfterLoop, after_loop, IsAfterLast, after_last}
use Rattle.grammar_reader.proofs.Regions.{Side, parsing, lexing, Region, starting, heading, between, prequel, named}
use Rattle.grammar_reader.proofs.Regions.{opening, body, suffixed, looped, last, command, finished, next}
use Rattle.grammar_reader.proofs.RegionSteps.{Keeps, region_of, region_of_owner, region_of_value, keeps_step}
use Rattle.grammar_reader.proofs.Runs.{further}
use Rattle.grammar_reader.proofs.Following.{goes, may_follow}
use Rattle.grammar_reader.proofs.Leading.{plus_closes, question_closes}

-- where a rule may begin, or its name follows `fragment`
pub data IsBetween : m.State → Type 0 where
  at_prequel : (g : WrittenGrammar) → IsBetween (m.AtPrequel g)
  at_rule : (g : WrittenGrammar) → IsBetween (m.AtRule g)
  at_fragment : (g : WrittenGrammar) → IsBetween (m.AtFragmentName g)

owner_not : (o : m.Owner) → region_of_owner o ≡ between → ⊥
owner_not m.OfText e = cc e
owner_not (m.OfRule head) e = cc e

value_not : (v : m.ValueOf) → region_of_value v ≡ between → ⊥
value_not (m.InEntry g o) e = owner_not o e
value_not (m.InOpening b) e = cc e

pub between_of : (s : m.State) → region_of s ≡ between → IsBetween s
between_of (m.AtPrequel g) e = at_prequel g
between_of (m.AtRule g) e = at_rule g
between_of (m.AtFragmentName g) e = at_fragment g
between_of (m.AtOptionsBrace g o) e = absurd (owner_not o e)
between_of (m.AtEntry g o) e = absurd (owner_not o e)
between_of (m.AtEntryEquals g o) e = absurd (owner_not o e)
between_of (m.AtValue v) e = absurd (value_not v e)
between_of (m.InPath v) e = absurd (value_not v e)
between_of (m.AtPathName v) e = absurd (value_not v e)
between_of (m.AfterValue v) e = absurd (value_not v e)
between_of _ e = cc e

pub region_between : {s : m.State} → IsBetween s → region_of s ≡ between
region_between (at_prequel g) = refl
region_between (at_rule g) = refl
region_between (at_fragment g) = refl

-- a rule's name
pub data IsNameOf : Side → Word → Type 0 where
  lower : {n : List ℕ} → IsNameOf parsing (w.Lower n)
  upper : {n : List ℕ} → IsNameOf lexing (w.Upper n)

colon_goes : {side : Side} {word : Word} {s : m.State} (t : m.State) → IsBetween s → IsNameOf side word → m.step 64 s word ≡ Some t
    → goes s (word ∷ w.Colon ∷ []) ≡ true
colon_goes t (at_prequel g) lower e = refl
colon_goes t (at_prequel g) upper e = refl
colon_goes t (at_rule g) lower e = refl
colon_goes t (at_rule g) upper e = refl
colon_goes t (at_fragment g) lower e = cc e
colon_goes t (at_fragment g) upper e = refl

pub record Named (side : Side) (before : List Word) : Type 0 where
  pub start : List Word
  pub word : Word
  pub cut : before ≡ start ++ word ∷ []
  pub is_name : IsNameOf side word
  pub names : MayFollow start (word ∷ w.Colon ∷ [])

pub record Opened (side : Side) (before : List Word) : Type 0 where
  pub start : List Word
  pub word : Word
  pub options : List Word
  pub cut : before ≡ start ++ word ∷ options
  pub is_name : IsNameOf side word
  pub names : MayFollow start (word ∷ w.Colon ∷ [])
  pub closed : Without w.Colon options

pub record Within (side : Side) (before : List Word) : Type 0 where
  pub word : Word
  pub is_name : IsNameOf side word
  pub rule : IsWithinRule word before

-- the last word is a suffix, after which another `?` can follow a `*` only
pub data Suffixed (s : m.State) (before : List Word) : Type 0 where
  by_star : (start : List Word) → before ≡ start ++ w.Star ∷ [] → Suffixed s before
  by_other : (start : List Word) (word : Word) → before ≡ start ++ word ∷ [] → IsSuffix word → m.step 64 s w.Question ≡ None → Suffixed s before

pub as_suffix : {s : m.State} {before : List Word} → Suffixed s before → IsAfterSuffix before
as_suffix (by_star start e) = after_suffix start w.Star e star
as_suffix (by_other start word e i k) = after_suffix start word e i

abbrev pub Knows : Region → m.State → List Word → Type 0
Knows starting s before = before ≡ []
Knows (named side) s before = Named side before
Knows (opening side) s before = Opened side before
Knows (body side) s before = Within side before
Knows (suffixed side) s before = Within side before × Suffixed s before
Knows (looped side) s before = Within side before × IsAfterLoop before
Knows (last side) s before = Within side before × IsAfterLast before
Knows (command side) s before = Within side before × IsAfterArrow before
Knows _ s before = Unit {0}

without_more : {word : Word} (words : List Word) (other : Word) → Without word words → (other ≡ word → ⊥) → Without word (words ++ other ∷ [])
without_more [] other h k = (k, tt)
without_more (x ∷ words) other h k = (h.0, without_more words other h.1 k)

longer : (before start more : List Word) (word : Word) → before ≡ start ++ more → before ++ word ∷ [] ≡ start ++ (more ++ word ∷ [])
longer before start more word e = ap (λ ws. ws ++ word ∷ []) e ∙ append_assoc start more (word ∷ [])

more : {side : Side} {before : List Word} (word : Word) → (word ≡ w.Semicolon → ⊥) → Within side before → Within side (before ++ word ∷ [])
more {before = before} word h k =
    let r : IsWithinRule k.word before = k.rule in
    record {
      word = k.word;
      is_name = k.is_name;
      rule = record {
        start = r.start;
        options = r.options;
        part = r.part ++ word ∷ [];
        cut =
            longer before r.start (k.word ∷ (r.options ++ w.Colon ∷ r.part)) word r.cut
            ∙ ap (λ ws. r.start ++ k.word ∷ ws) (append_assoc r.options (w.Colon ∷ r.part) (word ∷ []));
        names = r.names;
        closed = r.closed;
        within = without_more r.part word r.within h;
      };
    }

named_body : {side : Side} {before : List Word} → Named side before → Within side (before ++ w.Colon ∷ [])
named_body {before = before} k = record {
  word = k.word;
  is_name = k.is_name;
  rule =
      record { start = k.start; options = []; part = []; cut = longer before k.start (k.word ∷ []) w.Colon k.cut; names = k.names; closed = tt; within = tt };
}

named_opened : {side : Side} {before : List Word} (word : Word) → (word ≡ w.Colon → ⊥) → Named side before → Opened side (before ++ word ∷ [])
named_opened {before = before} word h k = record {
  start = k.start;
  word = k.word;
  options = word ∷ [];
  cut = longer before k.start (k.word ∷ []) word k.cut;
  is_name = k.is_name;
  names = k.names;
  closed = (h, tt);
}

opened_body : {side : Side} {before : List Word} → Opened side before → Within side (before ++ w.Colon ∷ [])
opened_body {before = before} k = record {
  word = k.word;
  is_name = k.is_name;
  rule =
      record {
        start = k.start;
        options = k.options;
        part = [];
        cut = longer before k.start (k.word ∷ k.options) w.Colon k.cut;
        names = k.names;
        closed = k.closed;
        within = tt;
      };
}

opened_more : {side : Side} {before : List Word} (word : Word) → (word ≡ w.Colon → ⊥) → Opened side before → Opened side (before ++ word ∷ [])
opened_more {before = before} word h k = record {
  start = k.start;
  word = k.word;
  options = k.options ++ word ∷ [];
  cut = longer before k.start (k.word ∷ k.options) word k.cut;
  is_name = k.is_name;
  names = k.names;
  closed = without_more k.options word k.closed h;
}

arrow : (before : List Word) → IsAfterArrow (before ++ w.Arrow ∷ [])
arrow before = record { start = before; part = []; cut = refl; same_alt = tt; same_rule = tt }

arrow_more : {before : List Word} (word : Word) → (word ≡ w.Bar → ⊥) → (word ≡ w.Semicolon → ⊥) → IsAfterArrow before → IsAfterArrow (before ++ word ∷ [])
arrow_more {before = before} word h l k = record {
  start = k.start;
  part = k.part ++ word ∷ [];
  cut = longer before k.start (w.Arrow ∷ k.part) word k.cut;
  same_alt = without_more k.part word k.same_alt h;
  same_rule = without_more k.part word k.same_rule l;
}

-- `?` after `*` ends a loop
loop_ends : {s : m.State} {before : List Word} (t : m.State) → m.step 64 s w.Question ≡ Some t → Suffixed s before → IsAfterLoop (before ++ w.Question ∷ [])
loop_ends {before = before} t e (by_star start c) = after_loop start (longer before start (w.Star ∷ []) w.Question c)
loop_ends t e (by_other start word c i k) = let x : None ≡ Some t = sym k ∙ e in cc x

last_follows : {before : List Word} (word : Word) → IsAfterLoop before → IsAfterLast (before ++ word ∷ [])
last_follows {before = before} word (after_loop start c) = after_last start word (longer before start (w.Star ∷ w.Question ∷ []) word c)

name_read : {side : Side} (word : Word) (s t : m.State) (before : List Word) → IsNameOf side word → run 64 m.AtStart before ≡ Some s → region_of s ≡ between
    → m.step 64 s word ≡ Some t → Named side (before ++ word ∷ [])
name_read word s t before i r q e =
    record { start = before; word = word; cut = refl; is_name = i; names = may_follow before s r (word ∷ w.Colon ∷ []) (colon_goes t (between_of s q) i e) }

knows_next : (p : Region) (word : Word) (s t : m.State) (before : List Word) → run 64 m.AtStart before ≡ Some s → region_of s ≡ p → m.step 64 s word ≡ Some t
    → Knows p s before → Knows (next p word) t (before ++ word ∷ [])
knows_next starting word s t before r q e k = tt
knows_next heading w.Semicolon s t before r q e k = tt
knows_next heading _ s t before r q e k = tt
knows_next between (w.Lower n) s t before r q e k = name_read (w.Lower n) s t before lower r q e
knows_next between (w.Upper n) s t before r q e k = name_read (w.Upper n) s t before upper r q e
knows_next between w.Options s t before r q e k = tt
knows_next between w.Tokens s t before r q e k = tt
knows_next between w.End s t before r q e k = tt
knows_next between _ s t before r q e k = tt
knows_next prequel w.CloseBrace s t before r q e k = tt
knows_next prequel _ s t before r q e k = tt
knows_next (named side) w.Colon s t before r q e k = named_body k
knows_next (named side) word s t before r q e k = named_opened word (λ x. cc x) k
knows_next (opening side) w.Colon s t before r q e k = opened_body k
knows_next (opening side) word s t before r q e k = opened_more word (λ x. cc x) k
knows_next (body side) w.Semicolon s t before r q e k = tt
knows_next (body side) w.Arrow s t before r q e k = (more w.Arrow (λ x. cc x) k, arrow before)
knows_next (body side) w.Question s t before r q e k = (more w.Question (λ x. cc x) k, by_other before w.Question refl question (question_closes s t e).closed)
knows_next (body side) w.Star s t before r q e k = (more w.Star (λ x. cc x) k, by_star before refl)
knows_next (body side) w.Plus s t before r q e k = (more w.Plus (λ x. cc x) k, by_other before w.Plus refl plus (plus_closes s t e).closed)
knows_next (body side) word s t before r q e k = more word (λ x. cc x) k
knows_next (suffixed side) w.Semicolon s t before r q e k = tt
knows_next (suffixed side) w.Arrow s t before r q e k = (more w.Arrow (λ x. cc x) k.0, arrow before)
knows_next (suffixed side) w.Question s t before r q e k = (more w.Question (λ x. cc x) k.0, loop_ends t e k.1)
knows_next (suffixed side) word s t before r q e k = more word (λ x. cc x) k.0
knows_next (looped side) w.Semicolon s t before r q e k = tt
knows_next (looped side) word s t before r q e k = (more word (λ x. cc x) k.0, last_follows word k.1)
knows_next (last side) w.Semicolon s t before r q e k = tt
knows_next (last side) w.Bar s t before r q e k = more w.Bar (λ x. cc x) k.0
knows_next (last side) w.Arrow s t before r q e k = (more w.Arrow (λ x. cc x) k.0, arrow before)
knows_next (last side) word s t before r q e k = more word (λ x. cc x) k.0
knows_next (command side) w.Semicolon s t before r q e k = tt
knows_next (command side) w.Bar s t before r q e k = more w.Bar (λ x. cc x) k.0
knows_next (command side) word s t before r q e k = (more word (λ x. cc x) k.0, arrow_more word (λ x. cc x) (λ x. cc x) k.1)
knows_next finished word s t before r q e k = tt

knows_run : (words before : List Word) (s t : m.State) → run 64 m.AtStart before ≡ Some s → Knows (region_of s) s before → run 64 s words ≡ Some t
    → Knows (region_of t) t (before ++ words)
knows_run [] before s t r k e =
    let f : s ≡ t = cc e in subst (λ ws. Knows (region_of t) t ws) (sym (append-nil before)) (subst (λ u. Knows (region_of u) u before) f k)
knows_run (word ∷ words) before s t r k e = goes_on (m.step 64 s word) refl e (λ u r' k' e'. knows_run words (before ++ word ∷ []) u t r' k' e') where
  goes_on : (o : Option m.State) → m.step 64 s word ≡ o → and_then o (λ u. run 64 u words) ≡ Some t →
      ((u : m.State) → run 64 m.AtStart (before ++ word ∷ []) ≡ Some u → Knows (region_of u) u (before ++ word ∷ []) → run 64 u words ≡ Some t
      → Knows (region_of t) t ((before ++ word ∷ []) ++ words)) →
      Knows (region_of t) t (before ++ word ∷ words)
  goes_on None f e further_on = cc e
  goes_on (Some u) f e further_on =
      let p : next (region_of s) word ≡ region_of u = subst (Keeps (region_of s) word) f (keeps_step 64 s word) in
      let current : Knows (region_of u) u (before ++ word ∷ []) =
      subst (λ q. Knows q u (before ++ word ∷ [])) p (knows_next (region_of s) word s u before r refl f k) in
      subst (λ ws. Knows (region_of t) t ws) (append_assoc before (word ∷ []) words) (further_on u (further 64 before word s (Some u) r f) current e)

pub knows : (before : List Word) (s : m.State) → run 64 m.AtStart before ≡ Some s → Knows (region_of s) s before
knows before s e = knows_run before [] m.AtStart s refl refl e
