-- Worked command lines: what each gives, and words that are none.
use Rattle.std.specs.Prelude.{◌≡◌, ℕ, ◌==◌, Bool, true, false, List, [], ◌∷◌, ◌++◌, Option, Some, None, if◌then◌else◌, codes, is_none}
use Rattle.std.specs.List.{list_all}
use Rattle.command_words.specs.Commands.{CheckOptions, Command, ModeOptions, ReduceOptions, command_line_of}
use Rattle.reduce_step.specs.declared.mode.TreeMode.TheVariants.{Hdd, Perses}

-- a byte before the first word
abbrev pub at_front : ℕ → List (List ℕ) → List (List ℕ)
at_front byte [] = (byte ∷ []) ∷ []
at_front byte (word ∷ words) = (byte ∷ word) ∷ words

-- the words of a line, which are apart by one space (32) each
abbrev pub words_in : List ℕ → List (List ℕ)
words_in [] = [] ∷ []
words_in (byte ∷ bytes) = if byte == 32 then [] ∷ words_in bytes else at_front byte (words_in bytes)

abbrev pub asked : List ℕ → Option Command
asked line = command_line_of (words_in line)

abbrev pub is_usage : List ℕ → Bool
is_usage line = is_none (asked line)

-- a reduction of the file `i` to the file `o` by the script `s`, with nothing more
abbrev pub plain_reduction : ModeOptions → Command
plain_reduction mode =
    Command.reduce
    (record {
      mode = mode;
      respell = false;
      input = codes "i";
      output = codes "o";
      script = codes "s";
      journal = codes "o.journal";
      resume = None;
      work = codes "perses-work";
      jobs = 1;
      keeps = [];
      protects = record { lines = []; texts = []; only = None };
    })

abbrev pub by_g : ModeOptions
by_g = ModeOptions.by_grammar (record { grammar = record { path = codes "g"; lexer = None; start = None }; mode = Perses; squeeze = false })

-- a reduction with each option
abbrev pub with_all : ReduceOptions
with_all = record {
  mode = ModeOptions.by_grammar (record {
    grammar = record { path = codes "g"; lexer = Some (codes "l"); start = Some (codes "r") };
    mode = Hdd;
    squeeze = true;
  });
  respell = false;
  input = codes "i";
  output = codes "o";
  script = codes "s";
  journal = codes "j";
  resume = None;
  work = codes "w";
  jobs = 16;
  keeps = codes "a=b" ∷ codes "c" ∷ [];
  protects = record {
    lines = record { first = 1; last = 4294967295 } ∷ record { first = 7; last = 7 } ∷ [];
    texts = codes "2-1" ∷ [];
    only = Some (record { first = 3; last = 20 });
  };
}

-- a reduction by that grammar with a keep text, which respells what is left
abbrev pub respelled_by_g : ReduceOptions
respelled_by_g = record {
  mode = by_g;
  respell = true;
  input = codes "i";
  output = codes "o";
  script = codes "s";
  journal = codes "o.journal";
  resume = None;
  work = codes "perses-work";
  jobs = 1;
  keeps = codes "a" ∷ [];
  protects = record { lines = []; texts = []; only = None };
}

-- a check of the run that reduced the file `i` to the file `o` with the journal `j`
abbrev pub check_of_run : ModeOptions → List (List ℕ) → CheckOptions
check_of_run mode keeps = record { mode = mode; input = codes "i"; output = codes "o"; journal = codes "j"; keeps = keeps }

-- the words of a check of that run, and others after them
abbrev pub after_check : List ℕ → List ℕ
after_check more = codes "perses check --input i --output o" ++ more

-- the words of mode `lines`, and others after them
abbrev pub after_lines : List ℕ → List ℕ
after_lines more = codes "perses reduce --mode lines --input i --output o --script s" ++ more

-- the words of a reduction by a grammar, and others after them
abbrev pub after_trees : List ℕ → List ℕ
after_trees more = codes "perses reduce --grammar g --input i --output o --script s" ++ more

abbrev pub refused_lines : List (List ℕ)
refused_lines =
    codes "perses"
    ∷ codes "perses shrink"
    ∷ codes "perses --help"
    ∷ codes "perses -h"
    ∷ codes "perses reduce --input i --output o --script s"
    ∷ codes "perses reduce --grammar g --input i --output o --script s --mode perses --mode perses"
    ∷ codes "perses reduce --gram g --input i --output o --script s"
    ∷ codes "perses selftest --number 0 --size 1501"
    ∷ codes "perses selftest --jobs 1 --number 0 --size 300"
    ∷ codes "perses normal --grammar g --input i"
    ∷ codes "perses normal --lexer l"
    ∷ codes "perses reduce --lexer l --input i --output o --script s"
    ∷ after_lines (codes " --lexer l")
    ∷ after_lines (codes " --squeeze")
    ∷ after_lines (codes " --respell")
    ∷ after_trees (codes " --respell --protect 1-2")
    ∷ after_trees (codes " --protect-text t --respell")
    ∷ after_trees (codes " --respell --only 1-2")
    ∷ after_trees (codes " --respell --respell")
    ∷ after_trees (codes " --respell=1")
    ∷ after_check (codes " --grammar g --journal j --respell")
    ∷ after_lines (codes " --jobs 0")
    ∷ after_lines (codes " --jobs 17")
    ∷ after_lines (codes " --jobs 01")
    ∷ after_lines (codes " --keep=")
    ∷ after_lines (codes " --keep -a")
    ∷ after_lines (codes " --protect 2-1")
    ∷ after_lines (codes " --protect 0-1")
    ∷ after_lines (codes " --protect 2")
    ∷ after_lines (codes " --protect 1-02")
    ∷ after_lines (codes " --protect 1-2-3")
    ∷ after_lines (codes " --only 1-4294967296")
    ∷ after_lines (codes " --only 1-2 --only 1-2")
    ∷ after_lines (codes " --protect-text -a")
    ∷ after_lines (codes " --")
    ∷ after_lines (codes " --keep 1 --keep 2 --keep 3 --keep 4 --keep 5 --keep 6 --keep 7 --keep 8 --keep 9")
    ∷ after_check (codes " --grammar g")
    ∷ after_check (codes " --grammar g --journal j --script s")
    ∷ after_check (codes " --grammar g --journal j --journal j")
    ∷ after_check (codes " --mode lines --grammar g --journal j")
    ∷ after_check (codes " --journal j")
    ∷ []

pub record WorkedLines : Type 0 where
  pub refused : list_all is_usage refused_lines ≡ true
  pub apart : asked (after_lines []) ≡ Some (plain_reduction ModeOptions.lines)
  pub joined : asked (codes "perses reduce --script=s --output=o --mode=lines --input=i") ≡ Some (plain_reduction ModeOptions.lines)
  pub by_grammar : asked (codes "perses reduce --grammar g --input i --output o --script s") ≡ Some (plain_reduction by_g)
  pub respelled : asked (after_trees (codes " --respell --keep a")) ≡ Some (Command.reduce respelled_by_g)
  pub normal : asked (codes "perses normal --start r --grammar g")
      ≡ Some (Command.normal (record { path = codes "g"; lexer = None; start = Some (codes "r") }))
  pub split : asked (codes "perses normal --grammar=g --lexer=l")
      ≡ Some (Command.normal (record { path = codes "g"; lexer = Some (codes "l"); start = None }))
  pub selftest : asked (codes "perses selftest --size 1500 --number 0") ≡ Some (Command.selftest (record { number = 0; size = 1500; mode = Perses }))
  pub in_mode : asked (codes "perses selftest --mode hdd --number=4294967295 --size=1") ≡ Some
      (Command.selftest (record { number = 4294967295; size = 1; mode = Hdd }))
  pub all : asked
      (codes "p reduce --squeeze --keep a=b --mode=hdd --start r --journal j --work w --jobs=16 --keep=c --lexer l --protect 1-4294967295"
      ++ codes " --protect-text=2-1 --only 3-20 --protect=7-7 --grammar g --input i --output o --script s")
      ≡ Some (Command.reduce with_all)
  pub check : asked (after_check (codes " --mode lines --journal j")) ≡ Some (Command.check (check_of_run ModeOptions.lines []))
  pub check_all : asked (after_check (codes " --squeeze --keep a --mode=hdd --start r --journal=j --keep=b --lexer l --grammar g"))
      ≡ Some (Command.check (check_of_run with_all.mode (codes "a" ∷ codes "b" ∷ [])))
