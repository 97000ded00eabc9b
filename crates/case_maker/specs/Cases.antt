-- The generated programs. Each is made from a number and a size, which is how many functions it has.
use Rattle.std.specs.Prelude.{ℕ, zero, suc, ◌+◌, ◌*◌, ◌/◌, ◌%◌, ◌^◌, nat_eq, Bool, cond, List, [], ◌++◌, codes, decimal}
use Rattle.std.specs.List.{flat_map, range_with_len}

-- the state after a number, of the linear congruential generator of MMIX (Knuth)
abbrev pub scrambled : ℕ → ℕ
scrambled number = (number * 6364136223846793005 + 1442695040888963407) % 2 ^ 64

-- The number of the function that has the target line: its higher bits choose, since the lower bits of such a generator repeat soon.
abbrev pub target_of : ℕ → ℕ → ℕ
target_of number size = (scrambled number / 2 ^ 33) % size

-- a line of one of four forms, with its newline
abbrev pub form_line : ℕ → List ℕ
form_line zero = codes "  int c = a * 2;\n"
form_line (suc zero) = codes "  if (a) { b = f0(a, 1); } else { return b; }\n"
form_line (suc (suc zero)) = codes "  while (b - 1) { b = (a + b) / 3; } // loop\n"
form_line (suc (suc (suc form))) = codes "  /* note */ return \"s\" + a;\n"

-- the line that has the letters Q and Z; no other line has either
abbrev pub target_line : List ℕ
target_line = codes "  Q = f0(a, (b + \"Z\"));\n"

-- A function: its head, three lines, whose forms follow each other from that of its number on, the target line where it has it, and its end.
abbrev pub function_text : ℕ → Bool → List ℕ
function_text index is_target =
    codes "int f" ++ (decimal index ++ (codes "(int a, char b) {\n"
    ++ (form_line (index % 4) ++ (form_line ((index + 1) % 4) ++ (form_line ((index + 2) % 4)
    ++ (cond is_target target_line [] ++ codes "}\n"))))))

-- The program: its functions one after another, from number 0 on.
unfoldable pub case_text : ℕ → ℕ → List ℕ
case_text number size = flat_map (λ index. function_text index (nat_eq index (target_of number size))) (range_with_len 0 size)
