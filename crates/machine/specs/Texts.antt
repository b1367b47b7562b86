-- How a change is written, how far it has come, and what a step moved.
use Rattle.std.specs.Prelude.{ℕ, ◌^◌, cond, List, ◌++◌, Some, None, codes, decimal, Option, ◌==◌}
use Rattle.machine.specs.declared.answer.Moved.{Moved}
use Rattle.machine.specs.Books.{Move}

-- a cursor past every key is 2^64
abbrev pub cursor_text : ℕ → List ℕ
cursor_text c = cond (c == 2 ^ 64) (codes "past") (decimal c)

abbrev pub change_text : Option Move → List ℕ
change_text None = codes "settled"
change_text (Some m) = codes "moving " ++ (decimal m.store ++ (codes " " ++ cursor_text m.cursor))

-- a store, or a dash for none
abbrev pub store_text : Option ℕ → List ℕ
store_text None = codes "-"
store_text (Some s) = decimal s

abbrev pub moved_text : Moved → List ℕ
moved_text m = decimal m.key ++ (codes " " ++ (store_text m.gained ++ (codes " " ++ store_text m.lost)))
