-- What is said of a word that is wrong.
use Rattle.std.specs.Prelude.{ℕ, zero, suc, ◌++◌, codes}
use Rattle.locator.specs.declared.words.Reason.{Reason}
use Rattle.locator.specs.declared.words.Reason.TheVariants.{Missing, NotAPolicy, NotANumber, NotOneToSixteen}
use Rattle.locator.specs.declared.words.WordFault.{WordFault}
use Rattle.locator.specs.Questions.{Text}

-- the part of a question that stands at a place
abbrev pub part_text : ℕ → Text
part_text zero = codes "POLICY"
part_text (suc zero) = codes "MEMBERS"
part_text (suc (suc zero)) = codes "COPIES"
part_text (suc (suc (suc i))) = codes "KEY"

abbrev pub reason_text : Reason → Text
reason_text Missing = codes "is missing"
reason_text NotAPolicy = codes "is neither rendezvous nor jump"
reason_text NotANumber = codes "is not a number of 64 bits"
reason_text NotOneToSixteen = codes "is not from 1 to 16"

abbrev pub fault_text : WordFault → Text
fault_text f = part_text f.place ++ (codes " " ++ reason_text f.reason)
