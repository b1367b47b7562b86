-- When an image is not told as text.
use Rattle.std.specs.Prelude.{◌≡◌, ℕ, false, List}
use Rattle.store.specs.declared.fault.StoreFault.{StoreFault}
use Rattle.store.specs.declared.fault.StoreFault.TheVariants.{BadImage}
use Rattle.log_theory.specs.Image.{is_image}
use Rattle.inspection.specs.declared.fault.InspectFault.{InspectFault}
use Rattle.inspection.specs.declared.fault.InspectFault.TheVariants.{Refused, NoMemory}

-- the fault of a store, and of a text, carried up
abbrev pub from_store : StoreFault → InspectFault
from_store f = Refused f

abbrev pub from_text : InspectFault
from_text = NoMemory

-- bytes are refused only where they are no image
abbrev pub Refusal : List ℕ → ℕ → InspectFault → Type 0
Refusal bs n (Refused f) = (f ≡ BadImage) × (is_image bs n ≡ false)
Refusal bs n NoMemory = Unit {0}
