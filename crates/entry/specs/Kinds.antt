-- A kind of entry: which entries are legal, the two words of an entry, and the entry that two words stand for.
use Rattle.std.specs.Prelude.{◌≡◌, Bool, true, cond, Some, None, Ok, Err, Option, Result}
use Rattle.store.specs.declared.value.Value.{Value}
use Rattle.entry.specs.declared.fault.EntryFault.{EntryFault}
use Rattle.entry.specs.declared.fault.EntryFault.TheVariants.{BeyondLimit, OtherKind}

pub record Kind (E : Type 0) : Type 0 where
  pub legal : E → Bool
  pub words : E → Value
  pub meant : Value → Option E

-- words stand for an entry exactly when some legal entry gives them, and then for that one, so that no other does
pub record Faithful {E : Type 0} (k : Kind E) : Type 0 where
  pub some_legal_entry : (v : Value) (e : E) → k.meant v ≡ Some e → (k.legal e ≡ true) × (k.words e ≡ v)
  pub that_entry_only : (v : Value) (e : E) → k.legal e ≡ true → k.words e ≡ v → k.meant v ≡ Some e

-- an entry as words, or refused
abbrev pub encoded : {E : Type 0} → Kind E → E → Result Value EntryFault
encoded k e = cond (k.legal e) (Ok (k.words e)) (Err BeyondLimit)

-- words as an entry, or refused
abbrev pub or_other_kind : {E : Type 0} → Option E → Result E EntryFault
or_other_kind (Some e) = Ok e
or_other_kind None = Err OtherKind

abbrev pub decoded : {E : Type 0} → Kind E → Value → Result E EntryFault
decoded k v = or_other_kind (k.meant v)
