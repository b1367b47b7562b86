-- Calibrations as words.
use Rattle.std.specs.Prelude.{ℕ, ◌+◌, ◌*◌, ◌/◌, ◌%◌, ◌^◌, Bool, cond, ◌&&◌, Some, None, ◌==◌, nat_le, nat_lt}
use Rattle.store.specs.declared.value.Value.{Value}
use Rattle.entry.specs.declared.calibration.Calibration.{Calibration}
use Rattle.entry.specs.Kinds.{Kind}

-- firmware below 2^32, factor 1 to 1,000,000
abbrev pub within : Calibration → Bool
within c = nat_lt c.firmware (2 ^ 32) && (nat_le 1 c.factor && nat_le c.factor 1000000)

abbrev pub calibration_words : Calibration → Value
calibration_words c = record { a = c.factor * 2 ^ 32 + c.firmware; b = 1 }

-- the two numbers in a first word
abbrev pub parted : ℕ → Calibration
parted a = record { firmware = a % 2 ^ 32; factor = a / 2 ^ 32 }

abbrev pub calibration_kind : Kind Calibration
calibration_kind = record {
  legal = within;
  words = calibration_words;
  meant = λ v. cond (v.b == 1 && within (parted v.a)) (Some (parted v.a)) None;
}
