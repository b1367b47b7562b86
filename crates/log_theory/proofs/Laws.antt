-- The laws of logs, put together.
use Rattle.log_theory.specs.Laws.{Deciding, Compacting, Behind, Imaging}
use Rattle.log_theory.proofs.Holds.{last_decides, unwritten_absent}
use Rattle.log_theory.proofs.Packs.{stays_put, stays_last, last_put_stays, records_packed, pairs_compacted, used_compacted}
use Rattle.log_theory.proofs.Calls.{slot_is_free, put_behind, remove_behind}
use Rattle.log_theory.proofs.Images.{accepted_is_legal, legal_is_accepted, opens_again}

pub deciding : Deciding
deciding = record { last_decides = last_decides; unwritten_absent = unwritten_absent }

pub compacting : Compacting
compacting =
    record {
      stays_put = stays_put;
      stays_last = stays_last;
      last_put_stays = last_put_stays;
      in_order = λ t h. records_packed t.bytes t.used t.used h;
      pairs_stay = pairs_compacted;
      one_record_each = used_compacted;
      slot_is_free = slot_is_free;
    }

pub behind : Behind
behind = record { put_behind = put_behind; remove_behind = remove_behind }

pub imaging : Imaging
imaging = record { accepted_is_legal = accepted_is_legal; legal_is_accepted = legal_is_accepted; round_trip = opens_again }
