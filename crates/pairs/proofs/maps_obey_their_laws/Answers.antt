use Rattle.pairs.proofs.Maps.{find_insert, find_erase, find_keep, ext, insert_ascends, erase_ascends, keep_ascends, length_insert, length_erase, length_keep, keep_insert, keep_erase, keep_keep, next_present, next_bound, next_least, next_none}
use Rattle.pairs.proofs.maps_obey_their_laws.Goals as goal

pub returns : goal.returns
returns g c =
    record {
      look_ups = record { after_insert = find_insert; after_erase = find_erase; after_keep = find_keep; all_there_is = ext };
      orders = record { after_insert = insert_ascends; after_erase = erase_ascends; after_keep = keep_ascends };
      sizes = record { after_insert = length_insert; after_erase = length_erase; after_keep = length_keep };
      filters = record { of_insert = keep_insert; of_erase = keep_erase; of_keep = keep_keep };
      nexts = record { present = next_present; not_below = next_bound; least = next_least; none = next_none };
    }
