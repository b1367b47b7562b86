use Rattle.store.proofs.Lawfuls.{put_lawful, erase_lawful}
use Rattle.store.proofs.calls_keep_the_laws.Goals as goal

pub returns : goal.returns
returns c = record { after_put = put_lawful; after_remove = erase_lawful }
