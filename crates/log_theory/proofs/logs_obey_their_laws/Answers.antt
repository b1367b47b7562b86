use Rattle.log_theory.proofs.Laws.{deciding, compacting, behind, imaging}
use Rattle.log_theory.proofs.logs_obey_their_laws.Goals as goal

pub returns : goal.returns
returns c = record { last_record_decides = deciding; compaction_keeps_the_last_puts = compacting; nothing_is_written_behind = behind; images_open_to_what_they_say = imaging }
