use Rattle.std.proofs.Common.{sym}
use Rattle.log_theory.proofs.Images.{image_accepted}
use Rattle.log_tests.proofs.tests.worked_image_opens.Goals as goal

pub check_worked-requires : goal.check_worked-requires
check_worked-requires g c = c.open-log.ensures.stands_where_accepted (image_accepted c.worked-bytes.result 144 (sym c.in_ok-check_image.ensures))
