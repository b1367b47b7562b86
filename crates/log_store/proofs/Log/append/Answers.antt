use Rattle.std.proofs.Common.{arith, rules}
use Rattle.log_theory.specs.Tape.{tape}
use Rattle.log_theory.proofs.Calls.{room_enough}
use Rattle.log_store.proofs.Log.append.Goals as goal

pub overflow_mul-free : goal.overflow_mul-free
overflow_mul-free c =
    let s = c.args.self.now in
    let l = room_enough (tape s.bytes.now s.used) s.cap _ _ c.requires.standing c.make_room-free.ensures in search rules

pub write_over-requires : goal.write_over-requires
write_over-requires c =
    let s = c.args.self.now in
    let l = room_enough (tape s.bytes.now s.used) s.cap _ _ c.requires.standing c.make_room-free.ensures in omega arith

pub overflow_add-self : goal.overflow_add-self
overflow_add-self c =
    let s = c.args.self.now in
    let l = room_enough (tape s.bytes.now s.used) s.cap _ _ c.requires.standing c.make_room-free.ensures in search rules
