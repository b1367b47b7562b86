use Rattle.std.proofs.Common.{ℕ, ◌*◌, ◌^◌, ◌<◌, List, length, sym, subst, rules}
use Rattle.log_theory.specs.Tape.{tape, pairs_of}
use Rattle.log_theory.specs.Image.{closed_bytes}
use Rattle.log_theory.specs.Laws.{OpensAnywhere}
use Rattle.log_theory.proofs.Calls.{slots_within}
use Rattle.log_theory.proofs.Images.{opens_again}
use Rattle.log_store.proofs.Log.close.Goals as goal

pub returns : goal.returns
returns c =
    let t = tape c.args.self.bytes.now c.args.self.used in
    let m = c.args.self.cap in
    let small : 32 * t.used < 2 ^ 64 = let l = slots_within (length t.bytes) t.used c.requires.standing.in_slots in search rules in
    let e = c.seal.ensures.trailer_is_written in
    let f = c.seal.ensures.answers_length in
    record {
      answers_length = f;
      trailer_is_written = e;
      opens_again = subst (λ (z : List ℕ). OpensAnywhere z c.seal.result (pairs_of t) m) (sym e) (subst (λ (n : ℕ). OpensAnywhere (closed_bytes t m) n (pairs_of t) m) (sym f) (opens_again t m c.requires.standing small));
    }
