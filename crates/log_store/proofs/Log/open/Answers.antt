use Rattle.std.proofs.Common.{◌≡◌, true, sym, refl, ap, ◌∙◌, subst, rules}
use Rattle.std.proofs.lemmas.Bool.{cond-true, cond-false}
use Rattle.codec.specs.declared.Trailer.{Trailer}
use Rattle.codec.specs.Words.{Bytes}
use Rattle.log_theory.specs.Tape.{tape, records, held, Standing}
use Rattle.log_theory.specs.Image.{opened_cap, image_tape, is_image}
use Rattle.log_theory.proofs.Images.{image_stands, image_falls, legal_is_accepted}
use Rattle.log_store.proofs.Log.open.Goals as goal
use Rattle.log_store.proofs.Log.open.Goals.{then-holds_image, else-holds_image}

pub returns : goal.returns
returns c =
    let bs = c.args.bytes.now in
    let n = c.args.n in
    let b : Bytes bs = search rules in
    let u = c.slots_in.ensures in
    let e : c.if-holds_image.cap ≡ opened_cap bs n =
    elim c.if-holds_image.branch [
      | then-holds_image w ↦ w.cap-is ∙ ap (λ (t : Trailer). t.cap) w.trailer.ensures ∙ sym (cond-true _ _ 0 (sym c.holds_image.ensures ∙ w.if-holds_image.true))
      | else-holds_image w ↦ w.cap-is ∙ sym (cond-false _ _ 0 (sym c.holds_image.ensures ∙ w.if-holds_image.false))
    ] in
    let stands : is_image bs n ≡ true → Standing (tape bs c.slots_in.result) c.if-holds_image.cap =
    λ h. subst (λ z. Standing (tape bs z) c.if-holds_image.cap) (sym u) (subst (Standing (image_tape bs n)) (sym e) (image_stands bs n b h)) in
    record {
      bytes_stay = refl;
      records_in_use = u;
      cap_is_read = e;
      holds_what_the_records_say = ap (λ z. held (records bs z)) u;
      legal_image_stands = λ h. stands (legal_is_accepted bs n h);
      stands_where_accepted = stands;
      falls_where_refused = λ h s. image_falls bs n h (subst (Standing (image_tape bs n)) e (subst (λ z. Standing (tape bs z) c.if-holds_image.cap) u s));
      same_bytes = refl;
    }
