use Rattle.std.proofs.Common.{◌≡◌, ℕ, List, ◌++◌, string_bytes, ap, ◌∙◌, append_assoc}
use Rattle.std.proofs.lemmas.Result.{on_ok_weaker}
use Rattle.log_theory.specs.Tape.{tape, pairs_of}
use Rattle.log_theory.specs.Moves.{superseded_count}
use Rattle.inspection.specs.Text.{cap_line, pair_lines, superseded_line}
use Rattle.inspection.proofs.add_log.Goals as goal

joined : (a b c d x y z : List ℕ) → b ≡ a ++ x → c ≡ b ++ y → d ≡ c ++ z → d ≡ a ++ (x ++ (y ++ z))
joined a b c d x y z e f g =
    g ∙ ap (λ t. t ++ z) (f ∙ ap (λ t. t ++ y) e) ∙ append_assoc (a ++ x) y z ∙ append_assoc a x (y ++ z)

pub returns : goal.returns
returns c =
    let t = tape c.args.log.now.bytes.now c.args.log.now.used in
    let out = string_bytes c.args.out.now in
    on_ok_weaker c.writeln-2.result
    (λ w. joined out _ _ _ (cap_line c.args.log.now.cap) (pair_lines (pairs_of t)) (superseded_line (superseded_count t.bytes t.used t.used))
    (c.in_ok-writeln.ensures.bytes ∙ ap (λ k. out ++ cap_line k) c.cap-cap.ensures)
    c.in_ok-add_pairs.ensures
    (w ∙ ap (λ k. string_bytes c.add_pairs.new.out ++ superseded_line k) c.superseded-superseded.ensures))
    c.writeln-2.ensures.bytes
