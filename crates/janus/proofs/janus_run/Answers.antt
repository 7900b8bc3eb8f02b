-- Where a session was made, its 64 processes' bytes fill the buffer, however the run ended.
use Rattle.std.proofs.Common.{rules, arith, refl, ◌+◌, ◌≡◌, ◌∙◌, ℕ, List, append-nil, length, drop_of_length-le}
use Rattle.std.proofs.Math.Seq.{sets, sets-eq}
use Rattle.base.specs.Prelude.{eq-eqb}
use Rattle.base.specs.Arrays.{length_mapped}
use Rattle.model.specs.declared.Process.{Process}
use Rattle.model.specs.declared.Ended.{Ended}
use Rattle.model.specs.declared.Ended.TheVariants as E
use Rattle.model.specs.Answers.{told_ended}
use Rattle.model.specs.Export.{decided_bytes, ending_buffer, export_buffer}
use Rattle.janus_decided.specs.Bytes.{length_bytes}
use Rattle.janus.proofs.janus_run.Goals as goal

-- The bytes of 64 processes fill it.
filled : (b : List ℕ) (qs : List Process) → length b ≡ 256 → length qs ≡ 64 → sets b 0 (decided_bytes qs) ≡ decided_bytes qs
filled b qs h k =
    let n : length (decided_bytes qs) ≡ 256 = length_bytes qs ∙ rw k in
    sets-eq (decided_bytes qs) b 0 (omega arith)
    ∙ rw (drop_of_length-le b {i = 0 + length (decided_bytes qs)} (omega arith)) (append-nil (decided_bytes qs))

-- They stand there after each of the three endings of a run.
made : (e : Ended) (qs : List Process) (b : List ℕ) → decided_bytes qs ≡ ending_buffer (told_ended e) qs b
made E.Finished qs b = refl
made (E.Refused r i) qs b = refl
made E.BudgetEnded qs b = refl

pub returns-in-Ok-clause-writes : goal.returns-in-Ok-clause-writes
unfolding export_buffer
returns-in-Ok-clause-writes c =
    let b = c.args.buffer.now in
    let ran = c.in-Ok.ran in
    let qs = ran.session.processes in
    let size : length b ≡ 256 = omega arith in
    let long : length qs ≡ 64 = search (rules, length_mapped) in
    rw (eq-eqb _ 256 size, ← c.in-Ok.ensures)
    (c.put_decided.ensures ∙ filled b qs size long ∙ made ran.ended qs b)
