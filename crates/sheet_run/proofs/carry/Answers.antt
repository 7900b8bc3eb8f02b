-- Each entry as the laws of `Entries` and `Carried` say it: a work turn, any other operation, whose record changes or does not, and a close.
use Rattle.std.specs.Prelude.{◌≡◌, Some}
use Rattle.base.specs.Prelude.{ℕ, Bool, refl, sym, ◌∙◌, ap, false}
use Rattle.model.specs.Answers.{code}
use Rattle.model.specs.Numbers.{number}
use Rattle.model_laws.specs.Answers.{number_some}
use Rattle.model_laws.specs.Told.{code_accepted}
use Rattle.model_laws.specs.Types.{Operation, Propose, Step, Learn, Crash}
use Rattle.sheet_laws.specs.Entries.{is_step, step_refusal, step_leaves, step_counts, becoming_changes, becoming_stays, other_counts}
use Rattle.sheet_laws.specs.Carried.{Entered, entered_none, tallied}
use Rattle.sheet_laws.specs.Carried.{closes, due, refused, goes_on, reads_on}
use Rattle.sheet_run.proofs.carry.Goals as goal
use Rattle.sheet_run.proofs.carry.Goals.{in-Acts+else-halts+in-Step+in_default-step_refusal}
use Rattle.sheet_run.proofs.carry.Goals.{in-Acts+else-halts+in_default-o+in_default-refusal_of}
use Rattle.sheet_run.proofs.carry.Goals.{in-Some-becomes, in_default-becomes, in-Closes+else-budget-k}

pub returns-in-Err : goal.returns-in-Err
returns-in-Err c =
    let d = due c.args.budget c.loop-e.k c.loop-e.s.n c.process_of-p.result (sym c.if-halts.ensures) in
    let f : Entered c.loop-e.s c.loop-e.c c.in-Acts.o c.process_of-p.result (number c.in-Err.refusal) =
    record {
      named = c.process_of-p.ensures;
      below = d.1;
      code = c.in-Err.ensures ∙ step_refusal _ _ _ c.in-Step.is;
    } in
    c.ran-in-Err.ensures
    ∙ sym (refused c.loop-e.invariant (sym c.in-Some.ensures ∙ ap Some c.in-Acts.is) d.0 f (number_some c.in-Err.refusal))

pub returns-in-Err-refusal_of : goal.returns-in-Err-refusal_of
returns-in-Err-refusal_of c =
    let d = due c.args.budget c.loop-e.k c.loop-e.s.n c.process_of-p.result (sym c.if-halts.ensures) in
    let f : Entered c.loop-e.s c.loop-e.c c.in-Acts.o c.process_of-p.result (number c.in-Err-refusal_of.refusal) =
    record { named = c.process_of-p.ensures; below = d.1; code = c.in-Err-refusal_of.ensures } in
    c.ran-in-Err-refusal_of.ensures
    ∙ sym (refused c.loop-e.invariant (sym c.in-Some.ensures ∙ ap Some c.in-Acts.is) d.0 f (number_some c.in-Err-refusal_of.refusal))

-- Any other operation.
other : (o : Operation) → ((p : ℕ) (leader : Bool) → o ≡ Step p leader → ⊥) → is_step o ≡ false
other (Propose p v) h = refl
other (Step p leader) h = absurd (h p leader refl)
other (Learn p) h = refl
other (Crash p) h = refl

pub loop-e-preserved : goal.loop-e-preserved
loop-e-preserved c =
    let l = c.loop-e in
    let inv = c.loop-e.invariant in
    let sound = c.loop-e.invariant.opened.sound in
    let W = c.args.window in
    let moved = reads_on l.reader c.moved-reader.ensures in
    elim c.match-e.branch [
      | in-Acts+else-halts+in-Step+in_default-step_refusal w ↦
          let p = w.process_of-p.result in
          let named = w.process_of-p.ensures in
          let told = w.in-Step.is in
          let d = due c.args.budget l.k l.s.n p (sym w.if-halts.ensures) in
          let f : Entered l.s l.c w.in-Acts.o p (code w.step_refusal.result) =
          record { named = named; below = d.1; code = w.step_refusal.ensures ∙ step_refusal _ _ _ told } in
          let f0 = entered_none f (code_accepted _ w.in_default-step_refusal.not-Err) in
          moved
          (goes_on inv (sym c.in-Some.ensures ∙ ap Some w.in-Acts.is) d.0 f0
          (w.s-is
          ∙ step_leaves W l.s p _ sound told named w.access-a.ensures w.value.ensures.reads w.mark-x.ensures.reads w.value.ensures.writes
          w.mark-x.ensures.writes w.decision.ensures w.next.ensures)
          (w.c-is
          ∙ tallied f0 (step_counts W l.s p _ l.c sound told named w.access-a.ensures w.value.ensures.reads w.mark-x.ensures.reads)
          w.counted-c.ensures)
          refl)
      | in-Acts+else-halts+in_default-o+in_default-refusal_of w ↦
          let p = w.process_of-p.result in
          let named = w.process_of-p.ensures in
          let o = w.in-Acts.o in
          let no_step = other o w.in_default-o.not-Step in
          let d = due c.args.budget l.k l.s.n p (sym w.if-halts.ensures) in
          let f : Entered l.s l.c o p (code w.refusal_of.result) =
          record { named = named; below = d.1; code = w.refusal_of.ensures } in
          let f0 = entered_none f (code_accepted _ w.in_default-refusal_of.not-Err) in
          moved
          (goes_on inv (sym c.in-Some.ensures ∙ ap Some w.in-Acts.is) d.0 f0
          (w.s-is
          ∙ elim w.match-becomes.branch [
            | in-Some-becomes v ↦ v.s-is ∙ becoming_changes W l.s p o no_step named (sym v.in-Some-becomes.ensures)
            | in_default-becomes v ↦ v.s-is ∙ becoming_stays W l.s p o no_step (sym w.becomes.ensures ∙ v.in_default-becomes.is)
          ])
          (w.c-is ∙ tallied f0 (rw w.access_of.ensures (other_counts l.s l.c o _ no_step)) w.counted-c-in_default-o.ensures)
          refl)
      | in-Closes+else-budget-k w ↦
          moved (closes inv (sym c.in-Some.ensures ∙ ap Some w.in-Closes.is) w.if-budget-k.false w.s-is w.c-is refl)
    ]
