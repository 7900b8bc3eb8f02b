-- An accepted sheet opens a sound session: the window and the session are those of its header.
use Rattle.base.specs.Prelude.{sym, ◌∙◌, ap, ap₂}
use Rattle.model.specs.Window.{window}
use Rattle.model.specs.Board.{limits_of, opened}
use Rattle.model_laws.specs.Callers.{caller_limits}
use Rattle.model_laws.specs.Told.{default_counts}
use Rattle.sheet_laws.specs.Carried.{sheet_opens, run_accepted}
use Rattle.sheet_run.proofs.run.Goals as goal

pub carry-requires : goal.carry-requires
carry-requires c =
    let caller = c.args.caller in
    sheet_opens (limits_of caller) (caller_limits caller) _ (sym c.in_ok-refusal.ensures)
    (c.window.ensures ∙ ap window c.byte-n.ensures)
    (c.opened.ensures ∙ ap₂ opened c.byte-n.ensures c.word16-limit.ensures)

pub returns : goal.returns
returns c =
    let e = sym c.in_ok-refusal.ensures in
    let W = c.window.ensures ∙ ap window c.byte-n.ensures in
    c.carry.ensures
    ∙ rw (c.opened.ensures ∙ ap₂ opened c.byte-n.ensures c.word16-limit.ensures, default_counts c.default.result c.default.ensures)
    (run_accepted c.args.caller c.args.sheet.now c.args.budget W e)
