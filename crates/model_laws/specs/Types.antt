-- The types of model and their variants, passed on as they are under one name.
pub use Rattle.model.specs.declared.Access.{Access}
pub use Rattle.model.specs.declared.Access.TheVariants.{Nothing, ReadDecision, ReadMark, ReadValue, SetMark, WriteDecision, WriteValue}
pub use Rattle.model.specs.declared.Caller.{Caller}
pub use Rattle.model.specs.declared.Caller.TheVariants.{Cart, Server}
pub use Rattle.model.specs.Answers.{Changed, CountAnswer, DecisionAnswer, Ending, BudgetEnded, Finished, Refused, Rejected, ProcessAnswer, Ran, RegisterAnswer, Stepped}
pub use Rattle.model.specs.declared.Counts.{Counts}
pub use Rattle.model.specs.declared.Entry.{Entry}
pub use Rattle.model.specs.declared.Entry.TheVariants.{Acts, Closes, Malformed}
pub use Rattle.model.specs.declared.Limits.{Limits}
pub use Rattle.model.specs.declared.Operation.{Operation}
pub use Rattle.model.specs.declared.Operation.TheVariants.{Crash, Learn, Propose, Step}
pub use Rattle.model.specs.declared.Phase.{Phase}
pub use Rattle.model.specs.declared.Phase.TheVariants.{Adopt, HasAdopted, CheckMark, CheckValue, Commit, HasCommitted, Compare, Crashed}
pub use Rattle.model.specs.declared.Phase.TheVariants.{Decided, Exhausted, Flag, Idle, Scan, Waiting, Write}
pub use Rattle.model.specs.declared.Process.{Process}
pub use Rattle.model.specs.declared.Session.{Session}
pub use Rattle.model.specs.Machine.{Command, acts, closes}
