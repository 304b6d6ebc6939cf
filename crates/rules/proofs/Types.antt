-- The declared types and the cases of side and phase, for the theorems' files: one line of theirs names what they use.
pub use Rattle.rules.specs.declared.Settings.{Settings}
pub use Rattle.rules.specs.declared.Side.{Side}
pub use Rattle.rules.specs.declared.Side.TheVariants.{Putting, Taking}
pub use Rattle.rules.specs.declared.Phase.{Phase}
pub use Rattle.rules.specs.declared.Phase.TheVariants.{Idle, Window, QueuePutRead, QueueTakeRead, StackRead, Check, QueueCommit, StackCommit, QueueShift, StackShift, QueueConfirm, StackConfirm}
pub use Rattle.rules.specs.declared.Size.{Size}
pub use Rattle.rules.specs.declared.Sizes.{Sizes}
pub use Rattle.rules.specs.declared.Span.{Span}
pub use Rattle.rules.specs.declared.Version.{Version}
pub use Rattle.rules.specs.declared.Row.{Row}
pub use Rattle.rules.specs.declared.Stamp.{Stamp}
pub use Rattle.rules.specs.declared.Worker.{Worker}
pub use Rattle.rules.specs.declared.Slot.{Slot}
pub use Rattle.rules.specs.declared.View.{View}
pub use Rattle.rules.specs.declared.Effect.{Effect}
pub use Rattle.rules.specs.declared.Outcome.{Outcome}
pub use Rattle.rules.specs.Answers.{Answered}
