-- The declared types of crates/rules, and the cases of side and phase: one line of each file names what it uses.
pub use Rattle.rules.specs.declared.Settings.{Settings}
pub use Rattle.rules.specs.declared.Side.{Side}
pub use Rattle.rules.specs.declared.Side.TheVariants.{Putting, Taking}
pub use Rattle.rules.specs.declared.Phase.{Phase}
pub use Rattle.rules.specs.declared.Phase.TheVariants.{Idle, Window, QueuePutRead, QueueTakeRead, StackRead, Check, QueueCommit, StackCommit, QueueShift, StackShift, QueueConfirm, StackConfirm}
pub use Rattle.rules.specs.declared.Size.{Size}
pub use Rattle.rules.specs.declared.Sizes.{Sizes}
pub use Rattle.rules.specs.declared.Row.{Row}
pub use Rattle.rules.specs.declared.Stamp.{Stamp}
pub use Rattle.rules.specs.declared.Worker.{Worker}
pub use Rattle.rules.specs.declared.Slot.{Slot}
pub use Rattle.rules.specs.declared.View.{View}
pub use Rattle.rules.specs.declared.Effect.{Effect}
pub use Rattle.rules.specs.declared.Outcome.{Outcome}
pub use Rattle.rules.specs.Answers.{Answered}
