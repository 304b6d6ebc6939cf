-- The declared types of crates/rules, and the cases of side and phase: one line of each file names what it uses.
pub use Rattle.rules.specs.declared.Settings.{Settings}
pub use Rattle.rules.specs.declared.Side.{Side}
pub use Rattle.rules.specs.declared.Side.TheVariants.{Putting, Taking}
pub use Rattle.rules.specs.declared.Phase.{Phase}
pub use Rattle.rules.specs.declared.Phase.TheVariants.{Idle, Window, QueuePutRead, QueueTakeRead, StackRead, Check, QueueCommit, StackCommit, QueueShift, StackShift, QueueConfirm, StackConfirm}
pub use Rattle.rules.specs.declared.Version.{Version}
pub use Rattle.rules.specs.declared.Worker.{Worker}
pub use Rattle.rules.specs.declared.Slot.{Slot}
pub use Rattle.rules.specs.Answers.{Answered}
pub use Rattle.rules.specs.declared.Size.{Size}
