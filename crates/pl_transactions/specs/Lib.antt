pub mod Before
pub mod Blocks
pub mod Goes
pub mod Places
pub mod State
pub mod Warnings
-- The ends, the lines and the tags of commands, for the crates that do them.
pub use Rattle.pl_command.specs.declared.answers.Answer
pub use Rattle.pl_command.specs.Computed
pub use Rattle.pl_command.specs.Ends
pub use Rattle.pl_command.specs.Lines
pub use Rattle.pl_print.specs.declared.reply.Tag
