-- Names of the toolchain's library, beside its prelude, that definitions use, handed on so that a definition file takes them in one line.
-- Nothing is defined here.
pub use Rattle.std.specs.Bool.{beq as Bool·beq}
pub use Rattle.std.proofs.Math.Option.{Option, some, none}
pub use Rattle.std.specs.Int.Signed.{le_z, non_neg}
pub use Rattle.std.specs.Int.Count.{ones}
pub use Rattle.std.specs.Int.{w32}
pub use Rattle.std.proofs.Common.{of_z, to_z}
