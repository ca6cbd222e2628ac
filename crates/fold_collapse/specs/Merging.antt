-- Internal: what a merge into a reader asks for. Nothing is proved here.
use Rattle.std.specs.Prelude.{ℕ, ◌+◌, ◌<◌, T}
use Rattle.network.specs.Limits.{board_ok}
use Rattle.network.specs.declared.Network.{Network}
use Rattle.pair_theory.specs.Alignments.{alignment_of, Mergeable}
use Rattle.fold_readers.specs.Arrays.{SoundGates}
use Rattle.fold_edges.specs.Edges.{edge_at, ReadsIn}

-- gate u can be merged with k and l into its reader with number g
pub record MergesIn (r : Network) (u g k l : ℕ) : Type 0 where
  pub lent : SoundGates r
  pub joined : ReadsIn r u (r.inputs + g)
  pub board_ok_lem : T (board_ok r.board)
  pub mergeable : Mergeable (alignment_of (edge_at r u (r.inputs + g))) k l
  pub place : g < 128
