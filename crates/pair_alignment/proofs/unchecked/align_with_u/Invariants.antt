-- Below s the distinct feeds are counted, and the first 16 listed.
use Rattle.pair_theory.specs.Alignments.{edge_between}
use Rattle.pair_alignment.proofs.Gather.{Listed}
use Rattle.pair_alignment.proofs.unchecked.align_with_u.Given as goal

abbrev pub invariant-loop-s : goal.invariant-loop-s
invariant-loop-s l = Listed (edge_between l.board l.gate_u l.gate_v l.u l.v) l.s l.count l.signals l.us l.vs
