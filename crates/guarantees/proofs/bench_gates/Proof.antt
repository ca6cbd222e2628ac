-- By the bench table. Assumes nothing.
use Rattle.fold_theory.proofs.BenchLaws.{bench_holds}
use Rattle.guarantees.proofs.bench_gates.Statement.{statement}
use Rattle.guarantees.proofs.bench_gates.Tie as tie

returns : tie.Need-returns
returns c = bench_holds

pub bench_gates_spec : {M : Type 1} → statement M
bench_gates_spec = tie.close (tie.spec returns)
