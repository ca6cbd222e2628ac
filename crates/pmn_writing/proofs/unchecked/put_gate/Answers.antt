use Rattle.std.proofs.Common.{rules, ◌≡◌, refl, sym, ap, ◌∙◌, List, ◌∷◌, ◌++◌, ℕ, ◌+◌, ◌*◌, drop, w32, to_z, of_z, arith}
use Rattle.basics.specs.Word.{int_bytes}
use Rattle.basics.specs.WriteLaws.{write_on}
use Rattle.network.specs.Record.{gate_in}
use Rattle.pmn_format.specs.Format.{gate_bytes}
use Rattle.pmn_writing.specs.Parts.{first_feeds}
use Rattle.pmn_writing.specs.PartLaws.{first_feeds_length, gate_in_bytes}
use Rattle.pmn_writing.proofs.unchecked.put_gate.Goals as goal

pub returns-clause-out_after : goal.returns-clause-out_after
returns-clause-out_after c =
    let g = c.args.gate in
    let x₀ = c.args.out.now in
    let e : to_z w32 (of_z w32 g.threshold) ≡ g.threshold = search rules in
    write_on x₀ c.put_pair.new.out c.put_feeds.new.out (g.fanin ∷ int_bytes g.threshold) (first_feeds g.signals g.weights g.fanin) 5 (5 * g.fanin)
    (rw e at c.put_pair.ensures) refl (first_feeds_length g.signals g.weights g.fanin) (omega arith) c.put_feeds.ensures
    ∙ ap (λ (l : List ℕ). l ++ drop (5 + 5 * g.fanin) x₀) (sym (gate_in_bytes g))
    ∙ ap (λ (k : ℕ). gate_bytes (gate_in g) ++ drop (5 + 5 * k) x₀) (sym c.from.ensures)
