use Rattle.std.proofs.Common.{rules, ◌≡◌, refl, sym, ap, ◌∙◌, List, ◌++◌, ℕ, ◌+◌, ◌*◌, pos, get_or, drop, w32, to_z, of_z, arith}
use Rattle.basics.specs.WriteLaws.{write_on}
use Rattle.network.specs.Record.{feed_at}
use Rattle.pmn_format.specs.Format.{feed_bytes}
use Rattle.pmn_writing.specs.Parts.{first_feeds}
use Rattle.pmn_writing.specs.PartLaws.{first_feeds_none, first_feeds_more, first_feeds_length}
use Rattle.pmn_writing.proofs.unchecked.put_feeds.Goals as goal

pub loop-i-init : goal.loop-i-init
loop-i-init c = let g = c.args.gate.now in sym (ap (λ (l : List ℕ). l ++ c.args.out.now) (first_feeds_none g.signals g.weights))

pub loop-i-preserved : goal.loop-i-preserved
unfolding feed_at
loop-i-preserved c =
    let l = c.loop-i in
    let ss = c.args.gate.now.signals in
    let ws = c.args.gate.now.weights in
    let x₀ = c.args.out.now in
    let f = feed_at ss ws l.i in
    let n : 5 * (l.i + 1) ≡ 5 * l.i + 5 = omega arith in
    let e : to_z w32 (of_z w32 (get_or ws l.i (pos 0))) ≡ get_or ws l.i (pos 0) = search rules in
    write_on x₀ l.out c.put_pair.new.out (first_feeds ss ws l.i) (feed_bytes f) (5 * l.i) 5 l.invariant (first_feeds_length ss ws l.i) refl
    (omega arith) (rw e at c.put_pair.ensures)
    ∙ ap (λ (p : List ℕ). p ++ drop (5 * l.i + 5) x₀) (sym (first_feeds_more ss ws l.i))
    ∙ ap (λ (k : ℕ). first_feeds ss ws (l.i + 1) ++ drop k x₀) (sym n)
