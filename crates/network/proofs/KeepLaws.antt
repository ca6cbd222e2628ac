-- The margins of a gate by the part of an array that is its weights, with the threshold as the machine holds it. Assumes nothing.
use Rattle.std.proofs.Common.{◌≡◌, sym, ap, ◌∙◌, ℕ, ◌+◌, ◌-◌, ◌*◌, ◌≤◌, ◌<◌, arith, length, take, drop, get_or, to_z, of_z}
use Rattle.std.specs.Prelude.{pos}
use Rattle.std.specs.Int.{w32}
use Rattle.gate_rising.specs.Sums.{every_sum}
use Rattle.gate_rising.specs.HeldLaws.{held}
use Rattle.gate_margins.specs.Sums.{outside}
use Rattle.gate_margins.specs.Tables.{OnScale}
use Rattle.network.specs.Limits.{weights_of, keeps}
use Rattle.network.specs.Record.{gate_in}
use Rattle.network.specs.Margins.{weights_from, places_keep, RecordOnScale}
use Rattle.network.specs.MarginLaws.{gate_weights, weights_part, length_weights}
use Rattle.network.specs.declared.Board.{Board}
use Rattle.network.specs.declared.GateRecord.{GateRecord}
use Rattle.network.specs.declared.Network.{Network}

-- a gate by itself
module _ (board : Board) (r : GateRecord) (n : ℕ) (s : OnScale (weights_of (gate_in r).feeds) r.threshold) (count : n ≡ r.fanin) where
  own : OnScale (weights_from r.weights 0 r.fanin) r.threshold
  own = rw gate_weights at s

  pub own_few : n ≤ 16
  own_few = omega (arith, own.few, length_weights r.weights 0 r.fanin)

  module _ (long : length r.weights ≡ 16) where
    own_part : take n r.weights ≡ weights_of (gate_in r).feeds
    own_part = sym (gate_weights r ∙ ap (weights_from r.weights 0) (sym count) ∙ weights_part r.weights 0 n (omega (arith, own_few)))

    own_held : to_z w32 (of_z w32 r.threshold) ≡ r.threshold
    own_held = held r.threshold (omega (arith, s.threshold_small))

    pub own_asked : OnScale (take n r.weights) (to_z w32 (of_z w32 r.threshold))
    own_asked = rw (own_part, own_held) s

    pub own_answered : every_sum (outside board.on board.off (to_z w32 (of_z w32 r.threshold))) (take n r.weights) ≡ keeps board (gate_in r)
    unfolding keeps gate_in
    own_answered = rw (own_part, own_held)

-- gate g of a record
module _ (r : Network) (s : RecordOnScale r) (g n : ℕ) (inside : g < r.gates) (count : n ≡ get_or r.fanins g 0) where
  pub place_few : 16 * g + n ≤ 2048
  place_few = omega (arith, (s.each g inside).few, length_weights r.weights (16 * g) (get_or r.fanins g 0), s.few)

  module _ (long : length r.weights ≡ 2048) where
    place_part : take (16 * g + n - 16 * g) (drop (16 * g) r.weights) ≡ weights_from r.weights (16 * g) (get_or r.fanins g 0)
    place_part =
        let e : 16 * g + n - 16 * g ≡ get_or r.fanins g 0 = omega arith in
        rw e (sym (weights_part r.weights (16 * g) (get_or r.fanins g 0) (omega (arith, place_few))))

    place_held : to_z w32 (of_z w32 (get_or r.thresholds g (pos 0))) ≡ get_or r.thresholds g (pos 0)
    place_held = held (get_or r.thresholds g (pos 0)) (omega (arith, (s.each g inside).threshold_small))

    pub place_asked : OnScale (take (16 * g + n - 16 * g) (drop (16 * g) r.weights)) (to_z w32 (of_z w32 (get_or r.thresholds g (pos 0))))
    place_asked = rw (place_part, place_held) (s.each g inside)

    pub place_answered : every_sum (outside r.board.on r.board.off (to_z w32 (of_z w32 (get_or r.thresholds g (pos 0)))))
        (take (16 * g + n - 16 * g) (drop (16 * g) r.weights)) ≡ places_keep r.board r.fanins r.thresholds r.weights g
    unfolding places_keep
    place_answered = rw (place_part, place_held)
