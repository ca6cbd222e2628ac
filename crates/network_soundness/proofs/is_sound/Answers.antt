-- The parts of soundness, test by test; past the first tests the gates are within the limits, so that their margins can be tested. Assumes
-- nothing.
use Rattle.std.proofs.Common.{◌≡◌, sym, ◌∙◌, Bool, true, ◌&&◌, get_or}
use Rattle.basics.specs.Lists.{all, all_from, tab}
use Rattle.basics.specs.TestLaws.{T_is, T_and}
use Rattle.network.specs.Limits.{gate_ok, board_ok, gate_signal}
use Rattle.network.specs.LimitLaws.{gates_of_lem}
use Rattle.network.specs.Record.{gate_of, spare_clear}
use Rattle.network.specs.RecordTests.{counts_ok}
use Rattle.network.specs.MarginLaws.{gates_on_scale}
use Rattle.network.specs.declared.Network.{Network}
use Rattle.network_soundness.proofs.SoundnessLaws.{sound_parts, counts_fit}
use Rattle.network_soundness.proofs.is_sound.Goals as goal

-- the gates, the outputs and the spare places
abbrev gates_ok : Network → Bool
gates_ok r = all_from gate_ok r.inputs (tab r.gates (gate_of r))

abbrev outputs_ok : Network → Bool
outputs_ok r = all (gate_signal r.inputs r.gates) (tab r.outputs (λ j. get_or r.drivers j 0))

abbrev parts : Network → Bool
parts r = gates_ok r && outputs_ok r && spare_clear r

joined : {a b c d e v w x y z : Bool} → a ≡ v → b ≡ w → c ≡ x → d ≡ y → e ≡ z → a && b && (c && d && e) ≡ v && w && (x && y && z)
joined p q r s t = cc

pub returns-then-not-board_sound : goal.returns-then-not-board_sound
returns-then-not-board_sound c =
    sym (rw (sound_parts c.args.network, sym c.board_sound.ensures ∙ c.if-not-board_sound.true))

pub returns-then-not-counts_sound : goal.returns-then-not-counts_sound
returns-then-not-counts_sound c =
    let board : board_ok c.args.network.board ≡ true = sym c.board_sound.ensures ∙ c.if-not-board_sound.false in
    sym (rw (sound_parts c.args.network, board, sym c.counts_sound.ensures ∙ c.if-not-counts_sound.true))

pub gates_sound-gates_ok-requires : goal.gates_sound-gates_ok-requires
gates_sound-gates_ok-requires c = let f = counts_fit _ _ _ (sym c.counts_sound.ensures ∙ c.if-not-counts_sound.false) in (f.0, f.1)

pub drivers_sound-outputs_ok-requires : goal.drivers_sound-outputs_ok-requires
drivers_sound-outputs_ok-requires c = (counts_fit _ _ _ (sym c.counts_sound.ensures ∙ c.if-not-counts_sound.false)).2

pub gates_clear-requires : goal.gates_clear-requires
gates_clear-requires c = (counts_fit _ _ _ (sym c.counts_sound.ensures ∙ c.if-not-counts_sound.false)).1

pub drivers_clear-requires : goal.drivers_clear-requires
drivers_clear-requires c = (counts_fit _ _ _ (sym c.counts_sound.ensures ∙ c.if-not-counts_sound.false)).2

pub returns-then-not-gates_ok-outputs_ok : goal.returns-then-not-gates_ok-outputs_ok
unfolding spare_clear
returns-then-not-gates_ok-outputs_ok c =
    let r = c.args.network in
    let board : board_ok r.board ≡ true = sym c.board_sound.ensures ∙ c.if-not-board_sound.false in
    let counts : counts_ok r.inputs r.gates r.outputs ≡ true = sym c.counts_sound.ensures ∙ c.if-not-counts_sound.false in
    let e = joined c.gates_sound-gates_ok.ensures c.drivers_sound-outputs_ok.ensures c.gates_clear.ensures c.places_clear.ensures c.drivers_clear.ensures in
    sym (rw (sound_parts r, board, counts, sym e ∙ c.if-not-gates_ok-outputs_ok.true))

pub gates_keep-requires : goal.gates_keep-requires
unfolding spare_clear
gates_keep-requires c =
    let r = c.args.network in
    let f = counts_fit _ _ _ (sym c.counts_sound.ensures ∙ c.if-not-counts_sound.false) in
    let e = joined c.gates_sound-gates_ok.ensures c.drivers_sound-outputs_ok.ensures c.gates_clear.ensures c.places_clear.ensures c.drivers_clear.ensures in
    let t = T_and (gates_ok r && outputs_ok r) (spare_clear r) (T_is (parts r) (sym e ∙ c.if-not-gates_ok-outputs_ok.false)) in
    gates_on_scale r f.1 (gates_of_lem r.inputs (tab r.gates (gate_of r)) (T_and (gates_ok r) (outputs_ok r) t.0).0)

pub returns : goal.returns
unfolding spare_clear
returns c =
    let r = c.args.network in
    let board : board_ok r.board ≡ true = sym c.board_sound.ensures ∙ c.if-not-board_sound.false in
    let counts : counts_ok r.inputs r.gates r.outputs ≡ true = sym c.counts_sound.ensures ∙ c.if-not-counts_sound.false in
    let e = joined c.gates_sound-gates_ok.ensures c.drivers_sound-outputs_ok.ensures c.gates_clear.ensures c.places_clear.ensures c.drivers_clear.ensures in
    c.gates_keep.ensures ∙ sym (rw (sound_parts r, board, counts, sym e ∙ c.if-not-gates_ok-outputs_ok.false))
