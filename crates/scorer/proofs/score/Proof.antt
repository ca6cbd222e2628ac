-- The journal's steps, then the network's sheet. Assumes nothing.
use mathlib.Core.Path.{ap, sym, ◌∙◌}
use mathlib.Core.Bool.{Bool, ◌&&◌}
use mathlib.Core.List.{[], ◌∷◌}
use native.Mathlib.Omega.{arith}
use borrow.Author.Rules.{rules}
use borrow.Author.Tests.{le-leb, lt-leb}
use Rattle.basics.specs.Refusals.{◌else◌, checks}
use Rattle.basics.specs.RefusalLaws.{checks_first}
use Rattle.basics.specs.TestLaws.{and_true, and_false_right}
use Rattle.network.specs.Record.{net_of, sound_record}
use Rattle.journal.specs.Records.{sound_whole}
use Rattle.scorer_theory.specs.NetworkGames.{game}
use Rattle.scorer_tally.specs.Sheets.{as_sheet}
use Rattle.scorer_play.specs.Sheets.{network_sheet}
use Rattle.scorer.specs.Answers.{scoring}
use Rattle.scorer.proofs.score.Statement.{statement}
use Rattle.scorer.proofs.score.Tie as tie

returns : tie.Need-returns-then-held-gt64
unfolding scoring sound_whole
returns c =
    let held = c.args.held in
    let broken = and_false_right (sound_record held.network) _ (lt-leb held.journal.count 64 (omega (arith, c.if-held-gt64.true))) in
    c.refused.ensures ∙ ap as_sheet (sym (checks_first (sound_whole held) 20 [] _ broken))

returns_2 : tie.Need-returns
unfolding scoring network_sheet sound_whole
returns_2 c =
    let a = c.args in
    let n = a.held.network in
    let few = ap (λ (b : Bool). sound_record n && b) (le-leb _ 64 c.if-held-gt64.false) ∙ and_true (sound_record n) in
    c.score_network.ensures ∙ ap (λ (b : Bool). as_sheet (checks ((b else 20) ∷ []) (game (net_of n) a.frames.now))) (sym few)

pub score_spec : {M : Type 1} → statement M
score_spec = tie.close (tie.spec (λ c κs. search rules) returns (λ c κs. search rules) returns_2)
