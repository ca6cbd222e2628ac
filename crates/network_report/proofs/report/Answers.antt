-- A record that is not sound is refused with 20. Assumes nothing.
use Rattle.std.proofs.Common.{sym, ◌∙◌}
use Rattle.basics.specs.Refusals.{checks}
use Rattle.network_report.specs.Size.{report_of, reported}
use Rattle.network_report.proofs.report.Goals as goal

pub returns-then-not-is_sound : goal.returns-then-not-is_sound
unfolding reported report_of checks
returns-then-not-is_sound c =
    let broken = sym c.is_sound.ensures ∙ c.if-not-is_sound.true in
    rw broken
